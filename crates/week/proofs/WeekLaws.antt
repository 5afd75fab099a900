-- The figures of files are possible, as many as are counted.
use mathlib.Core.Path.{◌≡◌, refl, sym, ◌∙◌, ap}
use mathlib.Core.Bool.{Bool, true, false, true≢false}
use mathlib.Core.List.{List, [], ◌∷◌, ◌++◌, append-nil}
use Prim.Native.Nat.{ℕ, zero, suc, ◌+◌, ◌≤◌}
use native.Mathlib.Omega.{arith}
use lib.ListN.{length, length-append}
use lib.IntN.{ℤ}
use Rattle.replies.specs.Ladder.{first_of}
use Rattle.report.specs.Listing.{job, listing_refusals}
use Rattle.report.specs.inside.Lines as L
use Rattle.report.proofs.ReportLaws.{accepted}
use Rattle.figures.specs.declared.answer.Figures.{Figures}
use Rattle.figures.specs.declared.answer.Added.{Added}
use Rattle.figures.specs.Entries.{Entry, Found, entries, all_entries}
use Rattle.figures.specs.Batch.{figures_of, batch_figures}
use Rattle.figures.specs.Joining.{in_all, sum, possible, fits, most_counted}
use Rattle.figures.specs.Promises.{Contours, RealBy, Real, contours_and_refused_sets}
use Rattle.figures.proofs.BatchLaws.{entries-append, batches_add_up}
use Rattle.figures.proofs.PossibleLaws.{fits_means}
use Rattle.figures.proofs.SumLaws.{over_not, over_is}
use Rattle.figures.proofs.LimitLaws.{set_counts, entries_count}
use Rattle.figures.proofs.Theorems.{the_totals_add_up_to_the_contours_and_refused_sets, real_figures_are_never_told_damaged}
use Rattle.week.specs.declared.answer.Week.{Week}
use Rattle.week.specs.Counting.{found_file, with_found, counted_by, with_file}
use Rattle.week.proofs.CountingLaws.{refusal_small}

-- figures of real sets, as many as are counted
pub record Counted (f : Figures) : Type 0 where
  pub sets : List Found
  pub real : Real sets
  pub few : contours_and_refused_sets sets ≤ most_counted
  pub are : f ≡ batch_figures sets

pub counted_possible : {f : Figures} → Counted f → possible f ≡ true
counted_possible c = ap possible c.are ∙ real_figures_are_never_told_damaged c.sets c.real c.few

pub counted_none : Counted (figures_of [])
unfolding all_entries
counted_none = record { sets = []; real = tt; few = omega arith; are = refl }

-- a file is a real set
in_domain : (l : List (List ℤ)) → L.Contours l → Contours l
in_domain [] h = tt
in_domain (c ∷ l) h = (h.0, in_domain l h.1)

file_real : (file : List ℕ) → RealBy (first_of (listing_refusals file)) (job file)
file_real file = go (first_of (listing_refusals file)) refl
  where
    go : (r : ℕ) → first_of (listing_refusals file) ≡ r → RealBy r (job file)
    go zero e = in_domain (job file) (accepted file e).sound
    go (suc k) e = omega (arith, e, refusal_small file)

-- one set more, or all as it was
module _ (f : Figures) (s : Found) where
  full_figures : fits f (length (entries s)) ≡ false → (with_found f s).figures ≡ f
  unfolding with_found
  full_figures h = rw (over_is _ h)

  more_figures : fits f (length (entries s)) ≡ true → (with_found f s).figures ≡ sum f (figures_of (entries s))
  unfolding with_found
  more_figures h = rw (over_not _ h)

module _ (a : List Found) (s : Found) where
  one_more_set : sum (batch_figures a) (figures_of (entries s)) ≡ batch_figures (a ++ s ∷ [])
  unfolding all_entries
  one_more_set = ap (λ (l : List Entry). sum (batch_figures a) (figures_of l)) (sym (append-nil (entries s))) ∙ batches_add_up a (s ∷ [])

  one_more_counts : contours_and_refused_sets (a ++ s ∷ []) ≡ contours_and_refused_sets a + length (entries s)
  one_more_counts =
      omega (
        arith,
        entries_count (a ++ s ∷ []),
        ap length (entries-append a (s ∷ [])),
        length-append (all_entries a) (all_entries (s ∷ [])),
        entries_count a,
        entries_count (s ∷ []),
        set_counts s.refusal s.rule s.contours,
      )

real_more : (a : List Found) (s : Found) → Real a → RealBy s.refusal s.contours → Real (a ++ s ∷ [])
real_more [] s r h = (h, tt)
real_more (x ∷ a) s r h = (r.0, real_more a s r.1 h)

counted_more : (f : Figures) (s : Found) → Counted f → RealBy s.refusal s.contours → Counted (with_found f s).figures
counted_more f s c h = go (fits f (length (entries s))) refl
  where
    go : (b : Bool) → fits f (length (entries s)) ≡ b → Counted (with_found f s).figures
    go false e = record { sets = c.sets; real = c.real; few = c.few; are = full_figures f s e ∙ c.are }
    go true e = record {
      sets = c.sets ++ s ∷ [];
      real = real_more c.sets s c.real h;
      few =
          omega (
            arith,
            one_more_counts c.sets s,
            the_totals_add_up_to_the_contours_and_refused_sets c.sets c.real,
            ap in_all c.are,
            (fits_means f (length (entries s)) e).0,
          );
      are = more_figures f s e ∙ ap (λ (g : Figures). sum g (figures_of (entries s))) c.are ∙ one_more_set c.sets s;
    }

-- a week with one file more
module _ (files : ℕ) (untold : Bool) (f : Figures) where
  by_figures : (r : ℕ) → (counted_by r files untold f).figures ≡ f
  by_figures zero = refl
  by_figures (suc k) = refl

  by_files : (r : ℕ) → (counted_by r files untold f).full ≡ false → (counted_by r files untold f).files ≡ files + 1
  by_files zero e = refl
  by_files (suc k) e = absurd (true≢false e)

module _ (w : Week) (untold : Bool) (file : List ℕ) (next : Week) (is : next ≡ with_file w untold (with_found w.figures (found_file file))) where
  abbrev came_to : Added
  came_to = with_found w.figures (found_file file)

  pub week_counted : Counted w.figures → Counted next.figures
  week_counted c =
      let more = counted_more w.figures (found_file file) c (file_real file) in
      let e : next.figures ≡ came_to.figures = ap (λ (x : Week). x.figures) is ∙ by_figures w.files untold came_to.figures came_to.reply in
      record { sets = more.sets; real = more.real; few = more.few; are = e ∙ more.are }

  pub week_goes_on : next.full ≡ false → next.files ≡ w.files + 1
  week_goes_on e =
      ap (λ (x : Week). x.files) is
      ∙ by_files w.files untold came_to.figures came_to.reply (sym (ap (λ (x : Week). x.full) is) ∙ e)
