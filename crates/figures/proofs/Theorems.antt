-- What a user may count on.
use mathlib.Core.Path.{◌≡◌, refl, sym, ◌∙◌, ap}
use mathlib.Core.Bool.{Bool, true, false, ◌&&◌}
use mathlib.Core.List.{List, [], ◌∷◌, ◌++◌, map, append_assoc, append-nil}
use Prim.Native.Nat.{ℕ, zero, suc, ◌+◌, ◌<◌, ◌≤◌}
use native.Mathlib.Omega.{arith}
use lib.Dec.{leb}
use lib.IntN.{ℤ, ◌+ℤ◌, +ℤ_comm}
use lib.ListN.{length}
use borrow.Author.Tests.{le-leb, lt-leb}
use Rattle.replies.specs.Ladder.{first_of}
use Rattle.grid.specs.Domain.{count}
use Rattle.ring.specs.declared.Rule.{Rule}
use Rattle.clean.specs.Outcome.{Lent}
use Rattle.buffer.specs.Spans.{spans}
use Rattle.buffer.specs.Sets.{contours}
use Rattle.figures.specs.declared.answer.Figures.{Figures}
use Rattle.figures.specs.Entries.{Entry, Found, entries, all_entries}
use Rattle.figures.specs.Batch.{figures_of, batch_figures, areas}
use Rattle.figures.specs.Joining.{most_counted, in_all, area_sum, sum, possible, fits, over, added, answered, joining_refusals, joined_figures}
use Rattle.figures.specs.Adding.{found, used, Outcome, leaving, add_outcome}
use Rattle.figures.specs.Promises.{Real, counts_by, contours_and_refused_sets, Call, found_by, one_by_one}
use Rattle.figures.proofs.BatchLaws.{counted_is, area_is, figures-append, entries-append, batches_add_up}
use Rattle.figures.proofs.TotalLaws.{added_either_way}
use Rattle.figures.proofs.SumLaws.{over_not, over_is}
use Rattle.figures.proofs.LimitLaws.{all_numbered, small_entries, set_counts, entries_count, figures_possible}
use Rattle.figures.proofs.OutcomeLaws.{found_is_real}

-- the totals of real sets add up to their contours and refused sets
pub the_totals_add_up_to_the_contours_and_refused_sets : (l : List Found) → Real l → in_all (batch_figures l) ≡ contours_and_refused_sets l
the_totals_add_up_to_the_contours_and_refused_sets l r = counted_is (all_numbered (small_entries l r)) ∙ entries_count l

-- high and low are the exact sum of the areas of what is kept
pub high_and_low_are_the_exact_sum_of_the_areas : (l : List Found) → area_sum (batch_figures l) ≡ areas (all_entries l)
high_and_low_are_the_exact_sum_of_the_areas l = area_is (all_entries l)

-- the figures of real sets, as many as are counted, are possible
pub real_figures_are_never_told_damaged : (l : List Found) → Real l → contours_and_refused_sets l ≤ most_counted → possible (batch_figures l) ≡ true
real_figures_are_never_told_damaged l r h = figures_possible (small_entries l r) (omega (arith, entries_count l))

-- so they fit with so many more just where these are not too many
module _ (l : List Found) (r : Real l) (more : ℕ) where
  fit : contours_and_refused_sets l + more ≤ most_counted → fits (batch_figures l) more ≡ true
  unfolding fits
  fit h = rw (le-leb (in_all (batch_figures l) + more) most_counted (omega (arith, the_totals_add_up_to_the_contours_and_refused_sets l r)), real_figures_are_never_told_damaged l r (omega arith))

  do_not_fit : most_counted < contours_and_refused_sets l + more → fits (batch_figures l) more ≡ false
  unfolding fits
  do_not_fit h = rw (lt-leb (in_all (batch_figures l) + more) most_counted (omega (arith, the_totals_add_up_to_the_contours_and_refused_sets l r)))

-- Two batches of real sets.
module _ (a b : List Found) (r : Real a) (s : Real b) where
  many : in_all (batch_figures b) ≡ contours_and_refused_sets b
  many = the_totals_add_up_to_the_contours_and_refused_sets b s

  -- joined, their figures are those of both together
  pub two_batches'_figures_joined_are_the_figures_of_both_together :
      contours_and_refused_sets a + contours_and_refused_sets b ≤ most_counted → joined_figures (batch_figures a) (batch_figures b) ≡ added 0 (batch_figures (a ++ b))
  unfolding joined_figures
  two_batches'_figures_joined_are_the_figures_of_both_together h =
      let t : (fits (batch_figures a) (in_all (batch_figures b)) && possible (batch_figures b)) ≡ true =
      rw (fit a r (in_all (batch_figures b)) (omega (arith, many)), real_figures_are_never_told_damaged b s (omega arith)) in
      rw (over_not _ t) (ap (added 0) (batches_add_up a b))

  -- and past the limit the answer is 21, and the first batch's
  pub past_the_limit_joining_is_21 :
      most_counted < contours_and_refused_sets a + contours_and_refused_sets b → joined_figures (batch_figures a) (batch_figures b) ≡ added 21 (batch_figures a)
  unfolding joined_figures
  past_the_limit_joining_is_21 h =
      let t : (fits (batch_figures a) (in_all (batch_figures b)) && possible (batch_figures b)) ≡ false =
      rw (do_not_fit a r (in_all (batch_figures b)) (omega (arith, many))) in
      rw (over_is _ t)

-- Any figures, real or not.
module _ (f g : Figures) where
  pub sums_do_not_care_for_order : sum f g ≡ sum g f
  unfolding sum
  sums_do_not_care_for_order =
      let z : area_sum f +ℤ area_sum g ≡ area_sum g +ℤ area_sum f = +ℤ_comm (area_sum f) (area_sum g) in
      let b : f.before + g.before ≡ g.before + f.before = omega arith in
      let a : f.after + g.after ≡ g.after + f.after = omega arith in
      let d : f.decisions + g.decisions ≡ g.decisions + f.decisions = omega arith in
      rw (z, added_either_way f.totals g.totals, b, a, d)

  same_refusals : (fits f (in_all g) && possible g) ≡ (fits g (in_all f) && possible f)
  unfolding fits
  same_refusals =
      let n : in_all f + in_all g ≡ in_all g + in_all f = omega arith in
      rw n (go (leb (in_all g + in_all f) most_counted) (possible f) (possible g))
    where
      go : (b x y : Bool) → (b && x && y) ≡ (b && y && x)
      go true true true = refl
      go true true false = refl
      go true false true = refl
      go true false false = refl
      go false x y = refl

  -- either way the reply is the same, and where it is 0 so are the figures
  pub joining_does_not_care_for_order : ((joined_figures f g).reply ≡ (joined_figures g f).reply) × ((joined_figures f g).reply ≡ 0 → (joined_figures f g).figures ≡ (joined_figures g f).figures)
  unfolding joined_figures
  joining_does_not_care_for_order = go (fits f (in_all g) && possible g) (fits g (in_all f) && possible f) same_refusals
    where
      at_last : (m n : ℕ) → m ≡ n → ((answered m f (sum f g)).reply ≡ (answered n g (sum g f)).reply) × ((answered m f (sum f g)).reply ≡ 0 → (answered m f (sum f g)).figures ≡ (answered n g (sum g f)).figures)
      at_last zero zero e = (refl, λ z. sums_do_not_care_for_order)
      at_last zero (suc n) e = absurd (omega arith)
      at_last (suc m) zero e = absurd (omega arith)
      at_last (suc m) (suc n) e = (e, λ z. absurd (omega arith))

      go : (x y : Bool) → x ≡ y → ((answered (first_of (over x)) f (sum f g)).reply ≡ (answered (first_of (over y)) g (sum g f)).reply) × ((answered (first_of (over x)) f (sum f g)).reply ≡ 0 → (answered (first_of (over x)) f (sum f g)).figures ≡ (answered (first_of (over y)) g (sum g f)).figures)
      go x y e = at_last (first_of (over x)) (first_of (over y)) (ap (λ (b : Bool). first_of (over b)) e)

  -- 21 leaves the first figures as they were
  pub a_refused_joining_answers_the_first_figures : ((joined_figures f g).reply ≡ 0 → ⊥) → joined_figures f g ≡ added 21 f
  unfolding joined_figures
  a_refused_joining_answers_the_first_figures n = go (fits f (in_all g) && possible g) refl
    where
      go : (b : Bool) → (fits f (in_all g) && possible g) ≡ b → answered (first_of (joining_refusals f g)) f (sum f g) ≡ added 21 f
      go true e = absurd (n (rw (over_not _ e)))
      go false e = rw (over_is _ e)

-- A call that adds a set; o is what the contract allows.
module _ (f : Figures) (rule : Rule) (p : List ℤ) (ranges : List (List ℕ)) (l : Lent) (o : Outcome) (is : o ≡ add_outcome f rule p ranges l) where
  -- a refusal, which is 21, leaves the figures and every row as they were
  pub a_refusal_leaves_figures_and_rows_as_they_were : (o.answer.reply ≡ 0 → ⊥) → o ≡ leaving (added 21 f) l
  unfolding add_outcome
  a_refusal_leaves_figures_and_rows_as_they_were n = is ∙ go (fits f (length (entries (found rule p ranges l)))) refl
    where
      go : (b : Bool) → fits f (length (entries (found rule p ranges l))) ≡ b → add_outcome f rule p ranges l ≡ leaving (added 21 f) l
      go true e = absurd (n (ap (λ (w : Outcome). w.answer.reply) is ∙ rw (over_not _ e)))
      go false e = rw (over_is _ e)

-- Onto the figures of real sets.
module _ (a : List Found) (r : Real a) (c : Call) where
  abbrev one : Found
  one = found_by c

  abbrev came_to : Outcome
  came_to = add_outcome (batch_figures a) c.rule c.points c.ranges c.rows

  counted_by : length (entries one) ≡ counts_by one.refusal one.contours
  counted_by = set_counts one.refusal one.rule one.contours

  all_of : sum (batch_figures a) (figures_of (entries one)) ≡ batch_figures (a ++ one ∷ [])
  unfolding all_entries
  all_of = figures-append (all_entries a) (entries one) ∙ ap figures_of (ap (λ (l : List Entry). all_entries a ++ l) (sym (append-nil (entries one))) ∙ sym (entries-append a (one ∷ [])))

  -- one set more gives the figures of one set more
  pub adding_a_set_gives_the_figures_of_one_set_more :
      contours_and_refused_sets a + counts_by one.refusal one.contours ≤ most_counted
      → came_to ≡ leaving (added 0 (batch_figures (a ++ one ∷ []))) (used one.refusal c.rule (contours c.points (spans c.ranges)) (count c.points) c.rows)
  unfolding add_outcome
  adding_a_set_gives_the_figures_of_one_set_more h =
      rw (over_not _ (fit a r (length (entries one)) (omega (arith, counted_by))))
      (ap (λ (f : Figures). leaving (added 0 f) (used one.refusal c.rule (contours c.points (spans c.ranges)) (count c.points) c.rows)) all_of)

  -- and past the limit the answer is 21, and all is as it was
  pub past_the_limit_adding_is_21 : most_counted < contours_and_refused_sets a + counts_by one.refusal one.contours → came_to ≡ leaving (added 21 (batch_figures a)) c.rows
  unfolding add_outcome
  past_the_limit_adding_is_21 h = rw (over_is _ (do_not_fit a r (length (entries one)) (omega (arith, counted_by))))

real_more : (a : List Found) (c : Call) → Real a → Real (a ++ found_by c ∷ [])
real_more [] c r = (found_is_real c.points c.ranges c.rows c.rule, tt)
real_more (s ∷ a) c r = (r.0, real_more a c r.1)

counts_more : (a b : List Found) → contours_and_refused_sets (a ++ b) ≡ contours_and_refused_sets a + contours_and_refused_sets b
counts_more [] b = omega arith
counts_more (s ∷ a) b = omega (arith, counts_more a b)

-- calls one after the other, onto the figures of real sets
onto : (a : List Found) → Real a → (l : List Call) → contours_and_refused_sets a + contours_and_refused_sets (map found_by l) ≤ most_counted
    → one_by_one (batch_figures a) l ≡ batch_figures (a ++ map found_by l)
unfolding one_by_one
onto a r [] h = ap batch_figures (sym (append-nil a))
onto a r (c ∷ l) h =
    let b = a ++ found_by c ∷ [] in
    let more = adding_a_set_gives_the_figures_of_one_set_more a r c (omega arith) in
    let few : contours_and_refused_sets b + contours_and_refused_sets (map found_by l) ≤ most_counted = omega (arith, counts_more a (found_by c ∷ [])) in
    ap (λ (o : Outcome). one_by_one o.answer.figures l) more
    ∙ onto b (real_more a c r) l few
    ∙ ap batch_figures (append_assoc a (found_by c ∷ []) (map found_by l))

-- the figures of a list of sets, added one by one from none, are the figures of the list
pub sets_added_one_by_one_give_the_figures_of_the_list : (l : List Call) → contours_and_refused_sets (map found_by l) ≤ most_counted
    → one_by_one (figures_of []) l ≡ batch_figures (map found_by l)
unfolding all_entries
sets_added_one_by_one_give_the_figures_of_the_list l h = onto [] tt l (omega arith)
