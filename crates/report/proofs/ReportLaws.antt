-- What the listing of a file is, by how it was judged.
use mathlib.Core.Path.{◌≡◌, refl, sym, ◌∙◌, ap}
use mathlib.Core.Bool.{Bool, true, false, not}
use mathlib.Core.List.{List, [], ◌∷◌, ◌++◌}
use Prim.Native.Nat.{ℕ, zero, suc, ◌+◌, ◌*◌, ◌≤◌, ◌<◌}
use native.Mathlib.Omega.{arith}
use lib.Dec.{eqb-suc-zero, leb}
use lib.ListN.{length, length-append, length-map}
use lib.Seq.{take-append_seam, drop-append_seam}
use lib.IntN.{ℤ}
use borrow.Author.Tests.{leb-true, le-leb, lt-leb, not-false}
use Rattle.grid.specs.Limits.{limit, most, all_on_grid}
use Rattle.grid.specs.Domain.{count}
use Rattle.replies.specs.declared.refusal.Refusal.{Refusal}
use Rattle.replies.specs.Ladder.{first_of, so_far, room}
use Rattle.replies.specs.Refusals.{number}
use Rattle.replies.proofs.RefusalLaws.{refusals_have_numbers}
use Rattle.replies.proofs.LadderLaws.{Clear, clear, first_is, past_clear, front_clear}
use Rattle.replies.proofs.LadderLaws.First.{here, past, foot}
use Rattle.grid.proofs.LimitLaws.{narrow_within, all_on_wider, on_taken, on_dropped}
use Rattle.buffer.specs.Sets.{joined, Even}
use Rattle.buffer.proofs.Theorems.{points_total}
use Rattle.setfile.specs.Entries.{Entry, damage, read_contours}
use Rattle.setfile.specs.Layouts.{promised}
use Rattle.setfile.specs.Editions.{bound, is_second, parsed}
use Rattle.setfile.specs.Reading.{refusals}
use Rattle.setfile.specs.inside.Reading.{Judged, Judgement}
use Rattle.setfile.proofs.SizeLaws.{promised_few}
use Rattle.report.specs.Text.{decimal, line_end, heading, refused}
use Rattle.report.specs.Listing.{lines, rule_of, most_listed, job, listing_refusals, listing}
use Rattle.report.specs.inside.Lines.{Contours, Listable}
use Rattle.report.proofs.TextLaws.{decimal_short}
use Rattle.report.proofs.LengthLaws.{lines-length}
use Rattle.report.proofs.JobLaws.{job_sized}

-- the reader's refusals, of which one has the number of the damage
clear_parts : (a c : Bool) (d : ℕ) → first_of ((a, 2) ∷ so_far d ++ ((c, 3) ∷ [])) ≡ 0 → Clear ((a, 2) ∷ so_far d ++ ((c, 3) ∷ []))
unfolding first_of
clear_parts true c d e = absurd (omega arith)
clear_parts false true zero e = absurd (omega arith)
clear_parts false false zero e = (refl, (refl, (refl, tt)))
clear_parts false c (suc k) e = absurd (omega (arith, first_is ((false, 2) ∷ so_far (suc k) ++ (c, 3) ∷ []) (suc k) (past refl (here (ap not (eqb-suc-zero k)))), e))

clear_reading : (f : List ℕ) → first_of (refusals f) ≡ 0 → Clear (refusals f)
clear_reading f = clear_parts _ _ (damage (parsed f))

-- so few contours, each with an even count of numbers and on the grid, are of the domain
all_contours : (l : List (List ℤ)) → Even l → all_on_grid limit (joined l) ≡ true → length (joined l) ≤ 2 * most_listed → Contours l
unfolding joined most
all_contours [] x e h = tt
all_contours (c ∷ l) x e h =
    let n = length-append c (joined l) in (
      record {
        even = x.0;
        few = omega (arith, x.0);
        on = ap (all_on_grid limit) (sym (take-append_seam c (joined l))) ∙ on_taken limit (length c) (c ++ joined l) e;
      },
      all_contours l x.1 (ap (all_on_grid limit) (sym (drop-append_seam c (joined l))) ∙ on_dropped limit (length c) (c ++ joined l) e) (omega arith),
    )

bound_within : (s : Bool) → bound s ≤ limit
bound_within true = omega arith
bound_within false = narrow_within

-- a file that is not refused
pub record Accepted (f : List ℕ) : Type 0 where
  pub few : length (joined (job f)) ≤ 2 * most_listed
  pub on : all_on_grid limit (joined (job f)) ≡ true
  pub sound : Contours (job f)

pub accepted : (f : List ℕ) → first_of (listing_refusals f) ≡ 0 → Accepted f
accepted f e =
    let c = clear_reading f (front_clear (refusals f) _ e) in
    let r : first_of (room (leb (count (joined (job f))) most_listed)) ≡ 0 = sym (past_clear (refusals f) _ c) ∙ e in
    let n : count (joined (job f)) ≤ most_listed = leb-true _ _ (not-false _ (clear (room (leb (count (joined (job f))) most_listed)) tt r).0) in
    let even : Even (job f) = (job_sized f).even in
    let few : length (joined (job f)) ≤ 2 * most_listed = omega (arith, points_total (job f) even) in
    let on : all_on_grid limit (joined (job f)) ≡ true = all_on_wider (bound (is_second f)) limit _ (bound_within (is_second f)) (not-false _ c.1.1.0) in
    record { few = few; on = on; sound = all_contours (job f) even on few }

-- the listing, by the number of the first refusal
refused_by : (f : List ℕ) (k : ℕ) → k ≡ first_of (listing_refusals f) → (k ≡ 0 → ⊥) → listing f ≡ refused ++ decimal k ++ line_end
unfolding listing
refused_by f zero e n = absurd (n refl)
refused_by f (suc k) e n = rw (sym e, listing)

-- the listing, by the first refusal
pub listing_refused : (f : List ℕ) (r : Refusal) → number r ≡ first_of (listing_refusals f) → listing f ≡ refused ++ decimal (number r) ++ line_end
listing_refused f r e = refused_by f (number r) e (refusals_have_numbers r)

pub listing_done : {s : Bool} (f : List ℕ) → s ≡ is_second f → 0 ≡ first_of (listing_refusals f) → listing f ≡ heading ++ lines (rule_of s) 1 (job f)
unfolding listing
listing_done f own e = rw (← e, own, listing)

-- it has at most 45 characters for each contour that the file promises
pub listing_promised : (f : List ℕ) → length (listing f) ≤ 37 + 45 * promised f
listing_promised f = go (first_of (listing_refusals f)) refl
  where
    go : (k : ℕ) → first_of (listing_refusals f) ≡ k → length (listing f) ≤ 37 + 45 * promised f
    go (suc k) e = rw (refused_by f (suc k) (sym e) (λ z. omega arith)) (simp length-append (omega (arith, decimal_short (suc k))))
    go zero e =
        let n : length (job f) ≤ promised f = omega (arith, (job_sized f).few, length-map (read_contours (parsed f)) (λ (e : Entry). e.points)) in
        let h = lines-length (rule_of (is_second f)) 1 (job f) (accepted f e).sound (omega (arith, promised_few f)) in
        rw (listing_done f refl (sym e)) (simp length-append (omega arith))

pub listing-length : (f : List ℕ) → length (listing f) ≤ 184312
listing-length f = omega (arith, listing_promised f, promised_few f)

-- the same, where the count was read
pub listing_by_count : (f : List ℕ) (n : ℕ) → n ≡ promised f → (length (listing f) ≤ 37 + 45 * n) × (n ≤ 4095)
listing_by_count f n e = (omega (arith, listing_promised f), omega (arith, promised_few f))

-- a file that was judged, and that the reader takes
module _ {s : Bool} {f : List ℕ} {j : Judged} (file : Judgement s f j) (taken : j.reply ≡ 0) where
  by_room : first_of (room (leb j.points most_listed)) ≡ first_of (listing_refusals f)
  by_room =
      let n : j.points ≡ count (joined (job f)) = omega (arith, (file.counts taken).points) in
      ap (λ (k : ℕ). first_of (room (leb k most_listed))) n ∙ sym (past_clear (refusals f) _ (clear_reading f (sym file.reply ∙ taken)))

  pub too_many : most_listed < j.points → 5 ≡ first_of (listing_refusals f)
  too_many h = first_is (room (leb j.points most_listed)) 5 (here (ap not (lt-leb _ _ h))) ∙ by_room

  pub few_enough : j.points ≤ most_listed → 0 ≡ first_of (listing_refusals f)
  few_enough h = first_is (room (leb j.points most_listed)) 0 (past (ap not (le-leb _ _ h)) foot) ∙ by_room

  pub listable : j.points ≤ most_listed → Listable s f j.contours
  listable h =
      let a = accepted f (sym (few_enough h)) in
      record { readable = (file.counts taken).readable; few = a.few; sound = a.sound }
