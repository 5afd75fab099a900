-- What is read of a pool that lies in lent rows.
use mathlib.Core.Path.{◌≡◌, sym, ◌∙◌, ap}
use mathlib.Core.Bool.{Bool, true, false}
use mathlib.Core.List.{List, [], map, map-map}
use Prim.Native.Nat.{ℕ, ◌+◌, ◌-◌, ◌≤◌}
use native.Mathlib.Omega.{arith}
use lib.ListN.{length, get_or, length-map, get_or-eq_default}
use lib.IntN.{ℤ}
use Rattle.replies.specs.Ladder.{first_of}
use Rattle.rows.specs.Parts.{Part, none}
use Rattle.grid.specs.Domain.{count}
use Rattle.buffer.specs.declared.ranges.Span.{Span}
use Rattle.buffer.specs.Spans.{span}
use Rattle.buffer.specs.Sets.{contour}
use Rattle.buffer.specs.Parts as Parts
use Rattle.buffer.specs.Answers.{counted}
use Rattle.std.proofs.lemmas.List.{get_or-map}
use Rattle.buffer.proofs.PartLaws.{part_holds}
use Rattle.pool.specs.Lists.{Entry, capacity, held, own, free}
use Rattle.pool.specs.Calls.{unsound}
use Rattle.pool.specs.Rows.{Slot, slot, span_of, Lent, lent, used, named, contents, sound}
use Rattle.pool.specs.Outcome.{number, count_of, own_slots, contours_count, held_count, free_count, contour_of}
use Rattle.pool.specs.inside.Records.{Found}
use Rattle.pool.specs.inside.Surveys.{Surveyed, share_of}
use Rattle.pool.specs.declared.inner.survey.Survey.{Survey}
use Rattle.pool.proofs.RecordLaws.{Lain, lain}
use Rattle.pool.proofs.SoundLaws.{chain, read_own}
use Rattle.pool.proofs.CallLaws.{share_is, both_held, all_held, records_there}

-- a count of the pool, by the survey
module _ (s : Lent) (f : Survey) (u : Surveyed s f) where
  pub count_unsound : (g : List Entry → ℕ) → f.sound ≡ false → counted 6 0 ≡ count_of g s
  unfolding first_of
  count_unsound g e = ap (λ (t : Bool). counted (first_of (unsound t)) (g (contents s))) (sym e ∙ u.sound_is)

  module _ (e : f.sound ≡ true) where
    given : (g : List Entry → ℕ) (n : ℕ) → n ≡ g (contents s) → counted 0 n ≡ count_of g s
    unfolding first_of
    given g n h = ap (counted 0) h ∙ ap (λ (t : Bool). counted (first_of (unsound t)) (g (contents s))) (sym e ∙ u.sound_is)

    pub contours_given : (p n : ℕ) → n ≡ length (own_slots p (used s)) → counted 0 n ≡ contours_count p s
    unfolding contours_count
    contours_given p n h =
        given (λ l. length (own p l)) n
        (h ∙ sym (length-map (own_slots p (used s)) (named s.points)) ∙ ap length (sym (read_own s.points p (used s))))

    pub held_given : (b : Bool) (n : ℕ) → n ≡ share_of b f → counted 0 n ≡ held_count (number b) s
    unfolding held_count
    held_given b n h = given (λ l. held (own (number b) l)) n (h ∙ share_is s f u b e)

    pub both_within : f.first + f.second ≤ capacity
    both_within = omega (arith, both_held s f u e, all_held s f u e)

    pub free_given : (n : ℕ) → n ≡ capacity - (f.first + f.second) → counted 0 n ≡ free_count s
    unfolding free_count
    free_given n h = given free n (h ∙ ap (λ (k : ℕ). capacity - k) (both_held s f u e))

-- a contour of a press, as a part of the points
module _ (points : Part) (records : List (List ℕ)) (n : ℕ) (f : Survey) (u : Surveyed (lent points.numbers records n) f) (p k : ℕ) where
  abbrev rows : Lent
  rows = lent points.numbers records n

  abbrev own_spans : List Span
  own_spans = map span_of (own_slots p (used rows))

  abbrev part_of_own : Part
  part_of_own = get_or (map (Parts.named points) own_spans) k (none points)

  pub part_unsound : f.sound ≡ false → none points ≡ contour_of points records n p k
  unfolding contour_of first_of
  part_unsound e = ap (λ (t : Bool). Parts.handed (first_of (unsound t)) points part_of_own) (sym e ∙ u.sound_is)

  module _ (e : f.sound ≡ true) where
    is_sound : sound rows ≡ true
    is_sound = sym u.sound_is ∙ e

    handed_sound : (q : Part) → q ≡ part_of_own → q ≡ contour_of points records n p k
    unfolding contour_of first_of
    handed_sound q h = h ∙ ap (λ (t : Bool). Parts.handed (first_of (unsound t)) points part_of_own) (sym is_sound)

    within : n ≤ length records
    within = records_there points.numbers records n f u e

    pub part_absent : length (own_slots p (used rows)) ≤ k → none points ≡ contour_of points records n p k
    part_absent z =
        let l : length (map (Parts.named points) own_spans) ≤ k = omega (arith, length-map own_spans (Parts.named points), length-map (own_slots p (used rows)) span_of) in
        handed_sound (none points) (sym (get_or-eq_default (map (Parts.named points) own_spans) (none points) l))

    module _ (i : ℕ) (w : Found p k n records i) where
      pub part_lain : Lain (count points.numbers) (slot (get_or records i []))
      part_lain = lain (count points.numbers) n records i within (chain rows is_sound) w.within

      pub part_there : Parts.named points (span (get_or records i [])) ≡ contour_of points records n p k
      part_there =
          handed_sound _
          (ap (λ (s : Slot). Parts.named points (span_of s)) w.is
          ∙ sym (get_or-map (Parts.named points) own_spans k (span []) (none points) (omega (arith, w.there, length-map (own_slots p (used rows)) span_of))
          ∙ ap (Parts.named points) (get_or-map span_of (own_slots p (used rows)) k (slot []) (span []) w.there)))

-- the contours that a press reads by number are its own, in order
pub read_by_number : (points : Part) (records : List (List ℕ)) (n p k : ℕ) → sound (lent points.numbers records n) ≡ true
    → (contour_of points records n p k).numbers ≡ get_or (map (λ e. e.contour) (own p (contents (lent points.numbers records n)))) k []
unfolding contour_of first_of
read_by_number points records n p k ok =
    let l = own_slots p (used (lent points.numbers records n)) in
    ap (λ (t : Bool). (Parts.handed (first_of (unsound t)) points (get_or (map (Parts.named points) (map span_of l)) k (none points))).numbers) ok
    ∙ part_holds points (map span_of l) k
    ∙ ap (λ (x : List (List ℤ)). get_or x k [])
    (map-map (contour points.numbers) span_of l ∙ sym (map-map (λ e. e.contour) (named points.numbers) l)
    ∙ ap (map (λ e. e.contour)) (sym (read_own points.numbers p (used (lent points.numbers records n)))))
