-- The lines of a file's contours, one behind the other.
use mathlib.Core.Path.{◌≡◌, sym, ◌∙◌, ap, subst}
use mathlib.Core.Bool.{Bool, true}
use mathlib.Core.List.{List, [], ◌∷◌, append-nil, append_assoc}
use Prim.Native.Nat.{ℕ, suc, ◌+◌, ◌*◌, ◌≤◌, ◌<◌}
use native.Mathlib.Omega.{arith}
use native.Mathlib.Numerals.{add-one}
use lib.ListN.{length, take, length-append}
use lib.Seq.{take_at}
use lib.IntN.{ℤ}
use Rattle.grid.specs.Limits.{all_on_grid}
use Rattle.grid.specs.Domain.{count, Contour}
use Rattle.rows.specs.Rows.{placed}
use Rattle.rows.proofs.RowLaws.{placed_front}
use Rattle.buffer.specs.Sets.{joined}
use Rattle.setfile.specs.declared.inner.headers.Header.{Header}
use Rattle.setfile.specs.Entries.{Entry, contours_of}
use Rattle.setfile.specs.Editions.{bound}
use Rattle.setfile.specs.inside.Reading.{contained, from_bit, header_in, size_of, front_points, Whole}
use Rattle.setfile.proofs.ContourLaws.{size_is, front_length}
use Rattle.setfile.proofs.RestLaws.{Rest, Next, next, done, rest_all}
use Rattle.report.specs.Listing.{line, lines, rule_of, most_listed, job}
use Rattle.report.specs.inside.Lines.{Put, Contours, Cleanable, Listable}
use Rattle.report.proofs.PutLaws.{Going, going_none, going_room, going_more, going_all, going_same}

-- the contour that stands at a position of a file
abbrev pub contour_at : Bool → List ℕ → ℕ → List ℤ
contour_at s f at = front_points s (from_bit f at)

module _ (s : Bool) (f : List ℕ) (at : ℕ) (h : Header) (e : h ≡ header_in s (from_bit f at)) where
  -- it has as many numbers as its header says
  pub contour_long : length (contour_at s f at) ≡ 2 * h.count
  contour_long = omega (arith, front_length s (from_bit f at), ap (λ (h : Header). h.count) e)

  -- it is what was written in front of a row
  pub contour_read : (row : List ℤ) {out : List ℤ} → out ≡ placed 0 (contour_at s f at) row → take (2 * h.count) out ≡ contour_at s f at
  contour_read row p = ap (take (2 * h.count)) (p ∙ placed_front row (contour_at s f at)) ∙ take_at (contour_at s f at) _ (2 * h.count) contour_long

-- behind i of a file's n contours, from bit at on, the lines of the rest are due
pub record Lining (s : Bool) (f : List ℕ) (n from : ℕ) (text₀ : List ℕ) (behind : ℕ) (text : List ℕ) (i at : ℕ) : Type 0 where
  pub high : i ≤ n
  pub rest : List Entry
  pub due : Rest s f n i at rest
  pub few : length (joined (contours_of rest)) ≤ 2 * most_listed
  pub sound : Contours (contours_of rest)
  pub going : Going from (lines (rule_of s) 1 (job f)) text₀ behind text (lines (rule_of s) (suc i) (contours_of rest) ∷ [])

pub lining_none : (s : Bool) (f : List ℕ) (n from : ℕ) (text : List ℕ) → Listable s f n → from + length (lines (rule_of s) 1 (job f)) ≤ length text
    → Lining s f n from text from text 0 16
unfolding joined
lining_none s f n from text x h = record {
  high = omega arith;
  rest = contained f;
  due = rest_all x.readable;
  few = x.few;
  sound = x.sound;
  going = going_none from text _ (sym (append-nil _)) h;
}

module _ {s : Bool} {f : List ℕ} {n from : ℕ} {text₀ : List ℕ} {behind : ℕ} {text : List ℕ} {i at : ℕ} (x : Lining s f n from text₀ behind text i at) where
  module _ (h : i < n) where
    coming : Next s f n i at x.rest
    coming = next x.due h

    -- the contour that is met is all there, and on the grid
    pub lining_there : Whole s f at
    lining_there = coming.all_there

    pub lining_on : all_on_grid (bound s) (contour_at s f at) ≡ true
    lining_on = coming.on

    all_sound : Contour (contour_at s f at) (count (contour_at s f at)) × Contours (contours_of coming.rest)
    all_sound = subst (λ (l : List Entry). Contours (contours_of l)) coming.is x.sound

    -- there is room for its points and for those behind it
    all_few : length (contour_at s f at) + length (joined (contours_of coming.rest)) ≤ 2 * most_listed
    unfolding joined
    all_few =
        omega (
          arith,
          subst (λ (l : List Entry). length (joined (contours_of l)) ≤ 2 * most_listed) coming.is x.few,
          length-append (contour_at s f at) (joined (contours_of coming.rest)),
        )

    pub lining_few : length (contour_at s f at) ≤ 2 * most_listed
    lining_few = omega (arith, all_few)

    pub lining_roomy : (head : Header) → head ≡ header_in s (from_bit f at) → (points : List ℤ) → 2 * most_listed ≤ length points → 2 * head.count ≤ length points
    lining_roomy head e points r = omega (arith, lining_few, contour_long s f at head e)

    pub lining_cleanable : (next prev mark : List ℕ) → most_listed ≤ length next → most_listed ≤ length prev → most_listed ≤ length mark
        → Cleanable (contour_at s f at) next prev mark
    lining_cleanable next prev mark a b c =
        let k : count (contour_at s f at) ≤ most_listed = omega (arith, all_sound.0.even, lining_few) in
        record { contour = all_sound.0; few = k; in_next = omega arith; in_prev = omega arith; in_mark = omega arith }

    lining_next : Going from (lines (rule_of s) 1 (job f)) text₀ behind text
        (line (rule_of s) (i + 1) (contour_at s f at) ∷ lines (rule_of s) (suc (i + 1)) (contours_of coming.rest) ∷ [])
    unfolding joined lines
    lining_next =
        going_same _ (rw (add-one i) (simp append_assoc))
        (subst (λ (l : List Entry). Going from (lines (rule_of s) 1 (job f)) text₀ behind text (lines (rule_of s) (suc i) (contours_of l) ∷ [])) coming.is x.going)

    pub lining_room : behind + length (line (rule_of s) (i + 1) (contour_at s f at)) ≤ length text
    lining_room = going_room lining_next

    pub lining_more : {r : ℕ} {exit : List ℕ} → Put behind (line (rule_of s) (i + 1) (contour_at s f at)) text r exit
        → (head : Header) → head ≡ header_in s (from_bit f at) → (z : ℕ) → z ≡ size_of s head → Lining s f n from text₀ r exit (i + 1) (at + z)
    lining_more q head e z g = record {
      high = omega arith;
      rest = coming.rest;
      due = subst (λ (y : ℕ). Rest s f n (i + 1) (at + y) coming.rest) (size_is s (from_bit f at) ∙ ap (size_of s) (sym e) ∙ sym g) coming.due;
      few = omega (arith, all_few);
      sound = all_sound.1;
      going = going_more lining_next q;
    }

  pub lining_all : n ≤ i → Put from (lines (rule_of s) 1 (job f)) text₀ behind text
  unfolding joined lines
  lining_all h =
      let e : x.rest ≡ [] = done x.due (omega (arith, x.high)) in
      going_all (going_same [] (rw e) x.going)
