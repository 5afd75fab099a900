-- A way along the contours of a file whose points stand in a row.
use mathlib.Core.Path.{◌≡◌, sym, ◌∙◌, ap, subst}
use mathlib.Core.Bool.{Bool, true}
use mathlib.Core.List.{List, [], ◌∷◌, ◌++◌}
use Prim.Native.Nat.{ℕ, ◌+◌, ◌*◌, ◌≤◌, ◌<◌}
use native.Mathlib.Omega.{arith}
use lib.ListN.{length, take, drop, length-append, length-drop}
use lib.Seq.{drop-drop, take_at, drop_at}
use lib.IntN.{ℤ}
use Rattle.grid.specs.Limits.{limit, all_on_grid}
use Rattle.grid.proofs.LimitLaws.{all_on_wider}
use Rattle.buffer.specs.Sets.{joined}
use Rattle.setfile.specs.declared.inner.headers.Header.{Header}
use Rattle.setfile.specs.Entries.{Entry, entry, contours_of}
use Rattle.setfile.specs.Format.{begins}
use Rattle.setfile.specs.Editions.{bound}
use Rattle.setfile.specs.inside.Reading.{contained, from_bit, header_in, size_of, front_points, Whole, Readable}
use Rattle.setfile.proofs.ContourLaws.{size_is, front_is, front_length}
use Rattle.setfile.proofs.HoldLaws.{bound_within}
use Rattle.setfile.proofs.RestLaws.{Rest, Next, next, done, rest_all}
use Rattle.report.specs.Listing.{job}

-- behind i of a file's n contours, from bit at on, the rest has the points from position start of the row on
pub record Along (s : Bool) (f : List ℕ) (n : ℕ) (points : List ℤ) (i at start : ℕ) : Type 0 where
  pub high : i ≤ n
  pub rest : List Entry
  pub due : Rest s f n i at rest
  pub within : start ≤ length points
  pub is : drop start points ≡ joined (contours_of rest)

unfoldable pub along_none : {s : Bool} {f : List ℕ} {n : ℕ} {points : List ℤ} → Readable s f n → points ≡ joined (job f) → Along s f n points 0 16 0
along_none {s} {f} r p = record { high = omega arith; rest = contained f; due = rest_all r; within = omega arith; is = p }

module _ {s : Bool} {f : List ℕ} {n : ℕ} {points : List ℤ} {i at start : ℕ} (x : Along s f n points i at start) where
  pub along_all : n ≤ i → x.rest ≡ []
  along_all h = done x.due (omega (arith, x.high))

  module _ (l : i < n) where
    pub coming : Next s f n i at x.rest
    coming = next x.due l

    -- the contour that is met, which is all there and on the grid
    abbrev pub here : List ℤ
    here = front_points s (from_bit f at)

    pub along_there : Whole s f at
    along_there = coming.all_there

    pub along_on : all_on_grid limit here ≡ true
    along_on = all_on_wider (bound s) limit here (bound_within s) coming.on

    pub along_met : x.rest ≡ entry (begins (from_bit f at)) here ∷ coming.rest
    along_met = coming.is ∙ ap (λ (e : Entry). e ∷ coming.rest) (front_is s (from_bit f at))

    pub ahead : drop start points ≡ here ++ joined (contours_of coming.rest)
    unfolding joined
    ahead = x.is ∙ ap (λ (m : List Entry). joined (contours_of m)) along_met

    module _ (h : Header) (e : h ≡ header_in s (from_bit f at)) where
      pub along_long : length here ≡ 2 * h.count
      along_long = omega (arith, front_length s (from_bit f at), ap (λ (h : Header). h.count) e)

      -- its points are in the row
      pub along_ends : start + 2 * h.count ≤ length points
      along_ends =
          omega (arith, x.within, along_long, ap length ahead, length-append here (joined (contours_of coming.rest)), length-drop start points)

      pub along_part : take (2 * h.count) (drop start points) ≡ here
      along_part = ap (take (2 * h.count)) ahead ∙ take_at here _ (2 * h.count) along_long

      unfoldable pub along_more : (to : ℕ) → to ≡ start + 2 * h.count → (z : ℕ) → z ≡ size_of s h → Along s f n points (i + 1) (at + z) to
      along_more to p z g = record {
        high = omega arith;
        rest = coming.rest;
        due = subst (λ (y : ℕ). Rest s f n (i + 1) (at + y) coming.rest) (size_is s (from_bit f at) ∙ ap (size_of s) (sym e) ∙ sym g) coming.due;
        within = omega (arith, along_ends);
        is =
            ap (λ (k : ℕ). drop k points) p ∙ sym (drop-drop (2 * h.count) start points) ∙ ap (drop (2 * h.count)) ahead
            ∙ drop_at here _ (2 * h.count) along_long;
      }
