-- What is said of a contour that is cleaned where it lies, and moved down.
use mathlib.Core.Path.{◌≡◌}
use mathlib.Core.Bool.{false}
use mathlib.Core.List.{List}
use Prim.Native.Nat.{ℕ, ◌+◌, ◌-◌, ◌*◌, ◌≤◌}
use lib.ListN.{length}
use lib.IntN.{ℤ}
use Rattle.std.specs.Prelude.{Some, None}
use Rattle.rows.specs.Rows.{placed}
use Rattle.grid.specs.Points.{points}
use Rattle.grid.specs.Domain.{count, Contour}
use Rattle.ring.specs.declared.Rule.{Rule}
use Rattle.ring.specs.Walk.{survivors}
use Rattle.clean.specs.Outcome.{chosen}
use Rattle.clean.specs.Verdicts.{passes}
use Rattle.buffer.specs.Sets.{contour}
use Rattle.sets.specs.Fates.{Fate, fate}
use Rattle.sets.specs.Fates.Fate.{stays, gone}
use Rattle.sifting.specs.declared.inner.sifting.Kept.{Kept}

-- the contour from point start up to point end of a row
abbrev pub lying : List ℤ → ℕ → ℕ → List ℤ
lying row start end = contour row (record { start = start; end = end })

-- it lies within the row, and is one of the domain
pub record InPlace (row : List ℤ) (start end : ℕ) : Type 0 where
  pub forward : start ≤ end
  pub within : 2 * end ≤ length row
  pub contour : Contour (lying row start end) (end - start)

-- scratch of exactly its points' count, which are three or more
pub record ScratchFor (start end : ℕ) (next prev mark : List ℕ) : Type 0 where
  pub many : 3 ≤ length mark
  pub mark_long : length mark ≡ end - start
  pub next_long : length next ≡ length mark
  pub prev_long : length prev ≡ length mark

-- of the points from start on those that survive stand from point to on, so many
pub record Lowered (row : List ℤ) (start to : ℕ) (mark : List ℕ) (r : ℕ) (exit : List ℤ) : Type 0 where
  pub count_is : r ≡ length (survivors mark)
  pub is : exit ≡ placed (2 * to) (chosen (lying row start (start + length mark)) (survivors mark)) row

-- what is kept of a contour, by its fate
abbrev pub kept_of : Fate → Kept
kept_of (stays d t) = record { points = Some (count d); decisions = t.decisions }
kept_of (gone t) = record { points = None; decisions = t.decisions }

-- and the row then, where it moves down to point to
abbrev pub row_of : Fate → ℕ → List ℤ → List ℤ
row_of (stays d t) to row = placed (2 * to) d row
row_of (gone t) to row = row

-- it does not pass the verdict that goes with a rule
abbrev pub Failing : Rule → List ℤ → Type 0
Failing rule c = passes rule (points c) ≡ false

-- a contour with scratch for its points, behind the point to which it moves
pub record Siftable (row : List ℤ) (start end to : ℕ) (next prev mark : List ℕ) : Type 0 where
  pub lies : InPlace row start end
  pub down : to ≤ start
  pub in_next : end - start ≤ length next
  pub in_prev : end - start ≤ length prev
  pub in_mark : end - start ≤ length mark

-- a contour was cleaned where it lies, and moved down
pub record Sifted (rule : Rule) (row : List ℤ) (start end to : ℕ) (r : Kept) (exit : List ℤ) : Type 0 where
  pub is : r ≡ kept_of (fate rule (lying row start end))
  pub row_is : exit ≡ row_of (fate rule (lying row start end)) to row
