-- The words in which the theorems say what a cleaning may count on, and what it leaves.
use Rattle.std.specs.Prelude.{◌≡◌, Bool, true, false, List, map, ℕ, ◌*◌, ◌<◌, ◌≤◌, length, take, drop, replicate, ℤ}
use Rattle.grid.specs.declared.Point.{Point}
use Rattle.grid.specs.Limits.{limit, most, all_on_grid}
use Rattle.grid.specs.Points.{at, points}
use Rattle.grid.specs.Corners.{Corner, corner_in}
use Rattle.grid.specs.Domain.{count}
use Rattle.ring.specs.Walk.{tally, ending}
use Rattle.ring.specs.Walk.End.{kept}
use Rattle.ring.specs.Promises.{Rising}
use Rattle.clean.specs.Outcome.{walked_by, answer, Lent, Outcome, refusal}

-- no rung refuses a call
abbrev pub NotRefused : List ℤ → Lent → Type 0
NotRefused row l = refusal row l ≡ 0

-- a contour in the domain: an even count of numbers, at most 65,536 points, every coordinate within the limit; with room: each scratch row has an entry for each point, and the output one for each number
pub record InDomainWithRoom (row : List ℤ) (l : Lent) : Type 0 where
  pub even_count : length row ≡ 2 * count row
  pub at_most_65536 : count row ≤ most
  pub on_the_grid : all_on_grid limit row ≡ true
  pub room_in_next : count row ≤ length l.next
  pub room_in_prev : count row ≤ length l.prev
  pub room_in_mark : count row ≤ length l.mark
  pub room_in_out : 2 * count row ≤ length l.out

-- every lent row is as it was
abbrev pub Untouched : Lent → Outcome → Type 0
Untouched l o = o.rows ≡ l

-- the first n entries of a row are 0, and the later ones as they were
pub record Zeroed (n : ℕ) (before after : List ℕ) : Type 0 where
  pub first_n : take n after ≡ replicate n 0
  pub later : drop n after ≡ drop n before

-- the output is as it was, and the scratch is zeroed
pub record OnlyZeroed (n : ℕ) (l : Lent) (o : Outcome) : Type 0 where
  pub next_zeroed : Zeroed n l.next o.rows.next
  pub prev_zeroed : Zeroed n l.prev o.rows.prev
  pub mark_zeroed : Zeroed n l.mark o.rows.mark
  pub out_is : o.rows.out ≡ l.out

-- the contour that is kept: the written part of the output
abbrev pub kept_points : Outcome → List Point
kept_points o = points (take (2 * o.answer.points) o.rows.out)

-- a contour is kept in its old order: the positions that the walk by a rule keeps rise, the kept points are those at them, as many as is answered, and behind them the output is as it was
pub record Keeps (goes : Corner → Bool) (row out : List ℤ) (o : Outcome) : Type 0 where
  pub positions : List ℕ
  pub rising : Rising 0 (count row) positions
  pub walk_is : walked_by goes row ≡ ending (kept positions) (tally o.answer.decisions o.answer.turns)
  pub count_is : o.answer.points ≡ length positions
  pub points_are : kept_points o ≡ map (at row) positions
  pub rest_is : drop (2 * o.answer.points) o.rows.out ≡ drop (2 * o.answer.points) out

-- no vertex of a contour would go by a rule
abbrev pub Stands : (Corner → Bool) → List Point → Type 0
Stands goes l = (j : ℕ) → j < length l → goes (corner_in l j) ≡ false

-- the contour came back as it was: all its points, after as many decisions in as many turns
pub record Unchanged (row : List ℤ) (o : Outcome) : Type 0 where
  pub answer_is : o.answer ≡ answer 0 (count row) (count row) (count row)
  pub points_are : take (2 * count row) o.rows.out ≡ row
