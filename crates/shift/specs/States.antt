-- The pool of a shift as a plain list of contours: what a request is told of it, and what it makes of it.
use mathlib.Core.Bool.{Bool, true, false}
use mathlib.Core.List.{List, map}
use Prim.Native.Nat.{ℕ}
use lib.IntN.{ℤ}
use Rattle.grid.specs.Limits.{limit}
use Rattle.grid.specs.Points.{on}
use Rattle.pool.specs.Lists.{Entry, own}
use Rattle.pool.specs.Calls as Calls
use Rattle.pool.specs.Calls.Call.{add, remove}
use Rattle.pool.specs.Outcome.{number}
use Rattle.sets.specs.Contains.{has}
use Rattle.sifting.specs.Cleaned.{cleaned}
use Rattle.shift.specs.Steps.{Request}
use Rattle.shift.specs.Steps.Request.{adds, removes, cleans, asks}

-- what is told: a reply and a result
pub record Told : Type 0 where
  pub reply : ℕ
  pub result : ℕ

abbrev pub telling : ℕ → ℕ → Told
telling reply result = record { reply = reply; result = result }

-- the contours of a press, the oldest first, as one shape
abbrev pub shape : Bool → List Entry → List (List ℤ)
shape second l = map (λ e. e.contour) (own (number second) l)

-- yes or no, as a result
abbrev pub yes_or_no : Bool → ℕ
yes_or_no true = 1
yes_or_no false = 0

-- whether a shape has a point: 3 for one off the grid, else 1 or 0
abbrev pub asked : Bool → Bool → Told
asked true b = telling 0 (yes_or_no b)
asked false b = telling 3 0

-- what a request is told
abbrev pub told : Request → List Entry → Told
told (adds second c) l = telling (Calls.told true (number second) l (add 0 c)) 0
told (removes second) l = telling (Calls.told true (number second) l remove) 0
told (cleans rule) l = telling 0 (cleaned rule l).decisions
told (asks second p) l = asked (on limit p) (has p (shape second l))

-- the pool after it
abbrev pub after : Request → List Entry → List Entry
after (adds second c) l = Calls.after true (number second) (add 0 c) l
after (removes second) l = Calls.after true (number second) remove l
after (cleans rule) l = (cleaned rule l).pool
after (asks second p) l = l
