-- A recorded shift: a row of numbers, step behind step.
use mathlib.Core.Bool.{Bool, true, false, ◌&&◌, ◌||◌}
use mathlib.Core.List.{List, [], ◌∷◌}
use Prim.Native.Nat.{ℕ, zero, suc, ◌+◌, ◌*◌}
use lib.Dec.{leb}
use lib.ListN.{length, get_or, take, drop}
use lib.IntN.{ℤ, pos, negsuc, nat_abs}
use lib.Signed.{non_neg}
use Rattle.integers.specs.Equal.{eq_z}
use Rattle.grid.specs.declared.Point.{Point}
use Rattle.ring.specs.declared.Rule.{Rule}
use Rattle.ring.specs.declared.Rule.TheVariants.{Collinear, Spike}

-- what a step asks for: the first press, or the second, adds a contour or removes its newest; all contours are cleaned by a rule; a point is asked of a press's contours
pub data Request : Type 0 where
  adds : Bool → List ℤ → Request
  removes : Bool → Request
  cleans : Rule → Request
  asks : Bool → Point → Request

-- a step: what it asks for, the reply and the result that were recorded, and how many numbers it takes
pub record Step : Type 0 where
  pub request : Request
  pub reply : ℤ
  pub result : ℤ
  pub size : ℕ

-- what stands at a place of the row: a step, or none
pub data Read : Type 0 where
  a_step : Step → Read
  no_step : Read

-- number i of the numbers from a place on
abbrev pub at : List ℤ → ℕ → ℤ
at row i = get_or row i (pos 0)

-- a step whose reply is number n, and its result the one behind it
abbrev pub recorded : Request → ℕ → List ℤ → Step
recorded request n row = record { request = request; reply = at row n; result = at row (n + 1); size = n + 2 }

-- kind 0, a press, a count n and n points; the tool is 0
abbrev pub adding : Bool → ℕ → List ℤ → Step
adding second n row = recorded (adds second (take (2 * n) (drop 3 row))) (3 + 2 * n) row

-- kind 1 and a press
abbrev pub removing : Bool → List ℤ → Step
removing second row = recorded (removes second) 2 row

-- kind 2 or 3
abbrev pub cleaning : Rule → List ℤ → Step
cleaning rule row = recorded (cleans rule) 1 row

-- kind 4, a press, x and y
abbrev pub asking : Bool → List ℤ → Step
asking second row = recorded (asks second (record { x = at row 2; y = at row 3 })) 4 row

-- the second number names one of two presses
abbrev pub pressed : List ℤ → Bool
pressed row = eq_z (at row 1) (pos 0) || eq_z (at row 1) (pos 1)

-- it names the second press
abbrev pub second : List ℤ → Bool
second row = eq_z (at row 1) (pos 1)

-- a step, if this holds
abbrev pub if_so : Bool → Step → Read
if_so true s = a_step s
if_so false s = no_step

-- a step whose numbers are sound, and are all there
abbrev pub whole : Bool → Step → List ℤ → Read
whole sound s row = if_so (sound && leb s.size (length row)) s

-- by its kind
abbrev pub of_kind : ℤ → List ℤ → Read
of_kind (pos zero) row = whole (pressed row && non_neg (at row 2)) (adding (second row) (nat_abs (at row 2)) row) row
of_kind (pos (suc zero)) row = whole (pressed row) (removing (second row) row) row
of_kind (pos (suc (suc zero))) row = whole true (cleaning Collinear row) row
of_kind (pos (suc (suc (suc zero)))) row = whole true (cleaning Spike row) row
of_kind (pos (suc (suc (suc (suc zero))))) row = whole (pressed row) (asking (second row) row) row
of_kind (pos (suc (suc (suc (suc (suc k)))))) row = no_step
of_kind (negsuc k) row = no_step

-- what the numbers from a place on begin with
unfoldable pub read : List ℤ → Read
read row = of_kind (at row 0) row

-- what stands at a place
pub record Item : Type 0 where
  pub place : ℕ
  pub read : Read

-- what stands at a place, and behind a step what stands so many numbers later
abbrev pub and_later : ℕ → Read → (ℕ → List Item) → List Item
and_later place (a_step s) later = record { place = place; read = a_step s } ∷ later s.size
and_later place no_step later = record { place = place; read = no_step } ∷ []

-- what stands in a row whose first number has this place, step behind step up to what is no step; each step takes a number or more, so as many looks as there are numbers are enough
unfoldable pub items : ℕ → ℕ → List ℤ → List Item
items zero place row = []
items (suc n) place [] = []
items (suc n) place (z ∷ row) =
    and_later place (read (z ∷ row)) (λ size. items n (place + size) (drop size (z ∷ row)))

-- a whole shift
abbrev pub shift : List ℤ → List Item
shift row = items (length row) 0 row
