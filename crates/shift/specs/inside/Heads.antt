-- What the code reads of a step before it is done.
use mathlib.Core.Path.{◌≡◌}
use mathlib.Core.Bool.{Bool, true, false}
use mathlib.Core.List.{List}
use Prim.Native.Nat.{ℕ, ◌≤◌}
use lib.ListN.{length}
use lib.IntN.{ℤ}
use mir.Syntax.{w32}
use mir.Val.{SFits, of_z}
use Rattle.std.specs.Prelude.{Option, Some, None}
use Rattle.shift.specs.declared.inner.reading.Kind.{Kind}
use Rattle.shift.specs.declared.inner.reading.Kind.TheVariants.{Adds, Removes, Cleans, Asks}
use Rattle.shift.specs.declared.inner.reading.Head.{Head}
use Rattle.shift.specs.Steps.{Step, Read, at, adding, removing, cleaning, asking, of_kind}
use Rattle.shift.specs.Steps.Read.{a_step, no_step}

-- these are the bits of number i of a row
pub record Bits (row : List ℤ) (i n : ℕ) : Type 0 where
  pub fits : SFits w32 (at row i)
  pub is : n ≡ of_z w32 (at row i)

-- a head of this kind and size
abbrev pub head : Kind → ℕ → Head
head kind size = record { kind = kind; size = size }

-- a head, if this holds
abbrev pub head_if : Bool → Head → Option Head
head_if true h = Some h
head_if false h = None

-- the step of a kind
abbrev pub step_of : Kind → List ℤ → Step
step_of (Adds second count) row = adding second count row
step_of (Removes second) row = removing second row
step_of (Cleans rule) row = cleaning rule row
step_of (Asks second) row = asking second row

-- the step that a head tells of, or none
abbrev pub read_of : Option Head → List ℤ → Read
read_of (Some h) row = a_step (step_of h.kind row)
read_of None row = no_step

-- how many numbers a head tells of
abbrev pub told_size : Option Head → ℕ
told_size (Some h) = h.size
told_size None = 0

-- how many numbers a step takes
abbrev pub size_of : Read → ℕ
size_of (a_step s) = s.size
size_of no_step = 0

-- a head tells of what a row begins with, if that is of a kind
pub record HeadsAs (kind : ℤ) (row : List ℤ) (h : Option Head) : Type 0 where
  pub is : of_kind kind row ≡ read_of h row
  pub size_is : told_size h ≡ size_of (read_of h row)
  pub there : told_size h ≤ length row

-- a head tells of what a row begins with
abbrev pub Heads : List ℤ → Option Head → Type 0
Heads row h = HeadsAs (at row 0) row h

-- the kinds with a press
pub data WithPress : ℕ → Type 0 where
  to-add : WithPress 0
  to-remove : WithPress 1
  to-ask : WithPress 4
