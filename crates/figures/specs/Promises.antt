-- The words in which the theorems say what figures may be counted on for.
use mathlib.Core.List.{List, [], ◌∷◌}
use Prim.Native.Nat.{ℕ, zero, suc, ◌+◌, ◌<◌}
use lib.ListN.{length}
use lib.IntN.{ℤ}
use Rattle.grid.specs.Domain.{count, Contour}
use Rattle.ring.specs.declared.Rule.{Rule}
use Rattle.clean.specs.Outcome.{Lent}
use Rattle.figures.specs.declared.answer.Figures.{Figures}
use Rattle.figures.specs.Entries.{Found}
use Rattle.figures.specs.Batch.{numbers}
use Rattle.figures.specs.Adding.{found, add_outcome}

-- contours of the domain
abbrev pub Contours : List (List ℤ) → Type 0
Contours [] = Unit {0}
Contours (c ∷ l) = Contour c (count c) × Contours l

-- what a call can find: a set that is refused with a reply number, or one of contours in the domain
abbrev pub RealBy : ℕ → List (List ℤ) → Type 0
RealBy zero cs = Contours cs
RealBy (suc k) cs = suc k < numbers

-- a list of such sets
abbrev pub Real : List Found → Type 0
Real [] = Unit {0}
Real (s ∷ l) = RealBy s.refusal s.contours × Real l

-- a refused set counts once, and another as often as it has contours
abbrev pub counts_by : ℕ → List (List ℤ) → ℕ
counts_by zero cs = length cs
counts_by (suc k) cs = 1

-- the contours and refused sets of a list of sets
abbrev pub contours_and_refused_sets : List Found → ℕ
contours_and_refused_sets [] = 0
contours_and_refused_sets (s ∷ l) = counts_by s.refusal s.contours + contours_and_refused_sets l

-- a call that adds a set: the walk asked for, the set, and the rows that are lent
pub record Call : Type 0 where
  pub rule : Rule
  pub points : List ℤ
  pub ranges : List (List ℕ)
  pub rows : Lent

abbrev pub found_by : Call → Found
found_by c = found c.rule c.points c.ranges c.rows

-- the figures after calls, each with the figures that the one before it answered
unfoldable pub one_by_one : Figures → List Call → Figures
one_by_one f [] = f
one_by_one f (c ∷ l) = one_by_one (add_outcome f c.rule c.points c.ranges c.rows).answer.figures l
