-- "Three idle programs are to be shown excluded": one that always answers 7, one that copies the contour through, and one that cleans the first contour of a shape and copies the rest.
use Rattle.std.specs.Prelude.{◌≡◌, List, ℕ, ℤ}
use Rattle.rows.specs.Rows.{front}
use Rattle.grid.specs.Cases.{W3, W4, W6}
use Rattle.ring.specs.declared.Rule.{Rule}
use Rattle.clean.specs.Outcome.{Lent, lent, Outcome}
use Rattle.clean.specs.Promises.{NotRefused}
use Rattle.sets.specs.Outcome.{Lent as SetLent, Outcome as SetOutcome, shape_outcome}
use Rattle.sets.proofs.Idle.{Taken, idle}
use Rattle.promises.specs.Demand3.{DemandedOf}
use Rattle.promises.specs.Table.{Alone, scratch, room, w3, w4, w6}

-- a program that cleans a contour, by what it answers and leaves of each call
abbrev pub Program : Type 0
Program = List ℤ → Lent → Outcome

-- it does what demand 3 demands by a rule
abbrev pub MeetsDemand3 : Rule → Program → Type 0
MeetsDemand3 rule f = (row : List ℤ) (l : Lent) → DemandedOf rule row l (f row l)

-- rows of 9s, just long enough for a contour
abbrev pub in_9s : List ℤ → Lent
in_9s c = lent (scratch c) (scratch c) (scratch c) (room c)

-- it makes of a contour in such rows what the table has of it
pub record MakesOf (c : List ℤ) (f : Program) (made : Alone) : Type 0 where
  pub answers : (f c (in_9s c)).answer ≡ made.answer
  pub writes : (f c (in_9s c)).rows.out ≡ made.out

-- it answers 7 to each call that no rung refuses
abbrev pub AlwaysSeven : Program → Type 0
AlwaysSeven f = (row : List ℤ) (l : Lent) → NotRefused row l → (f row l).answer.reply ≡ 7

-- it copies the contour to the front of the output, on each call that no rung refuses
abbrev pub CopiesThrough : Program → Type 0
CopiesThrough f = (row : List ℤ) (l : Lent) → NotRefused row l → (f row l).rows.out ≡ front row l.out

-- a program that cleans a shape
abbrev pub ShapeProgram : Type 0
ShapeProgram = List ℤ → List (List ℕ) → SetLent → SetOutcome

-- it follows the rules of sets
abbrev pub MeetsTheSetRules : Rule → ShapeProgram → Type 0
MeetsTheSetRules rule f = (p : List ℤ) (cs : List (List ℕ)) (l : SetLent) → f p cs l ≡ shape_outcome rule p cs l

-- it leaves the points of a first contour that is cleaned and of others that are copied, on each call that no rung refuses
abbrev pub FirstCleanedRestCopied : Rule → ShapeProgram → Type 0
FirstCleanedRestCopied rule f = (p : List ℤ) (cs : List (List ℕ)) (l : SetLent) → Taken p cs l → (f p cs l).rows.points ≡ (idle rule p cs l).rows.points

pub record NoIdleProgram : Type 0 where
  -- "always 7 (demand 3's non-zero area, and W3)"
  pub always_7_breaks_demand_3 : (rule : Rule) (f : Program) → MeetsDemand3 rule f → AlwaysSeven f → ⊥
  pub always_7_breaks_W3 : (f : Program) → MakesOf W3 f w3.simplified → AlwaysSeven f → ⊥
  pub always_7_breaks_W3_despiked : (f : Program) → MakesOf W3 f w3.despiked → AlwaysSeven f → ⊥
  -- "copying the contour through (the vertex rule of 3, and W4)"; despiking leaves W4 as it is, but not W6
  pub copying_through_breaks_demand_3 : (rule : Rule) (f : Program) → MeetsDemand3 rule f → CopiesThrough f → ⊥
  pub copying_through_breaks_W4 : (f : Program) → MakesOf W4 f w4.simplified → CopiesThrough f → ⊥
  pub copying_through_breaks_W6_despiked : (f : Program) → MakesOf W6 f w6.despiked → CopiesThrough f → ⊥
  -- "the first contour cleaned and the rest copied (demand 2's set rules)", even where its decisions are right
  pub the_first_contour_cleaned_and_the_rest_copied_breaks_the_set_rules : (rule : Rule) (f : ShapeProgram) → MeetsTheSetRules rule f → FirstCleanedRestCopied rule f → ⊥
