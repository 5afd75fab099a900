-- A refusal stands for the rung of a ladder that has its number.
use mathlib.Core.Bool.{Bool, true, false, not, true≢false}
use lib.Dec.{T}
use Rattle.std.proofs.Common.{◌≡◌, ℕ, ◌++◌, List, arith, refl, sym, ap, Result, Ok, Err}
use Rattle.std.specs.Result.{is_err}
use Rattle.replies.specs.declared.refusal.Refusal.{Refusal}
use Rattle.replies.specs.declared.refusal.Refusal.TheVariants.{Odd, TooMany, OffGrid, Scratch, Room, Ranges, Collapsed, Empty, Edition, Length, NoShape, CantCarry, NoDrawing, NotFinite, Width, Fill, Full, NoneLeft, FiguresFull}
use Rattle.replies.specs.Ladder.{Rung, first_of, room}
use Rattle.replies.specs.Refusals.{number, told}
use Rattle.replies.proofs.LadderLaws.{numbered, first_is, stopped, onward, found}
use Rattle.replies.proofs.LadderLaws.First.{here, past, foot}

-- no refusal has the number of what is done
pub refusals_have_numbers : (r : Refusal) → number r ≡ 0 → ⊥
refusals_have_numbers Odd e = omega arith
refusals_have_numbers TooMany e = omega arith
refusals_have_numbers OffGrid e = omega arith
refusals_have_numbers Scratch e = omega arith
refusals_have_numbers Room e = omega arith
refusals_have_numbers Ranges e = omega arith
refusals_have_numbers Collapsed e = omega arith
refusals_have_numbers Empty e = omega arith
refusals_have_numbers Edition e = omega arith
refusals_have_numbers Length e = omega arith
refusals_have_numbers NoShape e = omega arith
refusals_have_numbers CantCarry e = omega arith
refusals_have_numbers NoDrawing e = omega arith
refusals_have_numbers NotFinite e = omega arith
refusals_have_numbers Width e = omega arith
refusals_have_numbers Fill e = omega arith
refusals_have_numbers Full e = omega arith
refusals_have_numbers NoneLeft e = omega arith
refusals_have_numbers FiguresFull e = omega arith

-- what a ladder refuses, a longer one refuses too
pub refused_so_far : (a b : List Rung) (r : Refusal) → number r ≡ first_of a → number r ≡ first_of (a ++ b)
refused_so_far a b r e = first_is (a ++ b) (number r) (stopped a b (number r) e (refusals_have_numbers r))

-- where a ladder refuses nothing, what is asked below it decides
pub asked_further : (a b : List Rung) → T (numbered a) → 0 ≡ first_of a → {k : ℕ} → k ≡ first_of b → k ≡ first_of (a ++ b)
asked_further a b t e {k} f = first_is (a ++ b) k (onward a b k t (sym e) (found b k f))

-- and where there is no room it refuses for that
module _ (l : List Rung) (t : T (numbered l)) (e : 0 ≡ first_of l) (b : Bool) where
  pub no_room : b ≡ false → 5 ≡ first_of (l ++ room b)
  no_room f = first_is (l ++ room b) 5 (onward l (room b) 5 t (sym e) (here (ap not f)))

  pub roomy : b ≡ true → 0 ≡ first_of (l ++ room b)
  roomy f = first_is (l ++ room b) 0 (onward l (room b) 0 t (sym e) (past (ap not f) foot))

-- an answer that is no error has the number 0, and one that is has another
pub told_by : {A : Type 0} (x : Result A Refusal) → (is_err x ≡ true → told x ≡ 0 → ⊥) × (is_err x ≡ false → told x ≡ 0)
told_by (Ok a) = ((λ e. absurd (true≢false (sym e))), λ e. refl)
told_by (Err r) = ((λ e. refusals_have_numbers r), λ e. absurd (true≢false e))
