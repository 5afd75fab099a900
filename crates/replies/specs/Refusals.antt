-- The numbers of the refusals, and what is told of a call that may be refused.
use Rattle.std.specs.Prelude.{ℕ, Result, Ok, Err}
use Rattle.replies.specs.declared.refusal.Refusal.{Refusal}
use Rattle.replies.specs.declared.refusal.Refusal.TheVariants.{Odd, TooMany, OffGrid, Scratch, Room, Ranges, Collapsed, Empty, Edition, Length, NoShape, CantCarry, NoDrawing, NotFinite, Width, Fill, Full, NoneLeft, FiguresFull}

-- the reply number of a refusal
abbrev pub number : Refusal → ℕ
number Odd = 1
number TooMany = 2
number OffGrid = 3
number Scratch = 4
number Room = 5
number Ranges = 6
number Collapsed = 7
number Empty = 8
number Edition = 9
number Length = 10
number NoShape = 11
number CantCarry = 12
number NoDrawing = 13
number NotFinite = 14
number Width = 15
number Fill = 16
number Full = 17
number NoneLeft = 18
number FiguresFull = 21

-- the reply number of an answer: 0 where the call is done
abbrev pub told : {A : Type 0} → Result A Refusal → ℕ
told (Ok a) = 0
told (Err r) = number r
