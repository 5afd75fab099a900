-- What an export answers, and what it leaves in the rows that are lent to it.
use Rattle.std.specs.Prelude.{Result, Ok, Err, Bool, ◌&&◌, List, [], ◌∷◌, ◌++◌, map, ℕ, zero, suc, leb, length, ℤ, Float}
use Rattle.grid.specs.declared.Point.{Point}
use Rattle.grid.specs.Points.{points}
use Rattle.replies.specs.Ladder.{Rung, first_of, room}
use Rattle.grid.specs.Domain.{count}
use Rattle.rows.specs.Rows.{front}
use Rattle.buffer.specs.Spans.{spans, sound}
use Rattle.buffer.specs.Refusals.{set}
use Rattle.buffer.specs.Sets.{joined, contours}
use Rattle.grid.specs.Limits.{narrow}
use Rattle.millimetres.specs.Scale.{millimetres}
use Rattle.replies.specs.declared.refusal.Refusal.{Refusal}
use Rattle.replies.specs.Refusals.{number}
use Rattle.drawing.specs.declared.answer.Sizes.{Sizes}
use Rattle.drawing.specs.declared.answer.Drawn.{Drawn}
use Rattle.drawing.specs.declared.command.Place.{Place}
use Rattle.drawing.specs.declared.command.Command.{Command}
use Rattle.drawing.specs.declared.command.Command.TheVariants.{Move, Line, Close}
use Rattle.drawing.specs.Commands.{kinds_of, floats_of}

-- a point in millimetres
abbrev pub place : Point → Place
place p = record { x = millimetres p.x; y = millimetres p.y }

-- a contour as Move, Lines and Close, and an empty one as nothing
unfoldable pub outline : List Point → List Command
outline [] = []
outline (p ∷ l) = Move (place p) ∷ map (λ (q : Point). Line (place q)) l ++ Close ∷ []

-- the commands of a set
abbrev pub commands : List (List ℤ) → List Command
commands l = joined (map (λ (c : List ℤ). outline (points c)) l)

-- what is refused of a set, in order: 1, 2, 6, and 3 for what is off the narrow grid
abbrev pub refusals : List ℤ → List (List ℕ) → List Rung
refusals p ranges = set narrow p (sound (spans ranges) (count p))

-- the sizes of what was written or its refusal, as C has it
abbrev pub drawn_as : Result Sizes Refusal → Drawn
drawn_as (Ok s) = record { reply = 0; commands = s.commands; floats = s.floats }
drawn_as (Err r) = record { reply = number r; commands = 0; floats = 0 }

-- the answer, and the two rows as they are left
pub record Outcome : Type 0 where
  pub answer : Drawn
  pub kinds : List ℕ
  pub floats : List Float

abbrev pub leaving : Drawn → List ℕ → List Float → Outcome
leaving answer kinds floats = record { answer = answer; kinds = kinds; floats = floats }

-- each of the rows has room for these commands
abbrev pub enough : List Command → List ℕ → List Float → Bool
enough l kinds floats = leb (length (kinds_of l)) (length kinds) && leb (length (floats_of l)) (length floats)

-- by the number of the first refusal: refused, and the rows as they were, or commands in front of them
abbrev pub put : ℕ → List Command → List ℕ → List Float → Outcome
put (suc k) l kinds floats = leaving (record { reply = suc k; commands = 0; floats = 0 }) kinds floats
put zero l kinds floats =
    leaving (record { reply = 0; commands = length (kinds_of l); floats = length (floats_of l) }) (front (kinds_of l) kinds) (front (floats_of l) floats)

-- a set is refused, also for want of room, or its commands are written to the front of the rows
unfoldable pub outcome : List ℤ → List (List ℕ) → List ℕ → List Float → Outcome
outcome p ranges kinds floats =
    let l = commands (contours p (spans ranges)) in
    put (first_of (refusals p ranges ++ room (enough l kinds floats))) l kinds floats
