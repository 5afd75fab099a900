-- `drawing::inner::judging::fault` meets its contract.
use mathlib.Core.Path.{sym, ap₂, ◌∙◌}
use mathlib.Core.Bool.{Bool}
use Prim.Native.Nat.{ℕ}
use Rattle.replies.specs.Ladder.{first_of}
use Rattle.drawing.specs.declared.command.Command.{Command}
use Rattle.drawing.specs.Commands.Item.{command}
use Rattle.drawing.specs.Faults.{faults}
use Rattle.drawing.proofs.inner.judging.fault.Goals as goal

-- the number of a command, where a contour is open or not
abbrev number : Bool → Command → ℕ
number opened k = first_of (faults opened (command k))

pub returns-then-opened : goal.returns-then-opened
unfolding first_of
returns-then-opened c = c.place_fault-then-opened.ensures ∙ ap₂ number (sym c.if-opened.true) (sym c.in-Line.is)

pub returns-else-opened : goal.returns-else-opened
unfolding first_of
returns-else-opened c = ap₂ number (sym c.if-opened.false) (sym c.in-Line.is)

pub returns-then-opened-2 : goal.returns-then-opened-2
unfolding first_of
returns-then-opened-2 c = ap₂ number (sym c.if-opened-2.true) (sym c.in-Close.is)

pub returns-else-opened-2 : goal.returns-else-opened-2
unfolding first_of
returns-else-opened-2 c = ap₂ number (sym c.if-opened-2.false) (sym c.in-Close.is)
