-- `drawing::command::brought` meets its contract.
use mathlib.Core.Path.{sym}
use Rattle.drawing.proofs.CommandLaws.{brought_two, brought_none}
use Rattle.drawing.proofs.command.brought.Goals as goal

pub returns-then-kind-lt-CLOSE : goal.returns-then-kind-lt-CLOSE
returns-then-kind-lt-CLOSE c = sym (brought_two _ c.if-kind-lt-CLOSE.true)

pub returns-else-kind-lt-CLOSE : goal.returns-else-kind-lt-CLOSE
returns-else-kind-lt-CLOSE c = sym (brought_none _ c.if-kind-lt-CLOSE.false)
