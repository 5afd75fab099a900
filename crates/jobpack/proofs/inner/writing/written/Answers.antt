-- `jobpack::inner::writing::written` meets its contract: by the writer of the edition, for which there is room.
use mathlib.Core.Path.{◌∙◌}
use mathlib.Core.Bool.{true, false}
use Rattle.jobpack.proofs.PackLaws.{writer_told}
use Rattle.jobpack.proofs.inner.writing.written.Goals as goal

pub returns-then-second : goal.returns-then-second
returns-then-second c = rw c.if-second.true (c.write_2.ensures ∙ writer_told _ _ _ _ true c.requires)

pub returns : goal.returns
returns c = rw c.if-second.false (c.write.ensures ∙ writer_told _ _ _ _ false c.requires)
