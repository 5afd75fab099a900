-- `path::inner::parity` meets its contract: where no edge changes side, none crosses.
use Rattle.std.proofs.Common.{◌∙◌}
use borrow.Author.Tests.{le-ltb}
use Rattle.path.proofs.ContainsLaws.{changing_first, changing_done}
use Rattle.path.proofs.inner.parity.Goals as goal

pub parity_from-requires : goal.parity_from-requires
parity_from-requires c =
    (c.requires.0, c.requires.2, rw c.before-then-first-n.ensures (changing_first c.args.points.now c.args.p c.requires.0 c.requires.1 c.first_across-first.result c.first_across-first.ensures))

pub returns-else-first-n : goal.returns-else-first-n
returns-else-first-n c =
    le-ltb _ _ c.if-first-n.false
    ∙ changing_done c.args.points.now c.args.p c.requires.0 (changing_first c.args.points.now c.args.p c.requires.0 c.requires.1 c.first_across-first.result c.first_across-first.ensures) c.if-first-n.false
