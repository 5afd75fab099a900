-- `sets::inner::contour::behind` meets its contract: the contour stays behind what is written, or all is as it was.
use Rattle.std.proofs.Common.{arith}
use Rattle.sets.proofs.BehindLaws.{notable, behind_is}
use Rattle.sets.proofs.inner.contour.behind.Goals as goal

pub note-requires : goal.note-requires
note-requires c =
    notable c.args.rule c.args.contour.now c.args.out.now c.args.at c.args.records.now _ _ c.one-cleaned.ensures _ _ _ c.requires (omega arith)

pub returns : goal.returns
returns c =
    behind_is c.args.rule c.args.contour.now c.args.out.now c.args.at c.args.records.now _ _ c.one-cleaned.ensures _ _ c.note.ensures
