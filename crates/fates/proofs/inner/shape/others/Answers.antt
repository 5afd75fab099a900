-- `fates::inner::shape::others` meets its contract: the entries before the position are told.
use Rattle.std.proofs.Common.{◌∙◌, ap, arith}
use Rattle.buffer.proofs.PartLaws.{same_numbers}
use Rattle.fates.specs.Fates.{later}
use Rattle.fates.proofs.FilledLaws.{filled_more, named_walkable}
use Rattle.fates.proofs.inner.shape.others.Goals as goal

pub later-requires : goal.later-requires
later-requires c =
    let long = c.loop-i.auto in
    let rows = c.requires.0.scratch in
    named_walkable _ _ _ c.requires.0.named c.loop-i-test.true _ (same_numbers c.named-own.ensures) _ _ _
    (record { in_next = omega (arith, long.next, rows.in_next); in_prev = omega (arith, long.prev, rows.in_prev); in_mark = omega (arith, long.mark, rows.in_mark) })

pub loop-i-preserved : goal.loop-i-preserved
loop-i-preserved c =
    filled_more c.loop-i.invariant c.requires.0.long c.loop-i-test.true _ (c.later.ensures ∙ ap (later c.args.rule c.args.outline) (same_numbers c.named-own.ensures))
