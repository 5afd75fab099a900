-- `tidy::inner::lines::put` meets its contract: the lines that are left are put from where the loop has come to.
use native.Mathlib.Omega.{arith}
use Rattle.buffer.proofs.PartLaws.{same_numbers}
use Rattle.sets.proofs.BehindLaws.{named_contour}
use Rattle.tidy.proofs.LineLaws.{telling_none, telling_room, telling_more, telling_all}
use Rattle.tidy.proofs.inner.lines.put.Goals as goal

pub loop-i-init : goal.loop-i-init
loop-i-init c = telling_none _ _ _ _ c.requires.ranges_in_bounds

pub named-own-requires : goal.named-own-requires
named-own-requires c = c.requires.named.0.names _ (omega (arith, c.requires.named.1))

pub put_line-behind-requires : goal.put_line-behind-requires
put_line-behind-requires c =
    let l = c.loop-i in
    record {
      contour = rw (same_numbers c.named-own.ensures) (named_contour c.args.points.now c.args.ranges.now c.requires.named.0 l.i (omega (arith, c.requires.named.1)));
      contour_in_bounds = rw (same_numbers c.named-own.ensures) (telling_room l.invariant c.requires.named.1 (omega (arith, c.requires.named.1)));
    }

pub loop-i-preserved : goal.loop-i-preserved
loop-i-preserved c =
    telling_more c.loop-i.invariant c.requires.named.1 (omega (arith, c.requires.named.1)) (rw (same_numbers c.named-own.ensures) at c.put_line-behind.ensures)

pub shape_of-text : goal.shape_of-text
shape_of-text c = c.loop-i.invariant.going.long

pub returns : goal.returns
returns c = telling_all c.loop-i.invariant c.requires.named.1 (omega (arith, c.requires.named.1))
