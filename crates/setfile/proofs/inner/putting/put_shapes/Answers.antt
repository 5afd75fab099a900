-- `setfile::inner::putting::put_shapes` meets its contract: the shapes that are left are written behind what is written.
use Rattle.std.proofs.Common.{arith}
use Rattle.std.specs.Option.{is_some}
use Rattle.setfile.proofs.WriteLaws.{none_inked, bits_room, bits_inked, all_inked}
use Rattle.setfile.proofs.PutLaws.{fewer}
use Rattle.setfile.proofs.CodedLaws.{next_shape, no_shape}
use Rattle.setfile.proofs.inner.putting.put_shapes.Goals as goal

pub loop-from-init : goal.loop-from-init
loop-from-init c = let pre = c.requires.3 in (none_inked _ _ _ pre.small pre.room, pre.few)

pub put_shape-behind-requires : goal.put_shape-behind-requires
put_shape-behind-requires c =
    let v = c.loop-from.invariant in
    let h = c.loop-from-test.true in (
      λ k l. c.requires.0 k (omega (arith, l, c.requires.1 c.loop-from.from-index h)),
      fewer c.args.widths c.args.points.now c.args.contours.now c.requires.2 (c.requires.1 c.loop-from.from-index h),
      record {
        small = v.0.wrote.small;
        few = v.1;
        room = bits_room v.0 (next_shape (is_some c.args.widths) c.args.points.now c.args.contours.now c.args.shapes.now c.loop-from.from-index h);
      },
    )

pub loop-from-preserved : goal.loop-from-preserved
loop-from-preserved c =
    let s = c.args in (
      bits_inked c.loop-from.invariant.0 (next_shape (is_some s.widths) s.points.now s.contours.now s.shapes.now c.loop-from.from-index c.loop-from-test.true)
          c.put_shape-behind.ensures.wrote,
      c.put_shape-behind.ensures.few,
    )

pub returns : goal.returns
returns c =
    let s = c.args in
    let v = c.loop-from.invariant in
    record {
      wrote = all_inked v.0 (no_shape (is_some s.widths) s.points.now s.contours.now s.shapes.now c.loop-from.from-index (omega arith));
      few = v.1;
    }
