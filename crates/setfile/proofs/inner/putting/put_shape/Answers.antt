-- `setfile::inner::putting::put_shape` meets its contract: the contours that are left, of which only the very first begins the shape.
use Rattle.std.proofs.Common.{Bool, eqb, sym, subst, arith}
use Rattle.std.specs.Option.{is_some}
use Rattle.buffer.proofs.PartLaws.{same_numbers}
use Rattle.setfile.specs.Entries.{entry}
use Rattle.setfile.specs.Editions.{layout}
use Rattle.setfile.specs.inside.Writing.{Penned, Inked}
use Rattle.setfile.proofs.WriteLaws.{none_inked, bits_room, bits_inked, all_inked}
use Rattle.setfile.proofs.CodedLaws.{next_contour, no_contour, first_contour}
use Rattle.setfile.proofs.PutLaws.{width_there, width_kept, width_right}
use Rattle.setfile.proofs.inner.putting.put_shape.Goals as goal

pub loop-k-init : goal.loop-k-init
loop-k-init c =
    let s = c.args in
    let pre = c.requires.2 in
    (rw (first_contour (layout (is_some s.widths)) s.points.now s.ranges.now s.from s.to) (none_inked _ _ _ pre.small pre.room), pre.few)

pub width_at-width-requires : goal.width_at-width-requires
width_at-width-requires c = width_there c.args.widths c.args.points.now c.args.ranges.now c.requires.1 c.loop-k-test.true

pub put_contour-behind-requires : goal.put_contour-behind-requires
put_contour-behind-requires c =
    let s = c.args in
    let l = c.loop-k in
    let v = c.loop-k.invariant in
    let h = c.loop-k-test.true in
    let part = same_numbers c.named-contour.ensures in (
      rw part (c.requires.0 _ h).1,
      width_right s.widths l.k c.width_at-width.ensures s.points.now s.ranges.now c.requires.1 h part,
      subst (λ (b : Bool). Penned b l.behind ((layout b).coded (entry (eqb l.k s.from) c.named-contour.result.now)) l.bytes) (sym (width_kept s.widths l.k c.width_at-width.ensures))
          (record {
            small = v.0.wrote.small;
            few = v.1;
            room = bits_room v.0
                (next_contour (layout (is_some s.widths)) s.points.now s.ranges.now s.from l.k s.to c.loop-k.auto.k h
                (c.requires.0 _ h).0.there _ part);
          }),
    )

pub loop-k-preserved : goal.loop-k-preserved
loop-k-preserved c =
    let s = c.args in
    let l = c.loop-k in
    let h = c.loop-k-test.true in
    let i : Inked (is_some s.widths) l.behind ((layout (is_some s.widths)).coded (entry (eqb l.k s.from) c.named-contour.result.now)) l.bytes c.put_contour-behind.result c.put_contour-behind.new.bytes =
    subst (λ (b : Bool). Inked b l.behind ((layout b).coded (entry (eqb l.k s.from) c.named-contour.result.now)) l.bytes c.put_contour-behind.result c.put_contour-behind.new.bytes)
    (width_kept s.widths l.k c.width_at-width.ensures) c.put_contour-behind.ensures in (
      bits_inked l.invariant.0
          (next_contour (layout (is_some s.widths)) s.points.now s.ranges.now s.from l.k s.to c.loop-k.auto.k h
          (c.requires.0 _ h).0.there _ (same_numbers c.named-contour.ensures))
          i.wrote,
      i.few,
    )

pub returns : goal.returns
returns c =
    let s = c.args in
    let v = c.loop-k.invariant in
    record {
      wrote = all_inked v.0 (no_contour (layout (is_some s.widths)) s.points.now s.ranges.now s.from c.loop-k.k s.to (omega arith));
      few = v.1;
    }
