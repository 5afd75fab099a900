-- `jobread::inner::reading::read` meets its contract: what is left of the text is read from where the loop has come to.
use mathlib.Core.Path.{refl, sym, ◌∙◌, ap}
use Prim.Native.Nat.{◌+◌}
use lib.ListN.{drop}
use Rattle.jobread.specs.Reading.{State, run}
use Rattle.jobread.proofs.RunLaws.{run_next, run_done}
use Rattle.jobread.proofs.inner.reading.read.Goals as goal

pub loop-c-init : goal.loop-c-init
loop-c-init c = (refl, c.requires)

pub step-reader-requires : goal.step-reader-requires
step-reader-requires c = c.loop-c.invariant.1

pub loop-c-preserved : goal.loop-c-preserved
loop-c-preserved c =
    let l = c.loop-c in
    let text = c.args.text.now in
    let kept = c.step-reader.auto in (
      ap (λ (s : State). run s (drop (l.c-index + 1) text)) c.step-reader.ensures ∙ sym (run_next _ text l.c-index c.loop-c-test.true) ∙ l.invariant.0,
      record {
        in_points = kept.points ∙ l.invariant.1.in_points;
        ranges = record { in_contours = kept.contours ∙ l.invariant.1.ranges.in_contours; in_shapes = kept.shapes ∙ l.invariant.1.ranges.in_shapes };
      },
    )

pub shape_of-points : goal.shape_of-points
shape_of-points c = c.loop-c.invariant.1.in_points ∙ sym c.requires.in_points

pub shape_of-contours : goal.shape_of-contours
shape_of-contours c = c.loop-c.invariant.1.ranges.in_contours ∙ sym c.requires.ranges.in_contours

pub shape_of-shapes : goal.shape_of-shapes
shape_of-shapes c = c.loop-c.invariant.1.ranges.in_shapes ∙ sym c.requires.ranges.in_shapes

pub returns : goal.returns
returns c = run_done _ _ _ c.loop-c-test.false ∙ c.loop-c.invariant.0
