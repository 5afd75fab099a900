-- `drawing::inner::putting::contours` meets its contract: the kinds of the contours so far stand in front of the row.
use mathlib.Core.Path.{refl, ap, ◌∙◌}
use mathlib.Core.List.{[]}
use native.Mathlib.Omega.{arith}
use lib.ListN.{length, get_or, take, length-append}
use Rattle.buffer.specs.Spans.{span, spans, size}
use Rattle.buffer.specs.Sets.{joined}
use Rattle.drawing.specs.inside.Rows.{contour_kinds, set_kinds}
use Rattle.drawing.proofs.PutLaws.{kinds_more, kinds_within, kinds_put}
use Rattle.drawing.proofs.inner.putting.contours.Goals as goal

pub loop-r-init : goal.loop-r-init
unfolding joined
loop-r-init c = (refl, refl)

pub contour-at-requires : goal.contour-at-requires
contour-at-requires c = omega (arith, kinds_within c.args.ranges.now c.loop-r.r-index c.loop-r-test.true, c.requires.1)

pub loop-r-preserved : goal.loop-r-preserved
loop-r-preserved c =
    let s = c.args in
    let ranges = s.ranges.now in
    let i = c.loop-r.r-index in
    let done = c.contour-at.ensures in
    let more = kinds_more ranges i c.loop-r-test.true in
    let long = length-append (set_kinds (take i (spans ranges))) (contour_kinds (size (span (get_or ranges i [])))) in (
      omega (arith, done.0, c.loop-r.invariant.0, ap length more, long),
      done.1
          ∙ kinds_put ranges i c.loop-r-test.true s.kinds.now c.loop-r.kinds c.loop-r.at
          c.loop-r.invariant.1 c.loop-r.invariant.0,
    )
