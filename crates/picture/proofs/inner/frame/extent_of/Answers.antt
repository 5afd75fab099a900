-- `picture::inner::frame::extent_of` meets its contract: the points passed make an extent that those ahead make that of all.
use mathlib.Core.Path.{sym, ◌∙◌, ap, subst}
use Prim.Native.Nat.{◌+◌, ◌/◌}
use native.Mathlib.Omega.{arith}
use lib.ListN.{length}
use Rattle.grid.specs.Limits.{limit}
use Rattle.grid.proofs.PointLaws.{at_on}
use Rattle.picture.specs.declared.inner.frame.Extent.{Extent}
use Rattle.picture.specs.Frame.{widened}
use Rattle.picture.proofs.ExtentLaws.{origin_on, Widening, widening_none, widening_first, widening_more, widening_all}
use Rattle.picture.proofs.inner.frame.extent_of.Goals as goal

pub returns-then-n-eq0 : goal.returns-then-n-eq0
returns-then-n-eq0 c =
    (sym (widening_none c.requires c.if-n-eq0.true), (origin_on, origin_on))

pub loop-i-init : goal.loop-i-init
loop-i-init c =
    rw c.point_at-first.ensures (widening_first c.requires (omega (arith, c.if-n-eq0.false)))

pub widened-e-requires : goal.widened-e-requires
widened-e-requires c =
    (c.loop-i.invariant.on, rw c.point_at.ensures (at_on limit c.args.points.now c.loop-i.i c.requires.on))

pub loop-i-preserved : goal.loop-i-preserved
loop-i-preserved c =
    subst (λ (x : Extent). Widening c.args.points.now (length c.args.points.now / 2) x (c.loop-i.i + 1))
    (sym (c.widened-e.ensures ∙ ap (widened c.loop-i.e) c.point_at.ensures)) (widening_more c.requires c.loop-i.invariant c.loop-i-test.true)

pub returns : goal.returns
returns c =
    (widening_all c.requires c.loop-i.invariant (omega arith), c.loop-i.invariant.on)
