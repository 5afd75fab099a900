-- `drawing::inner::putting::some_places` meets its contract: what is written so far grows by a place.
use mathlib.Core.Path.{◌≡◌, sym, ap, ◌∙◌}
use Prim.Native.Nat.{◌+◌, ◌*◌}
use native.Mathlib.Omega.{arith}
use lib.Ieee.{nan}
use Rattle.grid.specs.Points.{at as point_at}
use Rattle.drawing.specs.declared.command.Place.{Place}
use Rattle.drawing.specs.Exporting.{place}
use Rattle.drawing.proofs.FillLaws.{copied_two}
use Rattle.drawing.proofs.PutLaws.{some-length, some_at}
use Rattle.drawing.proofs.inner.putting.some_places.Goals as goal

pub loop-i-preserved : goal.loop-i-preserved
loop-i-preserved c =
    let s = c.args in
    let i = c.loop-i.i in
    let k = s.from + i in
    let points = s.points.now in
    let is : c.place_of-p.result ≡ place (point_at points k) = c.place_of-p.ensures ∙ ap place c.point_at.ensures in
    let h = c.requires.0 in
    let n = some-length points s.from s.n h in
    let first = some_at points s.from s.n h (2 * i) (2 * k) nan (omega (arith, c.loop-i-test.true)) (omega arith) in
    let second = some_at points s.from s.n h (2 * i + 1) (2 * k + 1) nan (omega (arith, c.loop-i-test.true)) (omega arith) in
    copied_two c.loop-i.invariant (omega (arith, c.requires.1)) (omega (arith, c.loop-i-test.true))
    nan _ _ (2 * k) _ (omega arith) (omega arith)
    (ap (λ (p : Place). p.x) is ∙ sym first) (ap (λ (p : Place). p.y) is ∙ sym second)
