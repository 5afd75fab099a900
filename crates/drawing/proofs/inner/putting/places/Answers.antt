-- `drawing::inner::putting::places` meets its contract: the places of the points so far stand in front of the row.
use mathlib.Core.Path.{◌≡◌, ap, ◌∙◌}
use mathlib.Core.List.{List, map}
use Prim.Native.Nat.{ℕ, ◌+◌, ◌*◌, ◌/◌, ◌%◌}
use native.Mathlib.Omega.{arith}
use lib.ListN.{length, take}
use lib.Seq.{take-length}
use lib.IntN.{ℤ}
use Rattle.rows.specs.Rows.{front}
use Rattle.millimetres.specs.Scale.{millimetres}
use Rattle.drawing.proofs.PutLaws.{floats_more}
use Rattle.drawing.proofs.inner.putting.places.Goals as goal

pub loop-k-preserved : goal.loop-k-preserved
loop-k-preserved c =
    let s = c.args in
    let k = c.loop-k.k in
    c.some_places.ensures
    ∙ floats_more s.points.now s.floats.now c.loop-k.floats (2 * (16 * k)) (2 * 16) (2 * (16 * (k + 1)))
    (omega (arith, c.loop-k-test.true)) (omega arith) c.loop-k.invariant

pub returns : goal.returns
returns c =
    let points = c.args.points.now in
    let floats = c.args.floats.now in
    let n = length points / 2 in
    let k : c.loop-k.k ≡ n / 16 = omega arith in
    c.some_places-2.ensures
    ∙ floats_more points floats c.loop-k.floats (2 * (16 * (n / 16))) (2 * (n % 16)) (length points)
    (omega arith) (omega (arith, c.requires.0))
    (c.loop-k.invariant ∙ ap (λ (j : ℕ). front (map millimetres (take (2 * (16 * j)) points)) floats) k)
    ∙ ap (λ (l : List ℤ). front (map millimetres l) floats) (take-length points)
