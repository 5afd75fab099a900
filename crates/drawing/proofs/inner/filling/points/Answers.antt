-- `drawing::inner::filling::points` meets its contract: what is written so far grows by a point.
use mathlib.Core.Path.{◌≡◌, sym, ap, ◌∙◌}
use mathlib.Core.List.{List}
use Prim.Native.Nat.{ℕ, ◌+◌, ◌*◌}
use native.Mathlib.Omega.{arith}
use lib.ListN.{get_or, drop, length-map}
use lib.Seq.{get_or-drop}
use lib.IntN.{pos}
use lib.Ieee.{Float, nan}
use mir.Syntax.{w32}
use mir.Val.{to_z, of_z}
use borrow.Author.Rules.{rules}
use Rattle.grid.specs.declared.Point.{Point}
use Rattle.buffer.proofs.ListLaws.{map_at}
use Rattle.millimetres.specs.Scale.{units}
use Rattle.drawing.specs.Commands.{place_of}
use Rattle.drawing.specs.inside.Rows.{point}
use Rattle.drawing.proofs.FillLaws.{copied_two}
use Rattle.drawing.proofs.inner.filling.points.Goals as goal

-- the two floats from a place on
first : (floats : List Float) (at : ℕ) → get_or (drop at floats) 0 nan ≡ get_or floats at nan
first floats at = let z : at + 0 ≡ at = omega arith in get_or-drop at floats 0 nan ∙ ap (λ (n : ℕ). get_or floats n nan) z

second : (floats : List Float) (at : ℕ) → get_or (drop at floats) 1 nan ≡ get_or floats (at + 1) nan
second floats at = get_or-drop at floats 1 nan

pub loop-i-preserved : goal.loop-i-preserved
loop-i-preserved c =
    let p = c.point_of-p.result in
    let floats = c.args.floats.now in
    let at = 2 * c.loop-i.i in
    let n = length-map floats units in
    let x-back : to_z w32 (of_z w32 p.x) ≡ p.x = search rules in
    let y-back : to_z w32 (of_z w32 p.y) ≡ p.y = search rules in
    let is : p ≡ point (place_of (drop at floats)) = c.point_of-p.ensures ∙ ap point c.place_from.ensures in
    copied_two c.loop-i.invariant (omega (arith, c.requires.1)) (omega arith) (pos 0) _ _ at _ (omega arith) (omega arith)
    (x-back ∙ ap (λ (q : Point). q.x) is ∙ ap units (first floats at) ∙ sym (map_at units floats at (pos 0) nan (omega arith)))
    (y-back ∙ ap (λ (q : Point). q.y) is ∙ ap units (second floats at) ∙ sym (map_at units floats (at + 1) (pos 0) nan (omega arith)))
