-- `picture::inner::frame::put_offset` meets its contract: both numbers of the edge to the origin.
use mathlib.Core.Path.{◌≡◌, sym, ◌∙◌, ap, ap₂}
use mathlib.Core.List.{List, [], ◌∷◌, ◌++◌}
use Prim.Native.Nat.{ℕ, ◌+◌, ◌≤◌}
use lib.ListN.{length}
use lib.IntN.{ℤ, pos}
use mir.Syntax.{w32, w64}
use mir.Val.{to_z, of_z}
use Rattle.integers.proofs.Logic.{and_both}
use Rattle.grid.specs.declared.Edge.{Edge}
use Rattle.grid.specs.Limits.{limit}
use Rattle.grid.specs.Points.{origin}
use Rattle.grid.specs.Edges.{between}
use Rattle.grid.proofs.PointLaws.{x_on, y_on, passed, gone}
use Rattle.report.specs.Text.{signed, space}
use Rattle.report.proofs.PutLaws.{Going, going_none, going_room, going_more, going_all, three_words}
use Rattle.picture.specs.declared.inner.frame.Extent.{Extent}
use Rattle.picture.specs.inside.Parts.{On, offset}
use Rattle.picture.proofs.ExtentLaws.{origin_on, apart_back}
use Rattle.picture.proofs.inner.frame.put_offset.Goals as goal

-- the numbers are to be put
going : (e : Extent) (by : Edge) (at : ℕ) (text : List ℕ) → On e
    → by ≡ between (record { x = to_z w32 (of_z w32 e.low.x); y = to_z w32 (of_z w32 e.high.y) }) origin
    → at + length (offset e) ≤ length text
    → Going at (offset e) text at text (signed (to_z w64 (of_z w64 by.dx)) ∷ space ∷ signed (to_z w64 (of_z w64 by.dy)) ∷ [])
going e by at text k is h =
    let x = x_on limit _ k.0 in
    let y = y_on limit _ k.1 in
    let x₀ = x_on limit _ origin_on in
    let y₀ = y_on limit _ origin_on in
    going_none at text _
    (ap₂ (λ (a b : ℤ). signed a ++ space ++ signed b)
    (sym (apart_back _ (pos 0) _ x x₀ (gone _ (pos 0) x x₀ (ap (λ (u : Edge). u.dx) is))))
    (sym (apart_back _ (pos 0) _ y y₀ (gone _ (pos 0) y y₀ (ap (λ (u : Edge). u.dy) is))))
    ∙ three_words _ _ _)
    h

pub between-by-requires : goal.between-by-requires
between-by-requires c =
    let k = c.requires.0 in
    let p = passed _ _ (x_on limit _ k.0) (y_on limit _ k.1) in
    (and_both _ _ p.0 p.1, origin_on)

pub put_signed-requires : goal.put_signed-requires
put_signed-requires c =
    going_room (going_more (going_more (going c.args.e _ _ _ c.requires.0 c.between-by.ensures c.requires.1) c.put_signed-second.ensures) c.put-third.ensures)

pub returns : goal.returns
returns c =
    going_all (going_more (going_more (going_more (going c.args.e _ _ _ c.requires.0 c.between-by.ensures c.requires.1) c.put_signed-second.ensures) c.put-third.ensures) c.put_signed.ensures)
