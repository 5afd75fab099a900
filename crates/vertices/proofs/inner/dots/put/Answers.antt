-- `vertices::inner::dots::put` meets its contract: those of the vertices ahead are left.
use mathlib.Core.Path.{◌≡◌, sym, ◌∙◌, ap, subst}
use mathlib.Core.Bool.{false}
use mathlib.Core.List.{List}
use Prim.Native.Nat.{ℕ, ◌+◌, ◌*◌, ◌≤◌, ◌<◌}
use native.Mathlib.Omega.{arith}
use lib.Dec.{ltb}
use lib.ListN.{length, get_or}
use lib.IntN.{ℤ}
use Rattle.grid.specs.declared.Point.{Point}
use Rattle.grid.specs.Limits.{limit}
use Rattle.grid.specs.Points.{at as point_at, origin, points}
use Rattle.grid.proofs.PointLaws.{at_on}
use Rattle.report.specs.inside.Lines.{Put}
use Rattle.vertices.specs.Vertices.{Vertex, vertices, dot_if}
use Rattle.vertices.specs.inside.Marks.{survive}
use Rattle.vertices.proofs.WritingLaws.{writing_none, writing_room, writing_more, writing_all}
use Rattle.vertices.proofs.DotLaws.{vertex, marked-length, marked_at}
use Rattle.vertices.proofs.inner.dots.put.Goals as goal

-- the vertex that is met
met : (row : List ℤ) (mark : List ℕ) → length row ≡ 2 * length mark → (i : ℕ) → i < length mark → {p : Point} → p ≡ point_at row i
    → get_or (vertices (survive mark) (points row)) i (vertex origin false) ≡ vertex p (ltb (get_or mark i 0) 2)
met row mark h i l e =
    marked_at row mark h i (vertex origin false) l ∙ ap (λ (p : Point). vertex p (ltb (get_or mark i 0) 2)) (sym e)

pub loop-i-init : goal.loop-i-init
loop-i-init c = writing_none (dot_if c.args.kept) _ _ _ c.requires.points_in_bounds

pub put_vertex-behind-requires : goal.put_vertex-behind-requires
put_vertex-behind-requires c =
    let l = c.loop-i in
    let s = c.args in
    let h = c.requires.points_value.1 in
    let is = met s.points.now s.mark.now h l.i c.loop-i-test.true c.point_at-p.ensures in (
      rw c.point_at-p.ensures (at_on limit s.points.now l.i c.requires.points_value.0),
      subst (λ (v : Vertex). l.behind + length (dot_if s.kept v) ≤ length l.text) is
          (writing_room (dot_if s.kept) l.invariant (vertex origin false) (omega (arith, c.loop-i-test.true, marked-length s.points.now s.mark.now h))),
    )

pub loop-i-preserved : goal.loop-i-preserved
loop-i-preserved c =
    let l = c.loop-i in
    let s = c.args in
    let h = c.requires.points_value.1 in
    let is = met s.points.now s.mark.now h l.i c.loop-i-test.true c.point_at-p.ensures in
    writing_more (dot_if s.kept) l.invariant (vertex origin false) (omega (arith, c.loop-i-test.true, marked-length s.points.now s.mark.now h))
    (subst (λ (v : Vertex). Put l.behind (dot_if s.kept v) l.text c.put_vertex-behind.result c.put_vertex-behind.new.text) (sym is) c.put_vertex-behind.ensures)

pub returns : goal.returns
returns c =
    writing_all (dot_if c.args.kept) c.loop-i.invariant (omega (arith, c.loop-i-test.false, marked-length c.args.points.now c.args.mark.now c.requires.points_value.1))
