-- `drawing::inner::putting::contour` meets its contract: the kinds are written one behind the other.
use mathlib.Core.Path.{◌≡◌, sym, ap, ◌∙◌}
use Prim.Native.Nat.{ℕ, ◌+◌}
use native.Mathlib.Omega.{arith}
use lib.ListN.{length, length-set}
use Rattle.rows.specs.Rows.{placed}
use Rattle.rows.proofs.PlacedLaws.{placed_none}
use Rattle.drawing.specs.inside.Rows.{contour_kinds}
use Rattle.drawing.proofs.PutLaws.{one_some, contour-length, contour_room, contour_put}
use Rattle.drawing.proofs.inner.putting.contour.Goals as goal

pub returns-then-n-eq0 : goal.returns-then-n-eq0
unfolding contour_kinds
returns-then-n-eq0 c =
    let s = c.args in
    let none : length (contour_kinds s.n) ≡ 0 = ap (λ (k : ℕ). length (contour_kinds k)) c.if-n-eq0.true in
    let same = ap (λ (k : ℕ). placed s.at (contour_kinds k) s.kinds.now) (sym c.if-n-eq0.true) in
    (omega arith, sym (placed_none s.kinds.now s.at) ∙ same)

pub bounds-kinds-at : goal.bounds-kinds-at
bounds-kinds-at c = omega (arith, contour_room c.args.kinds.now c.args.at c.args.n c.if-n-eq0.false c.requires)

pub lines-requires : goal.lines-requires
lines-requires c = simp length-set (omega (arith, contour_room c.args.kinds.now c.args.at c.args.n c.if-n-eq0.false c.requires))

pub overflow_add-kinds : goal.overflow_add-kinds
overflow_add-kinds c =
    omega (arith, contour_room c.args.kinds.now c.args.at c.args.n c.if-n-eq0.false c.requires, c.well_formed)

pub bounds-kinds-at-2 : goal.bounds-kinds-at-2
bounds-kinds-at-2 c =
    let s = c.args in
    omega (arith, contour_room c.args.kinds.now c.args.at c.args.n c.if-n-eq0.false c.requires, c.lines.auto.kinds, length-set s.kinds.now s.at 0)

pub overflow_add-result : goal.overflow_add-result
overflow_add-result c =
    omega (arith, contour_room c.args.kinds.now c.args.at c.args.n c.if-n-eq0.false c.requires, c.well_formed)

pub overflow_add-result-2 : goal.overflow_add-result-2
overflow_add-result-2 c =
    omega (arith, contour_room c.args.kinds.now c.args.at c.args.n c.if-n-eq0.false c.requires, c.well_formed)

pub shape_of-kinds : goal.shape_of-kinds
shape_of-kinds c =
    let s = c.args in
    length-set c.lines.new.kinds (s.at + s.n) 2 ∙ c.lines.auto.kinds ∙ length-set s.kinds.now s.at 0

pub returns : goal.returns
returns c = (
  omega (arith, contour-length c.args.n, one_some c.args.n c.if-n-eq0.false),
  contour_put c.args.kinds.now c.args.at c.args.n c.if-n-eq0.false c.requires _ c.lines.ensures,
)
