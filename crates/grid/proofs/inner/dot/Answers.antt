-- `grid::inner::dot` meets its contract: products of edges are small enough to be added.
use Rattle.std.proofs.Common.{w64}
use Rattle.integers.proofs.Bound.{in_fits, in_add, in_mul, back, back_in}
use Rattle.grid.specs.Limits.{limit}
use Rattle.grid.specs.Edges.{dot}
use Rattle.grid.proofs.inner.dot.Goals as goal

pub overflow_mul-result : goal.overflow_mul-result
unfolding limit
overflow_mul-result c =
    let s = c.requires in
    in_fits (in_mul (back_in w64 s.ux_in tt) (back_in w64 s.vx_in tt)) tt

pub overflow_mul-result-2 : goal.overflow_mul-result-2
unfolding limit
overflow_mul-result-2 c =
    let s = c.requires in
    in_fits (in_mul (back_in w64 s.uy_in tt) (back_in w64 s.vy_in tt)) tt

pub overflow_add-result : goal.overflow_add-result
unfolding limit
overflow_add-result c =
    let s = c.requires in
    in_fits
    (in_add
    (back_in w64 (in_mul (back_in w64 s.ux_in tt) (back_in w64 s.vx_in tt)) tt)
    (back_in w64 (in_mul (back_in w64 s.uy_in tt) (back_in w64 s.vy_in tt)) tt)) tt

pub returns : goal.returns
unfolding limit dot
returns c =
    let s = c.requires in
    let p = in_mul s.ux_in s.vx_in in
    let q = in_mul s.uy_in s.vy_in in
    simp (back w64 s.ux_in tt, back w64 s.uy_in tt, back w64 s.vx_in tt, back w64 s.vy_in tt, back w64 p tt, back w64 q tt, back w64 (in_add p q) tt)
