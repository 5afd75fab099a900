-- `grid::inner::cross` meets its contract: products of edges are small enough to be subtracted.
use Rattle.std.proofs.Common.{w64}
use Rattle.integers.proofs.Bound.{in_fits, in_sub, in_mul, back, back_in}
use Rattle.grid.specs.Limits.{limit}
use Rattle.grid.specs.Edges.{cross}
use Rattle.grid.proofs.inner.cross.Goals as goal

pub overflow_mul-result : goal.overflow_mul-result
unfolding limit
overflow_mul-result c =
    let s = c.requires in
    in_fits (in_mul (back_in w64 s.ux_in tt) (back_in w64 s.vy_in tt)) tt

pub overflow_mul-result-2 : goal.overflow_mul-result-2
unfolding limit
overflow_mul-result-2 c =
    let s = c.requires in
    in_fits (in_mul (back_in w64 s.uy_in tt) (back_in w64 s.vx_in tt)) tt

pub overflow_sub-result : goal.overflow_sub-result
unfolding limit
overflow_sub-result c =
    let s = c.requires in
    in_fits
    (in_sub
    (back_in w64 (in_mul (back_in w64 s.ux_in tt) (back_in w64 s.vy_in tt)) tt)
    (back_in w64 (in_mul (back_in w64 s.uy_in tt) (back_in w64 s.vx_in tt)) tt)) tt

pub returns : goal.returns
unfolding limit cross
returns c =
    let s = c.requires in
    let p = in_mul s.ux_in s.vy_in in
    let q = in_mul s.uy_in s.vx_in in
    simp (back w64 s.ux_in tt, back w64 s.uy_in tt, back w64 s.vx_in tt, back w64 s.vy_in tt, back w64 p tt, back w64 q tt, back w64 (in_sub p q) tt)
