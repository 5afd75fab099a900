-- `area::inner::share` meets its contract: the three points are on the grid.
use Rattle.std.proofs.Common.{◌≡◌, ℕ, ◌*◌, true, List, ℤ, w32, w64, to_z, of_z}
use Rattle.integers.specs.Bound.{In}
use Rattle.integers.proofs.Bound.{back_in}
use Rattle.grid.specs.declared.Point.{Point}
use Rattle.grid.specs.declared.Edge.{Edge}
use Rattle.grid.specs.Limits.{limit, on_grid, all_on_grid}
use Rattle.grid.specs.Points.{at}
use Rattle.grid.specs.Edges.{between}
use Rattle.grid.proofs.LimitLaws.{on_grid_back}
use Rattle.grid.proofs.PointLaws.{at_on, x_on, y_on, gap_in}
use Rattle.area.proofs.inner.share.Goals as goal

module _ (row : List ℤ) (on : all_on_grid limit row ≡ true) where
  -- a point's x, as it is passed
  x_passed : (i : ℕ) (p : Point) → p ≡ at row i → on_grid limit (to_z w32 (of_z w32 p.x)) ≡ true
  x_passed i p e = let h = x_on limit (at row i) (at_on limit row i on) in rw e (rw (on_grid_back (at row i).x h) h)

  -- how far y goes along an edge, as it is passed
  rise_in : (a b : ℕ) (v : Edge) → v ≡ between (at row a) (at row b) → In (2 * limit) (to_z w64 (of_z w64 v.dy))
  unfolding limit
  rise_in a b v e =
      rw e
      (back_in w64 (gap_in limit (at row a).y (at row b).y (y_on limit (at row a) (at_on limit row a on)) (y_on limit (at row b) (at_on limit row b on))) tt)

pub product-requires : goal.product-requires
product-requires c =
    let row = c.args.points.now in
    (x_passed row c.requires.on c.args.here _ c.point_at-at.ensures, rise_in row c.requires.on c.args.before c.args.after _ c.edge_at-across.ensures)
