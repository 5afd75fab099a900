-- What is asked of edges.
use Rattle.std.specs.Prelude.{◌≡◌, ℕ, ◌*◌, pos, ◌+ℤ◌}
use Rattle.integers.specs.Bound.{In}
use Rattle.grid.specs.declared.Edge.{Edge}

-- each is in x and in y no longer than from one side of a grid to the other
pub record Short (bound : ℕ) (u v : Edge) : Type 0 where
  pub ux_in : In (2 * bound) u.dx
  pub uy_in : In (2 * bound) u.dy
  pub vx_in : In (2 * bound) v.dx
  pub vy_in : In (2 * bound) v.dy

-- four edges that lead back to where the first began
pub record Closed (u v w z : Edge) : Type 0 where
  pub back_x : u.dx +ℤ v.dx +ℤ w.dx +ℤ z.dx ≡ pos 0
  pub back_y : u.dy +ℤ v.dy +ℤ w.dy +ℤ z.dy ≡ pos 0
