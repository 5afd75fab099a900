-- `grid::inner::boxes::four_by_turns` meets its contract: its edges begin along one axis, or along the other.
use Rattle.std.proofs.Common.{◌≡◌, ◌∙◌, true, false}
use Rattle.grid.specs.Points.{at}
use Rattle.grid.specs.Boxes.{by_turns}
use Rattle.grid.proofs.BoxLaws.{closed, ab, bc, cd, da, begins_x, begins_y}
use Rattle.grid.proofs.inner.boxes.four_by_turns.Goals as goal

-- the four edges, in the order of the contour
pub by_turns-requires : goal.by_turns-requires
by_turns-requires c =
    let row = c.args.points.now in
    rw (c.edge_at-da.ensures, c.edge_at-cd.ensures, c.edge_at-bc.ensures, c.edge_at-ab.ensures)
    (closed (at row 0) (at row 1) (at row 2) (at row 3))

pub by_turns-requires-else-by_turns : goal.by_turns-requires-else-by_turns
by_turns-requires-else-by_turns c =
    let row = c.args.points.now in
    rw (c.edge_at-da.ensures, c.edge_at-cd.ensures, c.edge_at-bc.ensures, c.edge_at-ab.ensures)
    (closed (at row 1) (at row 2) (at row 3) (at row 0))

pub returns-then-by_turns : goal.returns-then-by_turns
returns-then-by_turns c =
    let row = c.args.points.now in
    let first : by_turns (ab row) (bc row) (cd row) (da row) ≡ true = cc in
    c.if-by_turns.true ∙ begins_x row first

pub returns-else-by_turns : goal.returns-else-by_turns
returns-else-by_turns c =
    let row = c.args.points.now in
    let first : by_turns (ab row) (bc row) (cd row) (da row) ≡ false = cc in
    let second : c.by_turns-else-by_turns.result ≡ by_turns (bc row) (cd row) (da row) (ab row) = cc in
    second ∙ begins_y row first
