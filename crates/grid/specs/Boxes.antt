-- Boxes: four points whose edges run along the axes, by turns.
use Rattle.std.specs.Prelude.{Bool, not, ◌&&◌, ◌||◌, List, ℤ, pos, ◌==◌}
use Rattle.integers.specs.Equal.{eq_z}
use Rattle.grid.specs.declared.Edge.{Edge}
use Rattle.grid.specs.Points.{at}
use Rattle.grid.specs.Edges.{between, still}
use Rattle.grid.specs.Domain.{count}

-- an edge along the x axis; one that is still runs along both
abbrev pub along_x : Edge → Bool
along_x u = eq_z u.dy (pos 0)

-- along the y axis
abbrev pub along_y : Edge → Bool
along_y u = eq_z u.dx (pos 0)

-- none of four edges is still
abbrev pub none_still : Edge → Edge → Edge → Edge → Bool
none_still u v w z = (not (still u) && not (still v)) && (not (still w) && not (still z))

-- they run along the x axis and along the y axis, by turns, and none is still
unfoldable pub by_turns : Edge → Edge → Edge → Edge → Bool
by_turns u v w z = along_x u && (along_y v && (along_x w && (along_y z && none_still u v w z)))

-- the closed edges of a row's first four points run so, beginning along either axis
unfoldable pub four_by_turns : List ℤ → Bool
four_by_turns row =
    let ab = between (at row 0) (at row 1) in
    let bc = between (at row 1) (at row 2) in
    let cd = between (at row 2) (at row 3) in
    let da = between (at row 3) (at row 0) in
    by_turns ab bc cd da || by_turns bc cd da ab

-- a box has four points, and its edges run so
abbrev pub box : List ℤ → Bool
box row = count row == 4 && four_by_turns row
