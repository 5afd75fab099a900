-- What each position of a contour adds to the doubled area.
use Rattle.std.specs.Prelude.{ℕ, List, ℤ, ◌-ℤ◌, ◌*ℤ◌}
use Rattle.grid.specs.Points.{at}

-- the x of a position, times how far y goes from the position before it to the one after it
abbrev pub share : List ℤ → ℕ → ℕ → ℕ → ℤ
share row a b c = (at row b).x *ℤ ((at row c).y -ℤ (at row a).y)
