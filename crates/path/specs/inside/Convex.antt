-- What the corners have shown.
use Rattle.std.specs.Prelude.{Bool, not, ◌&&◌, ◌||◌, pos, negsuc}
use Rattle.integers.specs.Equal.{eq_z}
use Rattle.grid.specs.declared.Edge.{Edge}
use Rattle.grid.specs.Edges.{turn, reverses}
use Rattle.path.specs.declared.inner.Seen.{Seen}

-- what is seen with the corner between two edges
abbrev pub looked : Seen → Edge → Edge → Seen
looked s u v = record {
  left = s.left || eq_z (turn u v) (pos 1);
  right = s.right || eq_z (turn u v) (negsuc 0);
  reversed = s.reversed || reverses u v;
}

-- not both ways were seen, and no edge that reverses
abbrev pub one_sided : Seen → Bool
one_sided s = not (s.left && s.right) && not s.reversed
