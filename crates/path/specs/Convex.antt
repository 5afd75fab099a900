-- Whether a contour is convex.
use Rattle.std.specs.Prelude.{Bool, not, ◌&&◌, ◌||◌, List, leb, length, ℤ}
use Rattle.grid.specs.Limits.{limit}
use Rattle.grid.specs.declared.Point.{Point}
use Rattle.replies.specs.declared.Verdict.{Verdict}
use Rattle.grid.specs.Points.{points}
use Rattle.grid.specs.Corners.{distinct_neighbours, Corner, corners, some, left_at, right_at, reverses_at}
use Rattle.replies.specs.Ladder.{first_of}
use Rattle.grid.specs.Domain.{domain}
use Rattle.replies.specs.Verdicts.{verdict}

-- all non-zero turns have one sign, and no edge reverses
abbrev pub one_way : List Corner → Bool
one_way ks = not (some left_at ks && some right_at ks) && not (some reverses_at ks)

-- a contour without equal neighbours: at most two points, or all its corners turn one way
unfoldable pub convex_distinct : List Point → Bool
convex_distinct l = leb (length l) 2 || one_way (corners l)

-- at most two points, or convex where equal neighbours are skipped
unfoldable pub is_convex : List Point → Bool
is_convex l = leb (length l) 2 || convex_distinct (distinct_neighbours l)

-- the answer
unfoldable pub convex : List ℤ → Verdict
convex row = verdict (first_of (domain limit row)) (is_convex (points row))
