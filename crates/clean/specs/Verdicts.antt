-- Whether a contour is simple, and whether it has no spikes.
use Rattle.std.specs.Prelude.{Bool, not, ◌&&◌, List, leb, length, ℤ}
use Rattle.grid.specs.Limits.{limit}
use Rattle.grid.specs.declared.Point.{Point}
use Rattle.replies.specs.declared.Verdict.{Verdict}
use Rattle.grid.specs.Points.{points}
use Rattle.grid.specs.Corners.{distinct_neighbours, corners, some, aligned_at, reverses_at}
use Rattle.replies.specs.Ladder.{first_of}
use Rattle.grid.specs.Domain.{domain}
use Rattle.replies.specs.Verdicts.{verdict}
use Rattle.ring.specs.declared.Rule.{Rule}
use Rattle.ring.specs.declared.Rule.TheVariants.{Collinear, Spike}

-- three or more points, and no vertex whose two edges have cross 0
unfoldable pub is_simple : List Point → Bool
is_simple l = leb 3 (length l) && not (some aligned_at (corners l))

-- a contour without equal neighbours: three or more points, and no vertex has cross 0 with dot below 0
unfoldable pub spike_free_distinct : List Point → Bool
spike_free_distinct l = leb 3 (length l) && not (some reverses_at (corners l))

-- three or more points; free of spikes where equal neighbours are skipped
unfoldable pub no_spikes : List Point → Bool
no_spikes l = leb 3 (length l) && spike_free_distinct (distinct_neighbours l)

-- the verdict that goes with a rule
abbrev pub passes : Rule → List Point → Bool
passes Collinear l = is_simple l
passes Spike l = no_spikes l

-- the answers
unfoldable pub simple : List ℤ → Verdict
simple row = verdict (first_of (domain limit row)) (is_simple (points row))

unfoldable pub spike_free : List ℤ → Verdict
spike_free row = verdict (first_of (domain limit row)) (no_spikes (points row))
