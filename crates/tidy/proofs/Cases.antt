-- Worked files.
use mathlib.Core.Path.{◌≡◌, refl}
use mathlib.Core.List.{[], ◌∷◌}
use Rattle.replies.specs.Ladder.{first_of}
use Rattle.grid.specs.Limits.{limit, narrow, most, on_grid, all_on_grid}
use Rattle.integers.specs.Modulo.{mod64}
use Rattle.grid.specs.Points.{points}
use Rattle.grid.specs.Edges.{cross}
use Rattle.grid.specs.Area.{around, exact, wrapped}
use Rattle.grid.specs.Corners.{last, differing, distinct_neighbours, corners_from, corners, some}
use Rattle.bits.specs.Bits.{value, field, bits, bytes}
use Rattle.bits.specs.Signs.{fields, numbers}
use Rattle.ring.specs.declared.Rule.TheVariants.{Collinear, Spike}
use Rattle.ring.specs.Walk.{walk}
use Rattle.clean.specs.Verdicts.{is_simple, spike_free_distinct, no_spikes}
use Rattle.clean.specs.Outcome.{chosen}
use Rattle.buffer.specs.Spans.{sound_from, laid}
use Rattle.buffer.specs.Sets.{joined}
use Rattle.sets.specs.Fates.{fate, later, shape_fate, shapes_fate}
use Rattle.fates.specs.Fates.{shape_fates, fates}
use Rattle.setfile.specs.Editions.{parsed}
use Rattle.setfile.specs.Entries.{gathered}
use Rattle.setfile.specs.Layouts.{contours_in, some_set}
use Rattle.setfile.specs.Writing.{some_over, some_empty}
use Rattle.report.specs.Text.{places, decimal}
use Rattle.jobpack.specs.Packing.{refusing}
use Rattle.tidy.specs.Words.{why, area, line, lines, tidied}

-- a file that ends too soon
refused_10 : tidied Collinear [] ≡ refusing 10
unfolding tidied parsed bits field value first_of decimal places
refused_10 = refl

-- an empty contour: contour 1 dropped: collapsed, no area
empty : tidied Spike (16 ∷ 1 ∷ 128 ∷ 0 ∷ []) ≡ record { file = 16 ∷ 0 ∷ []; words = 99 ∷ 111 ∷ 110 ∷ 116 ∷ 111 ∷ 117 ∷ 114 ∷ 32 ∷ 49 ∷ 32 ∷ 100 ∷ 114 ∷ 111 ∷ 112 ∷ 112 ∷ 101 ∷ 100 ∷ 58 ∷ 32 ∷ 99 ∷ 111 ∷ 108 ∷ 108 ∷ 97 ∷ 112 ∷ 115 ∷ 101 ∷ 100 ∷ 44 ∷ 32 ∷ 110 ∷ 111 ∷ 32 ∷ 97 ∷ 114 ∷ 101 ∷ 97 ∷ 10 ∷ [] }
unfolding tidied parsed bits bytes field value fields numbers first_of decimal places contours_in some_set gathered laid joined sound_from some_over some_empty limit narrow most on_grid all_on_grid points last differing distinct_neighbours corners_from corners some is_simple spike_free_distinct no_spikes walk chosen fate later shape_fate shapes_fate shape_fates fates why area line lines
empty = refl

-- and a hole of one point behind it: contour 2 dropped: behind a collapsed outline, doubled area 0
hole_behind : tidied Collinear (16 ∷ 2 ∷ 128 ∷ 0 ∷ 0 ∷ 1 ∷ 0 ∷ 0 ∷ 0 ∷ 0 ∷ 0 ∷ 0 ∷ 0 ∷ 0 ∷ []) ≡ record { file = 16 ∷ 0 ∷ []; words = 99 ∷ 111 ∷ 110 ∷ 116 ∷ 111 ∷ 117 ∷ 114 ∷ 32 ∷ 49 ∷ 32 ∷ 100 ∷ 114 ∷ 111 ∷ 112 ∷ 112 ∷ 101 ∷ 100 ∷ 58 ∷ 32 ∷ 99 ∷ 111 ∷ 108 ∷ 108 ∷ 97 ∷ 112 ∷ 115 ∷ 101 ∷ 100 ∷ 44 ∷ 32 ∷ 110 ∷ 111 ∷ 32 ∷ 97 ∷ 114 ∷ 101 ∷ 97 ∷ 10 ∷ 99 ∷ 111 ∷ 110 ∷ 116 ∷ 111 ∷ 117 ∷ 114 ∷ 32 ∷ 50 ∷ 32 ∷ 100 ∷ 114 ∷ 111 ∷ 112 ∷ 112 ∷ 101 ∷ 100 ∷ 58 ∷ 32 ∷ 98 ∷ 101 ∷ 104 ∷ 105 ∷ 110 ∷ 100 ∷ 32 ∷ 97 ∷ 32 ∷ 99 ∷ 111 ∷ 108 ∷ 108 ∷ 97 ∷ 112 ∷ 115 ∷ 101 ∷ 100 ∷ 32 ∷ 111 ∷ 117 ∷ 116 ∷ 108 ∷ 105 ∷ 110 ∷ 101 ∷ 44 ∷ 32 ∷ 100 ∷ 111 ∷ 117 ∷ 98 ∷ 108 ∷ 101 ∷ 100 ∷ 32 ∷ 97 ∷ 114 ∷ 101 ∷ 97 ∷ 32 ∷ 48 ∷ 10 ∷ [] }
unfolding tidied parsed bits bytes field value fields numbers first_of decimal places contours_in some_set gathered laid joined sound_from some_over some_empty limit narrow most on_grid all_on_grid points last differing distinct_neighbours corners_from corners some is_simple spike_free_distinct no_spikes walk chosen fate later shape_fate shapes_fate shape_fates fates cross around exact wrapped mod64 why area line lines
hole_behind = refl
