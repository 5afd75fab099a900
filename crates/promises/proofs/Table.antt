-- W1 to W12: the table says what the calls' definitions answer.
use mathlib.Core.Path.{refl}
use mathlib.Core.Bool.{xor}
use Rattle.integers.specs.Modulo.{mod64}
use Rattle.grid.specs.Limits.{limit, most, on_grid, all_on_grid}
use Rattle.grid.specs.Points.{points}
use Rattle.grid.specs.Edges.{cross, dot}
use Rattle.grid.specs.Corners.{last, differing, distinct_neighbours, corners_from, corners, some}
use Rattle.grid.specs.Area.{around, exact, wrapped}
use Rattle.replies.specs.Ladder.{first_of}
use Rattle.area.specs.Answers.{doubled, half}
use Rattle.path.specs.Convex.{convex_distinct, is_convex, convex}
use Rattle.path.specs.Clockwise.{clockwise}
use Rattle.path.specs.Contains.{crosses, odd, contained, contains}
use Rattle.path.specs.Locate.{on_edge, touched, on_boundary, location, located}
use Rattle.ring.specs.Walk.{survivors_from, others, successor, predecessor, occurrences, unmark, unmark_about, remove, decide, look, looks, walk}
use Rattle.ring.specs.Rule.{goes_at}
use Rattle.clean.specs.Verdicts.{is_simple, spike_free_distinct, no_spikes, simple, spike_free}
use Rattle.clean.specs.Outcome.{chosen, outcome_by}
use Rattle.buffer.specs.Spans.{laid, sound_from}
use Rattle.buffer.specs.Sets.{joined}
use Rattle.sets.specs.Fates.{fate, later, shape_fate}
use Rattle.sets.specs.Outcome.{shape_outcome}
use Rattle.promises.specs.Table.{TheTableHolds}

pub the_table_holds : TheTableHolds
unfolding xor mod64 limit most on_grid all_on_grid points cross dot last differing distinct_neighbours corners_from corners some around exact wrapped first_of doubled half convex_distinct is_convex convex clockwise crosses odd contained contains on_edge touched on_boundary location located survivors_from others successor predecessor occurrences unmark unmark_about remove decide look looks walk goes_at is_simple spike_free_distinct no_spikes simple spike_free chosen outcome_by laid sound_from joined fate later shape_fate shape_outcome
the_table_holds = refl
