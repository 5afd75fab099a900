-- Whether a contour is wound clockwise.
use Rattle.std.specs.Prelude.{List, ℤ, pos}
use Rattle.std.specs.Int.Signed.{le_z}
use Rattle.replies.specs.declared.Verdict.{Verdict}
use Rattle.grid.specs.Points.{points}
use Rattle.grid.specs.Area.{reported}
use Rattle.replies.specs.Ladder.{first_of}
use Rattle.replies.specs.Verdicts.{verdict}
use Rattle.area.specs.Answers.{refusals}

-- the reported doubled area is at or below zero
unfoldable pub clockwise : List ℤ → Verdict
clockwise row = verdict (first_of (refusals row)) (le_z (reported (points row)) (pos 0))
