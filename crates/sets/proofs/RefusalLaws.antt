-- The refusals of a set: of which only the number is left, and those of a shape set beside those of its contours.
use Rattle.std.proofs.Common.{◌≡◌, ℕ, not, List, ℤ, sym, ap}
use borrow.Author.Tests.{not-false}
use Rattle.integers.proofs.Logic.{and_left}
use Rattle.replies.specs.Ladder.{first_of}
use Rattle.grid.specs.Domain.{count}
use Rattle.replies.proofs.LadderLaws.{first_is, clear}
use Rattle.replies.proofs.LadderLaws.First.{past, foot}
use Rattle.buffer.specs.Spans.{spans, sound}
use Rattle.buffer.specs.Contours.{refusals as contour_refusals}
use Rattle.buffer.specs.Shapes.{refusals as shape_refusals}

-- a shape set that no call refuses is a contour set that none refuses
pub contours_taken : (p : List ℤ) (cs ss : List (List ℕ)) → first_of (shape_refusals p cs ss) ≡ 0 → first_of (contour_refusals p cs) ≡ 0
contours_taken p cs ss z =
    let c = clear (shape_refusals p cs ss) tt z in
    let s = and_left (sound (spans cs) (count p)) _ (not-false _ c.1.1.0) in
    sym (first_is (contour_refusals p cs) 0 (past c.0 (past c.1.0 (past (ap not s) (past c.1.1.1.0 foot)))))
