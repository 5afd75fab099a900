-- `buffer::contours::first_contour` meets its contract.
use mathlib.Core.Path.{sym, ◌∙◌}
use Rattle.replies.proofs.RefusalLaws.{told_by}
use Rattle.rows.specs.Parts.{part}
use Rattle.buffer.proofs.PartLaws.{first_there, first_refused, first_loose}
use Rattle.buffer.proofs.contours.first_contour.Goals as goal

pub returns-then-ranges-ne0 : goal.returns-then-ranges-ne0
returns-then-ranges-ne0 c =
    let s = c.args in
    c.contour.ensures ∙ first_there (part s.points) s.ranges.now c.if-ranges-ne0.true

pub returns-then-is_err : goal.returns-then-is_err
returns-then-is_err c =
    let s = c.args in
    first_refused (part s.points) s.ranges.now c.if-ranges-ne0.false _ c.domain.ensures ((told_by _).0 (sym c.is_err.ensures.value ∙ c.if-is_err.true))

pub returns : goal.returns
returns c =
    let s = c.args in
    first_loose (part s.points) s.ranges.now c.if-ranges-ne0.false _ c.domain.ensures ((told_by _).1 (sym c.is_err.ensures.value ∙ c.if-is_err.false))
