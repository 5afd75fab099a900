-- `buffer::contours::contour` meets its contract.
use mathlib.Core.Path.{sym, ◌∙◌}
use Rattle.replies.proofs.RefusalLaws.{told_by}
use Rattle.rows.specs.Parts.{part}
use Rattle.buffer.proofs.PartLaws.{contour_refused, contour_absent, contour_there, contour_named}
use Rattle.buffer.proofs.contours.contour.Goals as goal

pub returns-then-is_err : goal.returns-then-is_err
returns-then-is_err c =
    let s = c.args in
    contour_refused (part s.points) s.ranges.now s.k _ c.check.ensures ((told_by _).0 (sym c.is_err.ensures.value ∙ c.if-is_err.true))

pub returns-then-ranges-k : goal.returns-then-ranges-k
returns-then-ranges-k c =
    let s = c.args in
    contour_absent (part s.points) s.ranges.now s.k _ c.check.ensures ((told_by _).1 (sym c.is_err.ensures.value ∙ c.if-is_err.false)) c.if-ranges-k.true

pub named-requires : goal.named-requires
named-requires c =
    let s = c.args in
    contour_named s.points.now s.ranges.now s.k _ c.check.ensures ((told_by _).1 (sym c.is_err.ensures.value ∙ c.if-is_err.false)) c.if-ranges-k.false

pub returns : goal.returns
returns c =
    let s = c.args in
    c.named.ensures
    ∙ contour_there (part s.points) s.ranges.now s.k _ c.check.ensures ((told_by _).1 (sym c.is_err.ensures.value ∙ c.if-is_err.false)) c.if-ranges-k.false
