-- `report::inner::line::put` meets its contract: what is answered of the contour makes its line.
use mathlib.Core.Path.{sym}
use mathlib.Core.List.{[]}
use lib.Seq.{length-take-le}
use Rattle.report.proofs.LineLaws.{line_is, lent_parts}
use Rattle.report.specs.Listing.{rule_of}
use Rattle.report.proofs.inner.line.put.Goals as goal

pub slice_bounds-answer-end-2 : goal.slice_bounds-answer-end-2
slice_bounds-answer-end-2 c =
    sym (length-take-le _ _ c.requires.cleanable.in_next)

pub slice_bounds-answer-end-4 : goal.slice_bounds-answer-end-4
slice_bounds-answer-end-4 c =
    sym (length-take-le _ _ c.requires.cleanable.in_prev)

pub slice_bounds-answer-end-6 : goal.slice_bounds-answer-end-6
slice_bounds-answer-end-6 c =
    sym (length-take-le _ _ c.requires.cleanable.in_mark)

pub answer-cleaned-requires : goal.answer-cleaned-requires
answer-cleaned-requires c =
    let parts = lent_parts _ _ _ _ c.requires.cleanable in
    record { contour = parts.0; next_len = parts.1.0; mark_len_bound = parts.1.1 }

pub put_figures-requires : goal.put_figures-requires
put_figures-requires c =
    record { contour = c.requires.cleanable.contour; cleaned_in_bounds = rw (line_is (rule_of c.args.second) c.args.k c.args.contour.now [] _ c.answer-cleaned.ensures) c.requires.contour_in_bounds }

pub returns : goal.returns
returns c =
    rw (line_is (rule_of c.args.second) c.args.k c.args.contour.now [] _ c.answer-cleaned.ensures) at c.put_figures.ensures
