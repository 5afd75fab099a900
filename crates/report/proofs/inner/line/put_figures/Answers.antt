-- `report::inner::line::put_figures` meets its contract: one cell behind the other.
use Rattle.report.proofs.LineLaws.{figures_begun}
use Rattle.report.proofs.PutLaws.{going_room, going_more, going_all}
use Rattle.report.proofs.inner.line.put_figures.Goals as goal

pub put_cell-second-requires : goal.put_cell-second-requires
put_cell-second-requires c =
    let s = c.args in
    going_room (figures_begun s.at s.k s.contour.now s.cleaned s.text.now c.requires.cleaned_in_bounds)

pub put_cell-third-requires : goal.put_cell-third-requires
put_cell-third-requires c =
    let s = c.args in
    let due = figures_begun s.at s.k s.contour.now s.cleaned s.text.now c.requires.cleaned_in_bounds in
    going_room (going_more due c.put_cell-second.ensures)

pub put_kept-fourth-requires : goal.put_kept-fourth-requires
put_kept-fourth-requires c =
    let s = c.args in
    let due = figures_begun s.at s.k s.contour.now s.cleaned s.text.now c.requires.cleaned_in_bounds in
    going_room (going_more (going_more due c.put_cell-second.ensures) c.put_cell-third.ensures)

pub put_cell-fifth-requires : goal.put_cell-fifth-requires
put_cell-fifth-requires c =
    let s = c.args in
    let due = figures_begun s.at s.k s.contour.now s.cleaned s.text.now c.requires.cleaned_in_bounds in
    going_room (going_more (going_more (going_more due c.put_cell-second.ensures) c.put_cell-third.ensures) c.put_kept-fourth.ensures)

pub put_area-requires : goal.put_area-requires
put_area-requires c =
    let s = c.args in
    let due = figures_begun s.at s.k s.contour.now s.cleaned s.text.now c.requires.cleaned_in_bounds in
    let two = going_more (going_more due c.put_cell-second.ensures) c.put_cell-third.ensures in
    record { contour = c.requires.contour; line_end_in_bounds = going_room (going_more (going_more two c.put_kept-fourth.ensures) c.put_cell-fifth.ensures) }

pub returns : goal.returns
returns c =
    let s = c.args in
    let due = figures_begun s.at s.k s.contour.now s.cleaned s.text.now c.requires.cleaned_in_bounds in
    let two = going_more (going_more due c.put_cell-second.ensures) c.put_cell-third.ensures in
    let four = going_more (going_more two c.put_kept-fourth.ensures) c.put_cell-fifth.ensures in
    going_all (going_more four c.put_area.ensures)
