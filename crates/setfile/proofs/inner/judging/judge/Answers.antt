-- `setfile::inner::judging::judge` meets its contract.
use Rattle.std.proofs.lemmas.Result.{err_from_is_err_and}
use Rattle.replies.proofs.RefusalLaws.{refusals_have_numbers}
use Rattle.std.proofs.Common.{refl, ℕ, true, sym, ap, ◌∙◌}
use Rattle.setfile.specs.Layouts.{contours_in}
use Rattle.setfile.specs.Editions.{layout}
use Rattle.setfile.specs.inside.Reading.{from_bit, none_met, summed}
use Rattle.setfile.proofs.FaultLaws.{either_long}
use Rattle.setfile.proofs.JudgeLaws.{judged_head, at_contours, judged_contours}
use Rattle.setfile.proofs.inner.judging.judge.Goals as goal

pub returns-in_err-check_either : goal.returns-in_err-check_either
returns-in_err-check_either c =
    let p = err_from_is_err_and c.from_residual.result c.from_residual.ensures.1 in
    rw (p.1, p.2) (judged_head c.args.second c.args.bytes.now c.requires _ c.in_err-check_either.ensures (refusals_have_numbers _) _ refl)

pub promised-n-requires : goal.promised-n-requires
promised-n-requires c = either_long c.args.bytes.now (sym c.in_ok-check_either.ensures)

pub contours-requires : goal.contours-requires
contours-requires c =
    at_contours c.args.second c.args.bytes.now c.requires (sym c.in_ok-check_either.ensures)

pub returns : goal.returns
returns c =
    let b = c.args.second in
    let f = c.args.bytes.now in
    judged_contours b f c.requires (sym c.in_ok-check_either.ensures) _
    (c.contours.ensures ∙ ap (λ (n : ℕ). summed b none_met 0 (contours_in (layout b) n true 0 (from_bit f 16))) c.promised-n.ensures)
