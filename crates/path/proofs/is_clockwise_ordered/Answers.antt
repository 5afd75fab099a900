-- `path::is_clockwise_ordered` meets its contract: the area's refusals are its own.
use mir.Syntax.{w64}
use borrow.Author.Rules.{sfits_of}
use mathlib.Core.Path.{sym, ◌∙◌, ap}
use lib.IntN.{ℤ, pos}
use lib.Signed.{le_z}
use mir.Facts.{to_z-of_z}
use Rattle.replies.proofs.VerdictLaws.{verdict_refused, verdict_given}
use Rattle.std.proofs.lemmas.Result.{err_from_is_err_and}
use Rattle.replies.proofs.RefusalLaws.{refusals_have_numbers}
use Rattle.path.specs.Clockwise.{clockwise}
use Rattle.path.proofs.is_clockwise_ordered.Goals as goal

pub returns-in_err-check : goal.returns-in_err-check
unfolding clockwise
returns-in_err-check c =
    let p = err_from_is_err_and c.from_residual.result c.from_residual.ensures.1 in
    rw (p.1, p.2) (verdict_refused _ _ _ c.in_err-check.ensures (refusals_have_numbers _))

pub doubled_area-requires : goal.doubled_area-requires
doubled_area-requires c = sym c.in_ok-check.ensures

pub returns : goal.returns
unfolding clockwise
returns c =
    verdict_given _ _ _ (sym c.in_ok-check.ensures)
    (ap (λ (z : ℤ). le_z z (pos 0)) (to_z-of_z {w = w64} (sfits_of c.doubled_area.type_inv) ∙ c.doubled_area.ensures))
