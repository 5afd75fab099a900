-- `path::is_convex` meets its contract.
use mathlib.Core.Path.{sym, ◌∙◌}
use native.Mathlib.Omega.{arith}
use Rattle.grid.proofs.DomainLaws.{in_domain}
use Rattle.grid.proofs.AlongLaws.{none_distinct}
use Rattle.replies.proofs.VerdictLaws.{verdict_refused, verdict_given}
use Rattle.std.proofs.lemmas.Result.{err_from_is_err_and}
use Rattle.replies.proofs.RefusalLaws.{refusals_have_numbers}
use Rattle.path.specs.Convex.{convex}
use Rattle.path.proofs.ConvexLaws.{convex_few, convex_many, convex_nothing}
use Rattle.path.proofs.BoxLaws.{box_convex}
use Rattle.path.proofs.is_convex.Goals as goal

pub returns-in_err-domain : goal.returns-in_err-domain
unfolding convex
returns-in_err-domain c =
    let p = err_from_is_err_and c.from_residual.result c.from_residual.ensures.1 in
    rw (p.1, p.2) (verdict_refused _ _ _ c.in_err-domain.ensures (refusals_have_numbers _))

pub returns-then-n-le2 : goal.returns-then-n-le2
unfolding convex
returns-then-n-le2 c = verdict_given _ _ _ (sym c.in_ok-domain.ensures) (convex_few _ c.if-n-le2.true)

pub first_other-first-requires : goal.first_other-first-requires
first_other-first-requires c = (in_domain _ (sym c.in_ok-domain.ensures), omega (arith, c.if-n-le2.false))

pub returns-then-first-n : goal.returns-then-first-n
unfolding convex
returns-then-first-n c =
    let row = c.args.points.now in
    let none = rw c.if-first-n.true at c.first_other-first.ensures in
    verdict_given _ _ _ (sym c.in_ok-domain.ensures)
    (convex_nothing row (none_distinct row (in_domain row (sym c.in_ok-domain.ensures)) none (omega (arith, c.if-n-le2.false))) ∙ convex_many row c.if-n-le2.false)

pub is_box-requires : goal.is_box-requires
is_box-requires c = in_domain _ (sym c.in_ok-domain.ensures)

pub returns-then-is_box : goal.returns-then-is_box
unfolding convex
returns-then-is_box c =
    let row = c.args.points.now in
    verdict_given _ _ _ (sym c.in_ok-domain.ensures) (box_convex row (sym c.is_box.ensures ∙ c.if-is_box.true) (in_domain row (sym c.in_ok-domain.ensures)))

pub one_way-requires : goal.one_way-requires
one_way-requires c =
    let x = c.first_other-first.ensures in
    (in_domain _ (sym c.in_ok-domain.ensures), x, omega (arith, x.within, c.if-first-n.false))

pub returns : goal.returns
unfolding convex
returns c =
    verdict_given _ _ _ (sym c.in_ok-domain.ensures) (c.one_way.ensures ∙ convex_many _ c.if-n-le2.false)
