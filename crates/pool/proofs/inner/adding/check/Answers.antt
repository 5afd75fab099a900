-- `pool::inner::adding::check` meets its contract.
use mathlib.Core.Path.{sym, ◌∙◌}
use Rattle.grid.specs.Limits.{limit}
use Rattle.buffer.proofs.RefusalLaws.{accepted}
use Rattle.std.proofs.lemmas.Result.{err_from_is_err_and}
use Rattle.replies.proofs.RefusalLaws.{refused_so_far}
use Rattle.pool.proofs.CallLaws.{asked_full, asked_room, asked_done}
use borrow.Author.Rules.{rules}
use Rattle.std.proofs.Common.{ap}
use Rattle.std.proofs.Common.{not}
use Rattle.pool.proofs.inner.adding.check.Goals as goal

pub of_set-requires : goal.of_set-requires
unfolding limit
of_set-requires c = search rules

pub returns-in_err-of_set : goal.returns-in_err-of_set
unfolding limit
returns-in_err-of_set c =
    let p = err_from_is_err_and c.from_residual.result c.from_residual.ensures.1 in
    rw (p.1, p.2) (refused_so_far _ _ _ c.in_err-of_set.ensures)

pub full-requires : goal.full-requires
unfolding limit
full-requires c =
    let a = accepted limit c.args.contour.now c.args.sound (sym c.in_ok-of_set.ensures) in
    ((c.requires a.sound).0, (c.requires a.sound).1, a.few)

pub returns-then-full : goal.returns-then-full
unfolding limit
returns-then-full c =
    let s = c.args in
    asked_full s.contour.now s.sound s.mine s.others s.enough (sym c.in_ok-of_set.ensures) (sym c.full.ensures ∙ c.if-full.true)

pub returns-then-not-enough : goal.returns-then-not-enough
unfolding limit
returns-then-not-enough c =
    let s = c.args in
    asked_room s.contour.now s.sound s.mine s.others s.enough (sym c.in_ok-of_set.ensures) (sym c.full.ensures ∙ c.if-full.false) (ap not c.if-not-enough.true)

pub returns : goal.returns
unfolding limit
returns c =
    let s = c.args in
    asked_done s.contour.now s.sound s.mine s.others s.enough (sym c.in_ok-of_set.ensures) (sym c.full.ensures ∙ c.if-full.false) (ap not c.if-not-enough.false)
