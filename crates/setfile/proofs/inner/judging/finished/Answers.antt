-- `setfile::inner::judging::finished` meets its contract.
use Rattle.std.proofs.lemmas.Result.{err_from_is_err_and}
use Rattle.replies.proofs.RefusalLaws.{refusals_have_numbers}
use Rattle.std.proofs.Common.{sym, true, false}
use borrow.Author.Tests.{not-true, not-false}
use Rattle.setfile.specs.inside.Reading.{from_bit}
use Rattle.setfile.proofs.JudgeLaws.{left_over, all_met}
use Rattle.setfile.proofs.inner.judging.finished.Goals as goal

pub returns-in_err-end_fault : goal.returns-in_err-end_fault
returns-in_err-end_fault c =
    let s = c.args in
    let p = err_from_is_err_and c.from_residual.result c.from_residual.ensures.1 in
    rw (p.1, p.2) (left_over s.second s.m s.n (from_bit s.bytes.now s.m.at) _ c.in_err-end_fault.ensures (refusals_have_numbers _))

pub returns-then-not-m : goal.returns-then-not-m
returns-then-not-m c =
    let s = c.args in
    all_met s.second s.m s.n (from_bit s.bytes.now s.m.at) c.in_ok-end_fault.ensures false (sym (not-true _ c.if-not-m.true))

pub returns : goal.returns
returns c =
    let s = c.args in
    all_met s.second s.m s.n (from_bit s.bytes.now s.m.at) c.in_ok-end_fault.ensures true (sym (not-false _ c.if-not-m.false))
