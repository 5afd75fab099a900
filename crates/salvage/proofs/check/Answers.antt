-- `salvage::check` meets its contract.
use Rattle.std.proofs.lemmas.Result.{err_from_is_err_and}
use Rattle.replies.proofs.RefusalLaws.{refused_so_far}
use mathlib.Core.Path.{sym}
use Rattle.setfile.specs.inside.Reading.{head_refusals}
use Rattle.setfile.proofs.FaultLaws.{head_long}
use Rattle.salvage.proofs.MendLaws.{refused_room, not_refused}
use Rattle.salvage.proofs.check.Goals as goal

pub returns-in_err-check : goal.returns-in_err-check
returns-in_err-check c =
    let p = err_from_is_err_and c.from_residual.result c.from_residual.ensures.1 in
    rw (p.1, p.2) (refused_so_far (head_refusals c.args.bytes.now) _ _ c.in_err-check.ensures)

pub promised-n-requires : goal.promised-n-requires
promised-n-requires c = head_long c.args.bytes.now (sym c.in_ok-check.ensures)

pub returns-then-out-bytes : goal.returns-then-out-bytes
returns-then-out-bytes c =
    let s = c.args in
    refused_room s.bytes.now s.out s.list (sym c.in_ok-check.ensures)
    _ c.promised-n.ensures c.if-out-bytes.true

pub returns : goal.returns
returns c =
    let s = c.args in
    not_refused s.bytes.now s.out s.list (sym c.in_ok-check.ensures)
    _ c.promised-n.ensures c.if-out-bytes.false
