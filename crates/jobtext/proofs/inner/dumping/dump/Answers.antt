-- `jobtext::inner::dumping::dump` meets its contract: how the file was judged says which text it has.
use native.Mathlib.Omega.{arith}
use Rattle.replies.proofs.RefusalLaws.{refusals_have_numbers}
use Rattle.report.proofs.PutLaws.{put_front}
use Rattle.jobtext.proofs.DumpLaws.{dumped_refused, dumped_as}
use Rattle.jobtext.proofs.LengthLaws.{dumped_short}
use Rattle.jobtext.proofs.inner.dumping.dump.Goals as goal

pub put-requires-clause-bytes_in_bounds : goal.put-requires-clause-bytes_in_bounds
put-requires-clause-bytes_in_bounds c =
    let e = dumped_as c.args.bytes.now c.is_second-second.ensures c.in-Ok.ensures.reply in
    omega (arith, rw e at (dumped_short c.args.bytes.now (λ i h. (c.type_inv.bytes i).fits)), c.requires)

pub put_line-requires : goal.put_line-requires
put_line-requires c =
    let e = dumped_refused c.args.bytes.now _ c.in-Err.ensures.reply (refusals_have_numbers c.in-Err.refusal) in
    rw (c.from.ensures, c.number.ensures) (omega (arith, rw e at (dumped_short c.args.bytes.now (λ i h. (c.type_inv.bytes i).fits)), c.requires))

pub returns-in-Ok : goal.returns-in-Ok
returns-in-Ok c = rw (dumped_as c.args.bytes.now c.is_second-second.ensures c.in-Ok.ensures.reply) (put_front c.put.ensures)

pub returns-in-Err : goal.returns-in-Err
returns-in-Err c =
    rw (dumped_refused c.args.bytes.now _ c.in-Err.ensures.reply (refusals_have_numbers c.in-Err.refusal))
    (put_front (rw (c.from.ensures, c.number.ensures) at c.put_line.ensures))
