-- `setfile::reading::read` meets its contract.
use Rattle.std.proofs.lemmas.Result.{err_from_is_err_and}
use Rattle.replies.proofs.RefusalLaws.{refusals_have_numbers}
use Rattle.std.proofs.Common.{refl, arith}
use Rattle.setfile.proofs.ReadingLaws.{refused_first, cramped, spacious, judged, accepted, read_refused, read_done}
use Rattle.setfile.proofs.reading.read.Goals as goal

pub returns-in_err-file : goal.returns-in_err-file
returns-in_err-file c =
    let p = err_from_is_err_and c.from_residual.result c.from_residual.ensures.1 in
    rw (p.1, p.2) (read_refused (judged c.args.out.now c.args.records.now c.args.groups.now c.is_second-second.ensures c.in_err-file.ensures (refused_first _ _)) _ refl (refusals_have_numbers _))

pub returns-then-not-room : goal.returns-then-not-room
returns-then-not-room c =
    read_refused (judged c.args.out.now c.args.records.now c.args.groups.now c.is_second-second.ensures c.in_ok-file.ensures (cramped _ c.if-not-room.true)) _ refl (λ z. omega arith)

pub points-requires : goal.points-requires
points-requires c = let a = accepted (judged c.args.out.now c.args.records.now c.args.groups.now c.is_second-second.ensures c.in_ok-file.ensures (spacious _ c.if-not-room.false)) refl in (a.readable, a.points_in)

pub ranges-requires : goal.ranges-requires
ranges-requires c = let a = accepted (judged c.args.out.now c.args.records.now c.args.groups.now c.is_second-second.ensures c.in_ok-file.ensures (spacious _ c.if-not-room.false)) refl in (a.readable, a.contours_in)

pub shapes-requires : goal.shapes-requires
shapes-requires c = let a = accepted (judged c.args.out.now c.args.records.now c.args.groups.now c.is_second-second.ensures c.in_ok-file.ensures (spacious _ c.if-not-room.false)) refl in (a.readable, a.shapes_in)

pub returns : goal.returns
returns c =
    read_done (judged c.args.out.now c.args.records.now c.args.groups.now c.is_second-second.ensures c.in_ok-file.ensures (spacious _ c.if-not-room.false)) refl _ _ _ c.points.ensures c.ranges-2.ensures c.shapes.ensures _ c.number.ensures
