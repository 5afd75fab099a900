-- `salvage::mend` meets its contract: refused, or the sifted contours under their head.
use Rattle.std.proofs.lemmas.Result.{err_from_is_err_and}
use Rattle.std.proofs.Common.{◌≡◌, List, ℕ, length, refl, sym, arith}
use Rattle.replies.specs.Ladder.{first_of}
use Rattle.bits.specs.Bits.{Bytes}
use Rattle.setfile.specs.Layouts.{promised}
use Rattle.setfile.proofs.SizeLaws.{promised_few}
use Rattle.salvage.specs.inside.Sifting.{refusals}
use Rattle.salvage.proofs.MendLaws.{Accepted, mend_refused, roomy, missing_few, dropped_few, head_room, mend_done}
use Rattle.salvage.proofs.mend.Goals as goal

-- nothing is refused, and the head promises n contours
accepted : {f out : List ℕ} {list : List (List ℕ)} {n : ℕ} → Bytes f → 0 ≡ first_of (refusals f (length out) (length list)) → n ≡ promised f → Accepted f out list n
accepted b e p = record { bytes = b; free = sym e; count = p }

pub returns-in_err-check : goal.returns-in_err-check
returns-in_err-check c =
    let s = c.args in
    let p = err_from_is_err_and c.from_residual.result c.from_residual.ensures.1 in
    rw (p.1, p.2) (mend_refused s.bytes.now s.out.now s.dropped.now _ c.in_err-check.ensures)

pub promised-n-requires : goal.promised-n-requires
promised-n-requires c =
    (roomy (accepted (λ i h. (c.type_inv.bytes i).fits) c.in_ok-check.ensures refl)).head

pub contours-saved-requires : goal.contours-saved-requires
contours-saved-requires c =
    roomy (accepted (λ i h. (c.type_inv.bytes i).fits) c.in_ok-check.ensures c.promised-n.ensures)

pub overflow_sub-kept : goal.overflow_sub-kept
overflow_sub-kept c =
    missing_few (accepted (λ i h. (c.type_inv.bytes i).fits) c.in_ok-check.ensures c.promised-n.ensures) c.contours-saved.ensures

pub overflow_sub-kept-2 : goal.overflow_sub-kept-2
overflow_sub-kept-2 c =
    dropped_few (accepted (λ i h. (c.type_inv.bytes i).fits) c.in_ok-check.ensures c.promised-n.ensures) c.contours-saved.ensures

pub overflow_add-kept : goal.overflow_add-kept
overflow_add-kept c =
    omega (arith, c.promised-n.ensures, promised_few c.args.bytes.now)

pub put_pair-requires : goal.put_pair-requires
put_pair-requires c =
    head_room (accepted (λ i h. (c.type_inv.bytes i).fits) c.in_ok-check.ensures c.promised-n.ensures) c.contours-saved.ensures

pub returns : goal.returns
returns c =
    mend_done (accepted (λ i h. (c.type_inv.bytes i).fits) c.in_ok-check.ensures c.promised-n.ensures) c.contours-saved.ensures c.put_pair.ensures
