-- `salvage::inner::sifting::sift` meets its contract.
use Rattle.replies.proofs.RefusalLaws.{refusals_have_numbers}
use Rattle.std.proofs.Common.{◌+◌, ◌∙◌, refl, ap, arith}
use Rattle.rows.specs.Rows.{placed}
use Rattle.salvage.proofs.SiftLaws.{reason_is, sifts_kept, sifts_noted, header_and_points}
use Rattle.salvage.proofs.inner.sifting.sift.Goals as goal

pub returns-in-Err : goal.returns-in-Err
returns-in-Err c =
    let s = c.args in
    let judged = reason_is s.bytes.now s.s.at _ _ _ s.s.keeping _ c.held-n.ensures c.starts-begins.ensures c.all_on-on.ensures c.in-Err.ensures in
    rw c.number.ensures
    (sifts_noted s.bytes.now s.s s.i s.out.now s.list.now _ c.held-n.ensures _ judged (refusals_have_numbers _) _ c.starts-begins.ensures)

pub returns : goal.returns
returns c =
    let s = c.args in
    let judged = reason_is s.bytes.now s.s.at _ _ _ s.s.keeping _ c.held-n.ensures c.starts-begins.ensures c.all_on-on.ensures c.in_default.ensures in
    sifts_kept s.bytes.now s.s s.i s.out.now s.list.now _ c.held-n.ensures _ judged refl
    (c.copy-2.ensures ∙ ap (placed (s.s.to + 2) _) c.copy.ensures ∙ header_and_points s.bytes.now s.out.now s.s.at s.s.to c.held-n.result (omega (arith, c.requires.within, c.held-n.ensures)) (omega (arith, c.requires, c.held-n.ensures)))
