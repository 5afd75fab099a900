-- `clean::cleaning::clean` meets its contract: it refuses, or cuts every row to its length and hands it on.
use Rattle.std.proofs.lemmas.Result.{err_from_is_err_and}
use Rattle.replies.proofs.RefusalLaws.{refusals_have_numbers}
use mathlib.Core.Path.{◌≡◌, sym}
use mathlib.Core.List.{List}
use lib.IntN.{ℤ}
use lib.Seq.{length-take-le}
use Rattle.clean.specs.Outcome.{Lent, lent, refusal}
use Rattle.clean.specs.Promises.{InDomainWithRoom}
use Rattle.clean.proofs.OutcomeLaws.{accepted, outcome_refused, ready_parts, joined}
use Rattle.clean.proofs.cleaning.clean.Goals as goal

-- what is not refused has room everywhere
fits : (row : List ℤ) (l : Lent) → 0 ≡ refusal row l → InDomainWithRoom row l
fits row l e = accepted row l (sym e)

pub returns-in_err-check : goal.returns-in_err-check
returns-in_err-check c =
    let p = err_from_is_err_and c.from_residual.result c.from_residual.ensures.1 in
    rw (p.1, p.2) (outcome_refused _ _ _ _ c.in_err-check.ensures (refusals_have_numbers _))

pub slice_bounds-sweep-end : goal.slice_bounds-sweep-end
slice_bounds-sweep-end c =
    let s = c.args in
    (fits s.points.now (lent s.next.now s.prev.now s.mark.now s.out.now) c.in_ok-check.ensures).room_in_next

pub slice_bounds-sweep-end-3 : goal.slice_bounds-sweep-end-3
slice_bounds-sweep-end-3 c =
    let s = c.args in
    (fits s.points.now (lent s.next.now s.prev.now s.mark.now s.out.now) c.in_ok-check.ensures).room_in_prev

pub slice_bounds-sweep-end-5 : goal.slice_bounds-sweep-end-5
slice_bounds-sweep-end-5 c =
    let s = c.args in
    (fits s.points.now (lent s.next.now s.prev.now s.mark.now s.out.now) c.in_ok-check.ensures).room_in_mark

pub slice_bounds-sweep-end-2 : goal.slice_bounds-sweep-end-2
slice_bounds-sweep-end-2 c =
    let s = c.args in
    sym (length-take-le _ _ (fits s.points.now (lent s.next.now s.prev.now s.mark.now s.out.now) c.in_ok-check.ensures).room_in_next)

pub slice_bounds-sweep-end-4 : goal.slice_bounds-sweep-end-4
slice_bounds-sweep-end-4 c =
    let s = c.args in
    sym (length-take-le _ _ (fits s.points.now (lent s.next.now s.prev.now s.mark.now s.out.now) c.in_ok-check.ensures).room_in_prev)

pub slice_bounds-sweep-end-6 : goal.slice_bounds-sweep-end-6
slice_bounds-sweep-end-6 c =
    let s = c.args in
    sym (length-take-le _ _ (fits s.points.now (lent s.next.now s.prev.now s.mark.now s.out.now) c.in_ok-check.ensures).room_in_mark)

pub sweep-requires : goal.sweep-requires
sweep-requires c =
    let s = c.args in
    ready_parts _ _ (fits s.points.now (lent s.next.now s.prev.now s.mark.now s.out.now) c.in_ok-check.ensures)

pub returns : goal.returns
returns c =
    let s = c.args in
    joined s.rule s.points.now (lent s.next.now s.prev.now s.mark.now s.out.now) (sym c.in_ok-check.ensures)
    _ _ _ _ _ c.sweep.ensures.settled c.sweep.ensures.swept
