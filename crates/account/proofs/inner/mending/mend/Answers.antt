-- `account::inner::mending::mend` meets its contract: what salvaging the file answered says what is written, and what is said.
use mathlib.Core.Path.{◌≡◌, refl, sym}
use mathlib.Core.List.{List}
use Prim.Native.Nat.{ℕ, ◌≤◌}
use native.Mathlib.Omega.{arith}
use lib.ListN.{length, replicate, length-replicate}
use lib.Seq.{length-take-le}
use Rattle.replies.proofs.RefusalLaws.{refusals_have_numbers}
use Rattle.salvage.specs.declared.answer.Salvaged.{Salvaged}
use Rattle.salvage.specs.Outcome as S
use Rattle.account.proofs.AccountLaws.{InRoom, refused_room, told_refused, dropped_in, listed_numbers, lines_room, counts_room, told_done}
use Rattle.account.proofs.inner.mending.mend.Goals as goal

-- the list has an entry for each contour that a file can promise
abbrev list : List (List ℕ)
list = replicate 4095 (replicate {A = ℕ} 2 0)

-- the file is salvaged, with room for any
done : {f out text : List ℕ} {r : Salvaged} {out' : List ℕ} {list' : List (List ℕ)} → (65536 ≤ length out) × (143370 ≤ length text) → S.leaving r out' list' ≡ S.outcome f out list → InRoom f out text list r out' list'
done room e =
    record { out_room = room.0; text_room = room.1; list_room = omega (arith, length-replicate 4095 (replicate {A = ℕ} 2 0)); is = e }

pub slice_bounds-list-end : goal.slice_bounds-list-end
slice_bounds-list-end c = dropped_in (done c.requires c.in-Ok.ensures) refl

pub slice_bounds-put-end : goal.slice_bounds-put-end
slice_bounds-put-end c = sym (length-take-le _ _ (dropped_in (done c.requires c.in-Ok.ensures) refl))

pub put-dropped-requires : goal.put-dropped-requires
put-dropped-requires c =
    let file = done c.requires c.in-Ok.ensures in
    record { numbers = listed_numbers file refl; list_in_bounds = lines_room file refl }

pub put_counts-requires : goal.put_counts-requires
put_counts-requires c = counts_room (done c.requires c.in-Ok.ensures) refl c.put-dropped.ensures

pub returns-in-Ok : goal.returns-in-Ok
returns-in-Ok c = told_done (done c.requires c.in-Ok.ensures) refl c.put-dropped.ensures c.put_counts.ensures

pub put_line-requires : goal.put_line-requires
put_line-requires c =
    rw (c.from.ensures, c.number.ensures) (omega (arith, refused_room (done c.requires c.in-Err.ensures) (refusals_have_numbers _)))

pub returns-in-Err : goal.returns-in-Err
returns-in-Err c =
    told_refused (done c.requires c.in-Err.ensures) (refusals_have_numbers _) (rw (c.from.ensures, c.number.ensures) at c.put_line.ensures)
