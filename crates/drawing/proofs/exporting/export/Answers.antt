-- `drawing::exporting::export` meets its contract: it is refused by the ladder and for want of room, or both rows are filled.
use Rattle.std.proofs.lemmas.Result.{err_from_is_err_and}
use mathlib.Core.Path.{◌≡◌, sym}
use mathlib.Core.List.{List}
use Prim.Native.Nat.{ℕ}
use native.Mathlib.Omega.{arith}
use borrow.Author.Rules.{rules}
use lib.IntN.{ℤ}
use lib.Ieee.{Float}
use Rattle.grid.specs.Limits.{limit, narrow, most}
use Rattle.grid.specs.Domain.{count}
use Rattle.replies.specs.Ladder.{first_of}
use Rattle.buffer.specs.Spans.{spans, sound}
use Rattle.buffer.specs.Refusals.{set}
use Rattle.drawing.specs.inside.Rows.{filled}
use Rattle.drawing.proofs.ExportLaws.{Exporting, export_refused, export_few, export_cramped, export_contours, export_places, export_done}
use Rattle.drawing.proofs.exporting.export.Goals as goal

-- the narrow grid lies within the limit
pub contours-requires : goal.contours-requires
unfolding limit
contours-requires c = search rules

-- nothing is refused, and the contours that have points are counted
counted : (p : List ℤ) (ranges : List (List ℕ)) (kinds : List ℕ) (floats : List Float) {n : ℕ}
    → 0 ≡ first_of (set 536870912 p (sound (spans ranges) (count p))) → n ≡ filled (spans ranges) → Exporting p ranges kinds floats n
unfolding narrow
counted p ranges kinds floats e f = record { free = sym e; filled_ones = f }

pub returns-in_err-contours : goal.returns-in_err-contours
unfolding narrow
returns-in_err-contours c =
    let s = c.args in
    let p = err_from_is_err_and c.from_residual.result c.from_residual.ensures.1 in
    rw (p.1, p.2) (export_refused s.points.now s.ranges.now s.kinds.now s.floats.now _ c.in_err-contours.ensures)

pub overflow_add-commands : goal.overflow_add-commands
unfolding most
overflow_add-commands c = omega (arith, export_few (counted _ _ c.args.kinds.now c.args.floats.now c.in_ok-contours.ensures c.filled.ensures), c.filled.ensures)

pub returns-then-not-room : goal.returns-then-not-room
returns-then-not-room c = export_cramped (counted _ _ _ _ c.in_ok-contours.ensures c.filled.ensures) c.if-not-room.true

pub contours-requires-2 : goal.contours-requires-2
contours-requires-2 c = export_contours (counted _ _ _ _ c.in_ok-contours.ensures c.filled.ensures) c.if-not-room.false

pub places-requires : goal.places-requires
places-requires c =
    export_places (counted _ _ _ _ c.in_ok-contours.ensures c.filled.ensures) c.if-not-room.false

pub returns : goal.returns
returns c =
    export_done (counted _ _ _ _ c.in_ok-contours.ensures c.filled.ensures) c.if-not-room.false _ _ c.contours-2.ensures c.places.ensures
