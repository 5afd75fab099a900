-- `drawing::inner::filling::ranges` meets its contract: the rest of the kinds makes what is still to be written.
use mathlib.Core.Path.{ap}
use mathlib.Core.List.{List}
use Prim.Native.Nat.{ℕ, ◌+◌, ◌≤◌}
use native.Mathlib.Omega.{arith}
use lib.ListN.{length, length-map}
use Rattle.std.proofs.lemmas.Slice.{between_to_end}
use Rattle.buffer.specs.Spans.{row, rows, laid}
use Rattle.buffer.proofs.SetLaws.{laid-length}
use Rattle.drawing.specs.inside.Rows.{run, sizes}
use Rattle.drawing.proofs.FillLaws.{ranging_all, ranging_past, ranging_few, ranging_within, ranging_more, ranging_done}
use Rattle.drawing.proofs.inner.filling.ranges.Goals as goal

-- the ranges have room
room : (kinds : List ℕ) (records : List (List ℕ)) → length (sizes kinds) ≤ length records → length (rows (laid 0 (sizes kinds))) ≤ length records
room kinds records h = omega (arith, length-map (laid 0 (sizes kinds)) row, laid-length 0 (sizes kinds))

pub loop-i-init : goal.loop-i-init
loop-i-init c = ranging_all c.args.kinds.now c.args.records.now

pub loop-i-preserved-then-kind-ne-MOVE : goal.loop-i-preserved-then-kind-ne-MOVE
loop-i-preserved-then-kind-ne-MOVE c = ranging_past c.loop-i.invariant c.loop-i-test.true c.if-kind-ne-MOVE.true

pub overflow_add-end-in-loop-i : goal.overflow_add-end-in-loop-i
overflow_add-end-in-loop-i c =
    let kinds = c.args.kinds.now in
    let rest = between_to_end kinds (c.loop-i.i + 1) (length kinds) (omega arith) in
    omega (arith, c.lines.ensures, ap run rest, ranging_few c.loop-i.invariant c.loop-i-test.true c.if-kind-ne-MOVE.false)

pub bounds-records-k : goal.bounds-records-k
bounds-records-k c =
    let within = ranging_within c.loop-i.invariant c.loop-i-test.true c.if-kind-ne-MOVE.false in
    omega (arith, within, room c.args.kinds.now c.args.records.now c.requires)

pub loop-i-preserved : goal.loop-i-preserved
loop-i-preserved c =
    let kinds = c.args.kinds.now in
    let rest = between_to_end kinds (c.loop-i.i + 1) (length kinds) (omega arith) in
    ranging_more c.loop-i.invariant c.loop-i-test.true c.if-kind-ne-MOVE.false (room kinds c.args.records.now c.requires)
    _ (omega (arith, c.lines.ensures, ap run rest))

pub returns : goal.returns
returns c = ranging_done c.loop-i.invariant (omega arith)
