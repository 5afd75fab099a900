use Rattle.std.proofs.Common.{◌≡◌, ◌++◌, map, take, drop}
use Rattle.buffer.specs.Spans.{spans, rows, moved}
use Rattle.buffer.proofs.inner.joining.records.Given as goal

abbrev pub invariant-loop-i : goal.invariant-loop-i
invariant-loop-i l = l.part ≡ rows (map (moved l.shift) (spans (take l.i l.from))) ++ drop l.i l.initial.part
