use Prim.Native.Nat.{◌+◌}
use lib.ListN.{take, drop}
use Rattle.rows.proofs.RowLaws.{Copied}
use Rattle.pool.proofs.inner.moving.numbers.Given as goal

abbrev pub invariant-loop-i : goal.invariant-loop-i
invariant-loop-i l = Copied l.initial.row l.at (take l.n (drop (l.at + l.gap) l.initial.row)) l.row l.i
