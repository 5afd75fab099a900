use Rattle.rows.proofs.RowLaws.{Copied}
use Rattle.difference.specs.Lines.{lines_of, written}
use Rattle.difference.proofs.inner.listing.fill.Given as goal

abbrev pub invariant-loop-k : goal.invariant-loop-k
invariant-loop-k l = Copied l.initial.listing 0 (written (lines_of l.points l.ranges l.others l.other_ranges)) l.listing l.k
