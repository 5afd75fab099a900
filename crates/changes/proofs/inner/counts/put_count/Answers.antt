-- `changes::inner::counts::put_count` meets its contract: a word, and the count behind it.
use mathlib.Core.Path.{ap}
use mathlib.Core.List.{◌++◌}
use Prim.Native.Nat.{ℕ}
use Rattle.report.specs.Text.{decimal}
use Rattle.report.proofs.PutLaws.{both_put}
use Rattle.changes.proofs.inner.counts.put_count.Goals as goal

pub returns : goal.returns
returns c =
    let e = ap (λ (n : ℕ). c.args.word.now ++ decimal n) c.counted-n.ensures in
    rw (← e) (both_put c.put-behind.ensures (decimal c.counted-n.result) (rw e c.requires) c.put_number.ensures)
