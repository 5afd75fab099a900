-- `drawing::inner::filling::lines` meets its contract.
use mathlib.Core.Path.{◌≡◌, sym, ◌∙◌}
use Prim.Native.Nat.{ℕ}
use lib.Dec.{eqb}
use lib.ListN.{length}
use Rattle.std.proofs.Common.{rules, tests}
use Rattle.std.specs.List.{take_while}
use Rattle.std.proofs.lemmas.Iterator.{YieldsList-from_slice}
use Rattle.std.proofs.lemmas.Iterator.Search.{YieldsList-from_take_while}
use Rattle.std.proofs.lemmas.Iterator.Consumers.{count_from_yields_List}
use Rattle.drawing.proofs.FillLaws.{run_taken}
use Rattle.drawing.proofs.inner.filling.lines.Goals as goal

pub returns : goal.returns
returns c =
    let kinds = c.args.kinds.now in
    let counted : c.count.result ≡ length (take_while (λ (k : ℕ). eqb k 1) kinds) =
    count_from_yields_List _ _ c.count.ensures.ran
    (YieldsList-from_take_while _ (λ (k : ℕ). eqb k 1) (YieldsList-from_slice kinds cc) c.take_while.ensures.closure c.take_while.ensures.done
    (λ x b q k. search (rules, tests))) in
    counted ∙ sym (run_taken kinds)
