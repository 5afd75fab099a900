-- `changes::inner::counts::counted` meets its contract: the library counts the same.
use mathlib.Core.Path.{◌≡◌, sym, ◌∙◌}
use mathlib.Core.List.{List}
use Prim.Native.Nat.{ℕ}
use lib.Dec.{eqb}
use lib.ListN.{get_or}
use borrow.Author.Rules.{rules}
use Rattle.std.specs.List.{count_by}
use Rattle.std.proofs.iter.runs.Made.{chains}
use Rattle.changes.proofs.CountLaws.{of_kind-count}
use Rattle.changes.proofs.inner.counts.counted.Goals as goal

pub returns : goal.returns
returns c =
    let s = c.args in
    let counted : c.count.result ≡ count_by (λ (row : List ℕ). eqb (get_or row 0 0) s.kind) s.listing.now = search (rules, chains) in
    counted ∙ sym (of_kind-count s.kind s.listing.now)
