-- `ring::inner::idle_round` meets its contract: the positions of the round are counted down, backward along the ring, until one is unmarked.
use mathlib.Core.Path.{◌≡◌, sym, ◌∙◌}
use lib.ListN.{get_or}
use Prim.Native.Nat.{ℕ}
use mathlib.Core.List.{List}
use Rattle.ring.specs.Walk.{removed, mark_at}
use Rattle.ring.specs.inside.Rows.{Idling}
use Rattle.rows.proofs.RowLaws.{any_default}
use Rattle.ring.proofs.Marks.{inside}
use Rattle.ring.proofs.Rounds.{Backward, back_start, back_on, back_more, back_all}
use Rattle.ring.proofs.inner.idle_round.Goals as goal

-- The mark that is read is the one of the position where the search is.
read : {m prev : List ℕ} {p r turns q : ℕ} → Idling m prev p r → Backward m p turns q → get_or m q 0 ≡ mark_at m q
read {m = m} {q = q} i b = any_default m q 0 removed (inside m q (back_on i b))

pub loop-last-init : goal.loop-last-init
loop-last-init c = back_start c.requires _ c.wide-last.ensures

pub bounds-mark-last : goal.bounds-mark-last
bounds-mark-last c = inside _ _ (back_on c.requires c.loop-last.invariant)

pub loop-last-preserved : goal.loop-last-preserved
loop-last-preserved c =
    back_more c.requires c.loop-last.invariant (λ e. c.loop-last-test.true (read c.requires c.loop-last.invariant ∙ e)) _ c.wide-last-in-loop-last.ensures

pub returns : goal.returns
returns c = back_all c.requires c.loop-last.invariant (sym (read c.requires c.loop-last.invariant) ∙ c.loop-last-test.false)
