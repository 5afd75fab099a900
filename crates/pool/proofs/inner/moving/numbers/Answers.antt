-- `pool::inner::moving::numbers` meets its contract: what has moved so far grows by one.
use Rattle.std.proofs.Common.{◌≡◌, ◌∙◌, sym, ap, ◌+◌, List, length, take, drop, get_or, ℤ, pos, arith}
use borrow.Author.Rules.{rules}
use Rattle.rows.proofs.RowLaws.{copied_none, copied_more, copied_all}
use Rattle.pool.proofs.RowLaws.{ahead, part_length, part_at}
use Rattle.pool.proofs.inner.moving.numbers.Goals as goal

pub loop-i-init : goal.loop-i-init
loop-i-init c = copied_none _ _ _

pub loop-i-preserved : goal.loop-i-preserved
loop-i-preserved c =
    let s = c.args in
    let row₀ = s.row.now in
    let m = s.at + s.gap + c.loop-i.i in
    let n = part_length row₀ (s.at + s.gap) s.n c.requires in
    copied_more _ _ _ c.loop-i.invariant (pos 0) _ (omega (arith, n, c.requires)) (omega (arith, n, c.loop-i-test.true))
    (search rules
    ∙ ap (λ (r : List ℤ). get_or r m (pos 0)) c.loop-i.invariant.is
    ∙ ahead row₀ s.at _ c.loop-i.i m (pos 0) (omega (arith, c.requires)) (omega (arith, n, c.loop-i-test.true)) (omega arith)
    ∙ sym (part_at row₀ (s.at + s.gap) s.n c.loop-i.i (pos 0) c.loop-i-test.true))

pub returns : goal.returns
returns c =
    let s = c.args in
    let n = part_length s.row.now (s.at + s.gap) s.n c.requires in
    copied_all _ _ _ c.loop-i.invariant (omega (arith, n, c.loop-i.invariant.within, c.loop-i-test.false))
