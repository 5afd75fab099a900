-- `figures::inner::sums::add_totals` meets its contract. The loop's invariant: the row has the sums in front, and behind them its own totals.
use Rattle.std.proofs.Common.{◌≡◌, ℕ, ◌<◌, List, length, get_or, ◌∙◌, ap, arith}
use Rattle.figures.proofs.TotalLaws.{so_far, at_most_total, so_far_at, so_far_more, so_far_all}
use Rattle.figures.proofs.inner.sums.add_totals.Goals as goal

-- from i on the row is as it was
unchanged : (a b row : List ℕ) (i : ℕ) → length a ≡ length b → row ≡ so_far a b i → i < length b → get_or row i 0 ≡ get_or a i 0
unchanged a b row i e is h = ap (λ (r : List ℕ). get_or r i 0) is ∙ so_far_at a b e i (omega arith)

pub overflow_add-row : goal.overflow_add-row
overflow_add-row c =
    let a = c.args.row.now in
    let b = c.args.other.now in
    let i = c.loop-i.i in
    record { fits = omega (arith, unchanged a b c.loop-i.row i c.requires.0 c.loop-i.invariant c.loop-i-test.true, at_most_total a i, at_most_total b i, c.requires.1) }

pub loop-i-preserved : goal.loop-i-preserved
loop-i-preserved c =
    let a = c.args.row.now in
    let b = c.args.other.now in
    rw (unchanged a b c.loop-i.row c.loop-i.i c.requires.0 c.loop-i.invariant c.loop-i-test.true, c.loop-i.invariant)
    (so_far_more a b c.requires.0 c.loop-i.i (omega (arith, c.requires.0)))

pub returns : goal.returns
returns c = c.loop-i.invariant ∙ so_far_all c.args.row.now c.args.other.now c.requires.0 c.loop-i.i (omega (arith, c.requires.0, c.loop-i.auto.i-end))
