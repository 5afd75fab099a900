-- `pool::inner::changing::take_out` meets its contract.
use Rattle.std.proofs.Common.{refl, ◌-◌, arith}
use Rattle.pool.specs.inside.Records.{Gap}
use Rattle.pool.proofs.LayoutLaws.{gap, gone}
use Rattle.pool.proofs.inner.changing.take_out.Goals as goal
use Rattle.pool.proofs.inner.changing.take_out.Goals.{Start}

gap_of : (c : Start) → Gap c.args.points.now c.args.records.now c.args.n c.args.total (c.args.newest - 1)
gap_of c = gap _ c.args.points.now c.args.records.now c.args.n c.requires.holds.lies (c.args.newest - 1) (omega arith) c.args.total c.requires.holds.counts

pub overflow_mul-start : goal.overflow_mul-start
overflow_mul-start c =
    let g = gap_of (goal.at.overflow_mul-start c).Start in
    omega (arith, g.forward, g.ends, g.long)

pub overflow_sub-end : goal.overflow_sub-end
overflow_sub-end c = (gap_of (goal.at.overflow_sub-end c).Start).forward

pub overflow_mul-end : goal.overflow_mul-end
overflow_mul-end c =
    let g = gap_of (goal.at.overflow_mul-end c).Start in
    omega (arith, g.forward, g.ends, g.long)

pub overflow_sub-total : goal.overflow_sub-total
overflow_sub-total c = (gap_of (goal.at.overflow_sub-total c).Start).ends

pub overflow_mul-total : goal.overflow_mul-total
overflow_mul-total c =
    let g = gap_of (goal.at.overflow_mul-total c).Start in
    omega (arith, g.forward, g.ends, g.long)

pub numbers-requires : goal.numbers-requires
numbers-requires c =
    let g = gap_of (goal.at.numbers-requires c).Start in
    omega (arith, g.forward, g.ends, g.long)

pub overflow_sub-end-2 : goal.overflow_sub-end-2
overflow_sub-end-2 c = (gap_of (goal.at.overflow_sub-end-2 c).Start).forward

pub records-requires : goal.records-requires
records-requires c = (gap_of (goal.at.records-requires c).Start).behind

pub returns : goal.returns
returns c =
    λ press w.
    gone _ c.args.points.now c.args.records.now c.args.n c.requires.holds.lies (c.args.newest - 1) (omega arith) press c.args.total c.requires.holds.counts
    (w.there (omega arith)) (λ j a b e. w.later j (omega arith) b e) _ _ _ _ refl refl
    c.numbers.ensures c.records.ensures
