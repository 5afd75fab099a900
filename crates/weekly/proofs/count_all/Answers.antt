-- `weekly::count_all` meets its contract: what is counted file by file is possible.
use Rattle.std.proofs.Common.{rules, arith, sym, subst, true, false, take}
use Rattle.week.proofs.WeekLaws.{Counted, counted_none, counted_possible, week_counted, week_goes_on}
use Rattle.weekly.proofs.count_all.Goals as goal

pub loop-n-init : goal.loop-n-init
loop-n-init g c = (
  search rules,
  c.in_ok-n.ensures,
  omega arith,
  subst Counted (sym c.none.ensures) counted_none,
)

pub returns-then-week : goal.returns-then-week
returns-then-week g c = counted_possible c.loop-n.invariant.3

pub returns-in_default : goal.returns-in_default
returns-in_default g c =
    counted_possible (week_counted c.loop-n.week true (take c.loop-n.n c.loop-n.window) c.count.result c.count.ensures c.loop-n.invariant.3)

pub returns-then-week-2 : goal.returns-then-week-2
returns-then-week-2 g c =
    counted_possible
    (week_counted c.loop-n.week false (take c.in-Some.k c.loop-n.window) c.count-week.result c.count-week.ensures c.loop-n.invariant.3)

pub loop-n-smaller : goal.loop-n-smaller
loop-n-smaller g c =
    omega (
      arith,
      week_goes_on c.loop-n.week false (take c.in-Some.k c.loop-n.window) c.count-week.result c.count-week.ensures c.if-week-2.false,
      c.loop-n.invariant.2,
      c.if-week.false,
    )

pub loop-n-preserved : goal.loop-n-preserved
loop-n-preserved g c = (
  search rules,
  c.in_ok-n-2.ensures,
  omega (
    arith,
    week_goes_on c.loop-n.week false (take c.in-Some.k c.loop-n.window) c.count-week.result c.count-week.ensures c.if-week-2.false,
    c.loop-n.invariant.2,
    c.if-week.false,
  ),
  week_counted c.loop-n.week false (take c.in-Some.k c.loop-n.window) c.count-week.result c.count-week.ensures c.loop-n.invariant.3,
)

pub returns : goal.returns
returns g c = counted_possible c.loop-n.invariant.3
