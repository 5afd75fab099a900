-- `figures::inner::sums::sum` meets its contract.
use Prim.Native.Nat.{◌/◌, ◌+◌, ◌^◌}
use native.Mathlib.Omega.{arith}
use Rattle.figures.proofs.PossibleLaws.{possible_means}
use Rattle.figures.proofs.SumLaws.{highs_fit, carry_fits, carry_is, sum_is}
use Rattle.figures.proofs.inner.sums.sum.Goals as goal

pub overflow_add-high : goal.overflow_add-high
overflow_add-high c = highs_fit (possible_means c.args.f c.requires.first).high (possible_means c.args.g c.requires.second).high

pub overflow_add-result : goal.overflow_add-result
overflow_add-result c = omega (arith, (possible_means c.args.f c.requires.first).before, (possible_means c.args.g c.requires.second).before)

pub overflow_add-result-2 : goal.overflow_add-result-2
overflow_add-result-2 c = omega (arith, (possible_means c.args.f c.requires.first).after, (possible_means c.args.g c.requires.second).after)

pub overflow_add-result-3 : goal.overflow_add-result-3
overflow_add-result-3 c = omega (arith, (possible_means c.args.f c.requires.first).decisions, (possible_means c.args.g c.requires.second).decisions)

pub overflow_add-result-4 : goal.overflow_add-result-4
overflow_add-result-4 c =
    carry_fits {n = (c.args.f.low + c.args.g.low) / 2 ^ 32} (possible_means c.args.f c.requires.first).high (possible_means c.args.g c.requires.second).high (omega arith)

pub returns : goal.returns
returns c =
    sum_is c.args.f c.args.g _ _ c.add_totals.ensures
    (carry_is {n = (c.args.f.low + c.args.g.low) / 2 ^ 32} (possible_means c.args.f c.requires.first).high (possible_means c.args.g c.requires.second).high (omega arith))
