-- `grid::inner::bounds::all_on_grid` meets its contract: all numbers are read, or the first four and the last four.
use Rattle.std.proofs.Common.{◌-◌, ◌≤◌, Bool, not, ◌&&◌, ◌||◌, ltb, length, take, drop, sym, ap, ◌∙◌, ap₂, arith, ltb-false}
use mathlib.Core.Bool.{not-not}
use Rattle.integers.proofs.Logic.{or_right, not_both}
use Rattle.grid.specs.Limits.{all_on_grid}
use Rattle.grid.proofs.LimitLaws.{on_parts}
use Rattle.grid.proofs.inner.bounds.all_on_grid.Goals as goal

pub returns : goal.returns
returns c =
    let row = c.args.row.now in
    let bound = c.args.bound in
    let n = length row in
    let few : n ≤ 8 = ltb-false 8 n (or_right (ltb n 4) (ltb 8 n) c.if-n.false) in
    let front = all_on_grid bound (take 4 row) in
    let back = all_on_grid bound (take (n - (n - 4)) (drop (n - 4) row)) in
    ap₂ (λ (s t : Bool). not (s || t)) c.some_beyond-2.ensures c.some_beyond-3.ensures
    ∙ ap not (sym (not_both front back)) ∙ not-not (front && back)
    ∙ on_parts bound 4 (n - 4) (n - (n - 4)) row (omega arith) (omega arith)
