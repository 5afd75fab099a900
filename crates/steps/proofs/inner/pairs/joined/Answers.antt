-- `steps::inner::pairs::joined` meets its contract.
use mathlib.Core.Path.{◌≡◌, ◌∙◌}
use mathlib.Core.Bool.{true}
use mathlib.Core.List.{List}
use Prim.Native.Nat.{ℕ, ◌+◌}
use lib.ListN.{get_or}
use lib.IntN.{ℤ, pos}
use mir.Syntax.{w32}
use mir.Val.{to_z, of_z}
use Rattle.integers.proofs.Bound.{back}
use Rattle.grid.specs.Limits.{limit, all_on_grid}
use Rattle.steps.proofs.PairLaws.{in_grid, product_fits, joined_fits, joined_is}
use Rattle.steps.proofs.inner.pairs.joined.Goals as goal

-- a coordinate is read as it is
read : (l : List ℤ) → all_on_grid limit l ≡ true → (k : ℕ) {r : ℤ} → r ≡ to_z w32 (of_z w32 (get_or l k (pos 0))) → r ≡ get_or l k (pos 0)
unfolding limit
read l on k e = e ∙ back w32 (in_grid l on k) tt

pub overflow_mul-result : goal.overflow_mul-result
overflow_mul-result c =
    let s = c.args in
    let l = s.contour.now in
    let on = c.requires.1 in
    product_fits _ _ _ _ _ (in_grid l on s.k) (in_grid l on s.k) c.requires.2 (read l on s.k c.from.ensures) (read l on s.k c.from.ensures)

pub overflow_add-result : goal.overflow_add-result
overflow_add-result c =
    let s = c.args in
    let l = s.contour.now in
    let on = c.requires.1 in
    joined_fits _ _ _ _ _ (in_grid l on s.k) (in_grid l on (s.k + 1)) c.requires.2 (read l on s.k c.from.ensures) (read l on (s.k + 1) c.from-2.ensures)

pub returns : goal.returns
returns c =
    let s = c.args in
    let l = s.contour.now in
    let on = c.requires.1 in
    joined_is _ _ _ _ _ (in_grid l on s.k) (in_grid l on (s.k + 1)) c.requires.2 (read l on s.k c.from.ensures) (read l on (s.k + 1) c.from-2.ensures)
