-- `steps::inner::reading::moved` meets its contract.
use mathlib.Core.Path.{◌≡◌, sym, ◌∙◌, ap₂, subst}
use native.Mathlib.Omega.{arith}
use lib.IntN.{◌+ℤ◌}
use mir.Syntax.{w32, w64}
use mir.Val.{SFits, to_z, of_z}
use mir.Facts.{to_z-of_z}
use Rattle.integers.proofs.Bound.{in_fits, in_eq, in_add, back, back_in}
use Rattle.bits.specs.Signs.{signed}
use Rattle.bits.specs.inside.Words.{leading}
use Rattle.bits.proofs.WordLaws.{leading_below}
use Rattle.grid.specs.Limits.{limit}
use Rattle.grid.proofs.LimitLaws.{on_grid_in}
use Rattle.steps.proofs.ReadLaws.{in_32, signed_small}
use Rattle.steps.proofs.inner.reading.moved.Goals as goal

pub signed-requires : goal.signed-requires
signed-requires c =
    let s = c.args in
    let p = c.requires.0 in
    (p.some, p.few, leading_below s.word s.width (omega (arith, p.few)) (omega arith))

-- the number before, and the difference
sum_is : (c : goal.After-signed) → let s = c.args in
    to_z w64 (of_z w64 (to_z w64 (of_z w64 c.from.result) +ℤ to_z w64 (of_z w64 c.signed.result))) ≡ s.x +ℤ signed s.width (leading s.word s.width)
sum_is c =
    let s = c.args in
    let p = c.requires.0 in
    let x_is = c.from.ensures ∙ to_z-of_z c.ranges.x in
    let x_in = in_eq x_is (in_32 _ c.ranges.x.sfits) in
    let d_in = in_eq c.signed.ensures (in_32 _ (signed_small (leading s.word s.width) p (leading_below s.word s.width (omega (arith, p.few)) (omega arith)))) in
    back w64 (in_add (back_in w64 x_in tt) (back_in w64 d_in tt)) tt
    ∙ ap₂ ◌+ℤ◌ (back w64 x_in tt ∙ x_is) (back w64 d_in tt ∙ c.signed.ensures)

sum_fits : (c : goal.After-signed) → SFits w32 (to_z w64 (of_z w64 (to_z w64 (of_z w64 c.from.result) +ℤ to_z w64 (of_z w64 c.signed.result))))
unfolding limit
sum_fits c = subst (SFits w32) (sym (sum_is c)) (in_fits (on_grid_in limit _ c.requires.1) tt)

pub overflow_cast-result : goal.overflow_cast-result
overflow_cast-result c = sum_fits c

pub returns : goal.returns
returns c = to_z-of_z (sum_fits c) ∙ sum_is c
