-- `steps::inner::reading::sums_on` meets its contract: the rest of the numbers tells.
use borrow.Author.Rules.{sfits_of}
use mathlib.Core.Path.{◌≡◌, sym, ◌∙◌, ap, ap₂}
use mathlib.Core.List.{List}
use Prim.Native.Nat.{◌+◌}
use native.Mathlib.Omega.{arith}
use lib.IntN.{ℤ, nat_abs}
use mir.Syntax.{w32, w64}
use mir.Val.{SFits, to_z, of_z}
use mir.Facts.{to_z-of_z}
use Rattle.integers.specs.Bound.{In}
use Rattle.integers.proofs.Bound.{in_fits, in_eq}
use Rattle.grid.specs.Limits.{limit, all_on_grid}
use Rattle.steps.specs.Steps.{sums}
use Rattle.steps.proofs.ReadLaws.{rest, next_off, next_on, none_off}
use Rattle.steps.proofs.inner.reading.sums_on.Goals as goal

-- what is asked for, by the numbers as they were passed
asked : (x y : ℤ) (ds : List ℤ) → SFits w32 x → SFits w32 y → all_on_grid limit (sums x y ds) ≡ all_on_grid limit (sums (to_z w32 (of_z w32 x)) (to_z w32 (of_z w32 y)) ds)
asked x y ds p q = sym (ap₂ (λ (a b : ℤ). all_on_grid limit (sums a b ds)) (to_z-of_z p) (to_z-of_z q))

pub returns-then-from-unsigned_abs : goal.returns-then-from-unsigned_abs
unfolding limit
returns-then-from-unsigned_abs c =
    let l = c.loop-i in
    let s = c.args in
    let is = to_z-of_z {w = w64} (sfits_of c.next-u.type_inv) ∙ c.next-u.ensures in
    let size = c.unsigned_abs.ensures.value ∙ ap nat_abs is in
    sym
    (asked s.x s.y _ c.ranges.x c.ranges.y
    ∙ l.invariant
    ∙ next_off s.bytes.now s.at s.width s.k (to_z w32 l.a-bits) (to_z w32 l.b-bits) l.i c.loop-i-test.true limit (omega (arith, size, c.from.ensures, c.if-from-unsigned_abs.true)))

on_is : (c : goal.Else-from-unsigned_abs) → In limit (to_z w64 (of_z w64 c.next-u.result))
unfolding limit
on_is c = record { abs = omega (arith, c.unsigned_abs.ensures.value, c.from.ensures, c.if-from-unsigned_abs.false) }

pub loop-i-preserved : goal.loop-i-preserved
unfolding limit
loop-i-preserved c =
    let l = c.loop-i in
    let s = c.args in
    let is = to_z-of_z {w = w64} (sfits_of c.next-u.type_inv) ∙ c.next-u.ensures in
    let b_fits : SFits w32 (to_z w64 (of_z w64 c.next-u.result)) = in_fits (on_is c) tt in
    l.invariant
    ∙ next_on s.bytes.now s.at s.width s.k (to_z w32 l.a-bits) (to_z w32 l.b-bits) l.i c.loop-i-test.true limit (in_eq (sym is) (on_is c)).abs
    ∙ ap (λ (u : ℤ). all_on_grid limit (sums (to_z w32 l.b-bits) u (rest s.bytes.now s.at s.width s.k (l.i + 1)))) (sym (to_z-of_z b_fits ∙ is))

pub returns : goal.returns
returns c =
    let l = c.loop-i in
    let s = c.args in
    sym (asked s.x s.y _ c.ranges.x c.ranges.y ∙ l.invariant ∙ none_off s.bytes.now s.at s.width s.k (to_z w32 l.a-bits) (to_z w32 l.b-bits) l.i limit (omega arith))
