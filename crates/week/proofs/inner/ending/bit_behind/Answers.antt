-- `week::inner::ending::bit_behind` meets its contract: behind what is passed stands what is left.
use mathlib.Core.Path.{◌≡◌, sym, ◌∙◌, ap}
use Prim.Native.Nat.{ℕ, ◌+◌, ◌-◌}
use native.Mathlib.Omega.{arith}
use Rattle.setfile.specs.inside.Reading.{from_bit, At}
use Rattle.week.specs.Files.{bit_behind}
use Rattle.week.proofs.EndLaws.{none_is, some_is, none_back, some_back, behind_next, none_behind, more_behind, nothing_more}
use Rattle.week.proofs.inner.ending.bit_behind.Goals as goal

pub loop-init : goal.loop-init
loop-init c =
    let s = c.args in
    let e : s.n ≡ s.n - 0 = omega arith in
    (c.requires, omega arith, omega arith, ap (λ (k : ℕ). bit_behind s.second k 16 (from_bit s.bytes.now 16)) e)

pub returns-in_err-size : goal.returns-in_err-size
returns-in_err-size c =
    let l = c.loop in
    let s = c.args in
    let none = none_back _ c.in_err-size.ensures in
    c.from_residual.ensures ∙ none_is _ (none_behind s.second s.bytes.now s.n l.counter l.at c.loop-test.true 0 (sym none) (omega arith) ∙ sym l.invariant.3)

-- behind the contour that is met
past : (c : goal.In_ok-size) →
    let s = c.args in
    At s.second s.bytes.now (c.loop.at + c.in_ok-size.size)
past c =
    let s = c.args in
    behind_next s.second s.bytes.now c.loop.at c.loop.invariant.0 _ (some_back _ _ c.in_ok-size.ensures).0

pub overflow_add-at : goal.overflow_add-at
overflow_add-at c = let a = past c in omega (arith, a.within, a.short)

pub loop-preserved : goal.loop-preserved
loop-preserved c =
    let l = c.loop in
    let s = c.args in
    let some = some_back _ _ c.in_ok-size.ensures in (
      past c,
      omega (arith, l.invariant.1),
      omega arith,
      l.invariant.3
          ∙ more_behind s.second s.bytes.now s.n l.counter l.at c.loop-test.true _ some.0 some.1,
    )

pub returns : goal.returns
returns c =
    let l = c.loop in
    let s = c.args in
    some_is l.at _ (nothing_more s.second (s.n - l.counter) l.at (from_bit s.bytes.now l.at) (omega arith) ∙ sym l.invariant.3) (λ z. omega (arith, l.invariant.1))
