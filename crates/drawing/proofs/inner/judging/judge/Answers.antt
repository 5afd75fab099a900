-- `drawing::inner::judging::judge` meets its contract: each test is a rung of the ladder.
use Rattle.std.proofs.lemmas.Result.{err_from_is_err_and}
use mathlib.Core.Path.{◌≡◌, refl}
use Rattle.replies.proofs.RefusalLaws.{refusals_have_numbers}
use Prim.Native.Nat.{ℕ, ◌*◌, ◌/◌, ◌%◌, ◌≤◌, ◌<◌}
use native.Mathlib.Omega.{arith}
use lib.ListN.{length}
use Rattle.grid.specs.Limits.{most}
use Rattle.drawing.specs.Commands.{asked}
use Rattle.drawing.proofs.ImportLaws.{lengths_differ, fault_found, too_many, not_refused}
use Rattle.drawing.proofs.inner.judging.judge.Goals as goal

-- past both tests the lengths match
match : (floats n asked : ℕ) → (floats % 2 ≡ 1 → ⊥) → floats / 2 ≡ n → 2 * n ≡ asked → floats ≡ asked
match floats n asked odd e h = omega arith

pub returns-then-floats-eq1 : goal.returns-then-floats-eq1
returns-then-floats-eq1 c =
    let s = c.args in
    lengths_differ s.kinds.now s.floats.now (λ h. omega (arith, c.places-n.ensures))

pub returns-then-floats-n : goal.returns-then-floats-n
returns-then-floats-n c =
    let s = c.args in
    lengths_differ s.kinds.now s.floats.now (λ h. omega (arith, c.places-n.ensures))

pub first_fault-requires : goal.first_fault-requires
first_fault-requires c = match _ _ _ c.if-floats-eq1.false c.if-floats-n.false c.places-n.ensures

pub returns-in_err-first_fault : goal.returns-in_err-first_fault
returns-in_err-first_fault c =
    let p = err_from_is_err_and c.from_residual.result c.from_residual.ensures.1 in
    rw (p.1, p.2) (fault_found _ _ (match _ _ _ c.if-floats-eq1.false c.if-floats-n.false c.places-n.ensures) _ c.in_err-first_fault.ensures (refusals_have_numbers _))

pub returns-then-n-gt-MOST : goal.returns-then-n-gt-MOST
unfolding most
returns-then-n-gt-MOST c =
    let s = c.args in
    let over : most < length s.floats.now / 2 = omega (arith, c.if-n-gt-MOST.true) in
    too_many _ _ (match _ _ _ c.if-floats-eq1.false c.if-floats-n.false c.places-n.ensures) _ c.in_ok-first_fault.ensures refl over

pub returns : goal.returns
unfolding most
returns c =
    let s = c.args in
    let few : length s.floats.now / 2 ≤ most = omega (arith, c.if-n-gt-MOST.false) in
    not_refused _ _ (match _ _ _ c.if-floats-eq1.false c.if-floats-n.false c.places-n.ensures) _ c.in_ok-first_fault.ensures refl few
