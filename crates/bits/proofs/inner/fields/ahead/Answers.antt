-- `bits::inner::fields::ahead` meets its contract.
use mathlib.Core.Path.{◌≡◌, sym, ap₂, subst}
use Prim.Native.Nat.{ℕ, ◌+◌, ◌-◌, ◌*◌, ◌/◌, ◌%◌, ◌^◌}
use native.Mathlib.Omega.{arith}
use Rattle.bits.specs.inside.Words.{Ahead}
use Rattle.bits.proofs.WordLaws.{ahead_is}
use Rattle.bits.proofs.inner.fields.ahead.Goals as goal

pub returns : goal.returns
returns c =
    let s = c.args in
    let p = c.requires in
    let i : ℕ = (s.at + s.width - 1) / 8 - 7 in
    let n : s.at - 8 * i ≡ (s.at + s.width - 1) % 8 + (57 - s.width) = omega (arith, p.0.some, p.0.few, p.1) in
    subst (Ahead s.bytes.now s.at s.width) (ap₂ (λ (v k : ℕ). v * 2 ^ k % 2 ^ 64) (sym c.eight.ensures) n)
    (ahead_is s.bytes.now i s.at s.width (λ k. (c.type_inv.bytes k).fits)
    (omega (arith, p.0.some, p.0.few, p.1)) (omega (arith, p.0.some, p.0.few, p.1)) p.0.room)
