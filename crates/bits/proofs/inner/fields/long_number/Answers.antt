-- `bits::inner::fields::long_number` meets its contract.
use mathlib.Core.Path.{◌≡◌, ◌∙◌, ap}
use Prim.Native.Nat.{ℕ, ◌*◌, ◌-◌, ◌/◌, ◌%◌, ◌^◌, min}
use native.Mathlib.Omega.{arith}
use lib.ListN.{length}
use Rattle.bits.proofs.WordLaws.{number_is}
use Rattle.bits.proofs.inner.fields.long_number.Goals as goal

pub returns : goal.returns
returns c =
    let s = c.args in
    let p = c.requires in
    let i : ℕ = c.min-from.result in
    let e : i ≡ min (s.at / 8) (length s.bytes.now - 8) = c.min-from.ensures in
    ap (λ (v : ℕ). v * 2 ^ (s.at - 8 * i) % 2 ^ 64 / 2 ^ (64 - s.width)) c.eight.ensures
    ∙ number_is s.bytes.now i s.at s.width (λ k. (c.type_inv.bytes k).fits) (omega (arith, e)) (omega (arith, e, p.0.few, p.0.room, p.1)) p.0.room
