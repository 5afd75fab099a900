-- `setfile::inner::judging::end_fault` meets its contract.
use Rattle.std.proofs.Common.{◌≡◌, ℕ, ◌-◌, ◌*◌, ◌≤◌, List, length, take, sym, ap, ◌∙◌, arith, take_all}
use Rattle.bits.specs.Bits.{value}
use Rattle.setfile.specs.inside.Reading.{from_bit}
use Rattle.setfile.proofs.ContourLaws.{from-length}
use Rattle.setfile.proofs.FaultLaws.{bytes_left, fill-set, fill_unset, none_left}
use Rattle.setfile.proofs.inner.judging.end_fault.Goals as goal

-- the number of the bits that are left
number : (f : List ℕ) (at : ℕ) → at ≤ 8 * length f → {n : ℕ} → n ≡ value (take (8 * length f - at) (from_bit f at)) → n ≡ value (from_bit f at)
number f at h e = e ∙ ap value (take_all (8 * length f - at) (from_bit f at) (omega (arith, from-length f at h)))

pub returns-then-rest-ge8 : goal.returns-then-rest-ge8
returns-then-rest-ge8 c =
    let s = c.args in
    bytes_left (from_bit s.bytes.now s.at) (omega (arith, from-length s.bytes.now s.at c.requires.1, c.if-rest-ge8.true))

pub returns-then-rest-eq0 : goal.returns-then-rest-eq0
returns-then-rest-eq0 c =
    let s = c.args in
    none_left (from_bit s.bytes.now s.at) (omega (arith, from-length s.bytes.now s.at c.requires.1, c.if-rest-eq0.true))

pub number-requires : goal.number-requires
number-requires c =
    let p = c.requires in
    record { some = omega (arith, c.if-rest-eq0.false); few = omega (arith, c.if-rest-ge8.false); room = omega (arith, p.1) }

pub returns-then-number-ne0 : goal.returns-then-number-ne0
returns-then-number-ne0 c =
    let s = c.args in
    fill-set (from_bit s.bytes.now s.at) (omega (arith, from-length s.bytes.now s.at c.requires.1, c.if-rest-ge8.false)) (λ z. c.if-number-ne0.true (number s.bytes.now s.at c.requires.1 c.number.ensures ∙ z))

pub returns : goal.returns
returns c =
    let s = c.args in
    fill_unset (from_bit s.bytes.now s.at) (omega (arith, from-length s.bytes.now s.at c.requires.1, c.if-rest-ge8.false)) (sym (number s.bytes.now s.at c.requires.1 c.number.ensures) ∙ c.if-number-ne0.false)
