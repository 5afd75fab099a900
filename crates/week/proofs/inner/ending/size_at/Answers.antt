-- `week::inner::ending::size_at` meets its contract.
use mathlib.Core.Path.{◌≡◌, sym, ◌∙◌, ap}
use mathlib.Core.Bool.{Bool}
use mathlib.Core.List.{List}
use Prim.Native.Nat.{ℕ, ◌*◌, ◌-◌}
use native.Mathlib.Omega.{arith}
use lib.ListN.{length}
use Rattle.setfile.specs.Editions.{layout}
use Rattle.setfile.specs.inside.Reading.{from_bit, At, header_in, size_of}
use Rattle.setfile.specs.declared.inner.headers.Header.{Header}
use Rattle.setfile.proofs.ContourLaws.{size_is, header_small, from-length}
use Rattle.week.proofs.EndLaws.{none_is, some_is, some_bits, no_header, not_all, all_there}
use Rattle.week.proofs.inner.ending.size_at.Goals as goal

-- the bits that are left
left : {s : Bool} {f : List ℕ} {at : ℕ} → At s f at → length (from_bit f at) ≡ 8 * length f - at
left {s} {f} {at} a = omega (arith, from-length f at a.within, a.within)

-- the size, as the layout has it
sized : (s : Bool) (l : List Bool) (h : Header) → h ≡ header_in s l → (z : ℕ) → z ≡ size_of s h → (layout s).size l ≡ z
sized s l h e z g = size_is s l ∙ ap (size_of s) (sym e) ∙ sym g

pub overflow_mul-rest : goal.overflow_mul-rest
overflow_mul-rest c = omega (arith, c.requires.short)

pub overflow_sub-rest : goal.overflow_sub-rest
overflow_sub-rest c = omega (arith, c.requires.within)

pub returns-then-rest-header_size : goal.returns-then-rest-header_size
returns-then-rest-header_size c =
    let s = c.args in
    none_is _ (no_header s.second (from_bit s.bytes.now s.at) (omega (arith, left c.requires, c.if-rest-header_size.true, c.header_size.ensures)))

pub header_at-h-requires : goal.header_at-h-requires
header_at-h-requires c = (c.requires, omega (arith, c.requires.within, c.if-rest-header_size.false, c.header_size.ensures))

pub size-size-requires : goal.size-size-requires
size-size-requires c =
    let s = c.args in
    header_small s.second (from_bit s.bytes.now s.at) (omega (arith, left c.requires, c.if-rest-header_size.false, c.header_size.ensures)) c.header_at-h.result c.header_at-h.ensures

pub returns-then-rest-size : goal.returns-then-rest-size
returns-then-rest-size c =
    let s = c.args in
    let l = from_bit s.bytes.now s.at in
    let z = sized s.second l _ c.header_at-h.ensures _ c.size-size.ensures in
    none_is _ (not_all s.second l (omega (arith, left c.requires, c.if-rest-header_size.false, c.header_size.ensures)) (omega (arith, z, c.if-rest-size.true, left c.requires)))

pub returns : goal.returns
returns c =
    let s = c.args in
    let l = from_bit s.bytes.now s.at in
    let z = sized s.second l _ c.header_at-h.ensures _ c.size-size.ensures in
    some_is c.size-size.result _
    (sym z ∙ all_there s.second l (omega (arith, left c.requires, c.if-rest-header_size.false, c.header_size.ensures)) (omega (arith, z, c.if-rest-size.false, left c.requires)))
    (λ e. some_bits s.second c.header_at-h.result (sym c.size-size.ensures ∙ e))
