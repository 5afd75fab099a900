-- What a broad pen writes is what the pen writes that it is.
use mathlib.Core.Path.{◌≡◌, sym, ◌∙◌, ap, ap₂, subst}
use mathlib.Core.Bool.{Bool}
use mathlib.Core.List.{List}
use Prim.Native.Nat.{ℕ, ◌+◌, ◌-◌, ◌*◌, ◌/◌, ◌%◌, ◌^◌, ◌<◌, ◌≤◌}
use native.Mathlib.Nat.{mod-lt, mul_assoc, add-mul, mul-add-div_right, mul-add-mod_self_right}
use native.Mathlib.Omega.{arith}
use lib.ListN.{length}
use lib.Pow.{pow-add, pow_pos, shl_lt, shl_exact, shl-shr, shr_lt, shr-shr, low, mod-pow-add}
use Rattle.bits.specs.declared.inner.pens.Pen.{Pen}
use Rattle.bits.specs.declared.inner.broad.Broad.{Broad}
use Rattle.rows.specs.Rows.{placed}
use Rattle.bits.specs.Bits.{field, bits}
use Rattle.bits.specs.inside.Words.{spelled}
use Rattle.bits.specs.inside.Pens.{pen, Ready, Wrote, broad, narrowed, Fronted}
use Rattle.bits.proofs.WordLaws.{spelled-length, spelled_bits}
use Rattle.bits.proofs.PenLaws.{up_below, wrote_up, wrote_out}

-- the bits that a shift moves out of a word are lost
lost : (m i j : ℕ) → m * 2 ^ j % 2 ^ (i + j) ≡ m % 2 ^ i * 2 ^ j
lost m i j =
    let z : m * 2 ^ j ≡ m * 2 ^ j + 0 = omega arith in
    mod-pow-add (m * 2 ^ j) i j
    ∙ ap₂ (λ (a b : ℕ). a % 2 ^ i * 2 ^ j + b) (shl-shr m j) (ap (λ (n : ℕ). n % 2 ^ j) z ∙ low m j (pow_pos j))
    ∙ omega arith

-- of a word of 64
lost_of : (m v : ℕ) → v ≤ 64 → m * 2 ^ (64 - v) % 2 ^ 64 ≡ m % 2 ^ v * 2 ^ (64 - v)
lost_of m v h =
    let e : v + (64 - v) ≡ 64 = omega arith in
    ap (λ (n : ℕ). m * 2 ^ (64 - v) % 2 ^ n) (sym e) ∙ lost m v (64 - v)

-- v bits at the front of a word
module _ (at m v : ℕ) (few : v ≤ 64) (small : m < 2 ^ v) (k : ℕ) (e : k ≡ m * 2 ^ (64 - v)) where
  back : k / 2 ^ (64 - v) ≡ m
  back = ap (λ (n : ℕ). n / 2 ^ (64 - v)) e ∙ shl-shr m (64 - v)

  pub narrowed_is : narrowed (broad at k v) ≡ pen at m v
  narrowed_is = ap (λ (n : ℕ). pen at n v) back

  pub fronted : Fronted (broad at k v)
  fronted = record { few = few; small = rw back small; is = e ∙ ap (λ (n : ℕ). n * 2 ^ (64 - v)) (sym back) }

-- a pen made broad
module _ (p : Pen) (ready : Ready p) where
  front_is : p.kept * 2 ^ (32 - p.width) % 2 ^ 64 * 2 ^ 32 % 2 ^ 64 ≡ p.kept * 2 ^ (64 - p.width)
  front_is =
      let a : p.width + (32 - p.width) ≡ 32 = omega (arith, ready.few) in
      let b : 32 - p.width + 32 ≡ 64 - p.width = omega (arith, ready.few) in
      let l : p.kept * 2 ^ (32 - p.width) < 2 ^ 32 = rw a at (shl_lt p.width (32 - p.width) ready.small) in
      ap (λ (n : ℕ). n * 2 ^ 32 % 2 ^ 64) (shl_exact p.width (32 - p.width) 64 ready.small (omega (arith, ready.few)))
      ∙ shl_exact 32 32 64 l (omega arith)
      ∙ mul_assoc p.kept (2 ^ (32 - p.width)) (2 ^ 32)
      ∙ ap (λ (n : ℕ). p.kept * n) (sym (pow-add 2 (32 - p.width) 32) ∙ ap (λ (n : ℕ). 2 ^ n) b)

  pub broadened : Fronted (broad p.at (p.kept * 2 ^ (32 - p.width) % 2 ^ 64 * 2 ^ 32 % 2 ^ 64) p.width)
  broadened = fronted p.at p.kept p.width (omega (arith, ready.few)) ready.small _ front_is

  pub broadened_is : narrowed (broad p.at (p.kept * 2 ^ (32 - p.width) % 2 ^ 64 * 2 ^ 32 % 2 ^ 64) p.width) ≡ p
  broadened_is = narrowed_is p.at p.kept p.width (omega (arith, ready.few)) ready.small _ front_is

-- a number in a field of w bits
module _ (b : Broad) (row : List ℕ) (w n : ℕ) (f : Fronted b) (within : n < 2 ^ w) where
  abbrev m : ℕ
  m = b.kept / 2 ^ (64 - b.width)

  up : Wrote (narrowed b) (field w n) row (pen b.at (m * 2 ^ w + n) (b.width + w)) row
  up = wrote_up (narrowed b) row w n f.small within

  -- the word has room for it
  module _ (v : ℕ) (e : v ≡ b.width + w) (few : v ≤ 64) where
    behind : b.kept + n * 2 ^ (64 - v) % 2 ^ 64 ≡ (m * 2 ^ w + n) * 2 ^ (64 - v)
    behind =
        let g : ℕ = 64 - v in
        let s : 64 - b.width ≡ w + g = omega (arith, f.few) in
        ap₂ ◌+◌
        (f.is ∙ ap (λ (i : ℕ). m * i) (ap (λ (i : ℕ). 2 ^ i) s ∙ pow-add 2 w g) ∙ sym (mul_assoc m (2 ^ w) (2 ^ g)))
        (shl_exact w g 64 within (omega (arith, f.few)))
        ∙ sym (add-mul (m * 2 ^ w) n (2 ^ g))

    below : m * 2 ^ w + n < 2 ^ v
    below = rw e (up_below (narrowed b) row w n f.small within)

    -- the sum fits a word
    pub behind_fits : b.kept + n * 2 ^ (64 - v) % 2 ^ 64 < 2 ^ 64
    behind_fits =
        let s : v + (64 - v) ≡ 64 = omega arith in
        rw behind (subst (λ (i : ℕ). (m * 2 ^ w + n) * 2 ^ (64 - v) < 2 ^ i) s (shl_lt v (64 - v) below))

    pub swept : Wrote (narrowed b) (field w n) row (narrowed (broad b.at (b.kept + n * 2 ^ (64 - v) % 2 ^ 64) v)) row
    swept = rw (narrowed_is b.at (m * 2 ^ w + n) v few below _ behind, e) up

    pub swept_front : Fronted (broad b.at (b.kept + n * 2 ^ (64 - v) % 2 ^ 64) v)
    swept_front = fronted b.at (m * 2 ^ w + n) v few below _ behind

  -- it fills eight bytes, and r bits are left
  module _ (r : ℕ) (e : b.width + w ≡ 64 + r) (few : r ≤ 64) where
    taken : m * 2 ^ w ≡ b.kept * 2 ^ r
    taken =
        let s : w ≡ 64 - b.width + r = omega (arith, f.few) in
        ap (λ (i : ℕ). m * i) (ap (λ (i : ℕ). 2 ^ i) s ∙ pow-add 2 (64 - b.width) r)
        ∙ sym (mul_assoc m (2 ^ (64 - b.width)) (2 ^ r))
        ∙ ap (λ (i : ℕ). i * 2 ^ r) (sym f.is)

    pub full_is : (m * 2 ^ w + n) / 2 ^ r ≡ b.kept + n / 2 ^ r
    full_is = ap (λ (i : ℕ). (i + n) / 2 ^ r) taken ∙ mul-add-div_right (pow_pos r) b.kept n

    pub full_fits : b.kept + n / 2 ^ r < 2 ^ 64
    full_fits =
        rw (← full_is)
        (shr_lt 64 r (subst (λ (i : ℕ). m * 2 ^ w + n < 2 ^ i) e (up_below (narrowed b) row w n f.small within)))

    rest_is : (m * 2 ^ w + n) % 2 ^ r ≡ n % 2 ^ r
    rest_is = ap (λ (i : ℕ). (i + n) % 2 ^ r) taken ∙ mul-add-mod_self_right b.kept (2 ^ r) n

    pub swept_rest : Fronted (broad (b.at + 8) (n * 2 ^ (64 - r) % 2 ^ 64) r)
    swept_rest = fronted (b.at + 8) (n % 2 ^ r) r few (mod-lt n (pow_pos r)) _ (lost_of n r few)

    module _ (room : b.at + 8 ≤ length row) (full : ℕ) (is : full ≡ b.kept + n / 2 ^ r) where
      pub swept_out : Wrote (narrowed b) (field w n) row (narrowed (broad (b.at + 8) (n * 2 ^ (64 - r) % 2 ^ 64) r)) (placed b.at (spelled 8 full) row)
      swept_out =
          let long : length (spelled 8 full) ≡ 8 = spelled-length 8 full in
          let t : 8 * length (spelled 8 full) ≡ 64 = ap (λ (i : ℕ). 8 * i) long in
          let whole : bits (spelled 8 full) ≡ field (8 * length (spelled 8 full)) ((m * 2 ^ w + n) / 2 ^ r) = spelled_bits 8 full ∙ ap₂ field (sym t) (is ∙ sym full_is) in
          let out = wrote_out (spelled 8 full) r up (omega (arith, long, e)) whole (omega (arith, long)) in
          rw (narrowed_is (b.at + 8) (n % 2 ^ r) r few (mod-lt n (pow_pos r)) _ (lost_of n r few))
          (subst (λ (i : ℕ). Wrote (narrowed b) (field w n) row (pen (b.at + 8) i r) (placed b.at (spelled 8 full) row)) rest_is
          (subst (λ (i : ℕ). Wrote (narrowed b) (field w n) row (pen (b.at + i) ((m * 2 ^ w + n) % 2 ^ r) r) (placed b.at (spelled 8 full) row)) long out))

-- the first 32 of the bits that are kept go to the row
module _ {p : Pen} {l : List Bool} {row mid : List ℕ} (b : Broad) (r : ℕ) (f : Fronted b) (g : Wrote p l row (narrowed b) mid) (e : b.width ≡ 32 + r) where
  shifted : b.kept * 2 ^ 32 % 2 ^ 64 ≡ b.kept / 2 ^ (64 - b.width) % 2 ^ r * 2 ^ (64 - r)
  shifted =
      let m : ℕ = b.kept / 2 ^ (64 - b.width) in
      let s : 64 - b.width + 32 ≡ 64 - r = omega (arith, f.few) in
      ap (λ (i : ℕ). i * 2 ^ 32 % 2 ^ 64) f.is
      ∙ ap (λ (i : ℕ). i % 2 ^ 64) (mul_assoc m (2 ^ (64 - b.width)) (2 ^ 32) ∙ ap (λ (i : ℕ). m * i) (sym (pow-add 2 (64 - b.width) 32) ∙ ap (λ (i : ℕ). 2 ^ i) s))
      ∙ lost_of m r (omega (arith, f.few))

  left : b.kept / 2 ^ (64 - b.width) % 2 ^ r < 2 ^ r
  left = mod-lt (b.kept / 2 ^ (64 - b.width)) (pow_pos r)

  pub poured_front : Fronted (broad (b.at + 4) (b.kept * 2 ^ 32 % 2 ^ 64) r)
  poured_front = fronted (b.at + 4) (b.kept / 2 ^ (64 - b.width) % 2 ^ r) r (omega (arith, f.few)) left _ shifted

  pub poured : {exit : List ℕ} → b.at + 4 ≤ length row → exit ≡ placed b.at (spelled 4 (b.kept / 2 ^ 32)) mid
      → Wrote p l row (narrowed (broad (b.at + 4) (b.kept * 2 ^ 32 % 2 ^ 64) r)) exit
  poured {exit} room put =
      let four : List ℕ = spelled 4 (b.kept / 2 ^ 32) in
      let long : length four ≡ 4 = spelled-length 4 (b.kept / 2 ^ 32) in
      let t : 8 * length four ≡ 32 = ap (λ (i : ℕ). 8 * i) long in
      let s : 64 - b.width + r ≡ 32 = omega (arith, f.few) in
      let high : b.kept / 2 ^ (64 - b.width) / 2 ^ r ≡ b.kept / 2 ^ 32 = shr-shr b.kept (64 - b.width) r ∙ ap (λ (i : ℕ). b.kept / 2 ^ i) s in
      let out = wrote_out four r g (omega (arith, long, e)) (spelled_bits 4 (b.kept / 2 ^ 32) ∙ ap₂ field (sym t) (sym high)) (omega (arith, long)) in
      rw (narrowed_is (b.at + 4) (b.kept / 2 ^ (64 - b.width) % 2 ^ r) r (omega (arith, f.few)) left _ shifted, put)
      (subst (λ (i : ℕ). Wrote p l row (pen (b.at + i) (b.kept / 2 ^ (64 - b.width) % 2 ^ r) r) (placed b.at four mid)) long out)

-- fewer are left
pub narrow_is : (at k v : ℕ) → v < 32 → pen at (k / 2 ^ 32 / 2 ^ (32 - v)) v ≡ narrowed (broad at k v)
narrow_is at k v h =
    let e : 32 + (32 - v) ≡ 64 - v = omega arith in
    ap (λ (n : ℕ). pen at n v) (shr-shr k 32 (32 - v) ∙ ap (λ (n : ℕ). k / 2 ^ n) e)
