-- A header, by the number that its fields are.
use Rattle.std.proofs.Common.{◌≡◌, ℕ, zero, suc, ◌+◌, ◌-◌, ◌*◌, ◌/◌, ◌%◌, ◌<◌, ◌≤◌, Bool, true, false, eqb, leb, List, [], ◌∷◌, length, get_or, take, drop, sym, refl, ap, ◌∙◌, arith, length-drop, eq-eqb, ne_eqb, leb-false, leb-true}
use Rattle.bits.specs.Bits.{value, bits}
use Rattle.bits.specs.inside.Words.{word}
use Rattle.bits.proofs.BitLaws.{taken_below, high_bits, low_bits, bits-length}
use Rattle.bits.proofs.WordLaws.{EachByte, word_whole}
use Rattle.steps.specs.Bodies.{body_size}
use Rattle.setfile.specs.declared.inner.headers.Header.{Header}
use Rattle.setfile.specs.Layouts.{edition_of}
use Rattle.setfile.specs.Format.{begins, points_in}
use Rattle.setfile.specs.Edition2.{width_in}
use Rattle.setfile.specs.inside.Bytes.{pair}
use Rattle.setfile.specs.inside.Reading.{from_bit, header_in}
use Rattle.setfile.proofs.ByteLaws.{starts_by_pair, held_by_pair}
use Rattle.setfile.proofs.ContourLaws.{from_byte}

same_header : {a b : Bool} {k l v w : ℕ} → a ≡ b → k ≡ l → v ≡ w → ◌≡◌ {A = Header} (record { begins = a; count = k; width = v }) (record { begins = b; count = l; width = w })
same_header e f g = cc

-- in edition 1 two bytes
pub first_header : (f : List ℕ) (at : ℕ) → 8 * (at / 8) ≡ at → at + 16 ≤ 8 * length f → (p : ℕ) → p ≡ pair (drop (at / 8) f)
    → record { begins = leb 32768 p; count = p % 32768; width = 32 } ≡ header_in false (from_bit f at)
first_header f at e h p q =
    let g : List ℕ = drop (at / 8) f in
    let two : 2 ≤ length g = omega (arith, length-drop (at / 8) f) in
    same_header (ap (leb 32768) q ∙ starts_by_pair g two) (ap (λ (n : ℕ). n % 32768) q ∙ held_by_pair g two) refl ∙ ap (header_in false) (sym (from_byte f at e))

-- in edition 2 a field of 22 bits
module _ (l : List Bool) (h : 22 ≤ length l) (n : ℕ) (e : n ≡ value (take 22 l)) where
  below : n < 4194304
  below = omega (arith, e, taken_below 22 l h)

  begins_is : leb 2097152 n ≡ begins l
  begins_is = sym (ap (λ (k : ℕ). eqb k 1) (high_bits l 1 21 h ∙ ap (λ (k : ℕ). k / 2097152) (sym e)) ∙ go (leb 2097152 n) refl)
    where
      go : (t : Bool) → leb 2097152 n ≡ t → eqb (n / 2097152) 1 ≡ t
      go true g = eq-eqb (n / 2097152) 1 (omega (arith, leb-true 2097152 n g, below))
      go false g = ne_eqb (n / 2097152) 1 (λ z. omega (arith, leb-false 2097152 n g))

  count_is : n / 64 % 32768 ≡ points_in l
  count_is =
      let a : value (take 16 l) ≡ n / 64 = high_bits l 16 6 h ∙ ap (λ (k : ℕ). k / 64) (sym e) in
      sym (low_bits l 1 15 (omega arith) ∙ ap (λ (k : ℕ). k % 32768) a)

  width_is : n % 64 ≡ width_in l
  width_is = sym (low_bits l 16 6 h ∙ ap (λ (k : ℕ). k % 64) (sym e))

  pub second_header : record { begins = leb 2097152 n; count = n / 64 % 32768; width = n % 64 } ≡ header_in true l
  second_header = same_header begins_is count_is width_is

-- how many bits a contour of edition 2 has
pub size_none : (k w : ℕ) → k ≡ 0 → 22 ≡ 22 + body_size k w
size_none k w e = rw e

pub size_some : (k w : ℕ) → (k ≡ 0 → ⊥) → 22 + (64 + w * (2 * (k - 1))) ≡ 22 + body_size k w
size_some zero w e = absurd (e refl)
size_some (suc k) w e = let z : suc k - 1 ≡ k = omega arith in ap (λ (m : ℕ). 22 + (64 + w * (2 * m))) z

-- the edition is in the first byte
pub edition_none : (f : List ℕ) → length f ≡ 0 → edition_of f ≡ 0
unfolding bits value
edition_none [] e = refl
edition_none (b ∷ f) e = absurd (omega arith)

pub edition_by_byte : (f : List ℕ) → EachByte f → 1 ≤ length f → get_or f 0 0 / 16 ≡ edition_of f
unfolding word
edition_by_byte f b h =
    let a : value (take 8 (bits f)) ≡ get_or f 0 0 = word_whole 1 f b h ∙ omega arith in
    sym (high_bits (bits f) 4 4 (omega (arith, bits-length f)) ∙ ap (λ (k : ℕ). k / 16) a)
