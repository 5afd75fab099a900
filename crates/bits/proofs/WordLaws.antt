-- Bytes gathered into a word, and a field cut out of it by two shifts.
use mathlib.Core.Path.{◌≡◌, refl, sym, ◌∙◌, ap, ap₂, subst}
use mathlib.Core.Bool.{Bool}
use mathlib.Core.List.{List, [], ◌∷◌, ◌++◌}
use Prim.Native.Nat.{ℕ, zero, suc, ◌+◌, ◌-◌, ◌*◌, ◌/◌, ◌%◌, ◌^◌, ◌<◌, ◌≤◌}
use native.Mathlib.Nat.{mod-lt, div-add-mod', div-lt_iff_lt-mul, add-mul-mod_self_right}
use native.Mathlib.Omega.{arith}
use lib.ListN.{length, take, drop, get_or, replicate, length-take, length-drop}
use lib.Seq.{take-append-add, take-append-le, drop-append-le, take-nil, take-add, take-take, drop-drop, drop_at, length-take-le, get_or-drop}
use lib.Pow.{pow-add, pow_pos, field as shifted_field, shr-shr, shl-shr}
use Rattle.std.specs.Int.{w64, from_be_bytes, to_be_bytes}
use Rattle.bits.specs.Bits.{value, field, Bytes, bits, padded}
use Rattle.bits.specs.inside.Words.{word, spelled, leading, Ahead}
use Rattle.bits.proofs.BitLaws.{value-append, value_of, value_front, value_back, field-length, field_low, field-append, bits-length, bits-append, bits_dropped, padded_bits}

-- every element is a byte, and so is what is missing
abbrev pub EachByte : List ℕ → Type 0
EachByte f = (i : ℕ) → get_or f i 0 < 256

pub byte_drop : (k : ℕ) (f : List ℕ) → EachByte f → EachByte (drop k f)
byte_drop k f h i = rw (get_or-drop k f i 0) (h (k + i))

-- eight bytes as std reads them
pub word_read : (f : List ℕ) → 8 ≤ length f → from_be_bytes w64 (take 8 f) ≡ word 8 f
unfolding word
word_read (a ∷ b ∷ c ∷ d ∷ e ∷ g ∷ h ∷ i ∷ f) l = omega arith
word_read _ l = absurd (omega arith)

-- the first j bits of the bits from s on
pub cut : {A : Type 0} (l : List A) (s j : ℕ) → s ≤ length l → take j (drop s l) ≡ drop s (take (s + j) l)
cut l s j h = sym (ap (drop s) (take-add s j l) ∙ drop_at (take s l) (take j (drop s l)) s (length-take-le s l h))

-- a word by its bits: those of the bytes that are there, and zeros for the missing ones
pub word_value : (k : ℕ) (f : List ℕ) → EachByte f → word k f ≡ value (take (8 * k) (bits f)) * 2 ^ (8 * (k - length f))
unfolding word value bits
word_value zero f h = omega arith
word_value (suc k) [] h =
    let a : value (take (8 * k) (bits [])) ≡ 0 = ap value (take-nil (8 * k)) in
    let b : value (take (8 * suc k) (bits [])) ≡ 0 = ap value (take-nil (8 * suc k)) in
    let w : word k [] ≡ 0 = word_value k [] h ∙ rw a (omega arith) in
    rw b (omega (arith, w))
word_value (suc k) (b ∷ f) h =
    let t : List Bool = take (8 * k) (bits f) in
    let n : 8 * suc k ≡ length (field 8 b) + 8 * k = omega (arith, field-length 8 b) in
    let front : take (8 * suc k) (field 8 b ++ bits f) ≡ field 8 b ++ t = rw n (take-append-add (field 8 b) (bits f) (8 * k)) in
    let v : value (take (8 * suc k) (field 8 b ++ bits f)) ≡ b * 2 ^ length t + value t = ap value front ∙ value-append (field 8 b) t ∙ rw (value_of 8 b (h 0)) in
    let z : 8 * (suc k - suc (length f)) ≡ 8 * (k - length f) = omega arith in
    let q : 8 * k ≡ length t + 8 * (k - length f) = omega (arith, length-take (8 * k) (bits f), bits-length f) in
    let p : 2 ^ (8 * k) ≡ 2 ^ length t * 2 ^ (8 * (k - length f)) = ap (λ (m : ℕ). 2 ^ m) q ∙ pow-add 2 (length t) (8 * (k - length f)) in
    let i : word k f ≡ value t * 2 ^ (8 * (k - length f)) = word_value k f (λ j. h (suc j)) in
    ap₂ (λ (x y : ℕ). b * x + y) p i
    ∙ both b (2 ^ length t) (value t) (2 ^ (8 * (k - length f)))
    ∙ sym (ap₂ (λ (x y : ℕ). x * 2 ^ y) v z)
  where
    both : (b p t q : ℕ) → b * (p * q) + t * q ≡ (b * p + t) * q
    both b p t q = omega arith

-- where none is missing
pub word_whole : (k : ℕ) (f : List ℕ) → EachByte f → k ≤ length f → value (take (8 * k) (bits f)) ≡ word k f
word_whole k f h e =
    let z : 8 * (k - length f) ≡ 0 = omega arith in
    sym (word_value k f h ∙ ap (λ (n : ℕ). value (take (8 * k) (bits f)) * 2 ^ n) z ∙ omega arith)

-- the field of w bits, s bits behind the start of l, of which r bits stand behind it
pub value_middle : (l : List Bool) (s w r : ℕ) → length l ≡ s + (w + r) → value (take w (drop s l)) ≡ value l / 2 ^ r % 2 ^ w
value_middle l s w r e =
    let d : length (drop s l) ≡ w + r = length-drop s l ∙ omega arith in
    value_front (drop s l) w r d ∙ ap (λ (n : ℕ). n / 2 ^ r) (value_back l s (w + r) e) ∙ shifted_field (value l) w r

-- two shifts within 64 bits leave the w bits behind the first s
shifted : (v s w r : ℕ) → 64 ≡ s + (w + r) → v * 2 ^ s % 2 ^ 64 / 2 ^ (64 - w) ≡ v / 2 ^ r % 2 ^ w
shifted v s w r e =
    let a : 64 ≡ w + (s + r) = omega arith in
    let b : 64 - w ≡ s + r = omega arith in
    ap₂ (λ (m n : ℕ). v * 2 ^ s % 2 ^ m / 2 ^ n) a b
    ∙ shifted_field (v * 2 ^ s) w (s + r)
    ∙ ap (λ (n : ℕ). n % 2 ^ w) (sym (shr-shr (v * 2 ^ s) s r) ∙ ap (λ (n : ℕ). n / 2 ^ r) (shl-shr v s))

-- a field within the first eight bytes
number_in_front : (g : List ℕ) (s w : ℕ) → EachByte g → s + w ≤ 64 → s + w ≤ 8 * length g → word 8 g * 2 ^ s % 2 ^ 64 / 2 ^ (64 - w) ≡ value (take w (drop s (bits g)))
number_in_front g s w h a e =
    let t : List Bool = take 64 (bits g) in
    let p : ℕ = 8 * (8 - length g) in
    let r : ℕ = length t - (s + w) in
    let n : length t ≡ 64 - p = length-take 64 (bits g) ∙ omega (arith, bits-length g) in
    let m : s + w ≤ length t = omega arith in
    let middle : value (take w (drop s t)) ≡ value t / 2 ^ r % 2 ^ w = value_middle t s w r (omega arith) in
    let same : take w (drop s t) ≡ take w (drop s (bits g)) =
    cut t s w (omega arith) ∙ ap (drop s) (take-take (s + w) 64 (bits g) (omega arith)) ∙ sym (cut (bits g) s w (omega (arith, bits-length g))) in
    shifted (word 8 g) s w (p + r) (omega arith)
    ∙ ap (λ (v : ℕ). v / 2 ^ (p + r) % 2 ^ w) (word_value 8 g h)
    ∙ ap (λ (v : ℕ). v % 2 ^ w) (sym (shr-shr (value t * 2 ^ p) p r) ∙ ap (λ (v : ℕ). v / 2 ^ r) (shl-shr (value t) p))
    ∙ sym middle ∙ ap value same

-- a field within the eight bytes from i on
pub number_is : (f : List ℕ) (i at w : ℕ) → EachByte f → 8 * i ≤ at → at + w ≤ 64 + 8 * i → at + w ≤ 8 * length f → word 8 (drop i f) * 2 ^ (at - 8 * i) % 2 ^ 64 / 2 ^ (64 - w) ≡ value (take w (drop at (bits f)))
number_is f i at w h a b e =
    let s : ℕ = at - 8 * i in
    let n : 8 * i + s ≡ at = omega arith in
    let there : drop s (bits (drop i f)) ≡ drop at (bits f) = ap (drop s) (sym (bits_dropped i f)) ∙ drop-drop s (8 * i) (bits f) ∙ ap (λ (k : ℕ). drop k (bits f)) n in
    number_in_front (drop i f) s w (byte_drop i f h) (omega arith) (omega (arith, length-drop i f)) ∙ ap (λ (k : List Bool). value (take w k)) there

-- a shift after a shift
shifted_again : (v s j : ℕ) → v * 2 ^ s % 2 ^ 64 * 2 ^ j % 2 ^ 64 ≡ v * 2 ^ (s + j) % 2 ^ 64
shifted_again v s j =
    let a : ℕ = v * 2 ^ s in
    sym
    (ap (λ (n : ℕ). v * n % 2 ^ 64) (pow-add 2 s j)
    ∙ ap (λ (n : ℕ). n % 2 ^ 64) (whole v (2 ^ s) (2 ^ j) (a / 2 ^ 64) (2 ^ 64) (a % 2 ^ 64) (div-add-mod' a (2 ^ 64)))
    ∙ add-mul-mod_self_right (a % 2 ^ 64 * 2 ^ j) (a / 2 ^ 64 * 2 ^ j) (2 ^ 64))
  where
    whole : (v b p q m r : ℕ) → q * m + r ≡ v * b → v * (b * p) ≡ r * p + q * p * m
    whole v b p q m r e =
        let n : (q * m + r) * p ≡ v * b * p = ap (λ (k : ℕ). k * p) e in
        omega (arith, n)

-- each field of the w bits from bit `at` on, within the eight bytes from i on
pub ahead_is : (f : List ℕ) (i at w : ℕ) → EachByte f → 8 * i ≤ at → at + w ≤ 64 + 8 * i → at + w ≤ 8 * length f → Ahead f at w (word 8 (drop i f) * 2 ^ (at - 8 * i) % 2 ^ 64)
ahead_is f i at w h a b e = record {
  below = mod-lt (word 8 (drop i f) * 2 ^ (at - 8 * i)) (pow_pos 64);
  is =
      λ j v l.
      let n : at - 8 * i + j ≡ at + j - 8 * i = omega arith in
      ap (λ (m : ℕ). m / 2 ^ (64 - v)) (shifted_again (word 8 (drop i f)) (at - 8 * i) j ∙ ap (λ (k : ℕ). word 8 (drop i f) * 2 ^ k % 2 ^ 64) n)
      ∙ number_is f i (at + j) v h (omega arith) (omega arith) (omega arith);
}

-- the first bits of a word are a number of their width
pub leading_below : (r v : ℕ) → v ≤ 64 → r < 2 ^ 64 → leading r v < 2 ^ v
leading_below r v h l =
    let e : 64 ≡ v + (64 - v) = omega arith in
    (div-lt_iff_lt-mul (pow_pos (64 - v))).1 (subst (λ (m : ℕ). r < m) (ap (λ (n : ℕ). 2 ^ n) e ∙ pow-add 2 v (64 - v)) l)

-- a number in k bytes, by its bits
pub spelled-length : (k n : ℕ) → length (spelled k n) ≡ k
unfolding spelled
spelled-length zero n = refl
spelled-length (suc k) n = ap suc (spelled-length k n)

pub spelled_bits : (k n : ℕ) → bits (spelled k n) ≡ field (8 * k) n
unfolding spelled bits field
spelled_bits zero n = refl
spelled_bits (suc k) n =
    let e : 8 + 8 * k ≡ 8 * suc k = omega arith in
    ap₂ (λ (a b : List Bool). a ++ b) (field_low 8 (n / 2 ^ (8 * k))) (spelled_bits k n) ∙ field-append 8 (8 * k) n ∙ ap (λ (w : ℕ). field w n) e

spelled_bytes : (k n : ℕ) → Bytes (spelled k n)
unfolding spelled
spelled_bytes zero n i h = absurd (omega arith)
spelled_bytes (suc k) n zero h = mod-lt (n / 2 ^ (8 * k)) (omega arith)
spelled_bytes (suc k) n (suc i) h = spelled_bytes k n i (omega arith)

pub padded_field : (k n : ℕ) → padded (field (8 * k) n) ≡ spelled k n
padded_field k n = ap padded (sym (spelled_bits k n)) ∙ padded_bits (spelled k n) (spelled_bytes k n)

-- bytes that stand behind a field play no part in it
pub in_front : (f g : List ℕ) (at w : ℕ) → at + w ≤ 8 * length f → take w (drop at (bits (f ++ g))) ≡ take w (drop at (bits f))
in_front f g at w h =
    let n : at + w ≤ length (bits f) = omega (arith, bits-length f) in
    ap (λ (l : List Bool). take w (drop at l)) (bits-append f g)
    ∙ ap (take w) (drop-append-le at (bits f) (bits g) (omega arith))
    ∙ take-append-le w (drop at (bits f)) (bits g) (omega (arith, length-drop at (bits f)))

-- a row under eight bytes, filled up to eight with zeros
pub filled_up : (f : List ℕ) → length f < 8
    → get_or f 0 0 ∷ get_or f 1 0 ∷ get_or f 2 0 ∷ get_or f 3 0 ∷ get_or f 4 0 ∷ get_or f 5 0 ∷ get_or f 6 0 ∷ get_or f 7 0 ∷ [] ≡ f ++ replicate (8 - length f) 0
filled_up [] l = refl
filled_up (a ∷ []) l = refl
filled_up (a ∷ b ∷ []) l = refl
filled_up (a ∷ b ∷ c ∷ []) l = refl
filled_up (a ∷ b ∷ c ∷ d ∷ []) l = refl
filled_up (a ∷ b ∷ c ∷ d ∷ e ∷ []) l = refl
filled_up (a ∷ b ∷ c ∷ d ∷ e ∷ g ∷ []) l = refl
filled_up (a ∷ b ∷ c ∷ d ∷ e ∷ g ∷ h ∷ []) l = refl
filled_up (a ∷ b ∷ c ∷ d ∷ e ∷ g ∷ h ∷ i ∷ f) l = absurd (omega arith)

-- bytes as std spells them
pub spelled_four : (n : ℕ) → drop 4 (to_be_bytes w64 n) ≡ spelled 4 n
unfolding spelled
spelled_four n =
    let z : n ≡ n / 1 = omega arith in
    ap (λ (m : ℕ). n / 16777216 % 256 ∷ n / 65536 % 256 ∷ n / 256 % 256 ∷ m % 256 ∷ []) z

pub spelled_eight : (n : ℕ) → to_be_bytes w64 n ≡ spelled 8 n
unfolding spelled
spelled_eight n =
    let z : n ≡ n / 1 = omega arith in
    ap
    (λ (m : ℕ). n / 2 ^ 56 % 256 ∷ n / 2 ^ 48 % 256 ∷ n / 2 ^ 40 % 256 ∷ n / 2 ^ 32 % 256 ∷ n / 2 ^ 24 % 256 ∷ n / 2 ^ 16 % 256 ∷ n / 2 ^ 8 % 256 ∷ m % 256 ∷ [])
    z
