-- Numbers as bits and bytes: what is cut, joined and read again.
use mathlib.Core.Path.{◌≡◌, refl, sym, ◌∙◌, ap, ap₂}
use mathlib.Core.Bool.{Bool, true, false}
use mathlib.Core.List.{List, [], ◌∷◌, ◌++◌, append_assoc, append-nil}
use Prim.Native.Nat.{ℕ, zero, suc, ◌+◌, ◌-◌, ◌*◌, ◌/◌, ◌%◌, ◌^◌, ◌<◌, ◌≤◌}
use native.Mathlib.Nat.{mod-eq_of_lt, mod-lt, pow-suc, lt_of_lt_of_le}
use native.Mathlib.Numerals.{one-add}
use native.Mathlib.Omega.{arith}
use lib.Dec.{eqb}
use lib.ListN.{length, take, drop, length-append, length-take, length-drop, take-append-drop}
use lib.Seq.{take-append-add, drop-append-add, take-nil, drop-nil, take_at, drop_at, take-add, take-take, take-append-le, drop-append-le, length-take-le}
use lib.Pow.{pow-add, pow_pos, pow_mono, high, low, mod-pow-add}
use mir.Val.{bool_byte}
use Rattle.bits.specs.Bits.{digit, value, field, Bytes, bits, bytes, fill, padded}

-- a truth value in the code's byte is its bit
pub byte_digit : (b : Bool) → bool_byte b ≡ digit b
byte_digit true = refl
byte_digit false = refl

pub digit_below : (b : Bool) → digit b < 2
digit_below true = omega arith
digit_below false = omega arith

pub byte_below : (b : Bool) → bool_byte b < 2
byte_below b = rw (byte_digit b) (digit_below b)

-- a bit as a number, and back
pub bit_digit : (b : Bool) → eqb (digit b) 1 ≡ b
bit_digit true = refl
bit_digit false = refl

pub digit_bit : (d : ℕ) → d < 2 → digit (eqb d 1) ≡ d
digit_bit zero h = refl
digit_bit (suc zero) h = refl
digit_bit (suc (suc d)) h = absurd (omega arith)

same_digit : (a b : Bool) → digit a ≡ digit b → a ≡ b
same_digit true true e = refl
same_digit true false e = absurd (omega arith)
same_digit false true e = absurd (omega arith)
same_digit false false e = refl

pub value-append : (a b : List Bool) → value (a ++ b) ≡ value a * 2 ^ length b + value b
unfolding value
value-append [] b = omega arith
value-append (x ∷ a) b = rw (length-append a b, pow-add 2 (length a) (length b), value-append a b) (omega arith)

pub value_below : (l : List Bool) → value l < 2 ^ length l
unfolding value
value_below [] = omega arith
value_below (true ∷ l) = omega (arith, value_below l, pow-suc 2 (length l))
value_below (false ∷ l) = omega (arith, value_below l, pow-suc 2 (length l))

-- as many bits that are the same number are the same bits
pub same_value : (a b : List Bool) → length a ≡ length b → value a ≡ value b → a ≡ b
unfolding value
same_value [] [] e f = refl
same_value [] (y ∷ b) e f = absurd (omega arith)
same_value (x ∷ a) [] e f = absurd (omega arith)
same_value (x ∷ a) (y ∷ b) e f =
    let n : length a ≡ length b = omega arith in
    let g : digit x * 2 ^ length a + value a ≡ digit y * 2 ^ length a + value b = f ∙ rw (← n) in
    let k : value b < 2 ^ length a = rw n (value_below b) in
    let d : digit x ≡ digit y = sym (high (digit x) (length a) (value_below a)) ∙ ap (λ (m : ℕ). m / 2 ^ length a) g ∙ high (digit y) (length a) k in
    let v : value a ≡ value b = sym (low (digit x) (length a) (value_below a)) ∙ ap (λ (m : ℕ). m % 2 ^ length a) g ∙ low (digit y) (length a) k in
    ap₂ (λ (c : Bool) (l : List Bool). c ∷ l) (same_digit x y d) (same_value a b n v)

pub field-length : (w n : ℕ) → length (field w n) ≡ w
unfolding field
field-length zero n = refl
field-length (suc w) n = ap suc (field-length w n)

pub value_field : (w n : ℕ) → value (field w n) ≡ n % 2 ^ w
unfolding value field
value_field zero n = omega arith
value_field (suc w) n =
    rw (field-length w n, value_field w n, digit_bit (n / 2 ^ w % 2) (mod-lt (n / 2 ^ w) (omega arith)))
    (sym (mod-pow-add n 1 w) ∙ rw (one-add w))

pub value_of : (w n : ℕ) → n < 2 ^ w → value (field w n) ≡ n
value_of w n h = value_field w n ∙ mod-eq_of_lt h

-- bits are the field of their number
pub field_value : (l : List Bool) (w n : ℕ) → length l ≡ w → value l ≡ n % 2 ^ w → field w n ≡ l
field_value l w n e f = same_value (field w n) l (field-length w n ∙ sym e) (value_field w n ∙ sym f)

-- what stands above the bits of a field plays no part
pub field_low : (w n : ℕ) → field w (n % 2 ^ w) ≡ field w n
field_low w n = field_value (field w n) w (n % 2 ^ w) (field-length w n) (value_field w n ∙ sym (mod-eq_of_lt (mod-lt n (pow_pos w))))

-- the first w bits are a number of w bits, and its field
module _ (w : ℕ) (l : List Bool) (h : w ≤ length l) where
  pub taken_below : value (take w l) < 2 ^ w
  taken_below = rw (length-take-le w l h) at (value_below (take w l))

  pub field_back : field w (value (take w l)) ≡ take w l
  field_back = field_value (take w l) w (value (take w l)) (length-take-le w l h) (sym (mod-eq_of_lt taken_below))

-- a field in front of more bits
module _ (w n : ℕ) (more : List Bool) where
  pub front_value : n < 2 ^ w → value (take w (field w n ++ more)) ≡ n
  front_value h = ap value (take_at (field w n) more w (field-length w n)) ∙ value_of w n h

  pub front_gone : drop w (field w n ++ more) ≡ more
  front_gone = drop_at (field w n) more w (field-length w n)

pub field-append : (j k n : ℕ) → field j (n / 2 ^ k) ++ field k n ≡ field (j + k) n
field-append j k n =
    sym
    (field_value (field j (n / 2 ^ k) ++ field k n) (j + k) n
    (length-append (field j (n / 2 ^ k)) (field k n) ∙ rw (field-length j (n / 2 ^ k), field-length k n))
    (value-append (field j (n / 2 ^ k)) (field k n)
    ∙ rw (field-length k n, value_field j (n / 2 ^ k), value_field k n) (sym (mod-pow-add n j k))))

-- a high part and k low bits
pub field_joined : (j k h n : ℕ) → n < 2 ^ k → field j h ++ field k n ≡ field (j + k) (h * 2 ^ k + n)
field_joined j k h n l =
    rw (← field-append j k (h * 2 ^ k + n), high h k l)
    (ap (λ (b : List Bool). field j h ++ b)
    (sym (field_value (field k n) k (h * 2 ^ k + n) (field-length k n) (value_of k n l ∙ sym (low h k l)))))

-- the first and the last bits of a number
module _ (l : List Bool) (j k : ℕ) (e : length l ≡ j + k) where
  front_length : length (take j l) ≡ j
  front_length = length-take-le j l (omega arith)

  back-length : length (drop j l) ≡ k
  back-length = length-drop j l ∙ omega arith

  in_two : value l ≡ value (take j l) * 2 ^ k + value (drop j l)
  in_two = ap value (sym (take-append-drop j l)) ∙ value-append (take j l) (drop j l) ∙ rw back-length

  back_below : value (drop j l) < 2 ^ k
  back_below = rw back-length at (value_below (drop j l))

  pub value_front : value (take j l) ≡ value l / 2 ^ k
  value_front = sym (rw in_two (high (value (take j l)) k back_below))

  pub value_back : value (drop j l) ≡ value l % 2 ^ k
  value_back = sym (rw in_two (low (value (take j l)) k back_below))

-- the first j + k bits as one number: the first j of them are its high part, and the k behind those its low bits
module _ (l : List Bool) (j k : ℕ) (h : j + k ≤ length l) where
  both-length : length (take (j + k) l) ≡ j + k
  both-length = length-take-le (j + k) l h

  pub high_bits : value (take j l) ≡ value (take (j + k) l) / 2 ^ k
  high_bits = ap value (sym (take-take j (j + k) l (omega arith))) ∙ value_front (take (j + k) l) j k both-length

  pub low_bits : value (take k (drop j l)) ≡ value (take (j + k) l) % 2 ^ k
  low_bits =
      ap value (sym (ap (drop j) (take-add j k l) ∙ drop_at (take j l) (take k (drop j l)) j (length-take-le j l (omega arith))))
      ∙ value_back (take (j + k) l) j k both-length

pub bits-length : (f : List ℕ) → length (bits f) ≡ 8 * length f
unfolding bits
bits-length [] = refl
bits-length (b ∷ f) = length-append (field 8 b) (bits f) ∙ rw (field-length 8 b, bits-length f) (omega arith)

pub bits-append : (f g : List ℕ) → bits (f ++ g) ≡ bits f ++ bits g
unfolding bits
bits-append [] g = refl
bits-append (b ∷ f) g = ap (λ (l : List Bool). field 8 b ++ l) (bits-append f g) ∙ sym (append_assoc (field 8 b) (bits f) (bits g))

pub bits_taken : (k : ℕ) (f : List ℕ) → take (8 * k) (bits f) ≡ bits (take k f)
unfolding bits
bits_taken zero f = refl
bits_taken (suc k) [] = take-nil (8 * suc k)
bits_taken (suc k) (b ∷ f) =
    let e : 8 * suc k ≡ length (field 8 b) + 8 * k = omega (arith, field-length 8 b) in
    rw e (take-append-add (field 8 b) (bits f) (8 * k) ∙ ap (λ (l : List Bool). field 8 b ++ l) (bits_taken k f))

pub bits_dropped : (k : ℕ) (f : List ℕ) → drop (8 * k) (bits f) ≡ bits (drop k f)
unfolding bits
bits_dropped zero f = refl
bits_dropped (suc k) [] = drop-nil (8 * suc k)
bits_dropped (suc k) (b ∷ f) =
    let e : 8 * suc k ≡ length (field 8 b) + 8 * k = omega (arith, field-length 8 b) in
    rw e (drop-append-add (field 8 b) (bits f) (8 * k) ∙ bits_dropped k f)

-- one byte in front
pub value_byte : (b : ℕ) (f : List ℕ) → b < 256 → value (bits (b ∷ f)) ≡ b * 2 ^ (8 * length f) + value (bits f)
unfolding bits
value_byte b f h = value-append (field 8 b) (bits f) ∙ rw (value_of 8 b h, bits-length f)

-- bytes are the bytes of their bits
pub bytes_bits : (f : List ℕ) → Bytes f → bytes (length f) (bits f) ≡ f
unfolding bytes bits
bytes_bits [] h = refl
bytes_bits (b ∷ f) h =
    ap₂ (λ (a : ℕ) (l : List ℕ). a ∷ l)
    (ap value (take_at (field 8 b) (bits f) 8 (field-length 8 b)) ∙ value_of 8 b (h 0 (omega arith)))
    (ap (bytes (length f)) (drop_at (field 8 b) (bits f) 8 (field-length 8 b)) ∙ bytes_bits f (λ i l. h (suc i) (omega arith)))

-- bits are the bits of their bytes
pub bits_bytes : (k : ℕ) (l : List Bool) → length l ≡ 8 * k → bits (bytes k l) ≡ l
unfolding bits bytes
bits_bytes zero [] e = refl
bits_bytes zero (b ∷ l) e = absurd (omega arith)
bits_bytes (suc k) l e =
    ap₂ (λ (a b : List Bool). a ++ b) (field_back 8 l (omega arith)) (bits_bytes k (drop 8 l) (length-drop 8 l ∙ omega arith))
    ∙ take-append-drop 8 l

pub bytes-length : (k : ℕ) (l : List Bool) → length (bytes k l) ≡ k
unfolding bytes
bytes-length zero l = refl
bytes-length (suc k) l = ap suc (bytes-length k (drop 8 l))

-- bytes with the same bits are the same
pub same_bits : (f g : List ℕ) → Bytes f → Bytes g → bits f ≡ bits g → f ≡ g
same_bits f g h k e =
    let n : length f ≡ length g = omega (arith, bits-length f, bits-length g, ap length e) in
    sym (bytes_bits f h) ∙ ap₂ bytes n e ∙ bytes_bits g k

-- bits that were made bytes of are there again, with their fill
pub bits_padded : (l : List Bool) → bits (padded l) ≡ l ++ field (fill (length l)) 0
bits_padded l =
    bits_bytes ((length l + 7) / 8) (l ++ field (fill (length l)) 0)
    (length-append l (field (fill (length l)) 0) ∙ omega (arith, field-length (fill (length l)) 0))

-- bytes that are these bits and less than a byte of zeros are what these bits make
pub padded_filled : (f : List ℕ) → Bytes f → (l : List Bool) (z : ℕ) → z < 8 → bits f ≡ l ++ field z 0 → padded l ≡ f
padded_filled f h l z few e =
    let n : 8 * length f ≡ length l + z = sym (bits-length f) ∙ ap length e ∙ length-append l (field z 0) ∙ omega (arith, field-length z 0) in
    let k : (length l + 7) / 8 ≡ length f = omega arith in
    let y : fill (length l) ≡ z = omega arith in
    ap₂ bytes k (ap (λ (i : ℕ). l ++ field i 0) y ∙ sym e) ∙ bytes_bits f h

pub bytes_are : (k : ℕ) (l : List Bool) → Bytes (bytes k l)
unfolding bytes
bytes_are zero l i h = absurd (omega arith)
bytes_are (suc k) l zero h = lt_of_lt_of_le (value_below (take 8 l)) (pow_mono {i = length (take 8 l)} {j = 8} (omega (arith, length-take 8 l)))
bytes_are (suc k) l (suc i) h = bytes_are k (drop 8 l) i (omega arith)

-- whole bytes of bits, and more bits behind them
bytes-append : (j k : ℕ) (a b : List Bool) → length a ≡ 8 * j → bytes (j + k) (a ++ b) ≡ bytes j a ++ bytes k b
unfolding bytes
bytes-append zero k [] b e = let z : 0 + k ≡ k = omega arith in ap (λ (n : ℕ). bytes n b) z
bytes-append zero k (x ∷ a) b e = absurd (omega arith)
bytes-append (suc j) k a b e =
    let n : suc j + k ≡ suc (j + k) = omega arith in
    ap (λ (m : ℕ). bytes m (a ++ b)) n
    ∙ ap₂ (λ (x : ℕ) (l : List ℕ). x ∷ l)
    (ap value (take-append-le 8 a b (omega arith)))
    (ap (bytes (j + k)) (drop-append-le 8 a b (omega arith)) ∙ bytes-append j k (drop 8 a) b (length-drop 8 a ∙ omega arith))

-- whole bytes need no fill
no_fill : (j n : ℕ) → n ≡ 8 * j → fill n ≡ 0
no_fill j n e = let r : n % 8 ≡ 0 = omega arith in ap (λ (m : ℕ). (8 - m) % 8) r

same_fill : (j n m : ℕ) → n ≡ 8 * j + m → fill n ≡ fill m
same_fill j n m e = let r : n % 8 ≡ m % 8 = omega arith in ap (λ (m : ℕ). (8 - m) % 8) r

module _ (j : ℕ) (a b : List Bool) (e : length a ≡ 8 * j) where
  pub padded-append : padded (a ++ b) ≡ padded a ++ padded b
  unfolding field
  padded-append =
      let n : length (a ++ b) ≡ length a + length b = length-append a b in
      let k : (length (a ++ b) + 7) / 8 ≡ j + (length b + 7) / 8 = omega arith in
      let l : (length a + 7) / 8 ≡ j = omega arith in
      ap₂ (λ (m i : ℕ). bytes m ((a ++ b) ++ field i 0)) k (same_fill j (length (a ++ b)) (length b) (omega arith))
      ∙ ap (bytes (j + (length b + 7) / 8)) (append_assoc a b (field (fill (length b)) 0))
      ∙ bytes-append j ((length b + 7) / 8) a (b ++ field (fill (length b)) 0) e
      ∙ ap (λ (x : List ℕ). x ++ padded b) (sym (ap₂ (λ (m i : ℕ). bytes m (a ++ field i 0)) l (no_fill j (length a) e) ∙ ap (bytes j) (append-nil a)))

  pub padded-length : length (padded a) ≡ j
  padded-length = bytes-length ((length a + 7) / 8) _ ∙ omega arith

pub padded_none : padded [] ≡ []
unfolding bytes field
padded_none = refl

pub padded_bits : (f : List ℕ) → Bytes f → padded (bits f) ≡ f
unfolding field
padded_bits f h = padded_filled f h (bits f) 0 (omega arith) (sym (append-nil (bits f)))
