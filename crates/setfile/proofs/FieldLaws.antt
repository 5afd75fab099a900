-- Fields in a row of bytes, from a position on.
use Rattle.std.proofs.Common.{◌≡◌, ℕ, zero, suc, ◌+◌, ◌*◌, ◌/◌, ◌%◌, ◌^◌, ◌<◌, ◌≤◌, Bool, true, ◌&&◌, List, [], ◌∷◌, map, length, get_or, take, drop, ℤ, sym, refl, ap, ◌∙◌, ap₂, arith, lit<, length-drop, get_or-drop, get_or-take, drop-drop, w32, Fits, to_z, le-ltb}
use borrow.Author.Tests.{not-false}
use lib.Arith.{digits_div, digits_mod, mod-mul}
use lib.Seq.{take-take}
use lib.Bits.{bit_or, or_mod, or_add_and, and_le_l, and_le_r}
use mir.Facts.{sfits_to_z, of_z-to_z}
use Rattle.std.specs.List.{fold, list_all}
use Rattle.std.specs.Int.{from_le_bytes}
use Rattle.std.specs.Simd.{first_chunks}
use Rattle.std.proofs.lemmas.List.{drop-take}
use Rattle.bits.specs.Bits.{value, bits}
use Rattle.bits.specs.Signs.{signed, numbers}
use Rattle.bits.specs.inside.Words.{word}
use Rattle.bits.proofs.BitLaws.{bits_dropped}
use Rattle.bits.proofs.WordLaws.{EachByte, byte_drop, word_whole}
use Rattle.grid.specs.Limits.{narrow, on_grid, all_on_grid}
use Rattle.grid.specs.inside.Rows.{raised as raised_by}
use Rattle.grid.proofs.LimitLaws.{narrow_within, raised_beyond}
use Rattle.setfile.specs.inside.Bytes.{pair, coordinate, raised, decoded}

-- a number of 32 bits by its first byte
first_byte_raised : (a rest : ℕ) → a % 256 < 64 → rest < 16777216 → (a * 16777216 + rest) % 2 ^ 32 < 1073741824
first_byte_raised a rest low h =
    let e : (a * 16777216 + rest) % 2 ^ 32 ≡ (a * 16777216 + rest) / 16777216 % 256 * 16777216 + (a * 16777216 + rest) % 16777216 = mod-mul (a * 16777216 + rest) {m = 256} {c = 16777216} (lit< tt) (lit< tt) in
    let high : (a * 16777216 + rest) / 16777216 ≡ a = digits_div a h in
    let lower : (a * 16777216 + rest) % 16777216 ≡ rest = digits_mod a h in
    let whole : (a * 16777216 + rest) % 2 ^ 32 ≡ a % 256 * 16777216 + rest = e ∙ ap₂ (λ (x y : ℕ). x % 256 * 16777216 + y) high lower in
    omega (arith, whole)

-- the number in the first four bytes, from the first on or from the last on
abbrev quad : List ℕ → ℕ
quad f = get_or f 0 0 * 16777216 + get_or f 1 0 * 65536 + get_or f 2 0 * 256 + get_or f 3 0

abbrev low_first : List ℕ → ℕ
low_first f = get_or f 0 0 + get_or f 1 0 * 256 + get_or f 2 0 * 65536 + get_or f 3 0 * 16777216

module _ (f : List ℕ) (b : EachByte f) where
  -- a first byte of which the first three bits are equal is that of a coordinate on the grid
  quad_on_grid : (low_first f + 32) % 2 ^ 32 % 2 ^ 8 < 64 → on_grid narrow (to_z w32 (quad f)) ≡ true
  unfolding raised_by narrow
  quad_on_grid h =
      let fits : Fits w32 (quad f) = record { fits = omega (arith, b 0, b 1, b 2, b 3) } in
      let low : (get_or f 0 0 + 32) % 256 < 64 = omega (arith, b 0) in
      let rest : get_or f 1 0 * 65536 + get_or f 2 0 * 256 + get_or f 3 0 < 16777216 = omega (arith, b 1, b 2, b 3) in
      let e : quad f + narrow ≡ (get_or f 0 0 + 32) * 16777216 + (get_or f 1 0 * 65536 + get_or f 2 0 * 256 + get_or f 3 0) = omega arith in
      let raised-low : raised_by narrow (to_z w32 (quad f)) < 1073741824 = rw (of_z-to_z fits, e) (first_byte_raised (get_or f 0 0 + 32) _ low rest) in
      not-false _
      (sym (raised_beyond narrow (to_z w32 (quad f)) narrow_within (sfits_to_z fits))
      ∙ le-ltb (2 * narrow) (raised_by narrow (to_z w32 (quad f))) (omega arith))

  module _ (four : 4 ≤ length f) where
    quad_value : value (take 32 (bits f)) ≡ quad f
    unfolding word
    quad_value =
        word_whole 4 f b four
        ∙ omega (
          arith,
          get_or-drop 1 f 0 0,
          ap (λ (g : List ℕ). get_or g 0 0) (drop-drop 1 1 f) ∙ get_or-drop 2 f 0 0,
          ap (λ (g : List ℕ). get_or (drop 1 g) 0 0) (drop-drop 1 1 f) ∙ ap (λ (g : List ℕ). get_or g 0 0) (drop-drop 1 2 f) ∙ get_or-drop 3 f 0 0,
        )

    quad_first : quad (take 4 f) ≡ quad f
    quad_first =
        omega (arith, get_or-take 4 f 0 0 (omega arith), get_or-take 4 f 1 0 (omega arith), get_or-take 4 f 2 0 (omega arith), get_or-take 4 f 3 0 (omega arith))

    first_coordinate : signed 32 (value (take 32 (bits f))) ≡ coordinate (take 4 f)
    first_coordinate = ap (to_z w32) (quad_value ∙ sym quad_first)

  word_on_grid : (from_le_bytes w32 f + 32) % 2 ^ 32 % 2 ^ 8 < 64 → on_grid narrow (coordinate f) ≡ true
  word_on_grid h = quad_on_grid h

byte_take : (k : ℕ) (f : List ℕ) → EachByte f → EachByte (take k f)
byte_take zero f h zero = omega arith
byte_take zero f h (suc i) = omega arith
byte_take (suc k) [] h i = h i
byte_take (suc k) (b ∷ f) h zero = h zero
byte_take (suc k) (b ∷ f) h (suc i) = byte_take k f (λ j. h (suc j)) i

-- k coordinates are those of k words
pub decoded_words : (k : ℕ) (f : List ℕ) → EachByte f → 4 * k ≤ length f → decoded k f ≡ map coordinate (first_chunks 4 k f)
unfolding numbers
decoded_words zero f b h = refl
decoded_words (suc k) f b h =
    ap₂ (λ (z : ℤ) (l : List ℤ). z ∷ l) (first_coordinate f b (omega arith))
    (ap (numbers 32 k) (bits_dropped 4 f) ∙ decoded_words k (drop 4 f) (byte_drop 4 f b) (omega (arith, length-drop 4 f)))

pub all_words : (b : ℕ) (l : List (List ℕ)) → list_all (λ w. on_grid b (coordinate w)) l ≡ all_on_grid b (map coordinate l)
unfolding all_on_grid
all_words b [] = refl
all_words b (w ∷ l) = ap (λ (t : Bool). on_grid b (coordinate w) && t) (all_words b l)

-- low bits of all words show that each coordinate is on the grid
pub words_on_grid : (any k : ℕ) (f : List ℕ) → EachByte f → fold raised any (first_chunks 4 k f) % 256 < 64
    → (any % 256 < 64) × (all_on_grid narrow (map coordinate (first_chunks 4 k f)) ≡ true)
unfolding all_on_grid
words_on_grid any zero f b h = (h, refl)
words_on_grid any (suc k) f b h =
    let more : ℕ = (from_le_bytes w32 (take 4 f) + 32) % 2 ^ 32 in
    let rest = words_on_grid (bit_or any more) k (drop 4 f) (byte_drop 4 f b) h in
    let both : bit_or any more % 2 ^ 8 ≡ bit_or (any % 2 ^ 8) (more % 2 ^ 8) = or_mod any more 8 in
    let low : more % 2 ^ 8 < 64 = omega (arith, rest.0, both, or_add_and (any % 2 ^ 8) (more % 2 ^ 8), and_le_l (any % 2 ^ 8) (more % 2 ^ 8)) in (
      omega (arith, rest.0, both, or_add_and (any % 2 ^ 8) (more % 2 ^ 8), and_le_r (any % 2 ^ 8) (more % 2 ^ 8)),
      rw (word_on_grid (take 4 f) (byte_take 4 f b) low) rest.1,
    )

-- the words of a part of a row
pub part_words : (k : ℕ) (f : List ℕ) → first_chunks 4 k (take (4 * k) f) ≡ first_chunks 4 k f
part_words zero f = refl
part_words (suc k) f =
    let e : 4 * suc k ≡ 4 + 4 * k = omega arith in
    rw e (ap₂ (λ (w : List ℕ) (l : List (List ℕ)). w ∷ l) (take-take 4 (4 + 4 * k) f (omega arith)) (ap (first_chunks 4 k) (drop-take 4 (4 * k) f) ∙ part_words k (drop 4 f)))

pub words-length : (k : ℕ) (f : List ℕ) → length (first_chunks 4 k f) ≡ k
words-length zero f = refl
words-length (suc k) f = ap suc (words-length k (drop 4 f))

module _ (f : List ℕ) (at : ℕ) where
  -- the byte at i of what is left
  byte_at : (i j : ℕ) → at + i ≡ j → get_or f j 0 ≡ get_or (drop at f) i 0
  byte_at i j e = sym (get_or-drop at f i 0 ∙ ap (λ (k : ℕ). get_or f k 0) e)

  pub pair_at : EachByte f → at + 1 < length f → get_or f at 0 * 256 + get_or f (at + 1) 0 ≡ pair (drop at f)
  unfolding word
  pair_at h e =
      sym (word_whole 2 (drop at f) (byte_drop at f h) (omega (arith, length-drop at f))
      ∙ omega (arith, byte_at 0 at (omega arith), byte_at 1 (at + 1) (omega arith), get_or-drop 1 (drop at f) 0 0))
