-- The format at the bits of bytes, met byte by byte.
use Rattle.std.proofs.Common.{◌≡◌, ℕ, suc, ◌+◌, ◌*◌, ◌/◌, ◌%◌, ◌<◌, ◌≤◌, Bool, true, false, eqb, leb, List, [], length, drop, sym, refl, ap, ◌∙◌, ap₂, arith, length-drop, get_or-drop, eq-eqb, ne_eqb, le-leb, leb-false, leb-true}
use borrow.Author.Tests.{lt-leb}
use Rattle.bits.specs.Bits.{Bytes, bits}
use Rattle.bits.specs.Signs.{numbers}
use Rattle.bits.proofs.BitLaws.{taken_below, high_bits, low_bits, bits-length, bits_dropped}
use Rattle.setfile.specs.Entries.{Entry, entry}
use Rattle.setfile.specs.Layouts.{edition_of, promised}
use Rattle.setfile.specs.Format.{contour_size, contour_in, is_complete, Come, come_next, complete, come}
use Rattle.setfile.specs.inside.Bytes.{pair, starts, held, front_entry, all_there, in_bytes, arrived}

pub dropped : (k : ℕ) (f : List ℕ) → Bytes f → Bytes (drop k f)
dropped k f h i l = rw (get_or-drop k f i 0) (h (k + i) (omega (arith, length-drop k f)))

-- the number in the first two bytes, of which a header and the head of a file are parts
module _ (f : List ℕ) (e : 2 ≤ length f) where
  sixteen : 16 ≤ length (bits f)
  sixteen = omega (arith, bits-length f)

  pub pair_below : pair f < 65536
  pair_below = taken_below 16 (bits f) sixteen

  pub starts_by_pair : leb 32768 (pair f) ≡ starts f
  starts_by_pair = sym (ap (λ (n : ℕ). eqb n 1) (high_bits (bits f) 1 15 sixteen) ∙ go (leb 32768 (pair f)) refl)
    where
      go : (t : Bool) → leb 32768 (pair f) ≡ t → eqb (pair f / 32768) 1 ≡ t
      go true g = eq-eqb (pair f / 32768) 1 (omega (arith, leb-true 32768 (pair f) g, pair_below))
      go false g = ne_eqb (pair f / 32768) 1 (λ z. omega (arith, leb-false 32768 (pair f) g))

  pub held_by_pair : pair f % 32768 ≡ held f
  held_by_pair = sym (low_bits (bits f) 1 15 sixteen)

  pub held_few : held f ≤ 32767
  held_few = omega (arith, held_by_pair)

  pub edition_by_pair : pair f / 4096 ≡ edition_of f
  edition_by_pair = sym (high_bits (bits f) 4 12 sixteen)

  pub promised_by_pair : pair f % 4096 ≡ promised f
  promised_by_pair = sym (low_bits (bits f) 4 12 sixteen)

-- the contour in front, and what stands behind it
module _ (f : List ℕ) where
  pub front_is : contour_in (bits f) ≡ front_entry f
  front_is = ap (λ (l : List Bool). entry (starts f) (numbers 32 (2 * held f) l)) (bits_dropped 2 f)

  pub size_in_bytes : contour_size (bits f) ≡ 8 * (2 + 8 * held f)
  size_in_bytes = omega arith

  pub behind_it : drop (contour_size (bits f)) (bits f) ≡ bits (drop (2 + 8 * held f) f)
  behind_it = ap (λ (n : ℕ). drop n (bits f)) size_in_bytes ∙ bits_dropped (2 + 8 * held f) f

-- contours that are complete
leb_eight : (a b m n : ℕ) → m ≡ 8 * a → n ≡ 8 * b → leb m n ≡ leb a b
leb_eight a b m n e f = go (leb a b) refl
  where
    go : (t : Bool) → leb a b ≡ t → leb m n ≡ t
    go true g = le-leb m n (omega (arith, leb-true a b g))
    go false g = lt-leb m n (omega (arith, leb-false a b g))

complete_there : (f : List ℕ) → is_complete (bits f) ≡ all_there f
complete_there f = go (leb 2 (length f)) refl
  where
    header : leb 16 (length (bits f)) ≡ leb 2 (length f)
    header = leb_eight 2 (length f) 16 (length (bits f)) refl (bits-length f)

    go : (t : Bool) → leb 2 (length f) ≡ t → is_complete (bits f) ≡ all_there f
    go true g = rw (header, g) (leb_eight (2 + 8 * held f) (length f) (contour_size (bits f)) (length (bits f)) (size_in_bytes f) (bits-length f))
    go false g = rw (header, g) (sym (lt-leb (2 + 8 * held f) (length f) (omega (arith, leb-false 2 (length f) g))))

next_in_bytes : (t : Bool) (e : Entry) (k : ℕ) (c : Come) → in_bytes (come_next t e k c) ≡ come_next t e k (in_bytes c)
next_in_bytes true e k c = refl
next_in_bytes false e k c = refl

pub none_arrived : (f : List ℕ) → arrived 0 f ≡ record { contours = []; missing = 0; past = length f }
unfolding complete
none_arrived f =
    let n : length (bits f) / 8 ≡ length f = omega (arith, bits-length f) in
    ap (λ (k : ℕ). record { contours = []; missing = 0; past = k }) n

pub next_arrived : (k : ℕ) (f : List ℕ) → arrived (suc k) f ≡ come_next (all_there f) (front_entry f) k (arrived k (drop (2 + 8 * held f) f))
unfolding complete
next_arrived k f =
    next_in_bytes (is_complete (bits f)) (contour_in (bits f)) k (complete k (drop (contour_size (bits f)) (bits f)))
    ∙ ap₂ (λ (t : Bool) (e : Entry). come_next t e k (in_bytes (complete k (drop (contour_size (bits f)) (bits f))))) (complete_there f) (front_is f)
    ∙ ap (λ (l : List Bool). come_next (all_there f) (front_entry f) k (in_bytes (complete k l))) (behind_it f)

pub come_by_bytes : (f : List ℕ) → in_bytes (come f) ≡ arrived (promised f) (drop 2 f)
come_by_bytes f = ap (λ (l : List Bool). in_bytes (complete (promised f) l)) (bits_dropped 2 f)
