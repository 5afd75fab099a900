-- How long ranges are, and how long files of edition 2.
use Rattle.std.proofs.Common.{◌≡◌, ℕ, zero, suc, ◌+◌, ◌*◌, ◌/◌, ◌<◌, ◌≤◌, Bool, ◌||◌, eqb, ltb, List, [], ◌∷◌, map, length, get_or, drop, set, ℤ, refl, ap, ◌∙◌, ap₂, mul-le-mul_right, add-one, arith, length-append, drop_of_length-le, drop-cons, get_or-set_other, get_or-set_same, below_more}
use Rattle.std.specs.List.{list_any}
use Rattle.grid.specs.Domain.{count}
use Rattle.bits.specs.Bits.{field}
use Rattle.bits.proofs.BitLaws.{field-length, bytes-length}
use Rattle.steps.specs.Steps.{differences}
use Rattle.steps.specs.Bodies.{contour_width, body_size}
use Rattle.steps.proofs.BodyLaws.{width_within_32}
use Rattle.buffer.specs.Spans.{span, spans, size, total}
use Rattle.buffer.specs.Sets.{joined, contour, Even}
use Rattle.setfile.specs.Entries.{Entry, contours_of}
use Rattle.setfile.specs.Layouts.{all_coded, file_bits, file_in}
use Rattle.setfile.specs.Edition2.{edition_2}
use Rattle.setfile.specs.Writing.{some_over, some_empty}
use Rattle.setfile.specs.inside.Writing.{written_size, all_size}
use Rattle.setfile.proofs.Edition2Laws.{contour_bits_length}

-- one of the ranges is longer than n, or empty, as the code asks each
pub over_any : (n : ℕ) (rows : List (List ℕ)) → list_any (λ (r : List ℕ). ltb n (size (span r))) rows ≡ some_over n (spans rows)
unfolding some_over
over_any n [] = refl
over_any n (r ∷ rows) = ap (λ (b : Bool). ltb n (size (span r)) || b) (over_any n rows)

pub empty_any : (rows : List (List ℕ)) → list_any (λ (r : List ℕ). eqb (size (span r)) 0) rows ≡ some_empty (spans rows)
unfolding some_empty
empty_any [] = refl
empty_any (r ∷ rows) = ap (λ (b : Bool). eqb (size (span r)) 0 || b) (empty_any rows)

-- a contour's bits, by its points and its width
pub body_within : (n w : ℕ) → w ≤ 32 → body_size n w ≤ 64 * n
body_within zero w h = omega arith
body_within (suc k) w h = let m : w * (2 * k) ≤ 32 * (2 * k) = mul-le-mul_right (2 * k) h in omega (arith, m)

pub size_within : (c : List ℤ) → written_size c ≤ 22 + 64 * count c
size_within c = omega (arith, body_within (count c) (contour_width c) (width_within_32 (differences c)))

-- a set's contours from number k on
module _ (p : List ℤ) (cs : List (List ℕ)) (k : ℕ) where
  pub size_more : k < length cs → (c : List ℤ) → c ≡ contour p (span (get_or cs k [])) → all_size p (drop k cs) ≡ written_size c + all_size p (drop (k + 1) cs)
  size_more h c e = rw (drop-cons cs k [] h, add-one k, e)

  pub size_done : length cs ≤ k → all_size p (drop k cs) ≡ 0
  size_done h = rw (drop_of_length-le cs {i = k} h)

-- one width more is kept
pub widths_more : (W : ℕ → ℕ) (ws : List ℕ) (k v : ℕ) → k < length ws → ((j : ℕ) → j < k → get_or ws j 0 ≡ W j) → v ≡ W k → (j : ℕ) → j < k + 1 → get_or (set ws k v) j 0 ≡ W j
widths_more W ws k v h f e = below_more (λ (j : ℕ). get_or (set ws k v) j 0 ≡ W j) k (λ j l. get_or-set_other ws k j v 0 (λ z. omega arith) ∙ f j l) (get_or-set_same ws k v 0 h ∙ e)

-- the length of a file
all-length : (l : List Entry) → Even (contours_of l) → length (all_coded edition_2 l) ≡ total (map written_size (contours_of l))
unfolding joined
all-length [] h = refl
all-length (e ∷ l) h = length-append (edition_2.coded e) (all_coded edition_2 l) ∙ ap₂ (λ (m n : ℕ). m + n) (contour_bits_length e h.0) (all-length l h.1)

pub file_long : (l : List Entry) → Even (contours_of l) → length (file_in 2 edition_2 l) ≡ (16 + total (map written_size (contours_of l)) + 7) / 8
file_long l h =
    let n : length (file_bits 2 edition_2 l) ≡ 16 + total (map written_size (contours_of l)) =
    length-append (field 4 2) _ ∙ omega (arith, field-length 4 2, length-append (field 12 (length l)) (all_coded edition_2 l), field-length 12 (length l), all-length l h) in
    bytes-length ((length (file_bits 2 edition_2 l) + 7) / 8) _ ∙ ap (λ (m : ℕ). (m + 7) / 8) n
