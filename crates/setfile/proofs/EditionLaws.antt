-- A contour of edition 1 is read as it was written, and written as it was read.
use Rattle.std.proofs.Common.{◌≡◌, ℕ, ◌+◌, ◌*◌, ◌≤◌, Bool, true, false, not, ◌&&◌, eqb, List, ◌++◌, length, take, drop, ℤ, sym, refl, ap, ◌∙◌, ap₂, append_assoc, arith, length-append, length-drop, drop-drop, take-add, ltb-false, le-ltb}
use Rattle.replies.proofs.LadderLaws.{first_is, clear}
use Rattle.replies.proofs.LadderLaws.First.{past, foot}
use Rattle.grid.specs.Domain.{count}
use Rattle.bits.specs.Bits.{digit, value, field}
use Rattle.bits.specs.Signs.{all_fit, fields, numbers}
use Rattle.bits.proofs.BitLaws.{digit_below, bit_digit, digit_bit, field-length, front_value, front_gone, field_back, taken_below}
use Rattle.bits.proofs.SignLaws.{fields-length, numbers-length, numbers_fields, fields_numbers, numbers_fit}
use Rattle.setfile.specs.Entries.{Entry, entry}
use Rattle.setfile.specs.Format.{contour_bits, begins, points_in, contour_size, edition_1}
use Rattle.setfile.specs.Writing.{most_points}
use Rattle.setfile.proofs.LayoutLaws.{Back, Forth, Faithful}

-- the first contour begins a shape
pub begun_clear : (first b : Bool) → (first ≡ true → b ≡ true) → (first && not b) ≡ false
begun_clear true b h = rw (h refl)
begun_clear false b h = refl

pub clear_begun : (first b : Bool) → (first && not b) ≡ false → first ≡ true → b ≡ true
clear_begun first true e g = refl
clear_begun true false e g = sym e
clear_begun false false e g = g

-- the two fields that a contour begins with, as they are written
module _ (b : Bool) (n : ℕ) (more : List Bool) (short : n ≤ most_points) where
  abbrev headed : List Bool
  headed = field 1 (digit b) ++ (field 15 n ++ more)

  pub begins_back : begins headed ≡ b
  begins_back = ap (λ (m : ℕ). eqb m 1) (front_value 1 (digit b) (field 15 n ++ more) (digit_below b)) ∙ bit_digit b

  pub count_back : points_in headed ≡ n
  count_back = ap (λ (l : List Bool). value (take 15 l)) (front_gone 1 (digit b) (field 15 n ++ more)) ∙ front_value 15 n more (omega arith)

  pub head_gone : drop 16 headed ≡ more
  head_gone = sym (drop-drop 15 1 headed) ∙ ap (drop 15) (front_gone 1 (digit b) (field 15 n ++ more)) ∙ front_gone 15 n more

-- and as they are read
module _ (l : List Bool) (h : 16 ≤ length l) where
  pub count_short : points_in l ≤ most_points
  count_short = omega (arith, taken_below 15 (drop 1 l) (omega (arith, length-drop 1 l)))

  pub head_back : (j : ℕ) (more : List Bool) → more ≡ take j (drop 16 l) → field 1 (digit (begins l)) ++ (field 15 (points_in l) ++ more) ≡ take (16 + j) l
  head_back j more e =
      let s : 16 + j ≡ 1 + (15 + j) = omega arith in
      ap₂ (λ (a c : List Bool). a ++ c)
      (ap (field 1) (digit_bit (value (take 1 l)) (taken_below 1 l (omega arith))) ∙ field_back 1 l (omega arith))
      (ap₂ (λ (a c : List Bool). a ++ c) (field_back 15 (drop 1 l) (omega (arith, length-drop 1 l))) (e ∙ ap (take j) (sym (drop-drop 15 1 l))) ∙ sym (take-add 15 j (drop 1 l)))
      ∙ sym (ap (λ (m : ℕ). take m l) s ∙ take-add 1 (15 + j) l)

-- a contour that edition 1 can hold
pub record Held (first : Bool) (n : ℕ) (e : Entry) : Type 0 where
  pub even : length e.points ≡ 2 * count e.points
  pub short : count e.points ≤ most_points
  pub begun : first ≡ true → e.begins ≡ true
  pub fitting : all_fit 32 e.points ≡ true

pub contour-length : (e : Entry) → length (contour_bits e) ≡ 16 + 32 * length e.points
contour-length e =
    length-append (field 1 (digit e.begins)) (field 15 (count e.points) ++ fields 32 e.points)
    ∙ omega (
      arith,
      field-length 1 (digit e.begins),
      length-append (field 15 (count e.points)) (fields 32 e.points),
      field-length 15 (count e.points),
      fields-length 32 e.points,
    )

back : (first : Bool) (n : ℕ) (e : Entry) (more : List Bool) → Held first n e → Back edition_1 first n e more
back first n e more g =
    let p : List ℤ = e.points in
    let rest : List Bool = fields 32 p ++ more in
    let whole : List Bool = contour_bits e ++ more in
    let a : contour_bits e ++ more ≡ field 1 (digit e.begins) ++ (field 15 (count p) ++ rest) = simp append_assoc in
    let b : begins whole ≡ e.begins = ap begins a ∙ begins_back e.begins (count p) rest g.short in
    let h : points_in whole ≡ count p = ap points_in a ∙ count_back e.begins (count p) rest g.short in
    let d : drop 16 whole ≡ rest = ap (drop 16) a ∙ head_gone e.begins (count p) rest g.short in
    let own : length (contour_bits e) ≡ 16 + 32 * length p = contour-length e in
    let long : length whole ≡ length (contour_bits e) + length more = length-append (contour_bits e) more in
    let k : 2 * points_in whole ≡ length p = omega (arith, h, g.even) in
    record {
      right =
          sym
          (first_is _ 0
          (past (le-ltb (length whole) 16 (omega (arith, long, own)))
          (past (begun_clear first (begins whole) (λ z. b ∙ g.begun z))
          (past (le-ltb (length whole) (contour_size whole) (omega (arith, long, own, k))) foot))));
      size = omega (arith, own, k);
      read = ap₂ entry b (ap₂ (numbers 32) k d ∙ numbers_fields 32 (omega arith) p more g.fitting);
    }

-- a contour of which header and points are there
module _ (l : List Bool) (h : 16 ≤ length l) (s : contour_size l ≤ length l) where
  abbrev points : List ℤ
  points = numbers 32 (2 * points_in l) (drop 16 l)

  abbrev there : ℕ
  there = 32 * (2 * points_in l)

  room : 32 * (2 * points_in l) ≤ length (drop 16 l)
  room = omega (arith, length-drop 16 l)

  pub even_read : length points ≡ 2 * count points
  even_read = omega (arith, numbers-length 32 (2 * points_in l) (drop 16 l))

  pub count_read : count points ≡ points_in l
  count_read = omega (arith, numbers-length 32 (2 * points_in l) (drop 16 l))

  pub points_fit : all_fit 32 points ≡ true
  points_fit = numbers_fit 32 (omega arith) (2 * points_in l) (drop 16 l) room

  pub contour_same : contour_bits (entry (begins l) points) ≡ take (contour_size l) l
  contour_same =
      let e : 16 + there ≡ contour_size l = omega arith in
      ap (λ (k : ℕ). field 1 (digit (begins l)) ++ (field 15 k ++ fields 32 points)) count_read
      ∙ head_back l h there (fields 32 points) (fields_numbers 32 (omega arith) (2 * points_in l) (drop 16 l) room)
      ∙ ap (λ (k : ℕ). take k l) e

forth : (first : Bool) (n : ℕ) (l : List Bool) → edition_1.wrong first n l ≡ 0 → Forth edition_1 Held first n l
forth first n l e =
    let c = clear _ tt e in
    let a : 16 ≤ length l = ltb-false (length l) 16 c.0 in
    let s : contour_size l ≤ length l = ltb-false (length l) (contour_size l) c.1.1.0 in
    record {
      held = record {
        even = even_read l a s;
        short = omega (arith, count_read l a s, count_short l a);
        begun = clear_begun first (begins l) c.1.0;
        fitting = points_fit l a s;
      };
      same = contour_same l a s;
    }

pub edition_1_is_faithful : Faithful edition_1 Held
edition_1_is_faithful = record { back = back; forth = forth }
