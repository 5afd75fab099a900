-- Files that are cut off.
use mathlib.Core.Path.{◌≡◌, refl, sym, ◌∙◌, ap, ap₂}
use mathlib.Core.Bool.{Bool, true, false}
use mathlib.Core.List.{List, [], ◌∷◌}
use Prim.Native.Nat.{ℕ, zero, suc, ◌+◌, ◌*◌, ◌-◌, ◌≤◌, ◌<◌}
use native.Mathlib.Nat.{zero-add, suc-add}
use native.Mathlib.Omega.{arith}
use lib.Dec.{eqb, leb}
use lib.ListN.{length, take, drop, length-take}
use lib.Seq.{take-nil, take-take}
use lib.IntN.{ℤ}
use borrow.Author.Tests.{leb-true, leb-false, le-leb, lt-leb}
use Rattle.bits.specs.Bits.{value, bits}
use Rattle.bits.specs.Signs.{signed, numbers}
use Rattle.bits.proofs.BitLaws.{bits_taken}
use Rattle.setfile.specs.Entries.{Entry, entry}
use Rattle.setfile.specs.Layouts.{edition_of, promised}
use Rattle.setfile.specs.Format.{Come, come_next}
use Rattle.setfile.specs.inside.Bytes.{decoded, starts, held, front_entry, all_there, arrived}
use Rattle.setfile.proofs.ByteLaws.{none_arrived, next_arrived}
use Rattle.setfile.proofs.ReadLaws.{decoded-length}
use Rattle.salvage.specs.inside.Sifting.{size}
use Rattle.salvage.specs.Promises.{length_of, as_long, all_within}

pub drop-take : {A : Type 0} (k n : ℕ) (l : List A) → drop k (take (k + n) l) ≡ take n (drop k l)
drop-take zero n l = ap (λ (m : ℕ). take m l) (zero-add n)
drop-take (suc k) n [] = ap (drop (suc k)) (take-nil (suc k + n)) ∙ sym (take-nil n)
drop-take (suc k) n (a ∷ l) = ap (λ (m : ℕ). drop (suc k) (take m (a ∷ l))) (suc-add k n) ∙ drop-take k n l

-- bits of bytes of which some are left
bits_cut : (f : List ℕ) (n k : ℕ) → k ≤ 8 * n → take k (bits (take n f)) ≡ take k (bits f)
bits_cut f n k h = ap (take k) (sym (bits_taken n f)) ∙ take-take k (8 * n) (bits f) h

-- and a field behind the first j of them
field_cut : (f : List ℕ) (n j w : ℕ) → j + w ≤ 8 * n → value (take w (drop j (bits (take n f)))) ≡ value (take w (drop j (bits f)))
field_cut f n j w h = ap value (sym (drop-take j w (bits (take n f))) ∙ ap (drop j) (bits_cut f n (j + w) h) ∙ drop-take j w (bits f))

module _ (f : List ℕ) (n : ℕ) (h : 2 ≤ n) where
  pub edition_cut : edition_of (take n f) ≡ edition_of f
  edition_cut = ap value (bits_cut f n 4 (omega arith))

  pub promised_cut : promised (take n f) ≡ promised f
  promised_cut = field_cut f n 4 12 (omega arith)

  starts_cut : starts (take n f) ≡ starts f
  starts_cut = ap (λ (l : List Bool). eqb (value l) 1) (bits_cut f n 1 (omega arith))

  held_cut : held (take n f) ≡ held f
  held_cut = field_cut f n 1 15 (omega arith)

numbers_cut : (k m : ℕ) (l : List Bool) → numbers 32 k (take (32 * k + m) l) ≡ numbers 32 k l
unfolding numbers
numbers_cut zero m l = refl
numbers_cut (suc k) m l =
    let e : 32 * suc k + m ≡ 32 + (32 * k + m) = omega arith in
    ap₂ (λ (z : ℤ) (l : List ℤ). z ∷ l)
    (ap (λ (b : List Bool). signed 32 (value b)) (take-take 32 (32 * suc k + m) l (omega arith)))
    (ap (numbers 32 k) (ap (λ (n : ℕ). drop 32 (take n l)) e ∙ drop-take 32 (32 * k + m) l) ∙ numbers_cut k m (drop 32 l))

decoded_cut : (k m : ℕ) (f : List ℕ) → decoded k (take (4 * k + m) f) ≡ decoded k f
decoded_cut k m f =
    let e : 8 * (4 * k + m) ≡ 32 * k + 8 * m = omega arith in
    ap (numbers 32 k) (sym (bits_taken (4 * k + m) f) ∙ ap (λ (n : ℕ). take n (bits f)) e) ∙ numbers_cut k (8 * m) (bits f)

-- the contour in front, where it is left whole, and where it is not
module _ (f : List ℕ) (n : ℕ) where
  entry_cut : size f ≤ n → front_entry (take n f) ≡ front_entry f
  entry_cut h =
      let m : n ≡ 2 + (4 * (2 * held f) + (n - size f)) = omega arith in
      ap₂ (λ (b : Bool) (k : ℕ). entry b (decoded (2 * k) (drop 2 (take n f)))) (starts_cut f n (omega arith)) (held_cut f n (omega arith))
      ∙ ap (entry (starts f))
      (ap (λ (k : ℕ). decoded (2 * held f) (drop 2 (take k f))) m
      ∙ ap (decoded (2 * held f)) (drop-take 2 (4 * (2 * held f) + (n - size f)) f) ∙ decoded_cut (2 * held f) (n - size f) (drop 2 f))

  there_cut : size f ≤ n → all_there f ≡ true → all_there (take n f) ≡ true
  there_cut h t =
      let p : held (take n f) ≡ held f = held_cut f n (omega arith) in
      le-leb (size (take n f)) (length (take n f)) (omega (arith, p, leb-true (size f) (length f) t, length-take n f))

  lost_cut : n < size f → all_there (take n f) ≡ false
  lost_cut h = go (leb 2 n) refl
    where
      go : (b : Bool) → leb 2 n ≡ b → all_there (take n f) ≡ false
      go true e =
          let p : held (take n f) ≡ held f = held_cut f n (leb-true 2 n e) in
          lt-leb (size (take n f)) (length (take n f)) (omega (arith, p, length-take n f))
      go false e = lt-leb (size (take n f)) (length (take n f)) (omega (arith, leb-false 2 n e, length-take n f))

  never_cut : all_there f ≡ false → all_there (take n f) ≡ false
  never_cut t = go (leb (size f) n) refl
    where
      go : (b : Bool) → leb (size f) n ≡ b → all_there (take n f) ≡ false
      go true e =
          let m = leb-true (size f) n e in
          let p : held (take n f) ≡ held f = held_cut f n (omega arith) in
          lt-leb (size (take n f)) (length (take n f)) (omega (arith, p, leb-false (size f) (length f) t, length-take n f))
      go false e = lost_cut (leb-false (size f) n e)

  behind_cut : size f ≤ n → drop (size (take n f)) (take n f) ≡ take (n - size f) (drop (size f) f)
  behind_cut h =
      let p : held (take n f) ≡ held f = held_cut f n (omega arith) in
      let m : n ≡ size f + (n - size f) = omega arith in
      ap (λ (k : ℕ). drop (2 + 8 * k) (take n f)) p ∙ ap (λ (k : ℕ). drop (size f) (take k f)) m ∙ drop-take (size f) (n - size f) f

entry_length : (f : List ℕ) → length_of (front_entry f) ≡ size f
entry_length f = let n = decoded-length (2 * held f) (drop 2 f) in omega (arith, n)

-- what has come of a file that is cut off
pub record Cut (n : ℕ) (whole rest : Come) : Type 0 where
  pub contours : rest.contours ≡ all_within n whole.contours
  pub past : rest.past ≤ whole.past

pub arrived_cut : (k n : ℕ) (f : List ℕ) → Cut n (arrived k f) (arrived k (take n f))
unfolding all_within
arrived_cut zero n f = rw (none_arrived f, none_arrived (take n f)) (record { contours = refl; past = omega (arith, length-take n f) })
arrived_cut (suc k) n f = rw (next_arrived k f, next_arrived k (take n f)) (go (all_there f) (leb (size f) n) refl refl (arrived_cut k (n - size f) (drop (size f) f)))
  where
    rest : Come
    rest = arrived k (drop (size f) f)

    next : Bool → Come
    next t = come_next t (front_entry (take n f)) k (arrived k (drop (size (take n f)) (take n f)))

    lost : (c : Come) → all_there (take n f) ≡ false → all_within n c.contours ≡ [] → Cut n c (next (all_there (take n f)))
    lost c t e = rw t (record { contours = sym e; past = omega arith })

    go : (t b : Bool) → all_there f ≡ t → leb (size f) n ≡ b → Cut (n - size f) rest (arrived k (take (n - size f) (drop (size f) f))) → Cut n (come_next t (front_entry f) k rest) (next (all_there (take n f)))
    go false b t e h = lost _ (never_cut f n t) refl
    go true false t e h =
        lost _ (lost_cut f n (leb-false (size f) n e))
        (ap (λ (x : Bool). as_long x (front_entry f ∷ all_within (n - length_of (front_entry f)) rest.contours)) (ap (λ (m : ℕ). leb m n) (entry_length f) ∙ e))
    go true true t e h =
        let m = leb-true (size f) n e in
        rw (there_cut f n m t, behind_cut f n m)
        (record {
          contours =
              ap₂ (λ (x : Entry) (l : List Entry). x ∷ l) (entry_cut f n m) (h.contours ∙ ap (λ (k : ℕ). all_within (n - k) rest.contours) (sym (entry_length f)))
              ∙ sym (ap (λ (x : Bool). as_long x (front_entry f ∷ all_within (n - length_of (front_entry f)) rest.contours)) (ap (λ (k : ℕ). leb k n) (entry_length f) ∙ e));
          past = h.past;
        })
