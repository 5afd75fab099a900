-- Rows that are written to, and what is read of each element.
use mathlib.Core.Path.{◌≡◌, refl, sym, ◌∙◌, ap, ap₂}
use mathlib.Core.List.{List, ◌++◌, map, append_assoc, map-append}
use Prim.Native.Nat.{ℕ, ◌+◌, ◌-◌, ◌≤◌, ◌<◌}
use native.Mathlib.Omega.{arith}
use lib.ListN.{length, get_or, take, drop, length-append, length-map, length-drop}
use lib.Seq.{paste, take_at, drop_at, drop-paste, get_or-drop, get_or-take, length-take-le}
use Rattle.std.proofs.lemmas.List.{take-map, drop-map}
use Rattle.rows.specs.Rows.{front, placed}

module _ {A B : Type 0} (f : A → B) where
  pub map_placed : (at : ℕ) (l row : List A) → map f (placed at l row) ≡ placed at (map f l) (map f row)
  map_placed at l row =
      map-append f (take at row ++ l) (drop (at + length l) row)
      ∙ ap₂ (λ (a b : List B). a ++ b)
      (map-append f (take at row) l ∙ ap (λ (a : List B). a ++ map f l) (sym (take-map f at row)))
      (sym (drop-map f (at + length l) row) ∙ ap (λ (n : ℕ). drop (at + n) (map f row)) (sym (length-map l f)))

module _ {A : Type 0} where
  -- a row that begins with a list, and what is placed behind that
  pub front_self : (row a rest : List A) → row ≡ a ++ rest → row ≡ front a row
  front_self row a rest e = e ∙ ap (λ (k : List A). a ++ k) (sym (ap (drop (length a)) e ∙ drop_at a rest (length a) refl))

  pub placed_over : (row a rest c : List A) (n : ℕ) → row ≡ a ++ rest → length a ≡ n → placed n c row ≡ front (a ++ c) row
  placed_over row a rest c n e h =
      let k : n + length c ≡ length (a ++ c) = omega (arith, length-append a c) in
      ap₂ (λ (x : List A) (m : ℕ). x ++ c ++ drop m row) (ap (take n) e ∙ take_at a rest n h) k

  -- a part of a row that stands behind two others
  pub part_behind : (row a d b rest : List A) (n m : ℕ) → row ≡ a ++ (d ++ (b ++ rest)) → length a + length d ≡ n → length b ≡ m → take m (drop n row) ≡ b
  part_behind row a d b rest n m e h k =
      ap (λ (r : List A). take m (drop n r)) (e ∙ sym (append_assoc a d (b ++ rest)))
      ∙ ap (take m) (drop_at (a ++ d) (b ++ rest) n (length-append a d ∙ h))
      ∙ take_at b rest m k

-- a row to which i elements of a list were copied is ahead of them as it was
pub ahead : {A : Type 0} (row : List A) (at : ℕ) (l : List A) (i m : ℕ) (d : A) → at ≤ length row → i ≤ length l → at + i ≤ m
    → get_or (paste row at l i) m d ≡ get_or row m d
ahead {A} row at l i m d h w k =
    let e : at + i + (m - (at + i)) ≡ m = omega arith in
    ap (λ (n : ℕ). get_or (paste row at l i) n d) (sym e)
    ∙ sym (get_or-drop (at + i) (paste row at l i) (m - (at + i)) d)
    ∙ ap (λ (r : List A). get_or r (m - (at + i)) d) (drop-paste row at l i h w)
    ∙ get_or-drop (at + i) row (m - (at + i)) d
    ∙ ap (λ (n : ℕ). get_or row n d) e

-- a part of a row, by its length and its elements
module _ {A : Type 0} (row : List A) (from n : ℕ) where
  pub part_length : from + n ≤ length row → length (take n (drop from row)) ≡ n
  part_length h = length-take-le n (drop from row) (omega (arith, length-drop from row))

  pub part_at : (i : ℕ) (d : A) → i < n → get_or (take n (drop from row)) i d ≡ get_or row (from + i) d
  part_at i d h = get_or-take n (drop from row) i d h ∙ get_or-drop from row i d
