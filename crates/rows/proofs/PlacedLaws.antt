-- Elements that are written to a row behind each other.
use mathlib.Core.Path.{◌≡◌, sym, ◌∙◌, ap, ap₂}
use mathlib.Core.List.{List, [], ◌∷◌, ◌++◌, append_assoc, append-nil}
use Prim.Native.Nat.{ℕ, suc, ◌+◌, ◌≤◌, ◌<◌}
use native.Mathlib.Omega.{arith}
use lib.ListN.{length, take, drop, set, length-drop, length-append, take-append-drop}
use lib.Seq.{take_at, drop_at, drop-drop, set_split, length-take-le}
use Rattle.rows.specs.Rows.{placed}

module _ {A : Type 0} (xs : List A) (a : ℕ) where
  pub placed_none : placed a [] xs ≡ xs
  placed_none =
      let z : a + 0 ≡ a = omega arith in
      ap₂ (λ (l : List A) (n : ℕ). l ++ drop n xs) (append-nil (take a xs)) z ∙ take-append-drop a xs

  pub placed_long : (d : List A) → a + length d ≤ length xs → length (placed a d xs) ≡ length xs
  placed_long d h =
      length-append (take a xs ++ d) (drop (a + length d) xs)
      ∙ omega (arith, length-append (take a xs) d, length-take-le a xs (omega arith), length-drop (a + length d) xs)

  pub placed_behind : (d e : List A) (b : ℕ) → a + length d ≤ length xs → b ≡ a + length d → placed b e (placed a d xs) ≡ placed a (d ++ e) xs
  placed_behind d e b h q =
      let n : length (take a xs ++ d) ≡ b = length-append (take a xs) d ∙ omega (arith, length-take-le a xs (omega arith)) in
      let m : a + length d + length e ≡ a + length (d ++ e) = omega (arith, length-append d e) in
      ap₂ (λ (k l : List A). k ++ e ++ l)
      (take_at (take a xs ++ d) (drop (a + length d) xs) b n)
      (sym (drop-drop (length e) b (placed a d xs)) ∙ ap (drop (length e)) (drop_at (take a xs ++ d) (drop (a + length d) xs) b n) ∙ drop-drop (length e) (a + length d) xs)
      ∙ ap₂ (λ (l : List A) (k : ℕ). l ++ drop k xs) (append_assoc (take a xs) d e) m

-- one element that is written
pub set_placed : {A : Type 0} (xs : List A) (k : ℕ) (v : A) → k < length xs → set xs k v ≡ placed k (v ∷ []) xs
set_placed {A} xs k v h =
    let n : suc k ≡ k + 1 = omega arith in
    set_split xs k v h ∙ ap (λ (j : ℕ). take k xs ++ (v ∷ drop j xs)) n ∙ sym (append_assoc (take k xs) (v ∷ []) (drop (k + 1) xs))
