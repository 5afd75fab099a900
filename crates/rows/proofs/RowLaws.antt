-- Rows that are written to.
use mathlib.Core.Path.{◌≡◌, refl, sym, ◌∙◌, ap}
use mathlib.Core.List.{List, [], ◌∷◌, ◌++◌}
use Prim.Native.Nat.{ℕ, zero, suc, ◌+◌, ◌<◌, ◌≤◌}
use native.Mathlib.Omega.{arith}
use native.Mathlib.Numerals.{add-one}
use lib.ListN.{length, get_or, set, drop, length-set, length-append, length-drop}
use lib.Seq.{paste, paste-zero, paste-suc, take-length, take_at, drop_at, drop-drop}
use Rattle.rows.specs.Rows.{front, placed}

-- inside a list the default doesn't matter
pub any_default : {A : Type 0} (l : List A) (j : ℕ) (d e : A) → j < length l → get_or l j d ≡ get_or l j e
any_default [] j d e h = absurd (omega arith)
any_default (x ∷ l) zero d e h = refl
any_default (x ∷ l) (suc j) d e h = any_default l j d e (omega arith)

-- the first i elements of a list are written to a row from position at on
pub record Copied {A : Type 0} (row₀ : List A) (at : ℕ) (l row : List A) (i : ℕ) : Type 0 where
  pub within : i ≤ length l
  pub long : length row ≡ length row₀
  pub is : row ≡ paste row₀ at l i

module _ {A : Type 0} (row₀ : List A) (at : ℕ) (l : List A) where
  pub copied_none : Copied row₀ at l row₀ 0
  copied_none = record { within = omega arith; long = refl; is = paste-zero row₀ at l }

  module _ {row : List A} {i : ℕ} (c : Copied row₀ at l row i) where
    pub copied_more : (z v : A) → at + length l ≤ length row₀ → i < length l → v ≡ get_or l i z → Copied row₀ at l (set row (at + i) v) (i + 1)
    copied_more z v room h e = record {
      within = omega arith;
      long = length-set row (at + i) v ∙ c.long;
      is = rw (c.is, e, add-one i) (paste-suc row₀ at l i z (omega arith) h);
    }

    pub copied_all : i ≡ length l → row ≡ placed at l row₀
    copied_all e = c.is ∙ rw (e, take-length l)

-- where the elements stand that were written
module _ {A : Type 0} (row : List A) where
  pub placed_front : (l : List A) → placed 0 l row ≡ front l row
  placed_front l = let e : 0 + length l ≡ length l = omega arith in rw e

  pub placed_next : (a b : List A) (n : ℕ) → n ≡ length a → placed n b (front a row) ≡ front (a ++ b) row
  placed_next a b n e =
      let h : length a ≡ n = sym e in
      let k : length (a ++ b) ≡ length a + length b = length-append a b in
      ap (λ (t : List A). t ++ b ++ drop (n + length b) (front a row)) (take_at a (drop (length a) row) n h)
      ∙ ap (λ (t : List A). a ++ b ++ t) (rest ∙ drop-drop (length b) (length a) row ∙ ap (λ (m : ℕ). drop m row) (sym k))
    where
      rest : drop (n + length b) (front a row) ≡ drop (length b) (drop (length a) row)
      rest =
          sym (drop-drop (length b) n (front a row))
          ∙ ap (drop (length b)) (drop_at a (drop (length a) row) n (sym e))

  pub front_length : (l : List A) → length l ≤ length row → length (front l row) ≡ length row
  front_length l h = length-append l (drop (length l) row) ∙ rw (length-drop (length l) row) (omega arith)
