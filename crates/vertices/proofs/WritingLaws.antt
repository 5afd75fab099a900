-- A word for each element of a list, put one behind the other.
use mathlib.Core.Path.{◌≡◌, sym, ◌∙◌, ap}
use mathlib.Core.List.{List, [], ◌∷◌, append_assoc, append-nil, map}
use Prim.Native.Nat.{ℕ, ◌+◌, ◌≤◌, ◌<◌}
use native.Mathlib.Omega.{arith}
use native.Mathlib.Numerals.{add-one}
use lib.ListN.{length, get_or, drop}
use lib.Seq.{drop-cons, drop-length}
use Rattle.buffer.specs.Sets.{joined}
use Rattle.report.specs.inside.Lines.{Put}
use Rattle.report.proofs.PutLaws.{Going, going_none, going_room, going_more, going_all, going_same}

module _ {A : Type 0} (word : A → List ℕ) where
  -- the words of the elements from position i on are left
  pub record Writing (l : List A) (from : ℕ) (text₀ : List ℕ) (behind : ℕ) (text : List ℕ) (i : ℕ) : Type 0 where
    pub high : i ≤ length l
    pub going : Going from (joined (map word l)) text₀ behind text (joined (map word (drop i l)) ∷ [])

  pub writing_none : (l : List A) (from : ℕ) (text : List ℕ) → from + length (joined (map word l)) ≤ length text → Writing l from text from text 0
  unfolding joined
  writing_none l from text h = record { high = omega arith; going = going_none from text _ (sym (append-nil _)) h }

  module _ {l : List A} {from : ℕ} {text₀ : List ℕ} {behind : ℕ} {text : List ℕ} {i : ℕ} (x : Writing l from text₀ behind text i) where
    module _ (d : A) (h : i < length l) where
      writing_next : Going from (joined (map word l)) text₀ behind text (word (get_or l i d) ∷ joined (map word (drop (i + 1) l)) ∷ [])
      unfolding joined
      writing_next = going_same _ (rw (add-one i, drop-cons l i d h) (simp append_assoc)) x.going

      pub writing_room : behind + length (word (get_or l i d)) ≤ length text
      writing_room = going_room writing_next

      pub writing_more : {r : ℕ} {exit : List ℕ} → Put behind (word (get_or l i d)) text r exit → Writing l from text₀ r exit (i + 1)
      writing_more q = record { high = omega arith; going = going_more writing_next q }

    pub writing_all : length l ≤ i → Put from (joined (map word l)) text₀ behind text
    unfolding joined
    writing_all h =
        let n : i ≡ length l = omega (arith, x.high) in
        let e : drop i l ≡ [] = ap (λ (k : ℕ). drop k l) n ∙ drop-length l in
        going_all (going_same [] (rw e) x.going)
