-- Rows that are filled from a drawing.
use mathlib.Core.Path.{◌≡◌, refl, sym, ap, ◌∙◌, subst}
use mathlib.Core.List.{List, [], ◌∷◌}
use Prim.Native.Nat.{ℕ, zero, suc, ◌+◌, ◌≤◌, ◌<◌}
use native.Mathlib.Omega.{arith}
use native.Mathlib.Numerals.{add-one}
use lib.Dec.{eqb}
use lib.ListN.{length, get_or, drop, set, length-drop}
use lib.Seq.{drop-cons, drop-drop, drop-length, get_or-drop}
use mir.Val.{bool_byte}
use borrow.Author.Tests.{ne_eqb}
use Rattle.std.specs.List.{take_while, prefix_len}
use Rattle.std.proofs.lemmas.List.Folds.{length-prefix_len}
use Rattle.buffer.specs.Spans.{rows, total, laid}
use Rattle.rows.specs.Rows.{front}
use Rattle.rows.proofs.RowLaws.{Copied, copied_none, copied_more, copied_all, placed_front}
use Rattle.drawing.specs.inside.Rows.{run, sizes}

-- two elements more of a list are written
module _ {A : Type 0} {row₀ : List A} {at : ℕ} {l row : List A} {i : ℕ} (c : Copied row₀ at l row i) where
  pub copied_two : at + length l ≤ length row₀ → i + 1 < length l → (d x y : A) (j b : ℕ) → j ≡ at + i → b ≡ i + 2 → x ≡ get_or l i d → y ≡ get_or l (i + 1) d
      → Copied row₀ at l (set (set row j x) (j + 1) y) b
  copied_two room h d x y j b e f p q =
      let a : at + i ≡ j = sym e in
      let k : at + (i + 1) ≡ j + 1 = omega arith in
      let n : i + 1 + 1 ≡ b = omega arith in
      let one : Copied row₀ at l (set row j x) (i + 1) =
      subst (λ (k : ℕ). Copied row₀ at l (set row k x) (i + 1)) a (copied_more row₀ at l c d x room (omega arith) p) in
      subst (λ (k : ℕ). Copied row₀ at l (set (set row j x) (j + 1) y) k) n
      (subst (λ (k : ℕ). Copied row₀ at l (set (set row j x) k y) (i + 1 + 1)) k (copied_more row₀ at l one d y room h q))

-- what stands in front of the rest of a list
module _ {A : Type 0} (l : List A) (k : ℕ) (x : A) (rest : List A) (e : drop k l ≡ x ∷ rest) where
  pub front_within : k < length l
  front_within = omega (arith, length-drop k l, ap length e)

  pub front_is : (d : A) → get_or l k d ≡ x
  front_is d =
      let z : k + 0 ≡ k = omega arith in
      ap (λ (n : ℕ). get_or l n d) (sym z) ∙ sym (get_or-drop k l 0 d) ∙ ap (λ (r : List A). get_or r 0 d) e

  pub front_past : drop (k + 1) l ≡ rest
  front_past = sym (drop-drop 1 k l) ∙ ap (drop 1) e

-- the Lines in front are those that are taken
pub run_taken : (kinds : List ℕ) → run kinds ≡ length (take_while (λ (k : ℕ). eqb k 1) kinds)
unfolding run
run_taken kinds = go kinds ∙ sym (length-prefix_len (λ (k : ℕ). eqb k 1) kinds)
  where
    go : (kinds : List ℕ) → run kinds ≡ prefix_len (λ (k : ℕ). eqb k 1) kinds
    go [] = refl
    go (zero ∷ kinds) = refl
    go (suc zero ∷ kinds) = omega (arith, go kinds)
    go (suc (suc k) ∷ kinds) = rw (ne_eqb (suc (suc k)) 1 (λ e. omega arith)) refl

module _ (kinds : List ℕ) (i : ℕ) where
  module _ (h : i < length kinds) where
    -- the sizes of the contours that are left
    pub sizes_begun : get_or kinds i 0 ≡ 0 → sizes (drop i kinds) ≡ suc (run (drop (i + 1) kinds)) ∷ sizes (drop (i + 1) kinds)
    unfolding sizes
    sizes_begun e = rw (drop-cons kinds i 0 h, add-one i, e)

    pub sizes_past : (get_or kinds i 0 ≡ 0 → ⊥) → sizes (drop i kinds) ≡ sizes (drop (i + 1) kinds)
    unfolding sizes
    sizes_past n = ap sizes (drop-cons kinds i 0 h) ∙ go (get_or kinds i 0) n ∙ rw (add-one i)
      where
        go : (k : ℕ) → (k ≡ 0 → ⊥) → sizes (k ∷ drop (suc i) kinds) ≡ sizes (drop (suc i) kinds)
        go zero m = absurd (m refl)
        go (suc k) m = refl

    pub sizes_counted : length (sizes (drop i kinds)) ≡ bool_byte (eqb (get_or kinds i 0) 0) + length (sizes (drop (i + 1) kinds))
    unfolding sizes
    sizes_counted = ap (λ (l : List ℕ). length (sizes l)) (drop-cons kinds i 0 h) ∙ go (get_or kinds i 0) ∙ rw (add-one i)
      where
        go : (k : ℕ) → length (sizes (k ∷ drop (suc i) kinds)) ≡ bool_byte (eqb k 0) + length (sizes (drop (suc i) kinds))
        go zero = omega arith
        go (suc k) = rw (ne_eqb (suc k) 0 (λ e. omega arith)) (omega arith)

  module _ (e : i ≡ length kinds) where
    pub sizes_done : sizes (drop i kinds) ≡ []
    unfolding sizes
    sizes_done = rw (e, drop-length kinds)

points_few : (kinds : List ℕ) → run kinds + total (sizes kinds) ≤ length kinds
unfolding run sizes
points_few [] = omega arith
points_few (zero ∷ kinds) = omega (arith, points_few kinds)
points_few (suc zero ∷ kinds) = omega (arith, points_few kinds)
points_few (suc (suc k) ∷ kinds) = omega (arith, points_few kinds)

-- the ranges: the rest of the kinds makes what is still to be written
pub record Ranging (kinds : List ℕ) (records₀ records : List (List ℕ)) (k start i : ℕ) : Type 0 where
  pub few : start + total (sizes (drop i kinds)) ≤ length kinds
  pub copied : Copied records₀ 0 (rows (laid 0 (sizes kinds))) records k
  pub rest : drop k (rows (laid 0 (sizes kinds))) ≡ rows (laid start (sizes (drop i kinds)))

pub ranging_all : (kinds : List ℕ) (records : List (List ℕ)) → Ranging kinds records records 0 0 0
ranging_all kinds records = record {
  few = omega (arith, points_few kinds);
  copied = copied_none records 0 (rows (laid 0 (sizes kinds)));
  rest = refl;
}

module _ {kinds : List ℕ} {records₀ records : List (List ℕ)} {k start i : ℕ} (x : Ranging kinds records₀ records k start i) (h : i < length kinds) where
  pub ranging_past : (get_or kinds i 0 ≡ 0 → ⊥) → Ranging kinds records₀ records k start (i + 1)
  ranging_past n =
      let e = sizes_past kinds i h n in
      record {
        few = subst (λ (l : List ℕ). start + total l ≤ length kinds) e x.few;
        copied = x.copied;
        rest = x.rest ∙ ap (λ (l : List ℕ). rows (laid start l)) e;
      }

  module _ (e : get_or kinds i 0 ≡ 0) where
    abbrev next_end : ℕ
    next_end = start + suc (run (drop (i + 1) kinds))

    begins : drop k (rows (laid 0 (sizes kinds))) ≡ (start ∷ next_end ∷ []) ∷ rows (laid next_end (sizes (drop (i + 1) kinds)))
    unfolding laid
    begins = x.rest ∙ ap (λ (l : List ℕ). rows (laid start l)) (sizes_begun kinds i h e)

    pub ranging_few : next_end + total (sizes (drop (i + 1) kinds)) ≤ length kinds
    ranging_few =
        let f : start + total (suc (run (drop (i + 1) kinds)) ∷ sizes (drop (i + 1) kinds)) ≤ length kinds =
        subst (λ (l : List ℕ). start + total l ≤ length kinds) (sizes_begun kinds i h e) x.few in
        omega arith

    pub ranging_within : k < length (rows (laid 0 (sizes kinds)))
    ranging_within = front_within _ k _ _ begins

    pub ranging_more : length (rows (laid 0 (sizes kinds))) ≤ length records₀ → (end : ℕ) → end ≡ next_end
        → Ranging kinds records₀ (set records k (start ∷ end ∷ [])) (k + 1) end (i + 1)
    ranging_more room end q =
        let z : 0 + k ≡ k = omega arith in
        record {
          few = subst (λ (n : ℕ). n + total (sizes (drop (i + 1) kinds)) ≤ length kinds) (sym q) ranging_few;
          copied =
              subst (λ (n : ℕ). Copied records₀ 0 (rows (laid 0 (sizes kinds))) (set records n (start ∷ end ∷ [])) (k + 1)) z
              (copied_more records₀ 0 _ x.copied [] (start ∷ end ∷ []) (omega arith) ranging_within
              (ap (λ (n : ℕ). start ∷ n ∷ []) q ∙ sym (front_is _ k _ _ begins [])));
          rest = front_past _ k _ _ begins ∙ ap (λ (n : ℕ). rows (laid n (sizes (drop (i + 1) kinds)))) (sym q);
        }

pub ranging_done : {kinds : List ℕ} {records₀ records : List (List ℕ)} {k start i : ℕ} → Ranging kinds records₀ records k start i → i ≡ length kinds
    → records ≡ front (rows (laid 0 (sizes kinds))) records₀
unfolding laid
ranging_done {kinds} {records₀} {k = k} {start} {i} x e =
    let wanted = rows (laid 0 (sizes kinds)) in
    let none = x.rest ∙ ap (λ (l : List ℕ). rows (laid start l)) (sizes_done kinds i e) in
    let done : k ≡ length wanted = omega (arith, x.copied.within, length-drop k wanted, ap length none) in
    copied_all _ _ _ x.copied done ∙ placed_front records₀ wanted
