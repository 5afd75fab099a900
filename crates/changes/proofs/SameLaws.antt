-- When no line is said: every contour is the same, and both files have as many.
use mathlib.Core.Path.{◌≡◌, refl, ◌∙◌, ap, ap₂}
use mathlib.Core.Bool.{Bool, true, false}
use mathlib.Core.List.{List, [], ◌∷◌, ◌++◌}
use Prim.Native.Nat.{ℕ, zero, suc, ◌≤◌}
use native.Mathlib.Omega.{arith}
use lib.Dec.{eqb, ltb}
use lib.ListN.{length, length-append}
use lib.IntN.{ℤ}
use Rattle.grid.specs.Domain.{count}
use Rattle.buffer.specs.Sets.{joined, Even}
use Rattle.turned.specs.Starts.{smallest_start}
use Rattle.difference.specs.declared.inner.lines.Line.{Line}
use Rattle.difference.specs.Lines.{same, elsewhere, different, judged, by_count, compared, listed, written, kind, place}
use Rattle.difference.proofs.Theorems.{what_is_told_as_the_same_is_the_same, a_contour_is_the_same_as_itself}
use Rattle.changes.specs.Words.{line, lines}
use Rattle.changes.proofs.LineLaws.{line_words}

line_some : (k kind place : ℕ) → (kind ≡ 0 → ⊥) → 8 ≤ length (line k kind place)
unfolding joined
line_some k kind place n = rw (line_words k kind place n) (omega arith)

judged_same : (n s d : ℕ) → kind (judged n s d) ≡ 0 → judged n s d ≡ same
judged_same n zero d e = refl
judged_same n (suc s) d e = go (ltb (suc s) n) e
  where
    go : (b : Bool) → (let l : Line = elim b [ true ↦ elsewhere (suc s) | false ↦ different d ] in kind l ≡ 0) → elim b [ true ↦ elsewhere (suc s) | false ↦ different d ] ≡ same
    go true e = absurd (omega arith)
    go false e = absurd (omega arith)

-- the kind 0 tells it
compared_same : (a b : List ℤ) → kind (compared a b) ≡ 0 → compared a b ≡ same
unfolding compared
compared_same a b = go (eqb (count a) (count b))
  where
    go : (t : Bool) → kind (by_count t a b) ≡ 0 → by_count t a b ≡ same
    go true e = judged_same (count b) (smallest_start a b (count b)) _ e
    go false e = absurd (omega arith)

pub no_line_same : (k : ℕ) (firsts seconds : List (List ℤ)) → Even firsts → Even seconds → length (lines k (written (listed firsts seconds))) ≡ 0 → seconds ≡ firsts
unfolding lines listed
no_line_same k [] [] e f h = refl
no_line_same k [] (b ∷ seconds) e f h = absurd (omega (arith, length-append (line k 4 0) (lines (suc k) (written (listed [] seconds))), line_some k 4 0 (λ z. omega arith)))
no_line_same k (a ∷ firsts) [] e f h = absurd (omega (arith, length-append (line k 3 0) (lines (suc k) (written (listed firsts []))), line_some k 3 0 (λ z. omega arith)))
no_line_same k (a ∷ firsts) (b ∷ seconds) e f h =
    let n = length-append (line k (kind (compared a b)) (place (compared a b))) (lines (suc k) (written (listed firsts seconds))) in
    go (kind (compared a b)) refl (omega (arith, n)) (no_line_same (suc k) firsts seconds e.1 f.1 (omega (arith, n)))
  where
    go : (j : ℕ) → kind (compared a b) ≡ j → length (line k (kind (compared a b)) (place (compared a b))) ≡ 0 → seconds ≡ firsts → b ∷ seconds ≡ a ∷ firsts
    go zero g l r = ap₂ (λ (x : List ℤ) (y : List (List ℤ)). x ∷ y) (what_is_told_as_the_same_is_the_same a b e.0 f.0 (compared_same a b g)) r
    go (suc j) g l r = absurd (omega (arith, line_some k (kind (compared a b)) (place (compared a b)) (λ z. omega arith)))

pub same_no_line : (k : ℕ) (set : List (List ℤ)) → lines k (written (listed set set)) ≡ []
unfolding line lines listed
same_no_line k [] = refl
same_no_line k (a ∷ set) =
    ap (λ (x : Line). line k (kind x) (place x) ++ lines (suc k) (written (listed set set))) (a_contour_is_the_same_as_itself a)
    ∙ same_no_line (suc k) set
