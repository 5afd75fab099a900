-- Rows that are written to.
use mathlib.Core.Path.{◌≡◌, refl, sym, ◌∙◌, ap, ap₂}
use mathlib.Core.List.{List, [], ◌∷◌, ◌++◌, map}
use Prim.Native.Nat.{ℕ, zero, suc, ◌+◌, ◌<◌}
use native.Mathlib.Omega.{arith}
use lib.ListN.{length, get_or, set, take, drop, length-map}
use Rattle.buffer.specs.declared.ranges.Span.{Span}
use Rattle.buffer.specs.Spans.{span, spans, row, rows, moved}
use Rattle.rows.specs.Rows.{front, placed}
use Rattle.rows.proofs.RowLaws.{placed_front, placed_next}

-- one range more is written over a row
pub shifted_more : (l out : List (List ℕ)) (n i : ℕ) → i < length l → i < length out
    → set (rows (map (moved n) (spans (take i l))) ++ drop i out) i (row (moved n (span (get_or l i []))))
    ≡ rows (map (moved n) (spans (take (suc i) l))) ++ drop (suc i) out
shifted_more [] out n i h k = absurd (omega arith)
shifted_more (r ∷ l) [] n i h k = absurd (omega arith)
shifted_more (r ∷ l) (o ∷ out) n zero h k = refl
shifted_more (r ∷ l) (o ∷ out) n (suc i) h k = ap (λ (t : List (List ℕ)). row (moved n (span r)) ∷ t) (shifted_more l out n i (omega arith) (omega arith))

pub rows_append : (a b : List Span) → rows (a ++ b) ≡ rows a ++ rows b
rows_append [] b = refl
rows_append (s ∷ a) b = ap (λ (t : List (List ℕ)). row s ∷ t) (rows_append a b)

pub unmoved : (l : List Span) → map (moved 0) l ≡ l
unmoved [] = refl
unmoved (s ∷ l) =
    let a : s.start + 0 ≡ s.start = omega arith in
    let b : s.end + 0 ≡ s.end = omega arith in
    ap₂ (λ (u : Span) (t : List Span). u ∷ t) (ap₂ (λ (u v : ℕ). record { start = u; end = v }) a b) (unmoved l)

pub spans-length : (l : List (List ℕ)) → length (spans l) ≡ length l
spans-length l = length-map l span

pub records_front : (l out : List (List ℕ)) → placed 0 (rows (map (moved 0) (spans l))) out ≡ front (rows (spans l)) out
records_front l out = placed_front out (rows (map (moved 0) (spans l))) ∙ ap (λ (k : List Span). front (rows k) out) (unmoved (spans l))

-- both rows of records
module _ (one two out : List (List ℕ)) (n : ℕ) where
  pub both_placed : (o p : List (List ℕ)) → o ≡ placed 0 (rows (map (moved 0) (spans one))) out → p ≡ placed (length one) (rows (map (moved n) (spans two))) o
      → p ≡ front (rows (spans one ++ map (moved n) (spans two))) out
  both_placed o p e f =
      let a : o ≡ front (rows (spans one)) out = e ∙ records_front one out in
      let k : length one ≡ length (rows (spans one)) = sym (length-map (spans one) row ∙ length-map one span) in
      f ∙ ap (placed (length one) (rows (map (moved n) (spans two)))) a
      ∙ placed_next out (rows (spans one)) (rows (map (moved n) (spans two))) (length one) k
      ∙ ap (λ (l : List (List ℕ)). front l out) (sym (rows_append (spans one) (map (moved n) (spans two))))
