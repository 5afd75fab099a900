-- The set that packing wrote, handed on.
use mathlib.Core.Path.{◌≡◌, refl, sym, ◌∙◌, ap}
use mathlib.Core.Bool.{Bool, not, ◌&&◌}
use mathlib.Core.List.{List, [], ◌∷◌, ◌++◌}
use Prim.Native.Nat.{ℕ, zero, suc, ◌*◌, ◌%◌}
use native.Mathlib.Omega.{arith}
use lib.Dec.{T}
use lib.ListN.{length, get_or, take, length-map}
use lib.Seq.{take_at}
use lib.IntN.{ℤ}
use borrow.Author.Tests.{ne_eqb, le-ltb}
use Rattle.replies.specs.Ladder.{Rung, first_of, room}
use Rattle.grid.specs.Limits.{limit}
use Rattle.grid.specs.Domain.{count}
use Rattle.replies.proofs.LadderLaws.{numbered, cleared, first_is}
use Rattle.replies.proofs.LadderLaws.First.{past, foot}
use Rattle.buffer.specs.declared.ranges.Span.{Span}
use Rattle.buffer.specs.Spans.{spans, row, rows, sound}
use Rattle.buffer.specs.Sets.{contours, shapes}
use Rattle.rows.specs.Rows.{front}
use Rattle.rows.specs.Parts.{lying}
use Rattle.buffer.specs.Refusals.{set}
use Rattle.buffer.specs.Answers.{packed, Outcome, written_points, written_contours, written_shapes, enough, outcome, stored}
use Rattle.buffer.specs.Contours as C
use Rattle.buffer.specs.Shapes as S
use Rattle.buffer.proofs.RefusalLaws.{Accepted}
use Rattle.buffer.proofs.RowLaws.{spans-length}
use Rattle.buffer.proofs.PartLaws.{part_holds, shape_part_holds}

pub spans_rows : (l : List Span) → spans (rows l) ≡ l
spans_rows [] = refl
spans_rows (s ∷ l) = ap (λ (k : List Span). s ∷ k) (spans_rows l)

pub accepted_clear : (p : List ℤ) (s : Bool) → Accepted limit p s → first_of (set limit p s) ≡ 0
accepted_clear p s a =
    sym
    (first_is _ 0
    (past (ne_eqb (length p % 2) 1 (λ h. omega (arith, a.even)))
    (past (le-ltb _ _ a.few)
    (past (ap not a.sound)
    (past (ap not a.on) foot)))))

-- a set that was written: nothing refused it, and it stands in front of the rows
pub record Written (l : List Rung) (p : List ℤ) (cs ss : List Span) (o : Outcome) : Type 0 where
  pub clear : first_of l ≡ 0
  pub answer : o.answer ≡ packed 0 (count p) (length cs) (length ss)
  pub points : length p ≡ 2 * count p → written_points o ≡ p
  pub contours : spans (written_contours o) ≡ cs
  pub shapes : spans (written_shapes o) ≡ ss

pub rows_front : (l : List Span) (row_out : List (List ℕ)) → spans (take (length l) (front (rows l) row_out)) ≡ l
rows_front l row_out = ap spans (take_at (rows l) _ (length l) (length-map l row)) ∙ spans_rows l

module _ (l : List Rung) (t : T (numbered l)) (p : List ℤ) (cs ss : List Span) (out : List ℤ) (contours shapes : List (List ℕ)) (o : Outcome) (e : o ≡ stored l p cs ss out contours shapes) where
  pub written : o.answer.reply ≡ 0 → Written l p cs ss o
  unfolding stored
  written z = go (first_of (l ++ room (enough p cs ss out contours shapes))) refl (ap (λ (w : Outcome). w.answer.reply) (sym e) ∙ z) e
    where
      go : (r : ℕ) → r ≡ first_of (l ++ room (enough p cs ss out contours shapes)) → (outcome r p cs ss out contours shapes).answer.reply ≡ 0 → o ≡ outcome r p cs ss out contours shapes → Written l p cs ss o
      go (suc r) f h g = absurd (omega arith)
      go zero f h g = record {
        clear = (cleared l (room (enough p cs ss out contours shapes)) t (sym f)).0;
        answer = ap (λ (w : Outcome). w.answer) g;
        points = λ even. ap written_points g ∙ ap (λ (n : ℕ). take n (front p out)) (sym even) ∙ take_at p _ (length p) refl;
        contours = ap (λ (w : Outcome). spans (written_contours w)) g ∙ rows_front cs contours;
        shapes = ap (λ (w : Outcome). spans (written_shapes w)) g ∙ rows_front ss shapes;
      }

pub refused_unchanged : (l : List Rung) (p : List ℤ) (cs ss : List Span) (out : List ℤ) (contours shapes : List (List ℕ)) (o : Outcome) → o ≡ stored l p cs ss out contours shapes
    → (o.answer.reply ≡ 0 → ⊥) → (o.points ≡ out) × (o.contours ≡ contours) × (o.shapes ≡ shapes)
unfolding stored
refused_unchanged l p cs ss out contours shapes o e n = go (first_of (l ++ room (enough p cs ss out contours shapes))) e
  where
    go : (r : ℕ) → o ≡ outcome r p cs ss out contours shapes → (o.points ≡ out) × (o.contours ≡ contours) × (o.shapes ≡ shapes)
    go zero g = absurd (n (ap (λ (w : Outcome). w.answer.reply) g))
    go (suc r) g = (ap (λ (w : Outcome). w.points) g, ap (λ (w : Outcome). w.contours) g, ap (λ (w : Outcome). w.shapes) g)

-- unpacked by number
module _ (l : List Rung) (p : List ℤ) (cs ss : List Span) (o : Outcome) (w : Written l p cs ss o) where
  pub unpacked_contour : Accepted limit p (sound cs (count p)) → (at : ℕ × ℕ) (k : ℕ) → (C.contour_at (lying at (written_points o)) (written_contours o) k).numbers ≡ get_or (contours p cs) k []
  unfolding C.contour_at
  unpacked_contour a at k = rw (w.points a.even, w.contours, accepted_clear p (sound cs (count p)) a) (part_holds (lying at p) cs k)

  pub contours_taken : Accepted limit p (sound cs (count p)) → first_of (C.refusals (written_points o) (written_contours o)) ≡ 0
  contours_taken a = rw (w.points a.even, w.contours) (accepted_clear p (sound cs (count p)) a)

  pub shapes_taken : Accepted limit p (sound cs (count p) && sound ss (length cs)) → first_of (S.refusals (written_points o) (written_contours o) (written_shapes o)) ≡ 0
  shapes_taken a =
      let n : length (written_contours o) ≡ length cs = sym (spans-length (written_contours o)) ∙ ap length w.contours in
      rw (w.points a.even, n, w.contours, w.shapes) (accepted_clear p (sound cs (count p) && sound ss (length cs)) a)

  pub unpacked_shape : Accepted limit p (sound cs (count p) && sound ss (length cs)) → (at : ℕ × ℕ) (s c : ℕ)
      → (S.contour_of (lying at (written_points o)) (written_contours o) (written_shapes o) s c).numbers ≡ get_or (get_or (shapes p cs ss) s []) c []
  unfolding S.contour_of
  unpacked_shape a at s c =
      let n : length (written_contours o) ≡ length cs = sym (spans-length (written_contours o)) ∙ ap length w.contours in
      rw (w.points a.even, n, w.contours, w.shapes, accepted_clear p (sound cs (count p) && sound ss (length cs)) a) (shape_part_holds (lying at p) cs ss s c)
