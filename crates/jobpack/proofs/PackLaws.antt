-- What is made of a set that was read, by what the writer answers.
use mathlib.Core.Path.{◌≡◌, refl, sym, ◌∙◌, ap, ap₂}
use mathlib.Core.Bool.{Bool, true, false}
use mathlib.Core.List.{List, []}
use Prim.Native.Nat.{ℕ, zero, suc, ◌≤◌}
use native.Mathlib.Omega.{arith}
use lib.Dec.{leb}
use lib.ListN.{length}
use lib.IntN.{ℤ}
use borrow.Author.Tests.{le-leb}
use Rattle.replies.specs.Ladder.{first_of, room}
use Rattle.replies.proofs.LadderLaws.{below_held, room_clear}
use Rattle.grid.specs.Domain.{count}
use Rattle.setfile.specs.Format as Format
use Rattle.setfile.specs.Writing as W
use Rattle.setfile.specs.Writing2 as W2
use Rattle.setfile.specs.Promises.{edition_file, write_refusals, write_outcome}
use Rattle.setfile.proofs.Theorems.{an_edition_can_carry, room_decides}
use Rattle.report.specs.inside.Lines.{Put}
use Rattle.report.proofs.PutLaws.{put_front, front_within}
use Rattle.jobpack.specs.declared.Lengths.{Lengths}
use Rattle.jobpack.specs.Packing.{packed, Outcome, leaving, outcome, packing}

-- a row for the longest file is never too short
module _ (p : List ℤ) (cs ss : List (List ℕ)) (row : List ℕ) where
  held : (s : Bool) → (first_of (write_refusals s p cs ss) ≡ 0 → ⊥) → write_outcome s p cs ss row ≡ W.written (first_of (write_refusals s p cs ss)) (edition_file s p cs ss) row
  unfolding W.outcome W2.outcome Format.file
  held true n = ap (λ (k : ℕ). W.written k (edition_file true p cs ss) row) (below_held (W2.refusals p cs ss) (room (leb (length (W2.file_of p cs ss)) (length row))) n)
  held false n = ap (λ (k : ℕ). W.written k (edition_file false p cs ss) row) (below_held (W.refusals p cs ss) (room (leb (Format.file_length (length cs) (count p)) (length row))) n)

  pub writer_told : (s : Bool) → 65536 ≤ length row → write_outcome s p cs ss row ≡ W.written (first_of (write_refusals s p cs ss)) (edition_file s p cs ss) row
  writer_told s h = go (first_of (write_refusals s p cs ss)) refl
    where
      go : (k : ℕ) → first_of (write_refusals s p cs ss) ≡ k → write_outcome s p cs ss row ≡ W.written (first_of (write_refusals s p cs ss)) (edition_file s p cs ss) row
      go zero e =
          room_decides s p cs ss e row
          ∙ ap (λ (k : ℕ). W.written k (edition_file s p cs ss) row)
          (room_clear _ (le-leb (length (edition_file s p cs ss)) (length row) (omega (arith, ((an_edition_can_carry p cs ss s).0 e).not_long, h))) ∙ sym e)
      go (suc k) e = held s (λ z. omega (arith, e))

-- words that were put, and no file
pub no_file : {said words : List ℕ} {r : ℕ} {exit : List ℕ} (out : List ℕ) → Put 0 said words r exit
    → leaving (record { bytes = 0; words = r }) out exit ≡ outcome (record { file = []; words = said }) out words
no_file out p = ap₂ (λ (n : ℕ) (w : List ℕ). leaving (record { bytes = 0; words = n }) out w) (put_front p).0 (put_front p).1

-- what is written stands within both rows
module _ (t out words : List ℕ) {r : Lengths} {exit said : List ℕ} (e : leaving r exit said ≡ packing t out words) where
  pub file_within : r.bytes ≤ length exit
  unfolding packing
  file_within = front_within (packed t).file out r.bytes exit (ap (λ (o : Outcome). o.lengths.bytes) e) (ap (λ (o : Outcome). o.bytes) e)

  pub words_within : r.words ≤ length said
  unfolding packing
  words_within = front_within (packed t).words words r.words said (ap (λ (o : Outcome). o.lengths.words) e) (ap (λ (o : Outcome). o.words) e)
