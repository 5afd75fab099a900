-- The line of a contour, by what was answered of it.
use mathlib.Core.Path.{◌≡◌, refl, sym, ◌∙◌, ap}
use mathlib.Core.List.{List, [], ◌∷◌, ◌++◌, append_assoc, append-nil}
use Prim.Native.Nat.{ℕ, ◌+◌, ◌≤◌}
use Rattle.std.specs.Prelude.{Option, Some, None}
use lib.ListN.{length, take}
use lib.Seq.{length-take-le}
use borrow.Author.Tests.{eq-eqb, ne_eqb}
use lib.IntN.{ℤ}
use mir.Syntax.{w64}
use mir.Val.{SFits, to_z, of_z}
use mir.Facts.{to_z-of_z}
use Rattle.grid.specs.Points.{points}
use Rattle.grid.specs.Area.{reported}
use Rattle.replies.specs.Ladder.{first_of}
use Rattle.grid.specs.Domain.{count, Contour}
use Rattle.grid.proofs.DomainLaws.{contour_clear}
use Rattle.ring.specs.declared.Rule as R
use Rattle.ring.specs.Walk.{Tally, End}
use Rattle.ring.specs.Walk.End.{kept, collapsed}
use Rattle.area.specs.Answers.{refusals}
use Rattle.area.proofs.AnswerLaws.{refused_none}
use Rattle.clean.specs.declared.cleaning.Cleaned.{Cleaned}
use Rattle.clean.specs.declared.cleaning.Cleaning.{Cleaning}
use Rattle.clean.specs.Outcome.{ended_with, as_cleaned, Lent, lent, walked, finished}
use Rattle.clean.specs.inside.Settling.{alone}
use Rattle.buffer.specs.Sets.{joined}
use Rattle.report.specs.Text.{decimal, signed, dash, space, line_end}
use Rattle.report.specs.Listing.{after, area2, line}
use Rattle.report.specs.inside.Lines.{Cleanable, cell, kept_text, figures}
use Rattle.report.proofs.PutLaws.{Going, going_none}

-- how many points are kept, as text
module _ {o : Option ℕ} (d t : ℕ) where
  pub kept_count : {n : ℕ} → o ≡ Some n → kept_text (ended_with o d t) ≡ decimal n
  unfolding kept_text
  kept_count e = rw e refl

  pub kept_none : o ≡ None → kept_text (ended_with o d t) ≡ dash
  unfolding kept_text
  kept_none e = rw e refl

-- the area of a contour as text
module _ (c : List ℤ) where
  pub area_none : count c ≡ 0 → area2 c ≡ dash
  area_none e = rw (eq-eqb (count c) 0 e, area2)

  module _ (n : count c ≡ 0 → ⊥) where
    pub area_signed : area2 c ≡ signed (reported (points c))
    area_signed = rw (ne_eqb (count c) 0 n, area2)

    -- the words that are put, where the area was told
    pub area_put : (r : ℤ) → SFits w64 r → r ≡ reported (points c) → area2 c ++ line_end ≡ signed (to_z w64 (of_z w64 r)) ++ line_end
    area_put r f e = ap (λ (w : List ℕ). w ++ line_end) (area_signed ∙ ap signed (sym (to_z-of_z f ∙ e)))

    -- it is not refused
    pub area_clear : Contour c (count c) → first_of (refusals c) ≡ 0
    area_clear x = sym (refused_none c (contour_clear c x) n)

-- the words of a line
abbrev pub figure_words : ℕ → List ℤ → Cleaning → List (List ℕ)
figure_words k c r = cell k ∷ cell (count c) ∷ (kept_text (as_cleaned r) ++ space) ∷ cell r.decisions ∷ (area2 c ++ line_end) ∷ []

-- it decided as often, whether points are kept or not
ended_decisions : (o : Option ℕ) (d t : ℕ) → (ended_with o d t).decisions ≡ d
ended_decisions (Some n) d t = refl
ended_decisions None d t = refl

-- all are to be put
pub figures_begun : (at k : ℕ) (c : List ℤ) (r : Cleaning) (text : List ℕ) → at + length (figures k c (as_cleaned r)) ≤ length text
    → Going at (figures k c (as_cleaned r)) text at text (figure_words k c r)
unfolding figures
figures_begun at k c r text h =
    going_none at text (figure_words k c r)
    (ap (λ (d : ℕ). joined (cell k ∷ cell (count c) ∷ (kept_text (as_cleaned r) ++ space) ∷ cell d ∷ (area2 c ++ line_end) ∷ [])) (ended_decisions r.kept r.decisions r.turns)) h

-- what the end of a walk answers, as text
finished_text : (c : List ℤ) (e : End) (t : Tally) (l : Lent) → kept_text (finished c e t l).answer ≡ after e
unfolding kept_text
finished_text c (kept s) t l = refl
finished_text c collapsed t l = refl

finished_decisions : (c : List ℤ) (e : End) (t : Tally) (l : Lent) → (finished c e t l).answer.decisions ≡ t.decisions
finished_decisions c (kept s) t l = refl
finished_decisions c collapsed t l = refl

-- what was answered of a contour makes its line
pub line_is : (rule : R.Rule) (k : ℕ) (c out : List ℤ) (r : Cleaned) → r ≡ (alone rule c out).answer → figures k c r ≡ line rule k c
unfolding figures joined line
line_is rule k c out r e =
    let w = walked rule c in
    let l : Lent = lent [] [] [] out in
    rw (e, finished_text c w.end w.tally l, finished_decisions c w.end w.tally l) (simp (append_assoc, append-nil))

-- the parts of the scratch that are lent on are as long as the contour
pub lent_parts : (c : List ℤ) (next prev mark : List ℕ) → Cleanable c next prev mark
    → Contour c (length (take (count c) mark))
    × (((length (take (count c) next) ≡ length (take (count c) mark)) × (length (take (count c) prev) ≡ length (take (count c) mark))) × (length (take (count c) mark) ≤ 8192))
lent_parts c next prev mark x =
    let m = length-take-le (count c) mark x.in_mark in
    (rw m x.contour, ((length-take-le (count c) next x.in_next ∙ sym m, length-take-le (count c) prev x.in_prev ∙ sym m), rw m x.few))
