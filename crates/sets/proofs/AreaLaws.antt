-- The area of a set, contour by contour.
use Rattle.std.proofs.Common.{Err, ◌≡◌, ℕ, ◌+◌, ◌<◌, ◌≤◌, true, false, T, List, [], length, get_or, drop, ℤ, pos, negsuc, ◌+ℤ◌, sym, refl, ap, ◌∙◌, arith, w64, to_z, SFits}
use lib.IntN.{+ℤ_assoc, +ℤ_idr}
use Rattle.std.specs.Int.{int_wrap}
use Rattle.std.proofs.lemmas.Int.{int_wrap_fits, int_wrap-add_left}
use Rattle.integers.specs.Modulo.{mod64}
use Rattle.grid.specs.Points.{points}
use Rattle.grid.specs.Area.{wrapped, reported}
use Rattle.replies.specs.declared.refusal.Refusal.{Refusal}
use Rattle.replies.specs.Refusals.{number}
use Rattle.replies.specs.Ladder.{Rung, first_of}
use Rattle.replies.proofs.LadderLaws.{numbered}
use Rattle.replies.proofs.RefusalLaws.{refusals_have_numbers, refused_so_far, asked_further}
use Rattle.area.specs.Answers as A
use Rattle.area.proofs.AnswerLaws.{answer_refused, answer_half}
use Rattle.buffer.specs.Spans.{span, spans}
use Rattle.buffer.specs.Sets.{contour, contours}
use Rattle.sets.specs.Verdicts.{every}
use Rattle.sets.specs.Area.{filled, empty, sum, reported_sum, area_refusals, doubled_by, half_by, half_of}
use Rattle.sets.proofs.PartLaws.{next_part, no_part, Rest, one_passes}

-- the library's name for what is left of an integer in 64 bits
pub wrap_is : (z : ℤ) → int_wrap w64 z ≡ wrapped z
unfolding int_wrap wrapped mod64
wrap_is (pos n) = refl
wrap_is (negsuc n) = ap (to_z w64) (omega arith)

-- the answers of a set with these contours
module _ (set : List (List ℤ)) where
  pub set_empty : every filled set ≡ false → record { reply = 8; value = pos 0 } ≡ doubled_by [] set
  unfolding doubled_by first_of
  set_empty e = rw e

  pub set_filled : (v : ℤ) → every filled set ≡ true → v ≡ reported_sum set → record { reply = 0; value = v } ≡ doubled_by [] set
  unfolding doubled_by first_of
  set_filled v e f = rw (f, e)

  -- a set that is refused, and one that is not
  module _ (refusals : List Rung) where
    pub set_refused : (r : Refusal) → number r ≡ first_of refusals → A.answered (Err r) ≡ doubled_by refusals set
    unfolding doubled_by
    set_refused r e = rw (← refused_so_far refusals (empty set) r e) (answer_refused (number r) _ (refusals_have_numbers r))

    pub set_taken : T (numbered refusals) → 0 ≡ first_of refusals → doubled_by [] set ≡ doubled_by refusals set
    unfolding doubled_by
    set_taken t e = ap (λ (k : ℕ). A.answer k (reported_sum set)) (asked_further refusals (empty set) t e refl)

  pub set_half : (refusals : List Rung) → half_of (doubled_by refusals set) ≡ half_by refusals set
  unfolding doubled_by half_by
  set_half refusals = answer_half (first_of (area_refusals refusals set)) (reported_sum set)

-- a loop's sum, before it adds contour number i
module _ (p : List ℤ) (cs : List (List ℕ)) where
  abbrev set : List (List ℤ)
  set = contours p (spans cs)

  -- a loop's sum of those before number i
  pub record Gathered (s : ℤ) (i : ℕ) : Type 0 where
    pub rest : Rest filled p cs 0 i
    pub is : int_wrap w64 (sum set) ≡ int_wrap w64 (s +ℤ sum (drop i set))

  module _ {s : ℤ} {i : ℕ} (g : Gathered s i) where
    pub gathered_more : i < length cs → (r : ℤ) → filled (contour p (span (get_or cs i []))) ≡ true → r ≡ int_wrap w64 (s +ℤ reported (points (contour p (span (get_or cs i []))))) → Gathered r (i + 1)
    unfolding sum
    gathered_more h r n e =
        let v = reported (points (contour p (span (get_or cs i [])))) in
        let t = sum (drop (i + 1) set) in
        record {
          rest = one_passes filled p cs 0 i g.rest h n;
          is = g.is ∙ ap (λ (l : List (List ℤ)). int_wrap w64 (s +ℤ sum l)) (next_part p cs i h)
              ∙ ap (int_wrap w64) (sym (+ℤ_assoc s v t)) ∙ sym (ap (λ (z : ℤ). int_wrap w64 (z +ℤ t)) e ∙ int_wrap-add_left w64 (s +ℤ v) t);
        }

    pub gathered_all : length cs ≤ i → SFits w64 s → s ≡ reported_sum set
    unfolding sum
    gathered_all h f =
        sym (int_wrap_fits w64 s f) ∙ ap (int_wrap w64) (sym (+ℤ_idr s)) ∙ ap (λ (l : List (List ℤ)). int_wrap w64 (s +ℤ sum l)) (sym (no_part p cs i h))
        ∙ sym g.is ∙ wrap_is (sum set)
