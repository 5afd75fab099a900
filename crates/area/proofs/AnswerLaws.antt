-- What is answered, refusal by refusal.
use Rattle.std.proofs.Common.{Err, ◌≡◌, ap, ◌∙◌, ℕ, zero, suc, ◌/◌, ◌<◌, List, ℤ, pos, negsuc, neg_ℤ, refl, arith, w64, SFits, eq-eqb, ne_eqb}
use lib.Signed.{mag}
use borrow.Author.Tests.{eqb-false}
use Rattle.grid.specs.Limits.{limit}
use Rattle.grid.specs.Points.{points}
use Rattle.grid.specs.Area.{reported, halved}
use Rattle.replies.specs.declared.refusal.Refusal.{Refusal}
use Rattle.replies.specs.Ladder.{first_of}
use Rattle.replies.specs.Refusals.{number}
use Rattle.replies.proofs.RefusalLaws.{refusals_have_numbers}
use Rattle.grid.specs.Domain.{count, domain, Contour}
use Rattle.grid.proofs.DomainLaws.{in_domain}
use Rattle.replies.proofs.LadderLaws.{first_is, stopped, onward, clear, cleared}
use Rattle.replies.proofs.LadderLaws.First.{here, past, foot}
use Rattle.area.specs.declared.answer.Area.{Area}
use Rattle.area.specs.Answers.{answer, answered, empty, refusals, doubled, half}

pub answer_refused : (k : ℕ) (z : ℤ) → (k ≡ 0 → ⊥) → record { reply = k; value = pos 0 } ≡ answer k z
answer_refused zero z n = absurd (n refl)
answer_refused (suc k) z n = refl

module _ (row : List ℤ) where
  -- what the domain refuses is refused
  pub refused_domain : (k : ℕ) → k ≡ first_of (domain limit row) → (k ≡ 0 → ⊥) → k ≡ first_of (refusals row)
  refused_domain k e n = first_is (refusals row) k (stopped _ _ _ e n)

  -- a contour with no points is refused
  module _ (e : first_of (domain limit row) ≡ 0) where
    pub refused_empty : count row ≡ 0 → 8 ≡ first_of (refusals row)
    refused_empty h = first_is (refusals row) 8 (onward _ _ _ tt e (here (eq-eqb _ _ h)))

    pub refused_none : (count row ≡ 0 → ⊥) → 0 ≡ first_of (refusals row)
    refused_none n = first_is (refusals row) 0 (onward _ _ _ tt e (past (ne_eqb _ _ n) foot))

  -- a contour that is not refused
  pub filled_contour : first_of (refusals row) ≡ 0 → Contour row (count row) × (0 < count row)
  filled_contour z =
      let d = cleared (domain limit row) (empty row) tt z in
      (in_domain row d.0, omega (arith, eqb-false (count row) 0 (clear (empty row) tt d.1).0))

  -- what is answered
  pub doubled_refused : (r : Refusal) → number r ≡ first_of (refusals row) → answered (Err r) ≡ doubled row
  unfolding doubled
  doubled_refused r e = rw (← e) (answer_refused (number r) _ (refusals_have_numbers r))

  module _ (e : first_of (refusals row) ≡ 0) (z : ℤ) (h : z ≡ reported (points row)) where
    pub doubled_done : record { reply = 0; value = z } ≡ doubled row
    unfolding doubled
    doubled_done = rw (e, h)

    pub half_done : record { reply = 0; value = halved z } ≡ half row
    unfolding half
    half_done = rw (e, h)

-- an area's half
pub answer_half : (k : ℕ) (z : ℤ) → record { reply = (answer k z).reply; value = halved (answer k z).value } ≡ answer k (halved z)
answer_half zero z = refl
answer_half (suc k) z = refl

-- the half is told where the doubled area is
pub half_of : (row : List ℤ) (a : Area) → a ≡ doubled row → record { reply = a.reply; value = halved a.value } ≡ half row
unfolding doubled half
half_of row a e = ap (λ (x : Area). record { reply = x.reply; value = halved x.value }) e ∙ answer_half (first_of (refusals row)) (reported (points row))

neg_mag : (m : ℕ) {H : ℕ} → m < H → mag (neg_ℤ (pos m)) < H
neg_mag zero h = omega arith
neg_mag (suc m) h = omega arith

half_mag : (z : ℤ) {H : ℕ} → mag z < H → mag (halved z) < H
half_mag (pos n) h = omega arith
half_mag (negsuc n) h = neg_mag (suc n / 2) (omega arith)

pub half_fits : (z : ℤ) → SFits w64 z → SFits w64 (halved z)
half_fits z f = record { sfits = half_mag z f.sfits }
