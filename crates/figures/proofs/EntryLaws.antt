-- The figures of one entry, and of one contour that is cleaned.
use mathlib.Core.Path.{◌≡◌, refl, sym, ◌∙◌, ap}
use mathlib.Core.List.{List, [], ◌∷◌}
use Prim.Native.Nat.{ℕ, ◌+◌, ◌<◌}
use native.Mathlib.Omega.{arith}
use lib.ListN.{get_or, set, replicate, get_or-replicate}
use lib.IntN.{ℤ, +ℤ_idr}
use Rattle.replies.specs.Ladder.{first_of}
use Rattle.grid.specs.Domain.{count, Contour}
use Rattle.grid.proofs.DomainLaws.{contour_clear}
use Rattle.area.specs.Answers.{refusals}
use Rattle.area.proofs.AnswerLaws.{refused_none}
use Rattle.ring.specs.declared.Rule.{Rule}
use Rattle.ring.specs.Walk.{End}
use Rattle.ring.specs.Walk.End.{kept, collapsed}
use Rattle.ring.specs.Rule.{goes}
use Rattle.ring.proofs.Listed.{rising_few}
use Rattle.ring.proofs.Theorems.{kept_rising, kept_at_least_three}
use Rattle.clean.specs.declared.cleaning.Cleaned.{Cleaned}
use Rattle.clean.specs.Outcome.{walked}
use Rattle.clean.specs.inside.Settling.{Settled}
use Rattle.figures.specs.Halves.{high, low}
use Rattle.figures.specs.Entries.{entry}
use Rattle.figures.specs.Batch.{numbers, tally, sum_of, areas, figures_of}

pub one_figures : (reply before after decisions : ℕ) (area : ℤ) → reply < numbers → (h : ℤ) (l : ℕ) → h ≡ high area → l ≡ low area
    → record { totals = set (replicate numbers 0) reply 1; before = before; after = after; decisions = decisions; high = h; low = l } ≡ figures_of (entry reply before after decisions area ∷ [])
unfolding figures_of tally sum_of areas
one_figures reply before after decisions area s h l e f =
    let t : get_or {A = ℕ} (replicate numbers 0) reply 0 ≡ 0 = get_or-replicate numbers reply 0 0 s in
    let z : (n : ℕ) → n + 0 ≡ n = λ n. omega arith in
    rw (e, f, t, z before, z after, z decisions, +ℤ_idr area)

-- what is kept of a contour has three points or more, and so the contour has an area
module _ (rule : Rule) (c out : List ℤ) (r : Cleaned) (exit : List ℤ) (d : Settled rule c out r exit) (z : r.reply ≡ 0) where
  not_empty : count c ≡ 0 → ⊥
  not_empty none = go (walked rule c).end refl
    where
      go : (w : End) → (walked rule c).end ≡ w → ⊥
      go (kept s) e =
          let big = kept_at_least_three (goes rule c) (count c) e in
          let within = rising_few 0 (count c) s (kept_rising (goes rule c) (count c) e) in
          omega arith
      go collapsed e = let y : ◌≡◌ {A = ℕ} 7 0 = sym (ap (λ (a : Cleaned). a.reply) d.answer ∙ rw e) ∙ z in omega arith

  pub area_asked : Contour c (count c) → first_of (refusals c) ≡ 0
  area_asked k = sym (refused_none c (contour_clear c k) not_empty)
