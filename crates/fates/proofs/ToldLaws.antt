-- What a contour's fate is told as.
use mathlib.Core.Path.{◌≡◌, refl, sym, ◌∙◌, ap}
use mathlib.Core.Bool.{Bool, true, false}
use mathlib.Core.List.{List, []}
use Prim.Native.Nat.{ℕ, ◌<◌}
use native.Mathlib.Omega.{arith}
use lib.IntN.{ℤ}
use Rattle.grid.specs.Points.{points}
use Rattle.grid.specs.Domain.{Contour}
use Rattle.ring.specs.declared.Rule.{Rule}
use Rattle.ring.specs.declared.Ending.{Ending}
use Rattle.ring.specs.Rule.{goes}
use Rattle.ring.specs.inside.Rows.{Ended}
use Rattle.clean.specs.declared.cleaning.Cleaned.{Cleaned}
use Rattle.clean.specs.Verdicts.{passes}
use Rattle.clean.proofs.OutcomeLaws.{settled_kept, settled_fallen}
use Rattle.sets.specs.Fates.{Fate, fate}
use Rattle.sets.specs.Fates.Fate.{stays, gone}
use Rattle.sets.specs.inside.Contour.{answer_of}
use Rattle.sets.proofs.FateLaws.{fated_few, fated_copied, fated_walked}
use Rattle.fates.specs.Fates.{kept, collapsed, told}

-- by the reply that the contour's cleaning has
told_kept : (w : Fate) (r : Cleaned) → r ≡ answer_of w → r.reply ≡ 0 → kept ≡ told w
told_kept (stays d t) r e z = refl
told_kept (gone t) r e z = let y : ◌≡◌ {A = ℕ} 7 0 = sym (ap (λ (a : Cleaned). a.reply) e) ∙ z in absurd (omega arith)

told_collapsed : (w : Fate) (r : Cleaned) → r ≡ answer_of w → r.reply ≡ 7 → collapsed ≡ told w
told_collapsed (stays d t) r e z = let y : ◌≡◌ {A = ℕ} 0 7 = sym (ap (λ (a : Cleaned). a.reply) e) ∙ z in absurd (omega arith)
told_collapsed (gone t) r e z = refl

module _ (rule : Rule) (c : List ℤ) where
  pub few_collapse : {n : ℕ} → Contour c n → n < 3 → collapsed ≡ told (fate rule c)
  few_collapse k h = told_collapsed (fate rule c) _ (fated_few rule c [] k h).answer refl

  module _ (b : Bool) (e : b ≡ passes rule (points c)) where
    pub passing_is_kept : b ≡ true → kept ≡ told (fate rule c)
    passing_is_kept t = told_kept (fate rule c) _ (fated_copied rule c [] b e t _ refl).answer refl

    module _ (f : b ≡ false) {n : ℕ} (k : Contour c n) (w : Ending) (mark prev : List ℕ) (d : Ended (goes rule c) n mark prev w) where
      pub walked_is_kept : w.kept ≡ true → kept ≡ told (fate rule c)
      walked_is_kept t = told_kept (fate rule c) _ (fated_walked rule c [] b e f _ _ (settled_kept rule c [] k w mark prev d t _ _ _ refl refl refl)).answer refl

      pub walked_collapses : w.kept ≡ false → collapsed ≡ told (fate rule c)
      walked_collapses t = told_collapsed (fate rule c) _ (fated_walked rule c [] b e f _ _ (settled_fallen rule c [] k w mark prev d t)).answer refl
