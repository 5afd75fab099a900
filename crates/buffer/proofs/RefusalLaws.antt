-- Where a row's own refusals stop, and where the refusals of a set go on from there.
use mathlib.Core.Path.{◌≡◌, refl, sym, ◌∙◌}
use mathlib.Core.Bool.{Bool, true, false, not, true≢false}
use mathlib.Core.List.{List, [], ◌∷◌, ◌++◌}
use Prim.Native.Nat.{ℕ, ◌+◌, ◌*◌, ◌%◌, ◌<◌, ◌≤◌}
use native.Mathlib.Omega.{arith}
use lib.ListN.{length}
use lib.IntN.{ℤ}
use borrow.Author.Tests.{lt-ltb, le-ltb, ltb-false, eqb-false, not-false}
use Rattle.std.proofs.Common.{eq-eqb, ne_eqb}
use Rattle.grid.specs.Limits.{limit, most, all_on_grid}
use Rattle.replies.specs.Ladder.{Rung, first_of}
use Rattle.grid.specs.Domain.{count, off, domain}
use Rattle.replies.proofs.LadderLaws.{first_is, clear, found}
use Rattle.replies.proofs.LadderLaws.First.{here, past}
use Rattle.buffer.specs.Refusals.{unsound, set, both}

-- a set whose ranges are not sound, or are
module _ (sound : Bool) (l : List Rung) where
  pub unsound_held : not sound ≡ true → 6 ≡ first_of (unsound sound ++ l)
  unsound_held h = first_is _ 6 (here h)

  pub unsound_past : not sound ≡ false → {k : ℕ} → k ≡ first_of l → k ≡ first_of (unsound sound ++ l)
  unsound_past h e = first_is _ _ (past h (found l _ e))

-- a set and what is added to it, of even lengths
module _ (row more : List ℤ) (sound : Bool) where
  pub both_odd : length row % 2 ≡ 1 → 1 ≡ first_of (both row more sound)
  both_odd h = first_is _ _ (here (eq-eqb _ _ h))

  module _ (n : length row % 2 ≡ 1 → ⊥) where
    pub more_odd : length more % 2 ≡ 1 → 1 ≡ first_of (both row more sound)
    more_odd h = first_is _ _ (past (ne_eqb _ _ n) (here (eq-eqb _ _ h)))

    module _ (m : length more % 2 ≡ 1 → ⊥) where
      pub both_over : most < count row + count more → 2 ≡ first_of (both row more sound)
      both_over h = first_is _ _ (past (ne_eqb _ _ n) (past (ne_eqb _ _ m) (here (lt-ltb _ _ h))))

      pub both_further : count row + count more ≤ most → {k : ℕ} → k ≡ first_of (unsound sound ++ off limit row ++ off limit more) → k ≡ first_of (both row more sound)
      both_further h e = first_is _ _ (past (ne_eqb _ _ n) (past (ne_eqb _ _ m) (past (le-ltb _ _ h) (found _ _ e))))

-- a set that no call refuses
pub record Accepted (bound : ℕ) (p : List ℤ) (s : Bool) : Type 0 where
  pub even : length p ≡ 2 * count p
  pub few : count p ≤ most
  pub sound : s ≡ true
  pub on : all_on_grid bound p ≡ true

pub accepted : (bound : ℕ) (p : List ℤ) (sound : Bool) → first_of (set bound p sound) ≡ 0 → Accepted bound p sound
accepted bound p sound e =
    let c = clear (set bound p sound) tt e in
    record {
      even = omega (arith, eqb-false (length p % 2) 1 c.0);
      few = ltb-false _ _ c.1.0;
      sound = not-false sound c.1.1.0;
      on = not-false (all_on_grid bound p) c.1.1.1.0;
    }
