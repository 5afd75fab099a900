-- A verdict, refused or given.
use mathlib.Core.Path.{◌≡◌, refl}
use mathlib.Core.Bool.{Bool, false}
use mathlib.Core.List.{List}
use Prim.Native.Nat.{ℕ, zero, suc}
use Rattle.replies.specs.Ladder.{Rung, first_of}
use Rattle.replies.specs.Verdicts.{verdict}

verdict_no : (k : ℕ) (b : Bool) → (k ≡ 0 → ⊥) → record { reply = k; yes = false } ≡ verdict k b
verdict_no zero b n = absurd (n refl)
verdict_no (suc k) b n = refl

module _ (l : List Rung) (b : Bool) where
  pub verdict_refused : (k : ℕ) → k ≡ first_of l → (k ≡ 0 → ⊥) → record { reply = k; yes = false } ≡ verdict (first_of l) b
  verdict_refused k e n = rw (← e) (verdict_no k b n)

  pub verdict_given : (a : Bool) → first_of l ≡ 0 → a ≡ b → record { reply = 0; yes = a } ≡ verdict (first_of l) b
  verdict_given a e f = rw (e, f)
