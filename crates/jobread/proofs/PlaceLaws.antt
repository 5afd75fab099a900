-- The letters of a word.
use mathlib.Core.Path.{◌≡◌, sym, ◌∙◌, ap}
use mathlib.Core.Bool.{Bool, true, false}
use Prim.Native.Nat.{ℕ, zero, suc, ◌<◌}
use native.Mathlib.Omega.{arith}
use lib.ListN.{get_or}
use Rattle.std.proofs.Common.{Option, Some, None}
use Rattle.std.specs.Option.{unwrap_or}
use Rattle.std.specs.List.{slice_get}
use Rattle.std.proofs.lemmas.Option.{unwrap_or-slice_get}
use Rattle.jobtext.specs.Text.{word}

-- none is 0
letters : (b : Bool) (k : ℕ) → 0 < get_or (word b) k 1
letters true zero = omega arith
letters true (suc zero) = omega arith
letters true (suc (suc zero)) = omega arith
letters true (suc (suc (suc zero))) = omega arith
letters true (suc (suc (suc (suc zero)))) = omega arith
letters true (suc (suc (suc (suc (suc k))))) = omega arith
letters false zero = omega arith
letters false (suc zero) = omega arith
letters false (suc (suc zero)) = omega arith
letters false (suc (suc (suc zero))) = omega arith
letters false (suc (suc (suc (suc k)))) = omega arith

-- the letter that is found, or the default behind the word
found : (b : Bool) (k d : ℕ) {o : Option ℕ} → o ≡ slice_get (word b) k → get_or (word b) k d ≡ unwrap_or o d
found b k d e = sym (unwrap_or-slice_get (word b) k d) ∙ ap (λ (o : Option ℕ). unwrap_or o d) (sym e)

pub letter_is : (b : Bool) (k c : ℕ) → Some c ≡ slice_get (word b) k → get_or (word b) k 0 ≡ c
letter_is b k c e = found b k 0 e

pub letter_due : (b : Bool) (k c : ℕ) → Some c ≡ slice_get (word b) k → get_or (word b) k 0 ≡ 0 → ⊥
letter_due b k c e z = omega (arith, letters b k, found b k 1 e, letter_is b k c e)

pub word_ends : (b : Bool) (k : ℕ) → None ≡ slice_get (word b) k → get_or (word b) k 0 ≡ 0
word_ends b k e = found b k 0 e
