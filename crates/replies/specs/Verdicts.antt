-- The answer to a question of yes or no.
use Rattle.std.specs.Prelude.{Bool, false, ℕ, zero, suc, Result, Ok, Err}
use Rattle.replies.specs.declared.refusal.Refusal.{Refusal}
use Rattle.replies.specs.declared.Verdict.{Verdict}
use Rattle.replies.specs.Refusals.{number}

-- a refusal's number and no, or 0 and the answer
abbrev pub verdict : ℕ → Bool → Verdict
verdict zero b = record { reply = 0; yes = b }
verdict (suc k) b = record { reply = suc k; yes = false }

-- a yes or no, or its refusal, as C has it
abbrev pub answered : Result Bool Refusal → Verdict
answered (Ok b) = record { reply = 0; yes = b }
answered (Err r) = record { reply = number r; yes = false }
