-- What the proofs of the pages share.
use mathlib.Core.Path.{◌≡◌, refl, sym, ◌∙◌}
use mathlib.Core.Logic.{◌⊎◌, inl}
use mathlib.Core.Bool.{Bool}
use mathlib.Core.List.{List}
use Prim.Native.Nat.{ℕ, zero, suc}
use lib.IntN.{ℤ}
use Rattle.replies.specs.Ladder.{Rung, first_of}
use Rattle.replies.specs.declared.Verdict.{Verdict}
use Rattle.replies.specs.Verdicts.{verdict}
use Rattle.area.specs.declared.answer.Area.{Area}
use Rattle.area.specs.Answers.{answer}
use Rattle.path.specs.declared.Located.{Located}
use Rattle.path.specs.Locate.{answer as location_answer}
use Rattle.buffer.specs.declared.answer.Counted.{Counted}
use Rattle.buffer.specs.Answers.{counted}
use Rattle.promises.specs.Calls.{Kind, verdicts, areas, locations, counts, Numbered, Follows}

-- a contract that equates what is seen with a rule allows one outcome
module _ {K T R O : Type 0} {Learnt : K → T → R → T → Type 0} {seen : R → T → O} {rule : T → O} where
  pub follows : ((κs : K) (a : T) (x : R) (e : T) → Learnt κs a x e → seen x e ≡ rule a) → Follows Learnt seen rule
  follows is = record { equals_the_rule = is; any_two_outcomes_are_identical = λ κs a x y d e p q. is κs a x d p ∙ sym (is κs a y e q) }

-- an answer that goes by the number of the first rung that holds
module _ (kind : Kind) (ladder : List Rung) (by : ℕ → kind.Told) (refusing : (k : ℕ) → by (suc k) ≡ kind.only (suc k)) where
  pub numbered : ((kind.reply (by 0) ≡ 0) ⊎ (kind.reply (by 0) ≡ 7)) → {x : kind.Told} → x ≡ by (first_of ladder) → Numbered kind ladder x
  numbered done is = record {
    a_bad_input_gets_its_number = λ bad. is ∙ go (first_of ladder) bad;
    no_other_input_is_refused = λ none. rw (is, none) done;
  }
    where
      go : (k : ℕ) → (k ≡ 0 → ⊥) → by k ≡ kind.only k
      go zero bad = absurd (bad refl)
      go (suc k) bad = refusing k

pub verdict_numbered : {l : List Rung} (b : Bool) {x : Verdict} → x ≡ verdict (first_of l) b → Numbered verdicts l x
verdict_numbered {l} b = numbered verdicts l (λ k. verdict k b) (λ k. refl) (inl refl)

pub area_numbered : {l : List Rung} (z : ℤ) {x : Area} → x ≡ answer (first_of l) z → Numbered areas l x
area_numbered {l} z = numbered areas l (λ k. answer k z) (λ k. refl) (inl refl)

pub location_numbered : {l : List Rung} (n : ℕ) {x : Located} → x ≡ location_answer (first_of l) n → Numbered locations l x
location_numbered {l} n = numbered locations l (λ k. location_answer k n) (λ k. refl) (inl refl)

pub count_numbered : {l : List Rung} (n : ℕ) {x : Counted} → x ≡ counted (first_of l) n → Numbered counts l x
count_numbered {l} n = numbered counts l (λ k. counted k n) (λ k. refl) (inl refl)
