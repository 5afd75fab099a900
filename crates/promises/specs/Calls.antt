-- The words in which the other pages speak of the functions. What they say of one they say of its contract, as the checker reads it from `src/`: that of `a::b::c` is `a.b.c.Reads`. There `Asked` is what a caller has to show, at the lifetimes κs of what is lent, of the arguments a; and `Learnt` what is then known of them, of the answer x, and of the parameters e as the call leaves them.
use Rattle.std.specs.Prelude.{◌≡◌, ◌⊎◌, Result, Bool, false, List, [], ℕ, ℤ, pos}
use Rattle.std.specs.Borrow.{Bor, MutBor}
use Rattle.replies.specs.Ladder.{Rung, first_of}
use Rattle.replies.specs.declared.refusal.Refusal.{Refusal}
use Rattle.replies.specs.Refusals.{told as told_of}
use Rattle.replies.specs.declared.Verdict.{Verdict}
use Rattle.replies.specs.Verdicts as Verdicts
use Rattle.replies.proofs.OneOutcome.{five, seven, nine}
use Rattle.area.specs.declared.answer.Area.{Area}
use Rattle.area.specs.Answers as Areas
use Rattle.path.specs.declared.Located.{Located}
use Rattle.path.specs.Locate as Locations
use Rattle.rows.specs.Parts.{Part, part, none}
use Rattle.buffer.specs.declared.answer.Counted.{Counted}
use Rattle.buffer.specs.declared.answer.Sizes.{Sizes}
use Rattle.buffer.specs.declared.answer.Packed.{Packed}
use Rattle.buffer.specs.Answers as Packing
use Rattle.clean.specs.declared.cleaning.Cleaning.{Cleaning as Ended}
use Rattle.clean.specs.declared.cleaning.Cleaned.{Cleaned}
use Rattle.clean.specs.Outcome as Cleaning
use Rattle.clean.specs.Promises.{Zeroed}
use Rattle.sets.specs.declared.cleaning.SetCleaning.{SetCleaning as SetEnded}
use Rattle.sets.specs.declared.cleaning.CleanedSet.{CleanedSet}
use Rattle.sets.specs.Outcome as SetCleaning
use Rattle.fates.specs.Outcome as Fates
use Rattle.setfile.specs.declared.answer.Carried.{Carried}
use Rattle.setfile.specs.declared.answer.Read.{Read}
use Rattle.setfile.specs.declared.answer.Written.{Written}
use Rattle.setfile.specs.Reading as Reading
use Rattle.setfile.specs.Writing as Writing
use Rattle.salvage.specs.declared.answer.Saved.{Saved}
use Rattle.salvage.specs.declared.answer.Salvaged.{Salvaged}
use Rattle.salvage.specs.Outcome as Salvage
use Rattle.drawing.specs.declared.answer.Sizes.{Sizes as DrawnSizes}
use Rattle.drawing.specs.declared.answer.Drawn.{Drawn}
use Rattle.drawing.specs.Exporting as Exporting
use Rattle.difference.specs.declared.Refused.{Refused}
use Rattle.difference.specs.declared.Compared.{Compared}
use Rattle.difference.specs.Outcome as Comparing

infixr 10 ◌and◌
-- a function never traps: it is proved, so in every model of the logic its code is safe, ends and meets its contract; and the contract asks nothing, so that holds whatever it is called with
pub record NeverTraps (statement : Type 1 → Type 2) {K T : Type 0} (Asked : K → T → Type 0) : Type 2 where
  pub is_proved : {M : Type 1} → statement M
  pub asks_nothing : (κs : K) (a : T) → Asked κs a

-- Of every call of a function:
module _ {K T R : Type 0} (Learnt : K → T → R → T → Type 0) where
  -- whatever the contract allows is so
  abbrev pub Always : (T → R → T → Type 0) → Type 0
  Always P = (κs : K) (a : T) (x : R) (e : T) → Learnt κs a x e → P a x e

  -- what a caller sees of it is what the rule says of the arguments; so any two outcomes that the contract allows are identical
  pub record Follows {O : Type 0} (seen : R → T → O) (rule : T → O) : Type 0 where
    pub equals_the_rule : (κs : K) (a : T) (x : R) (e : T) → Learnt κs a x e → seen x e ≡ rule a
    pub any_two_outcomes_are_identical : (κs : K) (a : T) (x y : R) (d e : T) → Learnt κs a x d → Learnt κs a y e → seen x d ≡ seen y e

  -- it answers what the rule says, and is lent nothing to write to
  abbrev pub Answers : (T → R) → Type 0
  Answers rule = Follows (λ x e. x) rule

  -- it allows no outcome that another function does not, to which it hands its arguments
  abbrev pub HandsOn : (K → T → R → T → Type 0) → Type 0
  HandsOn Other = (κs : K) (a : T) (x : R) (e : T) → Learnt κs a x e → Other κs a x e

  -- the same where it answers as C is told what the other answers
  abbrev pub HandsOnAs : {S : Type 0} → (S → R) → (K → T → S → T → Type 0) → Type 0
  HandsOnAs told Other = (κs : K) (a : T) (x : _) (e : T) → Learnt κs a (told x) e → Other κs a x e

-- Of every call that hands out a part of a row:
module _ {K T : Type 0} (Learnt : K → T → Bor (List ℤ) → T → Type 0) where
  -- the part lies where the rule says, and holds what it says
  abbrev pub HandsOut : (T → Part) → Type 0
  HandsOut rule = Follows Learnt (λ x e. part x) rule

  -- a bad input, of which a rung of the ladder holds, is handed the empty part at the front of the row
  abbrev pub HandsNothing : (T → List Rung) → (T → Part) → Type 0
  HandsNothing ladder row = Always Learnt (λ a x e. (first_of (ladder a) ≡ 0 → ⊥) → part x ≡ none (row a))

-- the answers of a kind: how C has each, the number that it then has, and the answer to C that has a number and nothing else
pub record Kind : Type 1 where
  pub Answer : Type 0
  pub Told : Type 0
  pub told : Answer → Told
  pub reply : Told → ℕ
  pub only : ℕ → Told

-- done, or refused
abbrev pub numbers : Kind
numbers = record { Answer = Result (Unit {0}) Refusal; Told = ℕ; told = told_of; reply = λ x. x; only = λ k. k }

-- yes or no
abbrev pub verdicts : Kind
verdicts = record { Answer = Result Bool Refusal; Told = Verdict; told = Verdicts.answered; reply = λ x. x.reply; only = λ k. record { reply = k; yes = false } }

-- an area
abbrev pub areas : Kind
areas = record { Answer = Result ℤ Refusal; Told = Area; told = Areas.answered; reply = λ x. x.reply; only = λ k. record { reply = k; value = pos 0 } }

-- where a point lies
abbrev pub locations : Kind
locations = record { Answer = Result ℕ Refusal; Told = Located; told = Locations.answered; reply = λ x. x.reply; only = λ k. record { reply = k; place = 0 } }

-- a count
abbrev pub counts : Kind
counts = record { Answer = Result ℕ Refusal; Told = Counted; told = Packing.counted_as; reply = λ x. x.reply; only = λ k. record { reply = k; count = 0 } }

-- how much of a set was written
abbrev pub packings : Kind
packings = record { Answer = Result Sizes Refusal; Told = Packed; told = Packing.packed_as; reply = λ x. x.reply; only = λ k. record { reply = k; points = 0; contours = 0; shapes = 0 } }

-- how much of a contour was kept
abbrev pub cleanings : Kind
cleanings = record { Answer = Result Ended Refusal; Told = Cleaned; told = Cleaning.cleaned_as; reply = λ x. x.reply; only = λ k. record { reply = k; points = 0; decisions = 0; turns = 0 } }

-- how much of a shape, or of shapes, was kept
abbrev pub set_cleanings : Kind
set_cleanings = record {
  Answer = Result SetEnded Refusal;
  Told = CleanedSet;
  told = SetCleaning.cleaned_as;
  reply = λ x. x.reply;
  only = λ k. record { reply = k; points = 0; contours = 0; shapes = 0; decisions = 0; turns = 0 };
}

-- how much of a set was read, and of which edition
abbrev pub readings : Kind
readings = record { Answer = Result Carried Refusal; Told = Read; told = Reading.read_as; reply = λ x. x.reply; only = λ k. record { reply = k; edition = 0; points = 0; contours = 0; shapes = 0 } }

-- how long a file is
abbrev pub writings : Kind
writings = record { Answer = Result ℕ Refusal; Told = Written; told = Writing.written_as; reply = λ x. x.reply; only = λ k. record { reply = k; bytes = 0 } }

-- how much of a file was saved
abbrev pub salvagings : Kind
salvagings = record { Answer = Result Saved Refusal; Told = Salvaged; told = Salvage.salvaged_as; reply = λ x. x.reply; only = λ k. record { reply = k; bytes = 0; dropped = 0; missing = 0; past = 0 } }

-- how long a drawing is
abbrev pub drawings : Kind
drawings = record { Answer = Result DrawnSizes Refusal; Told = Drawn; told = Exporting.drawn_as; reply = λ x. x.reply; only = λ k. record { reply = k; commands = 0; floats = 0 } }

-- how many contours of two sets were listed; a refusal says whose it is too
abbrev pub comparisons : ℕ → Kind
comparisons refused = record { Answer = Result ℕ Refused; Told = Compared; told = Comparing.compared_as; reply = λ x. x.reply; only = λ k. record { reply = k; refused = refused; contours = 0 } }

-- an answer by a ladder: a bad input, of which a rung holds, gets the number of the first that holds, and nothing else; any other is done, 0, or has collapsed, 7
pub record Numbered (kind : Kind) (ladder : List Rung) (x : kind.Told) : Type 0 where
  pub a_bad_input_gets_its_number : (first_of ladder ≡ 0 → ⊥) → x ≡ kind.only (first_of ladder)
  pub no_other_input_is_refused : first_of ladder ≡ 0 → (kind.reply x ≡ 0) ⊎ (kind.reply x ≡ 7)

-- Of every call whose answers are of a kind:
module _ (kind : Kind) {K T : Type 0} (Learnt : K → T → kind.Answer → T → Type 0) where
  -- every bad input gets its number
  abbrev pub Refuses : (T → List Rung) → Type 0
  Refuses ladder = Always Learnt (λ a x e. Numbered kind (ladder a) (kind.told x))

  -- a refusal, which is any reply but 0 and 7, leaves the lent rows as they were
  abbrev pub Untouched : {Rows : Type 0} → (T → Rows) → Type 0
  Untouched rows = Always Learnt (λ a x e. (kind.reply (kind.told x) ≡ 0 → ⊥) → (kind.reply (kind.told x) ≡ 7 → ⊥) → rows e ≡ rows a)

  -- what C is told is what the rule says, and it is lent nothing to write to
  abbrev pub Tells : (T → kind.Told) → Type 0
  Tells rule = Follows Learnt (λ x e. kind.told x) rule

  -- a collapse, which is the reply 7, leaves the lent rows only zeroed, as far as the input has points
  abbrev pub Collapses : {Rows : Type 0} → (ℕ → Rows → Rows → Type 0) → (T → ℕ) → (T → Rows) → Type 0
  Collapses Only n rows = Always Learnt (λ a x e. kind.reply (kind.told x) ≡ 7 → Only (n a) (rows a) (rows e))

-- of a contour's rows the output is as it was, and the scratch zeroed, for n points
pub record OnlyZeroed (n : ℕ) (before after : Cleaning.Lent) : Type 0 where
  pub output_untouched : after.out ≡ before.out
  pub next_zeroed : Zeroed n before.next after.next
  pub prev_zeroed : Zeroed n before.prev after.prev
  pub mark_zeroed : Zeroed n before.mark after.mark

-- and so of a shape's
pub record ShapeOnlyZeroed (n : ℕ) (before after : SetCleaning.Lent) : Type 0 where
  pub points_untouched : after.points ≡ before.points
  pub contours_untouched : after.contours ≡ before.contours
  pub next_zeroed : Zeroed n before.next after.next
  pub prev_zeroed : Zeroed n before.prev after.prev
  pub mark_zeroed : Zeroed n before.mark after.mark

-- What a call's parameters hold, by their places:
module _ {X B : Type 0} where
  -- the first is a contour, which is handed to f
  abbrev pub of_contour : (List ℤ → X) → Bor (List ℤ) × B → X
  of_contour f a = f a.0.now

  -- the first two are a contour set: its points, and the ranges of its contours
  abbrev pub of_set : (List ℤ → List (List ℕ) → X) → Bor (List ℤ) × (Bor (List (List ℕ)) × B) → X
  of_set f a = f a.0.now a.1.0.now

  -- the first three are a shape set: its points, and the ranges of its contours and of its shapes
  abbrev pub of_shapes : (List ℤ → List (List ℕ) → List (List ℕ) → X) → Bor (List ℤ) × (Bor (List (List ℕ)) × (Bor (List (List ℕ)) × B)) → X
  of_shapes f a = f a.0.now a.1.0.now a.1.1.0.now

-- three rows of scratch, and others
abbrev pub Scratch : Type 0 → Type 0
Scratch B = MutBor (List ℕ) × (MutBor (List ℕ) × (MutBor (List ℕ) × B))

-- the rows that are lent to a cleaner behind a contour
abbrev pub contour_lent : {A B : Type 0} → A × Scratch (MutBor (List ℤ) × B) → Cleaning.Lent
contour_lent a = five a λ points next prev mark out. Cleaning.lent next.now prev.now mark.now out.now

-- behind a shape
abbrev pub shape_lent : {A B C : Type 0} → A × (B × Scratch (MutBor (List ℤ) × (MutBor (List (List ℕ)) × C))) → SetCleaning.Lent
shape_lent a = seven a λ points ranges next prev mark out records.
    SetCleaning.lent next.now prev.now mark.now out.now records.now []

-- behind shapes
abbrev pub shapes_lent : {A B C D : Type 0} → A × (B × (C × Scratch (MutBor (List ℤ) × (MutBor (List (List ℕ)) × (MutBor (List (List ℕ)) × D))))) → SetCleaning.Lent
shapes_lent a = nine a λ points contours shapes next prev mark out records groups.
    SetCleaning.lent next.now prev.now mark.now out.now records.now groups.now

-- behind shapes of which the contours' fates are told
abbrev pub fates_lent : {A B C D : Type 0} → A × (B × (C × Scratch (MutBor (List ℕ) × D))) → Fates.Lent
fates_lent a = seven a λ points contours shapes next prev mark fates. Fates.lent next.now prev.now mark.now fates.now

-- one row and others
abbrev pub ◌and◌ : {A B : Type 0} → A → B → A × B
a and b = (a, b)
