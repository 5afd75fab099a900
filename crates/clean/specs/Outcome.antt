-- What a cleaning answers, and what it leaves in the rows that are lent to it. Any rule may say of a corner whether its vertex is to go; the two cleaners have one each.
use Rattle.std.specs.Prelude.{Result, Ok, Err, Option, Some, None, Bool, List, [], ◌∷◌, ◌++◌, ℕ, zero, suc, ◌+◌, ◌*◌, length, get_or, ℤ, pos, ltb}
use Rattle.replies.specs.Ladder.{Rung, first_of}
use Rattle.rows.specs.Rows.{front, zeroed}
use Rattle.grid.specs.Limits.{limit}
use Rattle.grid.specs.Corners.{Corner}
use Rattle.grid.specs.Domain.{count, domain}
use Rattle.ring.specs.declared.Rule.{Rule}
use Rattle.ring.specs.Walk.{Tally, End, Walked, walk}
use Rattle.ring.specs.Walk.End.{kept, collapsed}
use Rattle.ring.specs.Rule.{goes_at, goes_in}
use Rattle.replies.specs.declared.refusal.Refusal.{Refusal}
use Rattle.replies.specs.Refusals.{number}
use Rattle.clean.specs.declared.cleaning.Cleaning.{Cleaning}
use Rattle.clean.specs.declared.cleaning.Cleaned.{Cleaned}

-- 4: a scratch row has fewer entries than there are points
abbrev pub scratch : ℕ → ℕ → ℕ → ℕ → List Rung
scratch n next prev mark = (ltb next n, 4) ∷ (ltb prev n, 4) ∷ (ltb mark n, 4) ∷ []

-- 5: the output row is shorter than the input
abbrev pub room : ℕ → ℕ → List Rung
room n out = (ltb out (2 * n), 5) ∷ []

-- the refusals of a cleaning, by the row and the lengths of what is lent
abbrev pub refusals : List ℤ → ℕ → ℕ → ℕ → ℕ → List Rung
refusals row next prev mark out = domain limit row ++ (scratch (count row) next prev mark ++ room (count row) out)

-- the walk of the contour by any rule
abbrev pub walked_by : (Corner → Bool) → List ℤ → Walked
walked_by goes row = walk (goes_in goes row) (count row)

-- by one of the two
abbrev pub walked : Rule → List ℤ → Walked
walked rule = walked_by (goes_at rule)

-- the numbers of a row's points at some positions
unfoldable pub chosen : List ℤ → List ℕ → List ℤ
chosen row [] = []
chosen row (i ∷ s) = get_or row (2 * i) (pos 0) ∷ get_or row (2 * i + 1) (pos 0) ∷ chosen row s

abbrev pub answer : ℕ → ℕ → ℕ → ℕ → Cleaned
answer reply points decisions turns = record { reply = reply; points = points; decisions = decisions; turns = turns }

-- a walk that ended, as C has it: 0 where points are kept, 7 where none is
abbrev pub ended_with : Option ℕ → ℕ → ℕ → Cleaned
ended_with (Some n) decisions turns = answer 0 n decisions turns
ended_with None decisions turns = answer 7 0 decisions turns

-- the same of a cleaning
abbrev pub as_cleaned : Cleaning → Cleaned
as_cleaned c = ended_with c.kept c.decisions c.turns

-- a cleaning or its refusal, as C has it
abbrev pub cleaned_as : Result Cleaning Refusal → Cleaned
cleaned_as (Ok c) = as_cleaned c
cleaned_as (Err r) = answer (number r) 0 0 0

-- the rows that are lent to a cleaning: the scratch, and the output
pub record Lent : Type 0 where
  pub next : List ℕ
  pub prev : List ℕ
  pub mark : List ℕ
  pub out : List ℤ

-- these rows, lent together
abbrev pub lent : List ℕ → List ℕ → List ℕ → List ℤ → Lent
lent next prev mark out = record { next = next; prev = prev; mark = mark; out = out }

-- the answer of a call, and the lent rows as it leaves them
pub record Outcome : Type 0 where
  pub answer : Cleaned
  pub rows : Lent

-- this answer, and the rows as they are then
abbrev pub leaving : Cleaned → Lent → Outcome
leaving answer rows = record { answer = answer; rows = rows }

-- the rows with the scratch of n points zeroed
abbrev pub swept : ℕ → Lent → Lent
swept n l = lent (zeroed n l.next) (zeroed n l.prev) (zeroed n l.mark) l.out

-- the rows with the points at some positions in front of the output
abbrev pub with_chosen : List ℤ → List ℕ → Lent → Lent
with_chosen row s l = lent l.next l.prev l.mark (front (chosen row s) l.out)

-- a walk that has ended: the kept points are in front of the output, or it has collapsed and the output is as it was; either way the scratch is zeroed
abbrev pub finished : List ℤ → End → Tally → Lent → Outcome
finished row (kept s) t l = leaving (answer 0 (length s) t.decisions t.turns) (swept (count row) (with_chosen row s l))
finished row collapsed t l = leaving (answer 7 0 t.decisions t.turns) (swept (count row) l)

-- the number of the first refusal of a call, or 0
abbrev pub refusal : List ℤ → Lent → ℕ
refusal row l = first_of (refusals row (length l.next) (length l.prev) (length l.mark) (length l.out))

-- what a cleaning by any rule comes to, whatever it is called with: a refusal leaves all as it was, and what is not refused is walked
unfoldable pub outcome_by : (Corner → Bool) → List ℤ → Lent → Outcome
outcome_by goes row l =
    elim (refusal row l) [
      | suc k ↦ leaving (answer (suc k) 0 0 0) l
      | zero ↦ finished row (walked_by goes row).end (walked_by goes row).tally l
    ]

-- what the two cleaners come to
abbrev pub outcome : Rule → List ℤ → Lent → Outcome
outcome rule = outcome_by (goes_at rule)
