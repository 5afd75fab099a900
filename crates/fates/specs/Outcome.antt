-- What the telling of fates answers, and what it leaves in the rows that are lent to it.
use Rattle.std.specs.Prelude.{List, ◌++◌, ℕ, zero, suc, length, ℤ, leb}
use Rattle.replies.specs.Ladder.{Rung, first_of, room}
use Rattle.grid.specs.Domain.{count}
use Rattle.rows.specs.Rows.{front, zeroed}
use Rattle.ring.specs.declared.Rule.{Rule}
use Rattle.ring.specs.Walk.{occurrences}
use Rattle.clean.specs.Outcome.{scratch}
use Rattle.buffer.specs.declared.answer.Counted.{Counted}
use Rattle.buffer.specs.Answers.{counted}
use Rattle.buffer.specs.Spans.{spans}
use Rattle.buffer.specs.Sets.{shapes}
use Rattle.buffer.specs.Shapes.{refusals}
use Rattle.fates.specs.Fates.{kept, fates as fates_of}

-- the lent rows: the scratch, and the row for the fates
pub record Lent : Type 0 where
  pub next : List ℕ
  pub prev : List ℕ
  pub mark : List ℕ
  pub fates : List ℕ

-- the answer of a call, and the lent rows as it leaves them
pub record Outcome : Type 0 where
  pub answer : Counted
  pub rows : Lent

abbrev pub lent : List ℕ → List ℕ → List ℕ → List ℕ → Lent
lent next prev mark fates = record { next = next; prev = prev; mark = mark; fates = fates }

abbrev pub leaving : Counted → Lent → Outcome
leaving answer rows = record { answer = answer; rows = rows }

-- 4, and 5 where the row for the fates is shorter than the contours
abbrev pub lacking : List ℤ → List (List ℕ) → Lent → List Rung
lacking p cs l = scratch (count p) (length l.next) (length l.prev) (length l.mark) ++ room (leb (length cs) (length l.fates))

-- by the number of the first refusal: refused, and all rows as they were, or done
abbrev pub outcome : ℕ → Lent → Outcome → Outcome
outcome (suc k) l done = leaving (counted (suc k) 0) l
outcome zero l done = done

-- how many are kept, with the fates in front of their row and the scratch of n points zeroed
abbrev pub telling : ℕ → List ℕ → Lent → Outcome
telling n fs l = leaving (counted 0 (occurrences kept fs)) (lent (zeroed n l.next) (zeroed n l.prev) (zeroed n l.mark) (front fs l.fates))

-- telling the fates of a shape set's contours
unfoldable pub fates_outcome : Rule → List ℤ → List (List ℕ) → List (List ℕ) → Lent → Outcome
fates_outcome rule p cs ss l =
    outcome (first_of (refusals p cs ss ++ lacking p cs l)) l
    (telling (count p) (fates_of rule (shapes p (spans cs) (spans ss))) l)
