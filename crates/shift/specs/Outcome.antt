-- What a replay answers, and what it leaves in the rows that are lent to it.
use mathlib.Core.Bool.{◌&&◌}
use mathlib.Core.List.{List, [], ◌++◌}
use Prim.Native.Nat.{ℕ, zero, suc, ◌*◌}
use lib.Dec.{leb}
use lib.ListN.{length}
use lib.IntN.{ℤ, pos}
use Rattle.replies.specs.Ladder.{Rung, first_of, room}
use Rattle.rows.specs.Rows.{zeroed}
use Rattle.clean.specs.Outcome.{scratch}
use Rattle.pool.specs.Lists.{capacity}
use Rattle.pool.specs.Rows as Pool
use Rattle.shift.specs.declared.Replayed.{Replayed}
use Rattle.shift.specs.Steps.{shift}
use Rattle.shift.specs.Replay.{State, Replay, replay, End}
use Rattle.shift.specs.Replay.End.{agree, differs, broken}

-- the lent rows: the pool's, and the scratch
pub record Lent : Type 0 where
  pub points : List ℤ
  pub records : List Pool.Slot
  pub next : List ℕ
  pub prev : List ℕ
  pub mark : List ℕ

abbrev pub lent : List ℤ → List (List ℕ) → List ℕ → List ℕ → List ℕ → Lent
lent points records next prev mark = record { points = points; records = Pool.slots records; next = next; prev = prev; mark = mark }

-- the answer of a call, and the lent rows as it leaves them
pub record Outcome : Type 0 where
  pub answer : Replayed
  pub rows : Lent

abbrev pub leaving : Replayed → Lent → Outcome
leaving answer rows = record { answer = answer; rows = rows }

-- an answer without a step that differs
abbrev pub plain : ℕ → ℕ → ℕ → ℕ → Replayed
plain reply agreed place contours = record { reply = reply; differs = 0; agreed = agreed; place = place; recorded_reply = pos 0; recorded_result = pos 0; reply_now = pos 0; result_now = pos 0; contours = contours }

-- how a replay ended, after so many steps that agree, with so many contours in the pool
abbrev pub answer : End → ℕ → ℕ → Replayed
answer agree agreed contours = plain 0 agreed 0 contours
answer (differs place s now) agreed contours = record { reply = 0; differs = 1; agreed = agreed; place = place; recorded_reply = s.reply; recorded_result = s.result; reply_now = pos now.reply; result_now = pos now.result; contours = contours }
answer (broken place) agreed contours = plain 20 agreed place contours

-- 4: a scratch row has under 65,536 entries; 5: the pool's rows have not the places for 65,536 points or records
abbrev pub refusals : Lent → List Rung
refusals l =
    scratch capacity (length l.next) (length l.prev) (length l.mark)
    ++ room (leb (2 * capacity) (length l.points) && leb capacity (length l.records))

-- a fresh pool in the lent rows
abbrev pub fresh : Lent → State
fresh l = record { pool = []; rows = record { points = l.points; records = l.records; contours = 0 } }

-- a replay that has ended: its answer, the pool's rows as its state has them, and the scratch zeroed
abbrev pub ended : Replay → Lent → Outcome
ended r l =
    leaving (answer r.end r.agreed r.state.rows.contours)
    (record { points = r.state.rows.points; records = r.state.rows.records; next = zeroed capacity l.next; prev = zeroed capacity l.prev; mark = zeroed capacity l.mark })

-- by the number of the first refusal: refused, and all rows as they were, or replayed
abbrev pub outcome_by : ℕ → List ℤ → Lent → Outcome
outcome_by (suc k) row l = leaving (plain (suc k) 0 0 0) l
outcome_by zero row l = ended (replay (shift row) 0 (fresh l)) l

-- the replay of a recorded shift
unfoldable pub outcome : List ℤ → Lent → Outcome
outcome row l = outcome_by (first_of (refusals l)) row l
