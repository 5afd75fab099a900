-- A shift replayed, up to the first step that differs or what is no step.
use mathlib.Core.Bool.{Bool, true, false, ◌&&◌}
use mathlib.Core.List.{List, [], ◌∷◌}
use Prim.Native.Nat.{ℕ, ◌+◌}
use lib.IntN.{pos}
use Rattle.integers.specs.Equal.{eq_z}
use Rattle.pool.specs.Lists.{Entry}
use Rattle.pool.specs.Rows.{Lent, laid_out}
use Rattle.shift.specs.Steps.{Request, Step, Read, Item}
use Rattle.shift.specs.Steps.Read.{a_step, no_step}
use Rattle.shift.specs.States.{Told, told, after}

-- the pool, and the rows in which it lies
pub record State : Type 0 where
  pub pool : List Entry
  pub rows : Lent

-- a pool, laid out in front of the rows; what stands behind it stays
abbrev pub standing : List Entry → Lent → State
standing l s = record { pool = l; rows = laid_out l s }

-- the state after a request
abbrev pub next : Request → State → State
next r s = standing (after r s.pool) s.rows

-- how a replay ends: all steps agree, the one at a place differs from what is told now, or at a place there is none
pub data End : Type 0 where
  agree : End
  differs : ℕ → Step → Told → End
  broken : ℕ → End

-- how it ends, how many steps agree before that, and the state then
pub record Replay : Type 0 where
  pub end : End
  pub agreed : ℕ
  pub state : State

abbrev pub ending : End → ℕ → State → Replay
ending end agreed state = record { end = end; agreed = agreed; state = state }

-- what is told now is what was recorded
abbrev pub same : Step → Told → Bool
same s t = eq_z s.reply (pos t.reply) && eq_z s.result (pos t.result)

-- a replay goes on, if this holds, or ends
abbrev pub on_if : Bool → Replay → Replay → Replay
on_if true on end = on
on_if false on end = end

-- a step that differs has been done
abbrev pub compared : ℕ → Step → ℕ → State → Replay → Replay
compared place s agreed st on =
    let now = told s.request st.pool in
    on_if (same s now) on (ending (differs place s now) agreed (next s.request st))

-- what stands at a place is done and compared, or ends the replay
abbrev pub met : Read → ℕ → ℕ → State → (State → Replay) → Replay
met (a_step s) place agreed st on = compared place s agreed st (on (next s.request st))
met no_step place agreed st on = ending (broken place) agreed st

-- the items one after the other, from a state in which so many steps agreed
unfoldable pub replay : List Item → ℕ → State → Replay
replay [] agreed st = ending agree agreed st
replay (i ∷ l) agreed st = met i.read i.place agreed st (replay l (agreed + 1))
