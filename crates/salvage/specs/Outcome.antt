-- What salvaging a file answers, and what it leaves in the rows that are lent to it.
use Rattle.std.specs.Prelude.{Result, Ok, Err, false, ◌&&◌, List, ◌++◌, ℕ, zero, suc, ◌/◌, leb, length}
use Rattle.replies.specs.Ladder.{Rung, first_of, room}
use Rattle.rows.specs.Rows.{front}
use Rattle.setfile.specs.Entries.{Entry}
use Rattle.setfile.specs.Layouts.{promised}
use Rattle.setfile.specs.Format.{file, bad_head, come}
use Rattle.setfile.specs.Reading.{long}
use Rattle.replies.specs.declared.refusal.Refusal.{Refusal}
use Rattle.replies.specs.Refusals.{number}
use Rattle.salvage.specs.declared.answer.Saved.{Saved}
use Rattle.salvage.specs.declared.answer.Salvaged.{Salvaged}
use Rattle.salvage.specs.Fates.{fates, kept, dropped}

-- what becomes of the complete contours of a file, where no shape stands open before the first
abbrev pub fates_of : List ℕ → List ℕ
fates_of f = fates false (come f).contours

-- those that are kept
abbrev pub kept_of : List ℕ → List Entry
kept_of f = kept (fates_of f) (come f).contours

-- the list of those that are dropped, numbered from 0
abbrev pub dropped_of : List ℕ → List (List ℕ)
dropped_of f = dropped 0 (fates_of f)

-- the file of those that are kept, with its count put right
abbrev pub mended : List ℕ → List ℕ
mended f = file (kept_of f)

-- the refusals: 2; 10 under two bytes; 9; 5 where the output is shorter than the file, or the list than its count
abbrev pub refusals : List ℕ → List ℕ → List (List ℕ) → List Rung
refusals f out list = long (length f) ++ bad_head f ++ room (leb (length f) (length out) && leb (promised f) (length list))

-- the answer, and the rows as they are left
pub record Outcome : Type 0 where
  pub answer : Salvaged
  pub bytes : List ℕ
  pub list : List (List ℕ)

abbrev pub leaving : Salvaged → List ℕ → List (List ℕ) → Outcome
leaving r bytes list = record { answer = r; bytes = bytes; list = list }

abbrev pub salvaged : ℕ → ℕ → ℕ → ℕ → ℕ → Salvaged
salvaged reply bytes dropped missing past = record { reply = reply; bytes = bytes; dropped = dropped; missing = missing; past = past }

-- what was saved, as C has it
abbrev pub saved_as : Saved → Salvaged
saved_as s = salvaged 0 s.bytes s.dropped s.missing s.past

-- what was saved or why nothing was, as C has it
abbrev pub salvaged_as : Result Saved Refusal → Salvaged
salvaged_as (Ok s) = saved_as s
salvaged_as (Err r) = salvaged (number r) 0 0 0 0

-- by the number of the first refusal: refused, and the rows as they were, or the mended file and the list in front of them
abbrev pub answered : ℕ → List ℕ → List ℕ → List (List ℕ) → Outcome
answered (suc r) f out list = leaving (salvaged (suc r) 0 0 0 0) out list
answered zero f out list =
    leaving
    (salvaged 0 (length (mended f)) (length (dropped_of f)) (come f).missing ((come f).past / 8))
    (front (mended f) out) (front (dropped_of f) list)

-- a file is refused, or what is sound of it is written
unfoldable pub outcome : List ℕ → List ℕ → List (List ℕ) → Outcome
outcome f out list = answered (first_of (refusals f out list)) f out list
