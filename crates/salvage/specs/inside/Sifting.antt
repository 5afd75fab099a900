-- What the functions say to each other.
use Rattle.std.specs.Prelude.{◌≡◌, true, false, not, ◌&&◌, List, [], ◌∷◌, ◌++◌, ℕ, zero, suc, ◌+◌, ◌*◌, ◌≤◌, ◌<◌, leb, length, take, drop, set}
use Rattle.replies.specs.Ladder.{Rung, room}
use Rattle.rows.specs.Rows.{placed}
use Rattle.setfile.specs.Layouts.{promised}
use Rattle.setfile.specs.Format.{Come}
use Rattle.setfile.specs.inside.Bytes.{starts, held, front_entry, arrived, coded_contours}
use Rattle.setfile.specs.inside.Reading.{head_refusals}
use Rattle.salvage.specs.declared.inner.sifting.Sifted.{Sifted}
use Rattle.salvage.specs.Fates.{reason, fates, kept, dropped}
use Rattle.salvage.specs.Outcome.{Outcome, leaving, salvaged}

-- the refusals of a file, where the rows have so many entries
abbrev pub refusals : List ℕ → ℕ → ℕ → List Rung
refusals f out list = head_refusals f ++ room (leb (length f) out && leb (promised f) list)

-- how many bytes the contour in front has
abbrev pub size : List ℕ → ℕ
size f = 2 + 8 * held f

-- before the first contour
abbrev pub none_sifted : Sifted
none_sifted = record { at = 2; to = 2; dropped = 0; keeping = false }

-- where the pass has come to behind the contour in front of f, by its reason
abbrev pub sifted : ℕ → List ℕ → Sifted → Sifted
sifted zero f s = record { at = s.at + size f; to = s.to + size f; dropped = s.dropped; keeping = true }
sifted (suc r) f s = record { at = s.at + size f; to = s.to; dropped = s.dropped + 1; keeping = s.keeping && not (starts f) }

-- the bytes, behind which it stands if it is kept
abbrev pub copied : ℕ → List ℕ → ℕ → List ℕ → List ℕ
copied zero f to out = placed to (take (size f) f) out
copied (suc r) f to out = out

-- the list, in which it is noted as number i if it is dropped
abbrev pub noted : ℕ → ℕ → ℕ → List (List ℕ) → List (List ℕ)
noted zero i k list = list
noted (suc r) i k list = set list k (i ∷ suc r ∷ [])

-- a complete contour stands at the position that is read, and both rows have room
pub record Ready (f : List ℕ) (s : Sifted) (out : List ℕ) (list : List (List ℕ)) : Type 0 where
  pub within : s.at + size (drop s.at f) ≤ length f
  pub out_room : s.to + size (drop s.at f) ≤ length out
  pub list_room : s.dropped < length list

-- why that contour is dropped, or 0
abbrev pub reason_at : List ℕ → Sifted → ℕ
reason_at f s = reason s.keeping (front_entry (drop s.at f))

-- it was sifted as number i
pub record Sifts (f : List ℕ) (s : Sifted) (i : ℕ) (out : List ℕ) (list : List (List ℕ)) (r : Sifted) (out' : List ℕ) (list' : List (List ℕ)) : Type 0 where
  pub is : r ≡ sifted (reason_at f s) (drop s.at f) s
  pub bytes : out' ≡ copied (reason_at f s) (drop s.at f) s.to out
  pub notes : list' ≡ noted (reason_at f s) i s.dropped list

-- a file with a head, and rows with room for whatever it yields
pub record Roomy (f : List ℕ) (n : ℕ) (out : List ℕ) (list : List (List ℕ)) : Type 0 where
  pub head : 2 ≤ length f
  pub out_room : length f ≤ length out
  pub list_room : n ≤ length list

-- what the pass leaves behind these contours, of which the first has number i, from where it has come to
abbrev pub ended : Come → ℕ → Sifted → List ℕ → List (List ℕ) → Outcome
ended c i s out list =
    leaving
    (salvaged 0
    (s.to + length (coded_contours (kept (fates s.keeping c.contours) c.contours)))
    (s.dropped + length (dropped i (fates s.keeping c.contours)))
    c.missing c.past)
    (placed s.to (coded_contours (kept (fates s.keeping c.contours) c.contours)) out)
    (placed s.dropped (dropped i (fates s.keeping c.contours)) list)

-- and behind the k contours that are still promised
abbrev pub ending : ℕ → ℕ → Sifted → List ℕ → List ℕ → List (List ℕ) → Outcome
ending k i s f out list = ended (arrived k (drop s.at f)) i s out list
