-- What is said of one contour that is cleaned behind what is written.
use Rattle.std.specs.Prelude.{◌≡◌, ℕ, zero, suc, ◌+◌, ◌*◌, ◌^◌, ◌<◌, ◌≤◌, Bool, true, false, List, [], ◌∷◌, length, ℤ, slice_set}
use Rattle.grid.specs.Domain.{count, Contour}
use Rattle.rows.specs.Rows.{front, placed}
use Rattle.ring.specs.declared.Rule.{Rule}
use Rattle.clean.specs.declared.cleaning.Cleaned.{Cleaned}
use Rattle.clean.specs.Outcome.{answer}
use Rattle.sets.specs.declared.inner.contour.Progress.{Progress}
use Rattle.sets.specs.declared.inner.contour.Tried.{Tried}
use Rattle.sets.specs.Fates.{Fate, fate}
use Rattle.sets.specs.Fates.Fate.{stays, gone}

-- scratch for n points
pub record Scratch (n : ℕ) (next prev mark : List ℕ) : Type 0 where
  pub in_next : n ≤ length next
  pub in_prev : n ≤ length prev
  pub in_mark : n ≤ length mark

-- a contour of the domain, with scratch, and room in front of the output
pub record Cleanable (c : List ℤ) (next prev mark : List ℕ) (out : List ℤ) : Type 0 where
  pub contour : Contour c (count c)
  pub scratch : Scratch (count c) next prev mark
  pub room : length c ≤ length out

-- a contour's fate as an answer
abbrev pub answer_of : Fate → Cleaned
answer_of (stays d t) = answer 0 (count d) t.decisions t.turns
answer_of (gone t) = answer 7 0 t.decisions t.turns

-- and what it leaves in the output
abbrev pub output_of : Fate → List ℤ → List ℤ
output_of (stays d t) out = front d out
output_of (gone t) out = out

-- the answer and the output of cleaning one contour
pub record Fated (rule : Rule) (c out : List ℤ) (r : Cleaned) (exit : List ℤ) : Type 0 where
  pub answer : r ≡ answer_of (fate rule c)
  pub output : exit ≡ output_of (fate rule c) out

-- whether a contour stays, how far the cleaning has come with it, and the ranges that are written then
pub record Noted : Type 0 where
  pub tried : Tried
  pub ranges : List (List ℕ)

abbrev pub noted : Tried → List (List ℕ) → Noted
noted tried ranges = record { tried = tried; ranges = ranges }

-- by the reply to a contour: its range is written behind the others, or none
abbrev pub noting : ℕ → Cleaned → Progress → List (List ℕ) → Noted
noting zero r at ranges =
    noted
    (record { stays = true; progress = record { points = at.points + r.points; contours = at.contours + 1; decisions = at.decisions + r.decisions; turns = at.turns + r.turns } })
    (slice_set ranges at.contours (at.points ∷ (at.points + r.points) ∷ []))
noting (suc k) r at ranges =
    noted
    (record { stays = false; progress = record { points = at.points; contours = at.contours; decisions = at.decisions + r.decisions; turns = at.turns + r.turns } })
    ranges

-- a range more, and sums that fit
pub record Notable (r : Cleaned) (at : Progress) (ranges : List (List ℕ)) : Type 0 where
  pub space : at.contours < length ranges
  pub narrow : (at.contours + 1) * 16 < 2 ^ 64
  pub points_fit : at.points + r.points < 2 ^ 64
  pub decisions_fit : at.decisions + r.decisions < 2 ^ 64
  pub turns_fit : at.turns + r.turns < 2 ^ 64

-- how far a cleaning has come, and the rows as they are there
pub record Reached : Type 0 where
  pub progress : Progress
  pub points : List ℤ
  pub contours : List (List ℕ)

abbrev pub reached : Progress → List ℤ → List (List ℕ) → Reached
reached progress points contours = record { progress = progress; points = points; contours = contours }

-- nothing is written
abbrev pub none_yet : Progress
none_yet = record { points = 0; contours = 0; decisions = 0; turns = 0 }

-- a contour's fate, behind what is written
abbrev pub placing : Fate → Reached → Reached
placing (stays d t) s =
    reached
    (record { points = s.progress.points + count d; contours = s.progress.contours + 1; decisions = s.progress.decisions + t.decisions; turns = s.progress.turns + t.turns })
    (placed (2 * s.progress.points) d s.points)
    (slice_set s.contours s.progress.contours (s.progress.points ∷ (s.progress.points + count d) ∷ []))
placing (gone t) s =
    reached
    (record { points = s.progress.points; contours = s.progress.contours; decisions = s.progress.decisions + t.decisions; turns = s.progress.turns + t.turns })
    s.points
    s.contours

abbrev pub stayed : Fate → Bool
stayed (stays d t) = true
stayed (gone t) = false

-- a contour of the domain, with scratch, and room behind what is written
pub record Placeable (c : List ℤ) (at : Progress) (next prev mark : List ℕ) (out : List ℤ) (records : List (List ℕ)) : Type 0 where
  pub contour : Contour c (count c)
  pub scratch : Scratch (count c) next prev mark
  pub room : 2 * at.points + length c ≤ length out
  pub space : at.contours < length records
  pub narrow : (at.contours + 1) * 16 < 2 ^ 64
  pub fits : at.decisions + 2 * length c < 2 ^ 64
  pub turns_fit : at.turns + 3 * length c < 2 ^ 64

-- one contour was cleaned behind what is written
pub record Behind (rule : Rule) (c : List ℤ) (s : Reached) (r : Tried) (out : List ℤ) (records : List (List ℕ)) : Type 0 where
  pub stays : r.stays ≡ stayed (fate rule c)
  pub is : reached r.progress out records ≡ placing (fate rule c) s
