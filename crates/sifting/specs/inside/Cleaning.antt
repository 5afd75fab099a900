-- What is said of a pool that is cleaned where it lies, contour by contour.
use mathlib.Core.Path.{◌≡◌}
use mathlib.Core.List.{List, [], ◌∷◌}
use Prim.Native.Nat.{ℕ, ◌+◌, ◌-◌, ◌*◌, ◌<◌, ◌≤◌}
use lib.ListN.{length, get_or, set}
use lib.IntN.{ℤ}
use Rattle.std.specs.Prelude.{Option, Some, None}
use Rattle.rows.specs.Rows.{placed}
use Rattle.grid.specs.Domain.{count, Contour}
use Rattle.ring.specs.declared.Rule.{Rule}
use Rattle.pool.specs.Lists.{Entry, capacity, holding, held, own, Every, Fair}
use Rattle.pool.specs.Rows.{lent, laid_out, contents}
use Rattle.pool.specs.inside.Records.{total, Lies}
use Rattle.sets.specs.Fates.{Fate}
use Rattle.sets.specs.Fates.Fate.{stays, gone}
use Rattle.sifting.specs.Cleaned.{cleaned}
use Rattle.sifting.specs.declared.inner.sifting.Kept.{Kept}
use Rattle.sifting.specs.declared.inner.cleaning.Progress.{Progress}
use Rattle.sifting.specs.inside.Sifting.{lying, Siftable}

-- how far a cleaning has come, and the records as they are there
pub record Noted : Type 0 where
  pub progress : Progress
  pub records : List (List ℕ)

abbrev pub noted : Progress → List (List ℕ) → Noted
noted progress records = record { progress = progress; records = records }

-- one contour more of n points, of a press, after so many decisions
abbrev pub with_one : ℕ → ℕ → ℕ → Progress → Progress
with_one n press decisions at = record { contours = at.contours + 1; points = at.points + n; held = at.held + holding n; second = at.second + press * holding n; decisions = at.decisions + decisions }

-- none more
abbrev pub with_none : ℕ → Progress → Progress
with_none decisions at = record { contours = at.contours; points = at.points; held = at.held; second = at.second; decisions = at.decisions + decisions }

-- the record of a contour of n points behind what is kept
abbrev pub record_behind : ℕ → ℕ → ℕ → Progress → List ℕ
record_behind n tool press at = at.points ∷ (at.points + n) ∷ tool ∷ press ∷ []

-- a contour that stays with so many points, or not, is noted, after so many decisions
abbrev pub noting_by : Option ℕ → ℕ → Progress → ℕ → ℕ → List (List ℕ) → Noted
noting_by (Some n) decisions at tool press records = noted (with_one n press decisions at) (set records at.contours (record_behind n tool press at))
noting_by None decisions at tool press records = noted (with_none decisions at) records

abbrev pub noting : Kept → Progress → ℕ → ℕ → List (List ℕ) → Noted
noting k = noting_by k.points k.decisions

-- the points of a contour that stays, or none
abbrev pub points_by : Option ℕ → ℕ
points_by (Some n) = n
points_by None = 0

-- a record more, and sums that fit
pub record Notable (k : Kept) (at : Progress) (press : ℕ) (records : List (List ℕ)) : Type 0 where
  pub space : at.contours < length records
  pub one_of_two : press ≤ 1
  pub points_few : at.points + points_by k.points ≤ capacity
  pub held_few : at.held + holding (points_by k.points) ≤ capacity
  pub second_few : at.second ≤ at.held
  pub decisions_few : at.decisions + k.decisions ≤ 4 * capacity

-- how far a cleaning has come, and the rows as they are there
pub record Going : Type 0 where
  pub progress : Progress
  pub points : List ℤ
  pub records : List (List ℕ)

abbrev pub going : Progress → List ℤ → List (List ℕ) → Going
going progress points records = record { progress = progress; points = points; records = records }

-- number k of record i
abbrev pub field : List (List ℕ) → ℕ → ℕ → ℕ
field records i k = get_or (get_or records i []) k 0

-- the contour that record i names
abbrev pub contour_at : List ℤ → List (List ℕ) → ℕ → List ℤ
contour_at points records i = lying points (field records i 0) (field records i 1)

-- a contour of a tool and a press, behind what is kept, by its fate
abbrev pub placing : Fate → ℕ → ℕ → Going → Going
placing (stays d t) tool press g =
    going (with_one (count d) press t.decisions g.progress)
    (placed (2 * g.progress.points) d g.points)
    (set g.records g.progress.contours (record_behind (count d) tool press g.progress))
placing (gone t) tool press g = going (with_none t.decisions g.progress) g.points g.records

-- record i names a contour that can be cleaned and moved down behind what is kept, and sums fit
pub record Next (points : List ℤ) (records : List (List ℕ)) (i : ℕ) (at : Progress) (next prev mark : List ℕ) : Type 0 where
  pub there : i < length records
  pub siftable : Siftable points (field records i 0) (field records i 1) at.points next prev mark
  pub space : at.contours < length records
  pub one_of_two : field records i 3 ≤ 1
  pub points_few : at.points + (field records i 1 - field records i 0) ≤ capacity
  pub held_few : at.held + holding (field records i 1 - field records i 0) ≤ capacity
  pub second_few : at.second ≤ at.held
  pub decisions_few : at.decisions + 4 * (field records i 1 - field records i 0) ≤ 4 * capacity

-- a contour is one of the domain
abbrev pub InDomain : Entry → Type 0
InDomain e = Contour e.contour (count e.contour)

-- scratch for every pool
pub record HasScratch (next prev mark : List ℕ) : Type 0 where
  pub in_next : capacity ≤ length next
  pub in_prev : capacity ≤ length prev
  pub in_mark : capacity ≤ length mark

-- the rows hold a pool of n contours that can be cleaned
pub record Cleanable (points : List ℤ) (records : List (List ℕ)) (n : ℕ) (next prev mark : List ℕ) : Type 0 where
  pub lies : Lies (contents (lent points records n)) (lent points records n)
  pub fair : Fair (contents (lent points records n))
  pub in_domain : Every InDomain (contents (lent points records n))
  pub scratch : HasScratch next prev mark

-- they then hold the cleaned pool in front, which is counted
pub record Run (rule : Rule) (points : List ℤ) (records : List (List ℕ)) (n : ℕ) (r : Progress) (points' : List ℤ) (records' : List (List ℕ)) : Type 0 where
  pub rows_are : lent points' records' r.contours ≡ laid_out (cleaned rule (contents (lent points records n))).pool (lent points records n)
  pub points_are : r.points ≡ total (cleaned rule (contents (lent points records n))).pool
  pub held_is : r.held ≡ held (cleaned rule (contents (lent points records n))).pool
  pub second_is : r.second ≡ held (own 1 (cleaned rule (contents (lent points records n))).pool)
  pub decisions_are : r.decisions ≡ (cleaned rule (contents (lent points records n))).decisions
  pub few : r.decisions ≤ 4 * capacity
