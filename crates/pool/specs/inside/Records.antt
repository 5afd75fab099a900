-- What the inner functions ask of records and say of them.
use Rattle.std.specs.Prelude.{◌≡◌, List, [], ◌∷◌, map, ℕ, ◌+◌, ◌-◌, ◌*◌, ◌<◌, ◌≤◌, length, get_or, take, ℤ}
use Rattle.grid.specs.Domain.{count}
use Rattle.buffer.specs.Spans as Spans
use Rattle.pool.specs.Lists.{Entry, Every, Even}
use Rattle.pool.specs.Rows.{Slot, slot, slots, Lent, laid_out, contents}
use Rattle.pool.specs.Outcome.{own_slots}

-- where the last record ends, from p on
unfoldable pub end_of : ℕ → List Slot → ℕ
end_of p [] = p
end_of p (s ∷ l) = end_of s.end l

-- the points of contours
abbrev pub total : List Entry → ℕ
total l = Spans.total (map (λ e. count e.contour) l)

-- a pool lies in front of the rows
pub record Lies (l : List Entry) (s : Lent) : Type 0 where
  pub even : Every Even l
  pub is : s ≡ laid_out l s

-- the rows hold the pool that their records name, of so many points
pub record Holds (s : Lent) (points : ℕ) : Type 0 where
  pub lies : Lies (contents s) s
  pub counts : points ≡ total (contents s)

-- the press of record number j
abbrev pub press_at : List (List ℕ) → ℕ → ℕ
press_at records j = get_or (get_or records j []) 3 0

-- the newest of a press among the first n records: its number from 1, or 0
pub record Newest (press n : ℕ) (records : List (List ℕ)) (r : ℕ) : Type 0 where
  pub within : r ≤ n
  pub later : (j : ℕ) → r ≤ j → j < n → press_at records j ≡ press → ⊥
  pub there : 0 < r → press_at records (r - 1) ≡ press

-- number k of a press among the first n records stands at position i
pub record Found (press k n : ℕ) (records : List (List ℕ)) (i : ℕ) : Type 0 where
  pub within : i < n
  pub there : k < length (own_slots press (take n (slots records)))
  pub is : slot (get_or records i []) ≡ get_or (own_slots press (take n (slots records))) k (slot [])

-- a record whose contour moves down by d points
abbrev pub lowered : ℕ → List ℕ → List ℕ
lowered d r = (get_or r 0 0 - d) ∷ (get_or r 1 0 - d) ∷ get_or r 2 0 ∷ get_or r 3 0 ∷ []

-- behind the record at a position there are n whose contours can move down by d points
pub record Lowerable (records : List (List ℕ)) (at d n : ℕ) : Type 0 where
  pub there : at + 1 + n ≤ length records
  pub starts : (j : ℕ) → j < n → d ≤ get_or (get_or records (at + 1 + j) []) 0 0
  pub ends : (j : ℕ) → j < n → d ≤ get_or (get_or records (at + 1 + j) []) 1 0

-- a record among n, and what stands behind it, within so many points
pub record Gap (points : List ℤ) (records : List (List ℕ)) (n all k : ℕ) : Type 0 where
  pub there : k < length records
  pub forward : get_or (get_or records k []) 0 0 ≤ get_or (get_or records k []) 1 0
  pub ends : get_or (get_or records k []) 1 0 ≤ all
  pub long : 2 * all ≤ length points
  pub behind : Lowerable records k (get_or (get_or records k []) 1 0 - get_or (get_or records k []) 0 0) (n - (k + 1))
