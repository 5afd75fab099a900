-- What becomes of the complete contours of a damaged file.
use Rattle.std.specs.Prelude.{Bool, true, false, not, ◌||◌, List, [], ◌∷◌, ℕ, zero, suc}
use Rattle.grid.specs.Limits.{narrow, all_on_grid}
use Rattle.replies.specs.Ladder.{first_of}
use Rattle.setfile.specs.Entries.{Entry}

-- why a contour is dropped: 3 a place off the grid, 11 no shape, since it begins none and the one that it belongs to is not kept; 0 where it is kept
unfoldable pub reason : Bool → Entry → ℕ
reason keeping e = first_of ((not (all_on_grid narrow e.points), 3) ∷ (not (e.begins || keeping), 11) ∷ [])

-- whether the shape is kept that stands open behind a contour: by the contour itself where it begins one, else as before
abbrev pub open_behind : Bool → Bool → Bool → Bool
open_behind true on keeping = on
open_behind false on keeping = keeping

-- what becomes of contours, one after the other: 0 of one that is kept, else the reason
unfoldable pub fates : Bool → List Entry → List ℕ
fates keeping [] = []
fates keeping (e ∷ l) = reason keeping e ∷ fates (open_behind e.begins (all_on_grid narrow e.points) keeping) l

-- one that is kept stands in front of the others
abbrev pub keep : {A : Type 0} → ℕ → A → List A → List A
keep zero a l = a ∷ l
keep (suc r) a l = l

-- those that are kept
unfoldable pub kept : {A : Type 0} → List ℕ → List A → List A
kept [] l = []
kept (r ∷ fs) [] = []
kept (r ∷ fs) (a ∷ l) = keep r a (kept fs l)

-- one that is dropped is listed in front of the others: its number, and the reason
abbrev pub note : ℕ → ℕ → List (List ℕ) → List (List ℕ)
note k zero l = l
note k (suc r) l = (k ∷ suc r ∷ []) ∷ l

-- the list of those that are dropped, where the first contour has number k
unfoldable pub dropped : ℕ → List ℕ → List (List ℕ)
dropped k [] = []
dropped k (r ∷ fs) = note k r (dropped (suc k) fs)
