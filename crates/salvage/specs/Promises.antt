-- What the theorems speak of.
use Rattle.std.specs.Prelude.{◌≡◌, Bool, true, false, List, [], ◌∷◌, ◌++◌, map, ℕ, suc, ◌+◌, ◌-◌, ◌*◌, leb, take, drop, ℤ, if◌then◌else◌}
use Rattle.std.specs.List.{filter}
use Rattle.grid.specs.Limits.{narrow, all_on_grid}
use Rattle.grid.specs.Domain.{count}
use Rattle.buffer.specs.Sets.{joined}
use Rattle.setfile.specs.Entries.{Entry}
use Rattle.setfile.specs.Format.{come}
use Rattle.setfile.specs.inside.Bytes.{coded_contour}
use Rattle.salvage.specs.Fates.{kept}
use Rattle.salvage.specs.Outcome.{fates_of, Outcome}

-- the file that was written, as far as the answer counts it
abbrev pub written_file : Outcome → List ℕ
written_file o = take o.answer.bytes o.bytes

-- the list that was written, as far as the answer counts it
abbrev pub written_list : Outcome → List (List ℕ)
written_list o = take o.answer.dropped o.list

-- contours, of which the first has number k, are parted in their order: each is kept, or dropped by its number
pub data Parted : ℕ → List Entry → List Entry → List (List ℕ) → Type 0 where
  all-parted : {k : ℕ} → Parted k [] [] []
  one_kept : {k : ℕ} {e : Entry} {l kept : List Entry} {dropped : List (List ℕ)} → Parted (suc k) l kept dropped → Parted k (e ∷ l) (e ∷ kept) dropped
  one-dropped : {k : ℕ} {e : Entry} {l kept : List Entry} {dropped : List (List ℕ)} (r : ℕ) → Parted (suc k) l kept dropped → Parted k (e ∷ l) kept ((k ∷ r ∷ []) ∷ dropped)

-- the bytes of the complete contours of a file
abbrev pub bytes_of : List ℕ → List (List ℕ)
bytes_of f = map coded_contour (come f).contours

-- they stand behind the head of the damaged file, and of the written one those that are kept
pub record SameBytes (f : List ℕ) (o : Outcome) : Type 0 where
  pub rest : List ℕ
  pub before : drop 2 f ≡ joined (bytes_of f) ++ rest
  pub after : drop 2 (written_file o) ≡ joined (kept (fates_of f) (bytes_of f))

-- the contours that are on the grid
unfoldable pub sound_contours : List (List ℤ) → List (List ℤ)
sound_contours l = filter (all_on_grid narrow) l

-- the shapes whose first contour is on the grid, each with its other contours that are
unfoldable pub sound_shapes : List (List (List ℤ)) → List (List (List ℤ))
sound_shapes [] = []
sound_shapes ([] ∷ l) = sound_shapes l
sound_shapes ((c ∷ holes) ∷ l) = if all_on_grid narrow c then (c ∷ sound_contours holes) ∷ sound_shapes l else sound_shapes l

-- how many bytes a contour has
abbrev pub length_of : Entry → ℕ
length_of e = 2 + 8 * count e.points

-- contours as long as this holds
abbrev pub as_long : Bool → List Entry → List Entry
as_long true l = l
as_long false l = []

-- contours that stand one behind the other, as far as their bytes are all among the first n
unfoldable pub all_within : ℕ → List Entry → List Entry
all_within n [] = []
all_within n (e ∷ l) = as_long (leb (length_of e) n) (e ∷ all_within (n - length_of e) l)
