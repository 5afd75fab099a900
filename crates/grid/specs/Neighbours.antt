-- The neighbours of an element of a list that is read as closed, and the list without it.
use Rattle.std.specs.Prelude.{ℕ, zero, suc, ◌-◌, List, ◌++◌, length, take, drop, slice_index_or}

module _ {A : Type 0} (none : A) where
  -- what follows number j; the first follows the last
  abbrev pub following : List A → ℕ → A
  following l j = slice_index_or l (suc j) (slice_index_or l 0 none)

  -- what stands before number j; the last stands before the first
  abbrev pub preceding : List A → ℕ → A
  preceding l zero = slice_index_or l (length l - 1) none
  preceding l (suc j) = slice_index_or l j none

-- the list with number j left out
abbrev pub leaving_out : {A : Type 0} → List A → ℕ → List A
leaving_out l j = take j l ++ drop (suc j) l
