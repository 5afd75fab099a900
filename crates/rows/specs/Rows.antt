-- A lent row after it was written to.
use Rattle.std.specs.Prelude.{List, ◌++◌, ℕ, ◌+◌, length, take, drop, replicate}

module _ {A : Type 0} where
  -- new elements in front, the others as they were
  abbrev pub front : List A → List A → List A
  front new row = new ++ drop (length new) row

  -- the elements written from position at on, the others as they were
  abbrev pub placed : ℕ → List A → List A → List A
  placed at l row = take at row ++ l ++ drop (at + length l) row

-- a row with its first n entries 0, the rest as it was
abbrev pub zeroed : ℕ → List ℕ → List ℕ
zeroed n row = front (replicate n 0) row
