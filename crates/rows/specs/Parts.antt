-- Parts of lent rows: where each lies, and what it holds.
use Rattle.std.specs.Prelude.{List, ℕ, ◌+◌, ◌*◌, take, ℤ}
use Rattle.std.specs.Borrow.{Bor}

-- a row of coordinates, or a part of one: the address where it begins, which is a block of memory and a byte in it, and its numbers
pub record Part : Type 0 where
  pub address : ℕ × ℕ
  pub numbers : List ℤ

-- numbers that lie at an address
abbrev pub lying : ℕ × ℕ → List ℤ → Part
lying address numbers = record { address = address; numbers = numbers }

-- what is lent or handed out, as the caller has it
abbrev pub part : Bor (List ℤ) → Part
part r = lying r.ref_ptr r.now

-- the address n numbers further on: a number takes four bytes
abbrev pub further : ℕ → ℕ × ℕ → ℕ × ℕ
further n address = (address.0, n * 4 + address.1)

-- the first n numbers of a row
abbrev pub first : ℕ → Part → Part
first n row = lying row.address (take n row.numbers)

-- the empty part at the front of a row
abbrev pub none : Part → Part
none row = first 0 row
