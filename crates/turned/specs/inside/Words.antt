-- A contour as an endless word of numbers, its rotations, and the least of them.
use Rattle.std.specs.Prelude.{◌≡◌, List, ℕ, ◌+◌, ◌*◌, ◌%◌, ◌^◌, ◌<◌, ◌≤◌, ℤ}
use Rattle.std.specs.Int.{w32}
use Rattle.std.proofs.Common.{of_z}
use Rattle.grid.specs.declared.Point.{Point}
use Rattle.grid.specs.Points.{at}

-- a number for every point, its own
unfoldable pub key : Point → ℕ
key p = of_z w32 p.y * 2 ^ 32 + of_z w32 p.x

-- the keys of a row from a position on
abbrev pub keys : List ℤ → ℕ → ℕ → ℕ
keys row a = λ x. key (at row (a + x))

-- the keys of a contour of n points, again and again
unfoldable pub word : List ℤ → ℕ → ℕ → ℕ
word row n x = key (at row (x % n))

-- a rotation: a word from a position on
abbrev pub from : (ℕ → ℕ) → ℕ → ℕ → ℕ
from w i = λ x. w (i + x)

-- the first place at which two words differ has the smaller number in the first of them
pub record Less (u v : ℕ → ℕ) : Type 0 where
  pub place : ℕ
  pub before : (x : ℕ) → x < place → u x ≡ v x
  pub less : u place < v place

-- a word that repeats after p numbers
pub record Period (w : ℕ → ℕ) (p : ℕ) : Type 0 where
  pub again : (x : ℕ) → w (x + p) ≡ w x

-- no rotation of a word is less than the one from i on, and p is its smallest period
pub record Least (w : ℕ → ℕ) (n i p : ℕ) : Type 0 where
  pub within : i < n
  pub least : (y : ℕ) → Less (from w y) (from w i) → ⊥
  pub some : 0 < p
  pub most : p ≤ n
  pub period : Period w p
  pub smallest : (q : ℕ) → 0 < q → q < p → Period w q → ⊥

-- two words agree below k, and differ there unless k is n
pub record Apart (u v : ℕ → ℕ) (n k : ℕ) : Type 0 where
  pub within : k ≤ n
  pub agree : (x : ℕ) → x < k → u x ≡ v x
  pub differ : k < n → u k ≡ v k → ⊥
