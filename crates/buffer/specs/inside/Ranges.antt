-- What the inner functions ask of ranges.
use Rattle.std.specs.Prelude.{List, [], ℕ, ◌+◌, ◌*◌, ◌<◌, ◌≤◌, ◌^◌, length, get_or, ℤ}
use Rattle.buffer.specs.Spans.{span}

-- range number k of a row names a part of the points
pub record Names (points : List ℤ) (ranges : List (List ℕ)) (k : ℕ) : Type 0 where
  pub there : k < length ranges
  pub forward : (span (get_or ranges k [])).start ≤ (span (get_or ranges k [])).end
  pub fits : 2 * (span (get_or ranges k [])).end ≤ length points

-- ranges that stay numbers of the machine when they are set off by n
pub record Movable (l : List (List ℕ)) (n : ℕ) : Type 0 where
  pub starts : (i : ℕ) → i < length l → get_or (get_or l i []) 0 0 + n < 2 ^ 64
  pub ends : (i : ℕ) → i < length l → get_or (get_or l i []) 1 0 + n < 2 ^ 64
