-- What the inner functions say to each other.
use Rattle.std.specs.Prelude.{◌≡◌, Bool, List, map, ℕ, ◌*◌, ◌≤◌, ltb, length, ℤ}
use Rattle.ring.specs.Walk.{removed}

-- of each mark of a walk, whether its position survives
abbrev pub survive : List ℕ → List Bool
survive mark = map (λ (x : ℕ). ltb x removed) mark

-- a mark for each point, and as much scratch
pub record Marked (points : List ℤ) (next prev mark : List ℕ) : Type 0 where
  pub each : length points ≡ 2 * length mark
  pub in_next : length mark ≤ length next
  pub in_prev : length mark ≤ length prev
