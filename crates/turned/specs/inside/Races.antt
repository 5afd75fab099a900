-- The race of two starts for the least rotation of a word.
use Rattle.std.specs.Prelude.{◌≡◌, ℕ, ◌<◌}
use Rattle.turned.specs.inside.Words.{from, Less}

-- a start that has lost: some rotation is less than the one from it on
pub record Beaten (w : ℕ → ℕ) (x : ℕ) : Type 0 where
  pub by : ℕ
  pub less : Less (from w by) (from w x)

-- every start before j but i is beaten
pub record Racing (w : ℕ → ℕ) (i j : ℕ) : Type 0 where
  pub order : i < j
  pub beaten : (x : ℕ) → x < j → (x ≡ i → ⊥) → Beaten w x
