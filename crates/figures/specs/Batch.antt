-- The figures of a list of sets.
use mathlib.Core.List.{List, [], ◌∷◌}
use Prim.Native.Nat.{ℕ, suc, ◌+◌}
use lib.ListN.{get_or, set, replicate}
use lib.IntN.{ℤ, pos, ◌+ℤ◌}
use Rattle.figures.specs.declared.answer.Figures.{Figures}
use Rattle.figures.specs.Halves.{high, low}
use Rattle.figures.specs.Entries.{Entry, Found, all_entries}

-- the reply numbers are 0 to 21
abbrev pub numbers : ℕ
numbers = 22

-- a row of totals with one more under a number
abbrev pub one_more : ℕ → List ℕ → List ℕ
one_more number row = set row number (suc (get_or row number 0))

-- how many entries have each reply number
unfoldable pub tally : List Entry → List ℕ
tally [] = replicate numbers 0
tally (e ∷ l) = one_more e.reply (tally l)

-- the sum of one of their numbers
unfoldable pub sum_of : (Entry → ℕ) → List Entry → ℕ
sum_of part [] = 0
sum_of part (e ∷ l) = part e + sum_of part l

-- the exact sum of their areas
unfoldable pub areas : List Entry → ℤ
areas [] = pos 0
areas (e ∷ l) = e.area +ℤ areas l

-- the figures of a list of entries
unfoldable pub figures_of : List Entry → Figures
figures_of l = record {
  totals = tally l;
  before = sum_of (λ e. e.before) l;
  after = sum_of (λ e. e.after) l;
  decisions = sum_of (λ e. e.decisions) l;
  high = high (areas l);
  low = low (areas l);
}

-- the figures of a list of sets
abbrev pub batch_figures : List Found → Figures
batch_figures l = figures_of (all_entries l)
