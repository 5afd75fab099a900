-- What is asked and said where a set is counted.
use mathlib.Core.Path.{◌≡◌}
use mathlib.Core.Bool.{true}
use mathlib.Core.List.{List, [], ◌∷◌, map}
use Prim.Native.Nat.{ℕ, ◌+◌, ◌≤◌}
use lib.ListN.{length}
use lib.IntN.{ℤ}
use Rattle.grid.specs.Domain.{count}
use Rattle.ring.specs.declared.Rule.{Rule}
use Rattle.clean.specs.Outcome.{walked}
use Rattle.buffer.specs.Spans.{spans}
use Rattle.buffer.specs.Sets.{contours}
use Rattle.sets.specs.inside.Contour.{Scratch}
use Rattle.sets.specs.inside.Shape.{Named}
use Rattle.figures.specs.declared.answer.Figures.{Figures}
use Rattle.figures.specs.Entries.{contour_entry}
use Rattle.figures.specs.Batch.{figures_of}
use Rattle.figures.specs.Joining.{most_counted, in_all, possible}
use Rattle.figures.specs.Adding.{written, outputs}

-- possible figures whose sum does not count too many
pub record Joinable (f g : Figures) : Type 0 where
  pub few : in_all f + in_all g ≤ most_counted
  pub first : possible f ≡ true
  pub second : possible g ≡ true

-- the figures of one contour, and the output after it
pub record Counts (rule : Rule) (c out : List ℤ) (r : Figures) (exit : List ℤ) : Type 0 where
  pub figures_are : r ≡ figures_of (contour_entry rule c ∷ [])
  pub output : exit ≡ written c (walked rule c).end out

-- ranges that name contours, not too many, with scratch and room for all points
pub record Countable (p : List ℤ) (ranges : List (List ℕ)) (next prev mark : List ℕ) (out : List ℤ) : Type 0 where
  pub named : Named p ranges
  pub few : length ranges ≤ most_counted
  pub scratch : Scratch (count p) next prev mark
  pub room : length p ≤ length out

-- the figures of all the contours, and the output after them
pub record CountsAll (rule : Rule) (p : List ℤ) (ranges : List (List ℕ)) (out : List ℤ) (r : Figures) (exit : List ℤ) : Type 0 where
  pub figures_are : r ≡ figures_of (map (contour_entry rule) (contours p (spans ranges)))
  pub output : exit ≡ outputs rule (contours p (spans ranges)) out
