-- What is said of one shape that is cleaned behind what is written.
use Rattle.std.specs.Prelude.{◌≡◌, ℕ, ◌+◌, ◌*◌, ◌^◌, ◌<◌, ◌≤◌, Bool, true, false, List, [], ◌∷◌, length, replicate, ℤ}
use Rattle.grid.specs.Domain.{count, Contour}
use Rattle.ring.specs.declared.Rule.{Rule}
use Rattle.buffer.specs.Spans.{spans}
use Rattle.buffer.specs.Sets.{joined, contours}
use Rattle.buffer.specs.inside.Ranges.{Names}
use Rattle.sets.specs.declared.cleaning.CleanedSet.{CleanedSet}
use Rattle.sets.specs.declared.inner.contour.Progress.{Progress}
use Rattle.sets.specs.Fates.{Fate, fate}
use Rattle.sets.specs.Fates.Fate.{stays, gone}
use Rattle.sets.specs.Outcome.{answer}
use Rattle.sets.specs.inside.Contour.{Scratch, Reached, placing}

-- room for contours behind what is written, and for their decisions and turns
pub record Room (l : List (List ℤ)) (at : Progress) (out : List ℤ) (records : List (List ℕ)) : Type 0 where
  pub room : 2 * at.points + length (joined l) ≤ length out
  pub space : at.contours + length l ≤ length records
  pub narrow : (at.contours + length l) * 16 < 2 ^ 64
  pub fits : at.decisions + 2 * length (joined l) < 2 ^ 64
  pub turns_fit : at.turns + 3 * length (joined l) < 2 ^ 64

-- ranges that name parts of points of the domain
pub record Named (p : List ℤ) (ranges : List (List ℕ)) : Type 0 where
  pub domain : Contour p (count p)
  pub names : (k : ℕ) → k < length ranges → Names p ranges k

-- ranges whose contours can be cleaned behind what is written
pub record Going (p : List ℤ) (ranges : List (List ℕ)) (at : Progress) (next prev mark : List ℕ) (out : List ℤ) (records : List (List ℕ)) : Type 0 where
  pub named : Named p ranges
  pub scratch : Scratch (count p) next prev mark
  pub room : Room (contours p (spans ranges)) at out records

-- contours one after the other
unfoldable pub run : Rule → List (List ℤ) → Reached → Reached
run rule [] s = s
run rule (c ∷ l) s = run rule l (placing (fate rule c) s)

-- whether a shape stands, and how far the cleaning has come with it
pub record Tested : Type 0 where
  pub stands : Bool
  pub reached : Reached

abbrev pub tested : Bool → Reached → Tested
tested stands reached = record { stands = stands; reached = reached }

-- a shape, by the fate of its first contour
abbrev pub outline : Fate → Rule → List (List ℤ) → Reached → Tested
outline (stays d t) rule l s = tested true (run rule l (placing (stays d t) s))
outline (gone t) rule l s = tested false (placing (gone t) s)

unfoldable pub run_shape : Rule → List (List ℤ) → Reached → Tested
run_shape rule [] s = tested true s
run_shape rule (c ∷ l) s = outline (fate rule c) rule l s

-- all of the scratch is zeroed
pub record Zeroed (next prev mark next' prev' mark' : List ℕ) : Type 0 where
  pub next-zero : next' ≡ replicate (length next) 0
  pub prev-zero : prev' ≡ replicate (length prev) 0
  pub mark-zero : mark' ≡ replicate (length mark) 0

-- the answer of a shape that was cleaned alone: kept, or collapsed
abbrev pub shape_answer : Bool → Progress → CleanedSet
shape_answer true at = answer 0 at.points at.contours 1 at.decisions at.turns
shape_answer false at = answer 7 0 0 0 at.decisions at.turns
