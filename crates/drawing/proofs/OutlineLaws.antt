-- A drawing without a fault, its contours and their numbers.
use mathlib.Core.Path.{◌≡◌, refl, sym, ap, ap₂, ◌∙◌}
use mathlib.Core.Bool.{Bool, true, false, ◌&&◌}
use mathlib.Core.List.{List, [], ◌∷◌, ◌++◌, map}
use Prim.Native.Nat.{ℕ, zero, suc, ◌*◌, ◌/◌, ◌%◌, ◌<◌}
use native.Mathlib.Omega.{arith}
use lib.ListN.{length, get_or, drop, length-map}
use lib.IntN.{ℤ}
use lib.Ieee.{Float, nan}
use borrow.Author.Tests.{not-false}
use Rattle.integers.proofs.Logic.{and_left, and_right}
use Rattle.replies.specs.Ladder.{first_of}
use Rattle.grid.specs.Domain.{count}
use Rattle.replies.proofs.LadderLaws.{clear}
use Rattle.buffer.specs.Sets.{joined}
use Rattle.millimetres.specs.Scale.{units, on_grid}
use Rattle.drawing.specs.Commands.{Item, item, brought, asked, items}
use Rattle.drawing.specs.Faults.{place_faults, or_else, first_fault}
use Rattle.drawing.specs.Outlines.{lines, outlines}
use Rattle.drawing.specs.Importing.{drawn}
use Rattle.drawing.specs.inside.Rows.{Coordinates, run, sizes}

-- no command is at fault: its place is on the grid, and a Line or a Close finds a contour open
pub data Sound : Bool → List ℕ → List Float → Type 0 where
  ended : {o : Bool} → Sound o [] []
  moved : {o : Bool} {kinds : List ℕ} {x y : Float} {floats : List Float} → on_grid x ≡ true → on_grid y ≡ true → Sound true kinds floats → Sound o (zero ∷ kinds) (x ∷ y ∷ floats)
  lined : {kinds : List ℕ} {x y : Float} {floats : List Float} → on_grid x ≡ true → on_grid y ≡ true → Sound true kinds floats → Sound true (suc zero ∷ kinds) (x ∷ y ∷ floats)
  closed : {kinds : List ℕ} {floats : List Float} → Sound false kinds floats → Sound true (suc (suc zero) ∷ kinds) floats

none_of : (r k : ℕ) → or_else r k ≡ 0 → (r ≡ 0) × (k ≡ 0)
none_of zero k e = (refl, e)
none_of (suc r) k e = absurd (omega arith)

-- the place of a command that is not at fault, and the commands behind it
module _ (x y : Float) (l : List Item) (e : or_else (first_of (place_faults (record { x = x; y = y }))) (first_fault true l) ≡ 0) where
  neither : (first_of (place_faults (record { x = x; y = y })) ≡ 0) × (first_fault true l ≡ 0)
  neither = none_of (first_of (place_faults (record { x = x; y = y }))) (first_fault true l) e

  on_both : (on_grid x && on_grid y) ≡ true
  on_both = not-false (on_grid x && on_grid y) (clear (place_faults (record { x = x; y = y })) tt neither.0).1.0

  on_first : on_grid x ≡ true
  on_first = and_left (on_grid x) (on_grid y) on_both

  on_second : on_grid y ≡ true
  on_second = and_right (on_grid x) (on_grid y) on_both

pub sound_if : (o : Bool) (kinds : List ℕ) (floats : List Float) → first_fault o (items kinds floats) ≡ 0 → length floats ≡ asked kinds → Sound o kinds floats
unfolding first_fault first_of items item asked brought
sound_if o [] [] e h = ended
sound_if o [] (x ∷ floats) e h = absurd (omega arith)
sound_if o (zero ∷ kinds) [] e h = absurd (omega arith)
sound_if o (zero ∷ kinds) (x ∷ []) e h = absurd (omega arith)
sound_if o (zero ∷ kinds) (x ∷ y ∷ floats) e h =
    moved (on_first x y (items kinds floats) e) (on_second x y (items kinds floats) e) (sound_if true kinds floats (neither x y (items kinds floats) e).1 (omega arith))
sound_if true (suc zero ∷ kinds) [] e h = absurd (omega arith)
sound_if true (suc zero ∷ kinds) (x ∷ []) e h = absurd (omega arith)
sound_if true (suc zero ∷ kinds) (x ∷ y ∷ floats) e h =
    lined (on_first x y (items kinds floats) e) (on_second x y (items kinds floats) e) (sound_if true kinds floats (neither x y (items kinds floats) e).1 (omega arith))
sound_if false (suc zero ∷ kinds) floats e h = absurd (omega arith)
sound_if true (suc (suc zero) ∷ kinds) floats e h = closed (sound_if false kinds floats e (omega arith))
sound_if false (suc (suc zero) ∷ kinds) floats e h = absurd (omega arith)
sound_if o (suc (suc (suc k)) ∷ kinds) floats e h = absurd (omega arith)

-- its floats are coordinates
pub sound_even : {o : Bool} {kinds : List ℕ} {floats : List Float} → Sound o kinds floats → length floats % 2 ≡ 0
sound_even ended = refl
sound_even (moved a b s) = omega (arith, sound_even s)
sound_even (lined a b s) = omega (arith, sound_even s)
sound_even (closed s) = sound_even s

pub sound_on : {o : Bool} {kinds : List ℕ} {floats : List Float} → Sound o kinds floats → (i : ℕ) → i < length floats → on_grid (get_or floats i nan) ≡ true
sound_on ended i h = absurd (omega arith)
sound_on (moved a b s) zero h = a
sound_on (moved a b s) (suc zero) h = b
sound_on (moved a b s) (suc (suc i)) h = sound_on s i (omega arith)
sound_on (lined a b s) zero h = a
sound_on (lined a b s) (suc zero) h = b
sound_on (lined a b s) (suc (suc i)) h = sound_on s i (omega arith)
sound_on (closed s) i h = sound_on s i h

pub coordinates : {o : Bool} {kinds : List ℕ} {floats : List Float} → Sound o kinds floats → Coordinates floats
coordinates s = record { even = sound_even s; on_grid = sound_on s }

-- and its contours, laid end to end, are they in units
no_lines : {kinds : List ℕ} {floats : List Float} → Sound false kinds floats → lines (items kinds floats) ≡ []
unfolding lines items item brought
no_lines ended = refl
no_lines (moved a b s) = refl

numbers_rest : {o : Bool} {kinds : List ℕ} {floats : List Float} → Sound o kinds floats → lines (items kinds floats) ++ joined (drawn kinds floats) ≡ map units floats
unfolding lines outlines joined items item brought
numbers_rest ended = refl
numbers_rest (moved {x = x} {y = y} a b s) = ap (λ (l : List ℤ). units x ∷ units y ∷ l) (numbers_rest s)
numbers_rest (lined {x = x} {y = y} a b s) = ap (λ (l : List ℤ). units x ∷ units y ∷ l) (numbers_rest s)
numbers_rest (closed {kinds = kinds} {floats = floats} s) = ap (λ (l : List ℤ). l ++ joined (drawn kinds floats)) (sym (no_lines s)) ∙ numbers_rest s

pub numbers_are : {kinds : List ℕ} {floats : List Float} → Sound false kinds floats → joined (drawn kinds floats) ≡ map units floats
numbers_are {kinds} {floats} s = ap (λ (l : List ℤ). l ++ joined (drawn kinds floats)) (sym (no_lines s)) ∙ numbers_rest s

pub points_are : {kinds : List ℕ} {floats : List Float} → Sound false kinds floats → count (joined (drawn kinds floats)) ≡ length floats / 2
points_are {kinds} {floats} s = ap count (numbers_are s) ∙ ap (λ (n : ℕ). n / 2) (length-map floats units)

-- how many points each contour has is told by the kinds alone
lines-length : (kinds : List ℕ) (floats : List Float) → length (lines (items kinds floats)) ≡ 2 * run kinds
unfolding lines items item brought run
lines-length [] floats = refl
lines-length (zero ∷ kinds) floats = refl
lines-length (suc zero ∷ kinds) floats = omega (arith, lines-length kinds (drop 2 floats))
lines-length (suc (suc zero) ∷ kinds) floats = refl
lines-length (suc (suc (suc k)) ∷ kinds) floats = refl

pub sizes_are : (kinds : List ℕ) (floats : List Float) → map count (drawn kinds floats) ≡ sizes kinds
unfolding outlines items item brought sizes
sizes_are [] floats = refl
sizes_are (zero ∷ kinds) floats =
    ap₂ (λ (n : ℕ) (l : List ℕ). n ∷ l) (omega (arith, lines-length kinds (drop 2 floats))) (sizes_are kinds (drop 2 floats))
sizes_are (suc zero ∷ kinds) floats = sizes_are kinds (drop 2 floats)
sizes_are (suc (suc zero) ∷ kinds) floats = sizes_are kinds floats
sizes_are (suc (suc (suc k)) ∷ kinds) floats = sizes_are kinds floats
