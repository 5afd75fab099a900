-- A set's commands, read again.
use mathlib.Core.Path.{◌≡◌, refl, ap, ap₂, ◌∙◌}
use mathlib.Core.Bool.{true, false}
use mathlib.Core.List.{List, [], ◌∷◌, ◌++◌, map}
use Prim.Native.Nat.{ℕ, ◌*◌, ◌≤◌}
use native.Mathlib.Omega.{arith}
use lib.ListN.{length}
use lib.IntN.{ℤ}
use Rattle.integers.specs.Bound.{In}
use Rattle.integers.proofs.Logic.{and_left, and_right}
use Rattle.grid.specs.declared.Point.{Point}
use Rattle.grid.specs.Points.{points}
use Rattle.grid.specs.Limits.{narrow, on_grid, all_on_grid}
use Rattle.replies.specs.Ladder.{first_of}
use Rattle.grid.specs.Domain.{count}
use Rattle.grid.proofs.LimitLaws.{on_grid_in}
use Rattle.buffer.specs.Spans.{spans, sound}
use Rattle.buffer.specs.Sets.{joined, contours, Even}
use Rattle.buffer.proofs.RefusalLaws.{Accepted}
use Rattle.buffer.proofs.SetLaws.{contours_even}
use Rattle.buffer.proofs.Theorems.{a_sound_set's_contours_laid_end_to_end_are_its_points}
use Rattle.millimetres.specs.Scale.{units, millimetres}
use Rattle.millimetres.proofs.Theorems.{in_undoes_out}
use Rattle.drawing.specs.declared.command.Command.{Command}
use Rattle.drawing.specs.declared.command.Command.TheVariants.{Move, Line, Close}
use Rattle.drawing.specs.Commands.{Item, item, brought, asked, items, kinds_of, floats_of}
use Rattle.drawing.specs.Commands.Item.{command}
use Rattle.drawing.specs.Faults.{place_faults, first_fault}
use Rattle.drawing.specs.Outlines.{lines, outlines}
use Rattle.drawing.specs.Exporting.{place, outline, commands}
use Rattle.drawing.specs.Promises.{without_empty}
use Rattle.drawing.proofs.FaultLaws.{fault_passes, place_sound}

-- commands laid in rows are read as they were
pub read_back : (l : List Command) → items (kinds_of l) (floats_of l) ≡ map command l
unfolding items item brought joined
read_back [] = refl
read_back (Move p ∷ l) = ap (λ (k : List Item). command (Move p) ∷ k) (read_back l)
read_back (Line p ∷ l) = ap (λ (k : List Item). command (Line p) ∷ k) (read_back l)
read_back (Close ∷ l) = ap (λ (k : List Item). command Close ∷ k) (read_back l)

-- and bring the floats that their kinds ask for
pub floats_match : (l : List Command) → length (floats_of l) ≡ asked (kinds_of l)
unfolding asked brought joined
floats_match [] = refl
floats_match (Move p ∷ l) = omega (arith, floats_match l)
floats_match (Line p ∷ l) = omega (arith, floats_match l)
floats_match (Close ∷ l) = omega (arith, floats_match l)

-- two coordinates of a drawing, out and in again
module _ (x y : ℤ) (row : List ℤ) (h : all_on_grid narrow (x ∷ y ∷ row) ≡ true) where
  abbrev one : Point
  one = record { x = x; y = y }

  first_in : In narrow x
  unfolding all_on_grid
  first_in = on_grid_in narrow x (and_left (on_grid narrow x) _ h)

  second_in : In narrow y
  unfolding all_on_grid
  second_in = on_grid_in narrow y (and_left (on_grid narrow y) _ (and_right (on_grid narrow x) _ h))

  others_within : all_on_grid narrow row ≡ true
  unfolding all_on_grid
  others_within = and_right (on_grid narrow y) _ (and_right (on_grid narrow x) _ h)

  placed_sound : 0 ≡ first_of (place_faults (place one))
  placed_sound = place_sound (place one) (rw ((in_undoes_out x first_in).0, (in_undoes_out y second_in).0))

  placed_back : (l : List ℤ) → units (millimetres x) ∷ units (millimetres y) ∷ l ≡ x ∷ y ∷ l
  placed_back l = ap₂ (λ (a b : ℤ). a ∷ b ∷ l) (in_undoes_out x first_in).1 (in_undoes_out y second_in).1

-- a contour behind its Move, with what stands behind it
abbrev rest : List ℤ → List Command → List Item
rest row l = map command ((map (λ (q : Point). Line (place q)) (points row) ++ Close ∷ []) ++ l)

rest_faultless : (row : List ℤ) (l : List Command) → all_on_grid narrow row ≡ true → first_fault true (rest row l) ≡ first_fault false (map command l)
unfolding points first_fault first_of
rest_faultless [] l h = refl
rest_faultless (x ∷ []) l h = refl
rest_faultless (x ∷ y ∷ row) l h =
    fault_passes true (command (Line (place (one x y row h)))) (rest row l) 0 (placed_sound x y row h) refl ∙ rest_faultless row l (others_within x y row h)

rest_lines : (row : List ℤ) (l : List Command) → length row ≡ 2 * count row → all_on_grid narrow row ≡ true → lines (rest row l) ≡ row
unfolding points lines
rest_lines [] l even h = refl
rest_lines (x ∷ []) l even h = absurd (omega arith)
rest_lines (x ∷ y ∷ row) l even h = placed_back x y row h (lines (rest row l)) ∙ ap (λ (k : List ℤ). x ∷ y ∷ k) (rest_lines row l (omega arith) (others_within x y row h))

rest_passed : (row : List ℤ) (l : List Command) → outlines (rest row l) ≡ outlines (map command l)
unfolding points outlines
rest_passed [] l = refl
rest_passed (x ∷ []) l = refl
rest_passed (x ∷ y ∷ row) l = rest_passed row l

-- the parts of a row
within_front : (a b : List ℤ) → all_on_grid narrow (a ++ b) ≡ true → all_on_grid narrow a ≡ true
unfolding all_on_grid
within_front [] b h = refl
within_front (z ∷ a) b h = rw (and_left (on_grid narrow z) _ h, within_front a b (and_right (on_grid narrow z) _ h))

within_behind : (a b : List ℤ) → all_on_grid narrow (a ++ b) ≡ true → all_on_grid narrow b ≡ true
unfolding all_on_grid
within_behind [] b h = h
within_behind (z ∷ a) b h = within_behind a b (and_right (on_grid narrow z) _ h)

-- the commands of a set: none is at fault, and they draw its contours but for its empty ones
pub faultless : (set : List (List ℤ)) → all_on_grid narrow (joined set) ≡ true → first_fault false (map command (commands set)) ≡ 0
unfolding joined outline points first_fault
faultless [] h = refl
faultless ([] ∷ set) h = faultless set h
faultless ((x ∷ []) ∷ set) h = faultless set (within_behind (x ∷ []) (joined set) h)
faultless ((x ∷ y ∷ c) ∷ set) h =
    let w = within_front (x ∷ y ∷ c) (joined set) h in
    fault_passes false (command (Move (place (one x y c w)))) (rest c (commands set)) 0 (placed_sound x y c w) refl
    ∙ rest_faultless c (commands set) (others_within x y c w)
    ∙ faultless set (within_behind (x ∷ y ∷ c) (joined set) h)

pub drawn_back : (set : List (List ℤ)) → Even set → all_on_grid narrow (joined set) ≡ true → outlines (map command (commands set)) ≡ without_empty set
unfolding joined outline points outlines without_empty
drawn_back [] even h = refl
drawn_back ([] ∷ set) even h = drawn_back set even.1 h
drawn_back ((x ∷ []) ∷ set) even h = absurd (omega (arith, even.0))
drawn_back ((x ∷ y ∷ c) ∷ set) even h =
    let w = within_front (x ∷ y ∷ c) (joined set) h in
    ap₂ (λ (a : List ℤ) (l : List (List ℤ)). a ∷ l)
    (placed_back x y c w (lines (rest c (commands set))) ∙ ap (λ (k : List ℤ). x ∷ y ∷ k) (rest_lines c (commands set) (omega (arith, even.0)) (others_within x y c w)))
    (rest_passed c (commands set) ∙ drawn_back set even.1 (within_behind (x ∷ y ∷ c) (joined set) h))

-- without its empty contours a set has the same points
pub same_points : (set : List (List ℤ)) → joined (without_empty set) ≡ joined set
unfolding joined without_empty
same_points [] = refl
same_points ([] ∷ set) = same_points set
same_points ((z ∷ c) ∷ set) = ap (λ (l : List ℤ). (z ∷ c) ++ l) (same_points set)

pub still_even : (set : List (List ℤ)) → Even set → Even (without_empty set)
unfolding without_empty
still_even [] h = tt
still_even ([] ∷ set) h = still_even set h.1
still_even ((z ∷ c) ∷ set) h = (h.0, still_even set h.1)

pub no_more : (set : List (List ℤ)) → length (without_empty set) ≤ length set
unfolding without_empty
no_more [] = omega arith
no_more ([] ∷ set) = omega (arith, no_more set)
no_more ((z ∷ c) ∷ set) = omega (arith, no_more set)

-- a flat set that is not refused
module _ (p : List ℤ) (ranges : List (List ℕ)) (d : Accepted narrow p (sound (spans ranges) (count p))) where
  pub all_points : joined (contours p (spans ranges)) ≡ p
  all_points = a_sound_set's_contours_laid_end_to_end_are_its_points p (spans ranges) d.even d.sound

  pub all_even : Even (contours p (spans ranges))
  all_even = contours_even p 0 (spans ranges) d.even d.sound

  pub set_within : all_on_grid narrow (joined (contours p (spans ranges))) ≡ true
  set_within = ap (all_on_grid narrow) all_points ∙ d.on
