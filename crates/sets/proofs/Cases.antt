-- Worked examples.
use Rattle.std.proofs.Common.{◌≡◌, ℕ, Bool, true, false, List, [], ◌∷◌, ◌++◌, ℤ, pos, negsuc, refl}
use mathlib.Core.Bool.{xor}
use Rattle.integers.specs.Modulo.{mod64}
use Rattle.replies.specs.declared.Verdict.{Verdict}
use Rattle.grid.specs.Limits.{limit, most, on_grid, all_on_grid}
use Rattle.grid.specs.Points.{points}
use Rattle.grid.specs.Edges.{cross, dot}
use Rattle.grid.specs.Corners.{last, differing, distinct_neighbours, corners_from, corners, some}
use Rattle.grid.specs.Area.{around, exact, wrapped}
use Rattle.replies.specs.Ladder.{first_of}
use Rattle.grid.specs.Cases.{row, W3, W11}
use Rattle.path.specs.Contains.{crosses, odd, contained}
use Rattle.path.specs.Locate.{on_edge, touched, on_boundary, location}
use Rattle.clean.specs.Verdicts.{is_simple, spike_free_distinct, no_spikes}
use Rattle.buffer.specs.Spans.{sound_from}
use Rattle.sets.specs.Verdicts.{every, verdict_by, simple, spike_free, shapes_simple, shapes_spike_free}
use Rattle.sets.specs.Area.{sum, doubled_by, half_by, doubled, half, shapes_doubled, shapes_half}
use Rattle.sets.specs.Contains.{has, in_shape}

infixl 70 ◌to◌
-- a range
abbrev ◌to◌ : ℕ → ℕ → List ℕ
◌to◌ a b = a ∷ b ∷ []

abbrev answered : Bool → Verdict
answered b = record { reply = 0; yes = b }

abbrev refused : ℕ → Verdict
refused k = record { reply = k; yes = false }

-- a triangle with a point on one of its sides
abbrev straight : List ℤ
straight = row (0 ∷ 0 ∷ 2 ∷ 0 ∷ 4 ∷ 0 ∷ 0 ∷ 4 ∷ [])

-- a set of no contours is simple and without spikes, and one with an empty contour is neither
of_none :
    (simple [] [] ≡ answered true)
    × (spike_free [] [] ≡ answered true)
    × (simple [] (0 to 0 ∷ []) ≡ answered false)
    × (spike_free [] (0 to 0 ∷ []) ≡ answered false)
unfolding limit most on_grid all_on_grid points first_of sound_from is_simple no_spikes every verdict_by
of_none = (refl, refl, refl, refl)

-- one contour decides: the straight vertex is no spike
of_two :
    (simple (W3 ++ W3) (0 to 3 ∷ 3 to 6 ∷ []) ≡ answered true)
    × (simple (W3 ++ straight) (0 to 3 ∷ 3 to 7 ∷ []) ≡ answered false)
    × (spike_free (W3 ++ straight) (0 to 3 ∷ 3 to 7 ∷ []) ≡ answered true)
unfolding limit most on_grid all_on_grid points cross dot last differing distinct_neighbours corners_from corners some first_of sound_from is_simple spike_free_distinct no_spikes every verdict_by
of_two = (refl, refl, refl)

-- points without ranges
loose : (simple W3 [] ≡ refused 6) × (in_shape W3 [] (pos 1073741824) (pos 0) ≡ refused 6) × (doubled W3 [] ≡ record { reply = 6; value = pos 0 })
unfolding limit most on_grid all_on_grid first_of sound_from verdict_by in_shape doubled_by
loose = (refl, refl, refl)

-- 16 and 16; the halves of -1 and -3 are cut toward zero
areas :
    (doubled [] [] ≡ record { reply = 0; value = pos 0 })
    × (doubled (W3 ++ W3) (0 to 3 ∷ 3 to 6 ∷ []) ≡ record { reply = 0; value = pos 32 })
    × (half W11 (0 to 3 ∷ []) ≡ record { reply = 0; value = pos 0 })
    × (half (row (0 ∷ 0 ∷ 0 ∷ 3 ∷ 1 ∷ 0 ∷ [])) (0 to 3 ∷ []) ≡ record { reply = 0; value = negsuc 0 })
unfolding mod64 limit most on_grid all_on_grid points cross around exact wrapped first_of sound_from every sum doubled_by half_by
areas = (refl, refl, refl, refl)

-- an empty contour anywhere
empties :
    (doubled W3 (0 to 3 ∷ 3 to 3 ∷ []) ≡ record { reply = 8; value = pos 0 })
    × (half W3 (0 to 0 ∷ 0 to 3 ∷ []) ≡ record { reply = 8; value = pos 0 })
unfolding mod64 limit most on_grid all_on_grid points cross around exact wrapped first_of sound_from every sum doubled_by half_by
empties = (refl, refl)

-- a shape set whose contour ranges or shape ranges are lost, or run past the contours, is refused; its contours alone are not
lost :
    (shapes_simple W3 [] (0 to 1 ∷ []) ≡ refused 6)
    × (shapes_simple W3 (0 to 3 ∷ []) [] ≡ refused 6)
    × (shapes_spike_free W3 (0 to 3 ∷ []) (5 to 99 ∷ []) ≡ refused 6)
    × (spike_free W3 (0 to 3 ∷ []) ≡ answered true)
    × (shapes_doubled W3 (0 to 3 ∷ []) [] ≡ record { reply = 6; value = pos 0 })
    × (shapes_half W3 (0 to 3 ∷ []) (5 to 99 ∷ []) ≡ record { reply = 6; value = pos 0 })
    × (doubled W3 (0 to 3 ∷ []) ≡ record { reply = 0; value = pos 16 })
unfolding mod64 limit most on_grid all_on_grid points around exact wrapped cross dot last differing distinct_neighbours corners_from corners some first_of sound_from is_simple spike_free_distinct no_spikes every verdict_by sum doubled_by half_by
lost = (refl, refl, refl, refl, refl, refl, refl)

-- a shape set is judged by its contours: two shapes, an empty one between them; an empty contour anywhere is 8, behind 3
of_shapes :
    (shapes_simple (W3 ++ W3) (0 to 3 ∷ 3 to 6 ∷ []) (0 to 1 ∷ 1 to 1 ∷ 1 to 2 ∷ []) ≡ answered true)
    × (shapes_simple (W3 ++ straight) (0 to 3 ∷ 3 to 7 ∷ []) (0 to 1 ∷ 1 to 2 ∷ []) ≡ answered false)
    × (shapes_spike_free (W3 ++ straight) (0 to 3 ∷ 3 to 7 ∷ []) (0 to 1 ∷ 1 to 2 ∷ []) ≡ answered true)
    × (shapes_doubled (W3 ++ W3) (0 to 3 ∷ 3 to 6 ∷ []) (0 to 1 ∷ 1 to 1 ∷ 1 to 2 ∷ []) ≡ record { reply = 0; value = pos 32 })
    × (shapes_half W11 (0 to 3 ∷ []) (0 to 1 ∷ []) ≡ record { reply = 0; value = pos 0 })
    × (shapes_doubled W3 (0 to 3 ∷ 3 to 3 ∷ []) (0 to 1 ∷ 1 to 2 ∷ []) ≡ record { reply = 8; value = pos 0 })
    × (shapes_half (row (0 ∷ 1073741824 ∷ [])) (0 to 1 ∷ 1 to 1 ∷ []) (0 to 2 ∷ []) ≡ record { reply = 3; value = pos 0 })
unfolding mod64 limit most on_grid all_on_grid points around exact wrapped cross dot last differing distinct_neighbours corners_from corners some first_of sound_from is_simple spike_free_distinct no_spikes every verdict_by sum doubled_by half_by
of_shapes = (refl, refl, refl, refl, refl, refl, refl)

-- a square with a square hole, and two squares that overlap
abbrev square : List ℤ
square = row (0 ∷ 0 ∷ 8 ∷ 0 ∷ 8 ∷ 8 ∷ 0 ∷ 8 ∷ []) ++ row (2 ∷ 2 ∷ 6 ∷ 2 ∷ 6 ∷ 6 ∷ 2 ∷ 6 ∷ [])

abbrev overlapping : List ℤ
overlapping = row (0 ∷ 0 ∷ 4 ∷ 0 ∷ 4 ∷ 4 ∷ 0 ∷ 4 ∷ []) ++ row (2 ∷ 1 ∷ 6 ∷ 1 ∷ 6 ∷ 3 ∷ 2 ∷ 3 ∷ [])

-- whether a shape of two contours, of four points each, has a point
abbrev asks : List ℤ → ℕ → ℕ → Verdict
asks p x y = in_shape p (0 to 4 ∷ 4 to 8 ∷ []) (pos x) (pos y)

-- a pin on the left rim of a hole has material, and so has one on the right rim, and one on a corner of it
rims_have_material : (asks square 2 4 ≡ answered true) × (asks square 6 4 ≡ answered true) × (asks square 2 2 ≡ answered true)
unfolding xor limit most on_grid all_on_grid points cross last first_of sound_from crosses odd contained on_edge touched on_boundary location every has in_shape
rims_have_material = (refl, refl, refl)

-- on the outline, on either side; between outline and hole; inside the hole; outside
material : (asks square 0 4 ≡ answered true) × (asks square 8 4 ≡ answered true) × (asks square 1 4 ≡ answered true) × (asks square 4 4 ≡ answered false) × (asks square 9 4 ≡ answered false)
unfolding xor limit most on_grid all_on_grid points cross last first_of sound_from crosses odd contained on_edge touched on_boundary location every has in_shape
material = (refl, refl, refl, refl, refl)

-- on the outline, but inside a later contour; on the outline and on the later contour
on_the_outline : (asks overlapping 4 2 ≡ answered false) × (asks overlapping 4 1 ≡ answered true)
unfolding xor limit most on_grid all_on_grid points cross last first_of sound_from crosses odd contained on_edge touched on_boundary location every has in_shape
on_the_outline = (refl, refl)

-- off the grid; an empty shape has nothing, nor has one whose first contour is empty
nothing_had :
    (asks square 1073741824 4 ≡ refused 3)
    × (in_shape [] [] (pos 0) (pos 0) ≡ answered false)
    × (in_shape W3 (0 to 0 ∷ 0 to 3 ∷ []) (pos 0) (pos 0) ≡ answered false)
unfolding xor limit most on_grid all_on_grid points cross last first_of sound_from crosses odd contained on_edge touched on_boundary location every has in_shape
nothing_had = (refl, refl, refl)
