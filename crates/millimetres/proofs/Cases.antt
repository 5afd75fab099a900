-- Worked cases: floats by their bits.
use Rattle.std.proofs.Common.{◌≡◌, ℕ, true, false, List, [], ◌∷◌, map, pos, negsuc, refl}
use lib.Ieee.{Float, binary64, of_bits, of_int, div}
use Rattle.grid.specs.Limits.{narrow}
use Rattle.millimetres.specs.Scale.{near, finite, size, units, on_grid, millimetres}

abbrev floats : List ℕ → List Float
floats = map (of_bits binary64)

-- 0.5, -0.5, 1.5, 2.5 and -2.5 units: halves go away from zero, also where the even number lies on the other side
halves : map units (floats (0x3f40000000000000 ∷ 0xbf40000000000000 ∷ 0x3f58000000000000 ∷ 0x3f64000000000000 ∷ 0xbf64000000000000 ∷ [])) ≡ pos 1 ∷ negsuc 0 ∷ pos 2 ∷ pos 3 ∷ negsuc 2 ∷ []
unfolding of_bits units size near
halves = refl

-- 0.0, -0.0, the least float above 0, and the largest below half a unit, to which a half can't be added before it is cut
noughts : map units (floats (0x0 ∷ 0x8000000000000000 ∷ 0x1 ∷ 0x3f3fffffffffffff ∷ [])) ≡ pos 0 ∷ pos 0 ∷ pos 0 ∷ pos 0 ∷ []
unfolding of_bits units size near
noughts = refl

-- 524,288 millimetres either side, and the largest float that is less than half a unit past them
last : map units (floats (0x4120000000000000 ∷ 0xc120000000000000 ∷ 0x41200000003fffff ∷ [])) ≡ pos 536870912 ∷ negsuc 536870911 ∷ pos 536870912 ∷ []
unfolding of_bits units size near
last = refl

-- half a unit past them, a thousand million, and 1e308, of which 1,024 times are no float
beyond : List Float
beyond = floats (0x4120000000400000 ∷ 0xc120000000400000 ∷ 0x41cdcd6500000000 ∷ 0x7fe1ccf385ebc8a0 ∷ [])

past_the_edge : size (of_bits binary64 0x4120000000400000) ≡ 536870913
unfolding of_bits size near
past_the_edge = refl

off : map on_grid beyond ≡ false ∷ false ∷ false ∷ false ∷ []
unfolding beyond of_bits on_grid finite size near narrow
off = refl

off_but_finite : map finite beyond ≡ true ∷ true ∷ true ∷ true ∷ []
unfolding beyond of_bits finite
off_but_finite = refl

-- the infinities and a NaN
not_finite : map finite (floats (0x7ff0000000000000 ∷ 0xfff0000000000000 ∷ 0x7ff8000000000000 ∷ [])) ≡ false ∷ false ∷ false ∷ []
unfolding of_bits finite
not_finite = refl

-- out: 1, 1,536 and -536,870,912 units are 1/1,024, 1.5 and -524,288 millimetres
out : map millimetres (pos 1 ∷ pos 1536 ∷ negsuc 536870911 ∷ []) ≡ floats (0x3f50000000000000 ∷ 0x3ff8000000000000 ∷ 0xc120000000000000 ∷ [])
unfolding millimetres div of_int of_bits
out = refl
