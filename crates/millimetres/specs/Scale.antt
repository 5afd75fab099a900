-- Millimetres as floats, and the units of the grid. A finite float `fin s m e` is m · up e / down e, and below 0 where s is true.
use Rattle.std.specs.Prelude.{ℕ, ◌+◌, ◌*◌, ◌/◌, Bool, true, false, ◌&&◌, ℤ, pos, neg_ℤ, nat_le, Float}
use Rattle.std.specs.Float.{nan, inf, fin, binary64}
use Rattle.std.specs.Float.Ieee.{up, down, div, of_int}
use Rattle.grid.specs.Limits.{narrow}

-- how many units make a millimetre
abbrev pub scale : ℕ
scale = 1024

-- the whole number nearest to a / c, halves up
unfoldable pub near : ℕ → ℕ → ℕ
near a c = (2 * a + c) / (2 * c)

-- neither a NaN nor an infinity
unfoldable pub finite : Float → Bool
finite nan = false
finite (inf s) = false
finite (fin s m e) = true

-- how far a float is from 0: the whole number nearest to 1,024 times its size
unfoldable pub size : Float → ℕ
size nan = 0
size (inf s) = 0
size (fin s m e) = near (scale * (m * up e)) (down e)

-- a number n with its sign
abbrev pub signed : Bool → ℕ → ℤ
signed true n = neg_ℤ (pos n)
signed false n = pos n

-- what a float is in units: the whole number nearest to 1,024 times it, halves away from 0, as those of its size go up
unfoldable pub units : Float → ℤ
units nan = pos 0
units (inf s) = pos 0
units (fin s m e) = signed s (size (fin s m e))

-- a float that is a coordinate of a drawing: in units it is on the narrow grid
unfoldable pub on_grid : Float → Bool
on_grid v = finite v && nat_le (size v) narrow

-- x units in millimetres: x as a float, divided by 1,024
unfoldable pub millimetres : ℤ → Float
millimetres x = div binary64 (of_int binary64 x) (of_int binary64 (pos scale))
