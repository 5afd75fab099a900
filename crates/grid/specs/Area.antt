-- The area of a closed contour, doubled.
use Rattle.std.specs.Prelude.{List, [], ◌∷◌, ℤ, pos, ◌+ℤ◌, int_div}
use Rattle.std.specs.Int.{w64}
use Rattle.std.proofs.Common.{to_z}
use Rattle.integers.specs.Modulo.{mod64}
use Rattle.grid.specs.declared.Point.{Point}
use Rattle.grid.specs.Edges.{from_origin, cross}

-- the sum of x·y' - y·x' on the way from a through the points, and back to o
unfoldable pub around : Point → Point → List Point → ℤ
around o a [] = cross (from_origin a) (from_origin o)
around o a (b ∷ points) = cross (from_origin a) (from_origin b) +ℤ around o b points

-- the exact doubled area: that sum over consecutive pairs, the closing pair included
unfoldable pub exact : List Point → ℤ
exact [] = pos 0
exact (o ∷ points) = around o o points

-- an integer reduced modulo 2^64 into the range of an i64
unfoldable pub wrapped : ℤ → ℤ
wrapped z = to_z w64 (mod64 z)

-- the reported doubled area
abbrev pub reported : List Point → ℤ
reported points = wrapped (exact points)

-- the half, cut toward zero
abbrev pub halved : ℤ → ℤ
halved z = int_div z (pos 2)
