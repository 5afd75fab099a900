-- What a reported area says of the exact one.
use Rattle.std.proofs.Common.{◌≡◌, List, ◌∙◌, w64, Fits, SFits, to_z}
use mir.Facts.{sfits_to_z, of_z-to_z}
use Rattle.integers.specs.Modulo.{mod64}
use Rattle.integers.proofs.Modulo.{mod64_lt, mod64_of_z, mod64_to_z}
use Rattle.grid.specs.declared.Point.{Point}
use Rattle.grid.specs.Area.{exact, wrapped, reported}

-- the reported area is an i64
pub reported_is_an_i64 : (points : List Point) → SFits w64 (reported points)
unfolding wrapped
reported_is_an_i64 points = sfits_to_z (record { fits = mod64_lt (exact points) })

-- where the exact area is an i64, it is the one reported
pub exact_where_it_fits : (points : List Point) → SFits w64 (exact points) → reported points ≡ exact points
unfolding wrapped
exact_where_it_fits points f = mod64_to_z (exact points) f

-- the two differ by a multiple of 2^64
pub same_modulo_2^64 : (points : List Point) → mod64 (reported points) ≡ mod64 (exact points)
unfolding wrapped
same_modulo_2^64 points =
    let f : Fits w64 (mod64 (exact points)) = record { fits = mod64_lt (exact points) } in
    mod64_of_z (to_z w64 (mod64 (exact points))) (sfits_to_z f) ∙ of_z-to_z f
