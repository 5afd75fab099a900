-- What the inner functions ask of their callers.
use Rattle.std.specs.Prelude.{◌≡◌, ◌*◌, ◌<◌, true, Float}
use Rattle.std.specs.Float.{nan, inf, fin}
use Rattle.std.specs.Float.Ieee.{up, down}

-- finite, not below 0 unless it is -0.0, and below 2^20
abbrev pub Small : Float → Type 0
Small nan = ⊥
Small (inf s) = ⊥
Small (fin s m e) = (s ≡ true → m ≡ 0) × (m * up e < 1048576 * down e)
