-- A point's two coordinates that are handed on by value arrive as they were.
use mathlib.Core.Path.{◌≡◌, ap, ◌∙◌}
use lib.IntN.{ℤ}
use mir.Syntax.{w32}
use mir.Val.{SFits, to_z, of_z}
use mir.Facts.{to_z-of_z}

pub handed_on : {A : Type 0} (f : ℤ → ℤ → A) {x y : ℤ} → SFits w32 x → SFits w32 y → f (to_z w32 (of_z w32 x)) (to_z w32 (of_z w32 y)) ≡ f x y
handed_on f {x} {y} x_Fits y-fits = ap (λ (z : ℤ). f z (to_z w32 (of_z w32 y))) (to_z-of_z x_Fits) ∙ ap (f x) (to_z-of_z y-fits)
