-- `millimetres::inner::steps` meets its contract: the product is exact, and half of the next number up is the nearest.
use Rattle.std.proofs.Common.{◌≡◌, ℕ, ◌+◌, ◌/◌, true, T, sym, ap, ◌∙◌, subst, arith}
use lib.Ieee.{Float, binary64, fits}
use Rattle.millimetres.specs.inside.Small.{Small}
use Rattle.millimetres.proofs.ProductLaws.{Cut, product_cut}
use Rattle.millimetres.proofs.inner.steps.Goals as goal

cut : (v : Float) → fits binary64 v ≡ true → Small v → Cut v
cut v e h = product_cut v (subst T (sym e) tt) h

pub truncating_f64_to_u64-requires : goal.truncating_f64_to_u64-requires
truncating_f64_to_u64-requires c = record { lower_bound = (cut _ c.well_formed.0.1 c.requires).above; upper_bound = (cut _ c.well_formed.0.1 c.requires).below }

pub overflow_add-result : goal.overflow_add-result
overflow_add-result c = omega (arith, c.truncating_f64_to_u64.ensures, (cut _ c.well_formed.0.1 c.requires).few)

pub returns : goal.returns
returns c = ap (λ (x : ℕ). (x + 1) / 2) c.truncating_f64_to_u64.ensures ∙ (cut _ c.well_formed.0.1 c.requires).rounds
