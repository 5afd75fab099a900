-- The verdicts as a whole.
use mathlib.Core.Path.{◌≡◌, sym, ap}
use mathlib.Core.Bool.{Bool, false, not, ◌&&◌}
use mathlib.Core.List.{List}
use Prim.Native.Nat.{◌<◌, ◌≤◌}
use native.Mathlib.Omega.{arith}
use lib.ListN.{length}
use lib.IntN.{ℤ}
use borrow.Author.Tests.{le-leb, lt-leb}
use Rattle.grid.specs.Points.{points}
use Rattle.grid.specs.Corners.{distinct_neighbours, corners, some, aligned_at}
use Rattle.grid.specs.Domain.{count}
use Rattle.grid.proofs.RowLaws.{points_count}
use Rattle.ring.specs.declared.Rule.{Rule}
use Rattle.ring.specs.declared.Rule.TheVariants.{Collinear, Spike}
use Rattle.ring.specs.Rule.{goes_at}
use Rattle.clean.specs.Verdicts.{is_simple, spike_free_distinct, no_spikes, passes}

module _ (row : List ℤ) where
  pub simple_many : 3 ≤ count row → not (some (goes_at Collinear) (corners (points row))) ≡ is_simple (points row)
  unfolding is_simple goes_at
  simple_many h = sym (ap (λ (t : Bool). t && not (some aligned_at (corners (points row)))) (le-leb 3 (length (points row)) (omega (arith, points_count row))))

  pub simple_few : count row < 3 → false ≡ is_simple (points row)
  unfolding is_simple
  simple_few h = sym (ap (λ (t : Bool). t && not (some aligned_at (corners (points row)))) (lt-leb 3 (length (points row)) (omega (arith, points_count row))))

  pub spikes_few : count row < 3 → false ≡ no_spikes (points row)
  unfolding no_spikes
  spikes_few h = sym (ap (λ (t : Bool). t && spike_free_distinct (distinct_neighbours (points row))) (lt-leb 3 (length (points row)) (omega (arith, points_count row))))

  pub spikes_many : 3 ≤ count row → spike_free_distinct (distinct_neighbours (points row)) ≡ no_spikes (points row)
  unfolding no_spikes
  spikes_many h = sym (ap (λ (t : Bool). t && spike_free_distinct (distinct_neighbours (points row))) (le-leb 3 (length (points row)) (omega (arith, points_count row))))

  -- by either rule
  pub passes_few : (rule : Rule) → count row < 3 → false ≡ passes rule (points row)
  passes_few Collinear h = simple_few h
  passes_few Spike h = spikes_few h
