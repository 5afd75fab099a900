-- What is told the same of a contour from every start, and of a row that is started elsewhere.
use mathlib.Core.Path.{◌≡◌, ◌∙◌, ap, ap₂}
use mathlib.Core.Bool.{Bool, not, ◌&&◌, ◌||◌}
use mathlib.Core.List.{List}
use Prim.Native.Nat.{ℕ, ◌*◌}
use lib.Dec.{leb}
use lib.ListN.{length, take, drop, take-append-drop}
use lib.IntN.{ℤ}
use Rattle.grid.specs.declared.Point.{Point}
use Rattle.grid.specs.Points.{points}
use Rattle.grid.specs.Corners.{left_at, right_at, aligned_at, reverses_at}
use Rattle.grid.specs.Domain.{count}
use Rattle.grid.proofs.Round.{AnyStart}
use Rattle.grid.proofs.StartLaws.{length_any_start, some_any_start, distinct_any_start}
use Rattle.path.specs.Convex.{convex_distinct, is_convex}
use Rattle.clean.specs.Verdicts.{is_simple, spike_free_distinct, no_spikes}
use Rattle.turned.specs.Starts.{started_at}
use Rattle.motion.proofs.Rows.{started_points}

pub simple_any_start : AnyStart is_simple
unfolding is_simple
simple_any_start l m = ap₂ (λ (n : ℕ) (t : Bool). leb 3 n && not t) (length_any_start l m) (some_any_start aligned_at l m)

spike_free_any_start : AnyStart spike_free_distinct
unfolding spike_free_distinct
spike_free_any_start l m = ap₂ (λ (n : ℕ) (t : Bool). leb 3 n && not t) (length_any_start l m) (some_any_start reverses_at l m)

pub no_spikes_any_start : AnyStart no_spikes
unfolding no_spikes
no_spikes_any_start l m = ap₂ (λ (n : ℕ) (t : Bool). leb 3 n && t) (length_any_start l m) (distinct_any_start spike_free_distinct spike_free_any_start l m)

convex_distinct_any_start : AnyStart convex_distinct
unfolding convex_distinct
convex_distinct_any_start l m = rw (length_any_start l m, some_any_start left_at l m, some_any_start right_at l m, some_any_start reverses_at l m)

pub convex_any_start : AnyStart is_convex
unfolding is_convex
convex_any_start l m = ap₂ (λ (n : ℕ) (t : Bool). leb n 2 || t) (length_any_start l m) (distinct_any_start convex_distinct convex_distinct_any_start l m)

pub from_start : {X : Type 0} (f : List Point → X) → AnyStart f → (k : ℕ) (row : List ℤ) → length row ≡ 2 * count row → f (points (started_at k row)) ≡ f (points row)
from_start f any k row h = ap f (started_points k row h) ∙ any (take k (points row)) (drop k (points row)) ∙ ap f (take-append-drop k (points row))
