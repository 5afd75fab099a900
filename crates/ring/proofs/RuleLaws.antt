-- What either rule says of a vertex, test by test; and a vertex that goes has cross 0.
use mathlib.Core.Path.{◌≡◌, refl, sym, ◌∙◌, ap, ap₂}
use mathlib.Core.Bool.{Bool, true, false, ◌||◌}
use lib.IntN.{pos}
use Rattle.integers.proofs.Equal.{eq_z_true}
use Rattle.integers.proofs.Logic.{and_left}
use Rattle.grid.specs.declared.Point.{Point}
use Rattle.grid.specs.declared.Edge.{Edge}
use Rattle.grid.specs.Points.{same}
use Rattle.grid.specs.Edges.{between, still, aligned, backward}
use Rattle.grid.specs.Corners.{Corner, edge_to, edge_from, cross_at, aligned_at, reverses_at}
use Rattle.grid.proofs.AroundLaws.{corner}
use Rattle.grid.proofs.EdgeLaws.{moving, moving_before, still_to, still_from, same_before, same_after}
use Rattle.ring.specs.declared.Rule.{Rule}
use Rattle.ring.specs.declared.Rule.TheVariants.{Collinear, Spike}
use Rattle.ring.specs.Rule.{goes_at, CrossZero, goes_along}

module _ (rule : Rule) (u v : Edge) where
  -- where the way turns the vertex stays
  pub along_turning : aligned u v ≡ false → false ≡ goes_along rule u v
  unfolding goes_along
  along_turning p = go rule
    where
      go : (r : Rule) → false ≡ goes_along r u v
      go Collinear = sym p
      go Spike = rw (moving_before u v p, moving u v p, p)

  module _ (p : aligned u v ≡ true) where
    pub along_aligned : rule ≡ Collinear → true ≡ goes_along rule u v
    unfolding goes_along
    along_aligned e = rw e (sym p)

    pub along_backward : (r : Bool) → rule ≡ Spike → still u ≡ false → still v ≡ false → r ≡ backward u v → r ≡ goes_along rule u v
    unfolding goes_along
    along_backward r e h i t = rw (e, h, i, p) t

  pub along_to : rule ≡ Spike → still u ≡ true → true ≡ goes_along rule u v
  unfolding goes_along
  along_to e h = rw (e, h)

  pub along_from : rule ≡ Spike → still u ≡ false → still v ≡ true → true ≡ goes_along rule u v
  unfolding goes_along
  along_from e h i = rw (e, h, i)

-- the edges of a corner tell the same as the corner
pub goes_edges : (rule : Rule) (a b c : Point) → goes_at rule (corner a b c) ≡ goes_along rule (between a b) (between b c)
unfolding goes_at goes_along
goes_edges Collinear a b c = refl
goes_edges Spike a b c = ap₂ ◌||◌ (same_before a b) (ap (λ (t : Bool). t || reverses_at (corner a b c)) (same_after b c))

aligned_cross : (k : Corner) → aligned_at k ≡ true → cross_at k ≡ pos 0
aligned_cross k e = eq_z_true (cross_at k) (pos 0) e

-- by either rule a vertex that goes has cross 0
pub goes_cross : (rule : Rule) → CrossZero (goes_at rule)
unfolding goes_at
goes_cross Collinear k e = aligned_cross k e
goes_cross Spike k e = before (same k.vertex k.before) refl e
  where
    after : (t : Bool) → same k.vertex k.after ≡ t → (t || reverses_at k) ≡ true → cross_at k ≡ pos 0
    after true h e = still_from (edge_to k) (edge_from k) (sym (same_after k.vertex k.after) ∙ h)
    after false h e = aligned_cross k (and_left (aligned_at k) (backward (edge_to k) (edge_from k)) e)

    before : (t : Bool) → same k.vertex k.before ≡ t → (t || (same k.vertex k.after || reverses_at k)) ≡ true → cross_at k ≡ pos 0
    before true h e = still_to (edge_to k) (edge_from k) (sym (same_before k.before k.vertex) ∙ h)
    before false h e = after (same k.vertex k.after) refl e
