-- The extent of points on the grid is on the grid, and its sizes are small.
use mathlib.Core.Path.{◌≡◌, refl, sym, ◌∙◌, ap, ap₂}
use mathlib.Core.Bool.{Bool, true, false, cond}
use mathlib.Core.List.{List}
use Prim.Native.Nat.{ℕ, ◌+◌, ◌/◌, ◌≤◌, ◌<◌}
use native.Mathlib.Omega.{arith}
use lib.Dec.{ltb}
use lib.ListN.{drop}
use lib.IntN.{ℤ, nat_abs, ◌-ℤ◌}
use lib.Signed.{lt_z}
use mir.Syntax.{w64}
use mir.Val.{to_z, of_z}
use Rattle.std.specs.Int.{int_min, int_max}
use Rattle.integers.proofs.Bound.{back}
use Rattle.integers.proofs.Logic.{and_both}
use Rattle.grid.specs.declared.Point.{Point}
use Rattle.grid.specs.Limits.{limit, on_grid}
use Rattle.grid.specs.Points.{at, on, origin, points}
use Rattle.grid.specs.Domain.{Contour}
use Rattle.grid.proofs.PointLaws.{x_on, y_on, at_on, gap_in}
use Rattle.grid.proofs.RowLaws.{points_more, points_done}
use Rattle.picture.specs.declared.inner.frame.Extent.{Extent}
use Rattle.picture.specs.Frame.{lesser, greater, widened, widened_by, extent, sizes_by, sizes}
use Rattle.picture.specs.inside.Parts.{On, Small}

-- one of two coordinates on the grid is on it
either_on : (b : Bool) (u v : ℤ) → on_grid limit u ≡ true → on_grid limit v ≡ true → on_grid limit (elim b [ true ↦ u | false ↦ v ]) ≡ true
either_on true u v p q = p
either_on false u v p q = q

-- the lesser and the greater of two coordinates, as std has them
module _ {a b : ℤ} (p q : ℤ) (f : a ≡ p) (g : b ≡ q) (r : ℤ) where
  pub lesser_is : r ≡ int_min b a → r ≡ lesser p q
  lesser_is e = e ∙ go (lt_z a b) ∙ ap₂ lesser f g
    where
      go : (t : Bool) → cond t a b ≡ elim t [ true ↦ a | false ↦ b ]
      go true = refl
      go false = refl

  pub greater_is : r ≡ int_max b a → r ≡ greater p q
  greater_is e = e ∙ go (lt_z a b) ∙ ap₂ greater f g
    where
      go : (t : Bool) → cond t b a ≡ elim t [ true ↦ b | false ↦ a ]
      go true = refl
      go false = refl

pub widened_on : (e : Extent) (p : Point) → On e → on limit p ≡ true → On (widened e p)
widened_on e p o q =
    let x = x_on limit p q in
    let y = y_on limit p q in
    let l = o.0 in
    let h = o.1 in (
      and_both _ _ (either_on (lt_z p.x e.low.x) _ _ x (x_on limit _ l)) (either_on (lt_z p.y e.low.y) _ _ y (y_on limit _ l)),
      and_both _ _ (either_on (lt_z p.x e.high.x) _ _ (x_on limit _ h) x) (either_on (lt_z p.y e.high.y) _ _ (y_on limit _ h) y),
    )

pub origin_on : on limit origin ≡ true
unfolding limit on_grid
origin_on = refl

-- the extent of the points before position i, which those behind it make that of all
pub record Widening (row : List ℤ) (n : ℕ) (e : Extent) (i : ℕ) : Type 0 where
  pub high : i ≤ n
  pub is : widened_by e (drop i (points row)) ≡ extent (points row)
  pub on : On e

module _ {row : List ℤ} {n : ℕ} (c : Contour row n) where
  pub widening_none : n ≡ 0 → extent (points row) ≡ record { low = origin; high = origin }
  unfolding extent
  widening_none z = ap extent (points_done c 0 (sym z))

  pub widening_first : 0 < n → Widening row n (record { low = at row 0; high = at row 0 }) 1
  unfolding extent
  widening_first h = record {
    high = omega arith;
    is = sym (ap extent (points_more c 0 h));
    on = (at_on limit row 0 c.on, at_on limit row 0 c.on);
  }

  module _ {e : Extent} {i : ℕ} (x : Widening row n e i) where
    pub widening_more : i < n → Widening row n (widened e (at row i)) (i + 1)
    unfolding widened_by
    widening_more h = record {
      high = omega arith;
      is = sym (ap (widened_by e) (points_more c i h)) ∙ x.is;
      on = widened_on e (at row i) x.on (at_on limit row i c.on);
    }

    pub widening_all : n ≤ i → e ≡ extent (points row)
    unfolding widened_by
    widening_all h = sym (ap (widened_by e) (points_done c i (omega (arith, x.high)))) ∙ x.is

-- two coordinates are no further apart than the grid is wide
apart : (u v : ℤ) → on_grid limit u ≡ true → on_grid limit v ≡ true → nat_abs (v -ℤ u) ≤ 2147483646
unfolding limit
apart u v p q = omega (arith, (gap_in limit u v p q).abs)

-- how far apart they are, as it is handed on
pub apart_back : (u v r : ℤ) → on_grid limit u ≡ true → on_grid limit v ≡ true → r ≡ v -ℤ u → to_z w64 (of_z w64 r) ≡ v -ℤ u
unfolding limit
apart_back u v r p q e = ap (λ (z : ℤ). to_z w64 (of_z w64 z)) e ∙ back w64 (gap_in limit u v p q) tt

pub small : (w h : ℕ) → w ≤ 2147483646 → h ≤ 2147483646 → Small (sizes_by w h)
small w h p q = record { wide = p; high = q; letters = go (ltb w h) }
  where
    go : (b : Bool) → elim b [ true ↦ h | false ↦ w ] / 40 + 1 ≤ 53687092
    go true = omega arith
    go false = omega arith

pub sizes_small : (e : Extent) → On e → Small (sizes e)
sizes_small e o =
    small _ _ (apart e.low.x e.high.x (x_on limit _ o.0) (x_on limit _ o.1))
    (apart e.low.y e.high.y (y_on limit _ o.0) (y_on limit _ o.1))
