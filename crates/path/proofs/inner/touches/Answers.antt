-- `path::inner::touches` meets its contract: p lies between the ends and on their line, or not.
use Rattle.std.proofs.Common.{◌≡◌, ℤ, Bool, true, false, ◌&&◌, sym, ◌∙◌, ap₂, w32, to_z, of_z}
use mathlib.Core.Bool.{true≢false}
use Rattle.grid.specs.declared.Point.{Point}
use Rattle.grid.specs.Limits.{limit, on_grid}
use Rattle.grid.specs.Points.{on}
use Rattle.grid.specs.Edges.{between, aligned}
use Rattle.grid.proofs.LimitLaws.{on_grid_back}
use Rattle.grid.proofs.PointLaws.{x_on, y_on}
use Rattle.grid.proofs.EdgeLaws.{edges_short}
use Rattle.path.specs.Locate.{amid}
use Rattle.path.proofs.OnEdge.{what_is_tested}
use Rattle.path.proofs.inner.touches.Goals as goal
use Rattle.path.proofs.inner.touches.Goals.{then-amid, else-amid}

-- coordinates, as they are passed on
passed : (a b z : ℤ) → on_grid limit a ≡ true → on_grid limit b ≡ true → on_grid limit z ≡ true → amid (to_z w32 (of_z w32 a)) (to_z w32 (of_z w32 b)) (to_z w32 (of_z w32 z)) ≡ amid a b z
passed a b z e f g = rw (on_grid_back a e, on_grid_back b f, on_grid_back z g)

module _ (p a b : Point) (e : on limit p ≡ true) (f : on limit a ≡ true) (g : on limit b ≡ true) where
  -- p lies between the ends, down and across
  down : (r : Bool) → r ≡ amid (to_z w32 (of_z w32 a.y)) (to_z w32 (of_z w32 b.y)) (to_z w32 (of_z w32 p.y)) → amid a.y b.y p.y ≡ r
  down r h = sym (h ∙ passed a.y b.y p.y (y_on limit a f) (y_on limit b g) (y_on limit p e))

  across : (r : Bool) → r ≡ amid (to_z w32 (of_z w32 a.x)) (to_z w32 (of_z w32 b.x)) (to_z w32 (of_z w32 p.x)) → amid a.x b.x p.x ≡ r
  across r h = sym (h ∙ passed a.x b.x p.x (x_on limit a f) (x_on limit b g) (x_on limit p e))

-- the three tests, one after the other
all : (s t u : Bool) → s ≡ true → t ≡ true → u ≡ (s && (t && u))
all s t u h i = rw (h, i)

not_down : (s t u : Bool) → s ≡ false → false ≡ (s && (t && u))
not_down s t u h = rw h

not_across : (s t u : Bool) → s ≡ true → t ≡ false → false ≡ (s && (t && u))
not_across s t u h i = rw (h, i)

pub aligned-requires : goal.aligned-requires
aligned-requires c =
    rw (c.between.ensures, c.between-then-amid-2.ensures) (edges_short limit c.args.a c.args.b c.args.a c.args.p c.requires.1 c.requires.2 c.requires.1 c.requires.0)

pub returns-then-amid-2 : goal.returns-then-amid-2
returns-then-amid-2 c =
    let s = c.args in
    let r = c.requires in
    elim c.if-amid.branch [
      | then-amid w ↦
          c.aligned.ensures ∙ ap₂ aligned c.between.ensures c.between-then-amid-2.ensures
          ∙ all _ _ (aligned (between s.a s.b) (between s.a s.p)) (down s.p s.a s.b r.0 r.1 r.2 _ c.amid.ensures ∙ w.if-amid.true)
          (across s.p s.a s.b r.0 r.1 r.2 _ w.amid-then-amid.ensures ∙ sym w.value-is ∙ c.if-amid-2.true)
          ∙ what_is_tested s.p s.a s.b
      | else-amid w ↦ absurd (true≢false (sym c.if-amid-2.true ∙ w.value-is ∙ w.if-amid.false))
    ]

pub returns-else-amid-2 : goal.returns-else-amid-2
returns-else-amid-2 c =
    let s = c.args in
    let r = c.requires in
    elim c.if-amid.branch [
      | then-amid w ↦
          c.if-amid-2.false
          ∙ not_across _ _ (aligned (between s.a s.b) (between s.a s.p)) (down s.p s.a s.b r.0 r.1 r.2 _ c.amid.ensures ∙ w.if-amid.true)
          (across s.p s.a s.b r.0 r.1 r.2 _ w.amid-then-amid.ensures ∙ sym w.value-is ∙ c.if-amid-2.false)
          ∙ what_is_tested s.p s.a s.b
      | else-amid w ↦
          c.if-amid-2.false
          ∙ not_down _ (amid s.a.x s.b.x s.p.x) (aligned (between s.a s.b) (between s.a s.p)) (down s.p s.a s.b r.0 r.1 r.2 _ c.amid.ensures ∙ w.if-amid.false)
          ∙ what_is_tested s.p s.a s.b
    ]
