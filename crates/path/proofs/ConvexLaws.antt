-- What has been seen of the corners, and the question as a whole.
use mathlib.Core.Path.{◌≡◌, refl, sym, ◌∙◌, ap, ap₂}
use mathlib.Core.Bool.{Bool, true, false, ◌&&◌, ◌||◌, or-true, or-false, true≢false}
use mathlib.Core.List.{List, []}
use Prim.Native.Nat.{ℕ, ◌+◌, ◌-◌, ◌<◌, ◌≤◌}
use native.Mathlib.Omega.{arith}
use native.Mathlib.Decide.{dec_le}
use lib.Dec.{leb}
use lib.ListN.{length, drop}
use lib.IntN.{ℤ, pos}
use lib.Signed.{lt_z}
use borrow.Author.Tests.{le-leb, lt-leb}
use Rattle.integers.specs.Equal.{eq_z}
use Rattle.integers.proofs.Logic.{and_left, and_right}
use Rattle.grid.specs.declared.Point.{Point}
use Rattle.grid.specs.declared.Edge.{Edge}
use Rattle.grid.specs.Points.{at, points}
use Rattle.grid.specs.Edges.{between, still, cross, turn, aligned, backward}
use Rattle.grid.specs.Corners.{differing, corners, some, left_at, right_at, reverses_at}
use Rattle.grid.specs.Domain.{count, Contour}
use Rattle.grid.specs.inside.Rows.{FirstOther}
use Rattle.grid.proofs.SignLaws.{sign_left, sign_right, sign_none, sign_zero}
use Rattle.grid.proofs.RowLaws.{points_count}
use Rattle.grid.proofs.CornerLaws.{few_turn_nowhere}
use Rattle.grid.proofs.AroundLaws.{corner, Tally, tally_more, tally_met, tally_all}
use Rattle.grid.proofs.EdgeLaws.{moving}
use Rattle.grid.proofs.AlongLaws.{distinct_points, Along, along_start, tally_start, next_from, next_skipped, along_skipped, next_kept, along_kept, closing_next, along_none, along_count}
use Rattle.path.specs.declared.inner.Seen.{Seen}
use Rattle.path.specs.Convex.{one_way, convex_distinct, is_convex}
use Rattle.path.specs.inside.Convex.{looked, one_sided}

-- two edges have cross 0 where the way does not turn
aligned_turn : (u v : Edge) → aligned u v ≡ eq_z (turn u v) (pos 0)
aligned_turn u v = sign_zero (cross u v)

-- one corner more
module _ (s : Seen) (u v : Edge) where
  looked_left : lt_z (pos 0) (turn u v) ≡ true → record { left = true; right = s.right; reversed = s.reversed } ≡ looked s u v
  looked_left t = simp (aligned_turn u v, sign_left (cross u v) t, or-true, or-false)

  looked_right : lt_z (turn u v) (pos 0) ≡ true → record { left = s.left; right = true; reversed = s.reversed } ≡ looked s u v
  looked_right t = simp (aligned_turn u v, sign_right (cross u v) t, or-true, or-false)

  looked_none : (r : Bool) → lt_z (pos 0) (turn u v) ≡ false → lt_z (turn u v) (pos 0) ≡ false → r ≡ backward u v
      → record { left = s.left; right = s.right; reversed = s.reversed || r } ≡ looked s u v
  looked_none r t f e = simp (aligned_turn u v, sign_none (cross u v) t f, or-false, e)

-- what the two edges at a corner show is what the corner shows
looked_corner : (s : Seen) {u v : Edge} (a b p : Point) → u ≡ between a b → v ≡ between b p → looked s u v ≡ record {
  left = s.left || left_at (corner a b p);
  right = s.right || right_at (corner a b p);
  reversed = s.reversed || reverses_at (corner a b p);
}
looked_corner s a b p e f = ap₂ (looked s) e f

module _ (row : List ℤ) where
  -- what the corners up to the last point kept have shown
  pub record Sight (n : ℕ) (s : Seen) (first : ℕ) (to : Edge) (kept i : ℕ) : Type 0 where
    pub a : Point
    pub b : Point
    pub along : Along row n a b to kept i
    pub lefts : Tally left_at s.left (distinct_points row) (at row first) a b (differing b (drop i (points row)))
    pub rights : Tally right_at s.right (distinct_points row) (at row first) a b (differing b (drop i (points row)))
    pub reversals : Tally reverses_at s.reversed (distinct_points row) (at row first) a b (differing b (drop i (points row)))

  module _ {n : ℕ} (c : Contour row n) where
    pub sight_start : (first : ℕ) → FirstOther row n first → first < n → (closing : Edge) → closing ≡ between (at row (n - 1)) (at row first)
        → Sight n (record { left = false; right = false; reversed = false }) first closing 1 (first + 1)
    sight_start first x h closing e = record {
      a = at row (n - 1);
      b = at row first;
      along = along_start row c first x h closing e;
      lefts = tally_start row c first x h left_at;
      rights = tally_start row c first x h right_at;
      reversals = tally_start row c first x h reverses_at;
    }

    module _ {s : Seen} {first : ℕ} {to : Edge} {kept i : ℕ} (w : Sight n s first to kept i) where
      module _ (l : i < n) {from : Edge} (e : from ≡ between (at row (i - 1)) (at row i)) where
        pub sight_skip : still from ≡ true → Sight n s first to kept (i + 1)
        sight_skip f =
            let r = next_skipped row c w.along l e f in
            record { a = w.a; b = w.b; along = along_skipped row c w.along l e f; lefts = rw r at w.lefts; rights = rw r at w.rights; reversals = rw r at w.reversals }

        sight_keep : still from ≡ false → Sight n (looked s to from) first from (kept + 1) (i + 1)
        sight_keep f =
            let r = next_kept row c w.along l e f in
            rw (looked_corner s w.a w.b (at row i) w.along.to_is (next_from row c w.along i e))
            (record {
              a = w.b;
              b = at row i;
              along = along_kept row c w.along l e f;
              lefts = tally_more (rw r at w.lefts);
              rights = tally_more (rw r at w.rights);
              reversals = tally_more (rw r at w.reversals);
            })

        pub sight_left : lt_z (pos 0) (turn to from) ≡ true → Sight n (record { left = true; right = s.right; reversed = s.reversed }) first from (kept + 1) (i + 1)
        sight_left t =
            let p = aligned_turn to from ∙ ap (λ (z : ℤ). eq_z z (pos 0)) (sign_left (cross to from) t) in
            rw (looked_left s to from t) (sight_keep (moving to from p))

        pub sight_right : lt_z (turn to from) (pos 0) ≡ true → Sight n (record { left = s.left; right = true; reversed = s.reversed }) first from (kept + 1) (i + 1)
        sight_right t =
            let p = aligned_turn to from ∙ ap (λ (z : ℤ). eq_z z (pos 0)) (sign_right (cross to from) t) in
            rw (looked_right s to from t) (sight_keep (moving to from p))

        pub sight_on : lt_z (pos 0) (turn to from) ≡ false → lt_z (turn to from) (pos 0) ≡ false → still from ≡ false → (r : Bool) → r ≡ backward to from
            → Sight n (record { left = s.left; right = s.right; reversed = s.reversed || r }) first from (kept + 1) (i + 1)
        sight_on t u f r e = rw (looked_none s to from r t u e) (sight_keep f)

      -- both ways have been seen, which two points or fewer cannot show
      pub both_ways : (s.left && s.right) ≡ true → false ≡ convex_distinct (distinct_points row)
      unfolding convex_distinct
      both_ways e =
          let p = tally_met w.lefts (and_left s.left s.right e) in
          let q = tally_met w.rights (and_right s.left s.right e) in
          rw (many p, p, q)
        where
          many : some left_at (corners (distinct_points row)) ≡ true → leb (length (distinct_points row)) 2 ≡ false
          many p = go (dec_le (length (distinct_points row)) 2)
            where
              go : Dec (length (distinct_points row) ≤ 2) → leb (length (distinct_points row)) 2 ≡ false
              go (yes h) = absurd (true≢false (sym p ∙ few_turn_nowhere (pos 1) refl (distinct_points row) h))
              go (no h) = lt-leb (length (distinct_points row)) 2 (omega arith)

      module _ (l : n ≤ i) where
        pub few_distinct : kept ≤ 2 → true ≡ convex_distinct (distinct_points row)
        unfolding convex_distinct
        few_distinct h = sym (ap (λ (t : Bool). t || one_way (corners (distinct_points row))) (le-leb (length (distinct_points row)) 2 (omega (arith, along_count row c w.along l))))

        pub closed : {closing : Edge} → closing ≡ between (at row (n - 1)) (at row first) → 2 < kept → one_sided (looked s to closing) ≡ convex_distinct (distinct_points row)
        unfolding convex_distinct
        closed e h =
            let none = along_none row c w.along l in
            let m = lt-leb (length (distinct_points row)) 2 (omega (arith, along_count row c w.along l)) in
            let k = looked_corner s w.a w.b (at row first) w.along.to_is (next_from row c w.along first (closing_next row c w.along l first e)) in
            ap one_sided k ∙ rw m (sym (rw (tally_all (rw none at w.lefts), tally_all (rw none at w.rights), tally_all (rw none at w.reversals))))

-- the question as a whole
module _ (row : List ℤ) where
  pub convex_few : count row ≤ 2 → true ≡ is_convex (points row)
  unfolding is_convex
  convex_few h = sym (ap (λ (t : Bool). t || convex_distinct (distinct_points row)) (le-leb (length (points row)) 2 (omega (arith, points_count row))))

  pub convex_many : 2 < count row → convex_distinct (distinct_points row) ≡ is_convex (points row)
  unfolding is_convex
  convex_many h = sym (ap (λ (t : Bool). t || convex_distinct (distinct_points row)) (lt-leb (length (points row)) 2 (omega (arith, points_count row))))

  pub convex_nothing : distinct_points row ≡ [] → true ≡ convex_distinct (distinct_points row)
  unfolding convex_distinct
  convex_nothing e = sym (ap convex_distinct e)
