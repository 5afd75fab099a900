-- Along a contour's edges: those not still are the edges between the points that are left without equal neighbours.
use Rattle.std.proofs.Common.{◌≡◌, ℕ, zero, suc, ◌+◌, ◌-◌, ◌<◌, ◌≤◌, Bool, true, false, List, [], ◌∷◌, length, drop, ℤ, sym, refl, ap, ◌∙◌, add-one, arith}
use Rattle.grid.specs.declared.Point.{Point}
use Rattle.grid.specs.declared.Edge.{Edge}
use Rattle.grid.specs.Limits.{limit}
use Rattle.grid.specs.Points.{at, on, same, points}
use Rattle.grid.specs.Edges.{between, still}
use Rattle.grid.specs.Corners.{differing, distinct_neighbours, Corner, corners_from, corners, some}
use Rattle.grid.specs.Domain.{Contour}
use Rattle.grid.specs.inside.Edges.{Short}
use Rattle.grid.specs.inside.Rows.{FirstOther}
use Rattle.grid.proofs.PointLaws.{at_on}
use Rattle.grid.proofs.RowLaws.{points_more, points_done}
use Rattle.grid.proofs.CornerLaws.{same_is, differing_skip, differing_keep, last_kept, last_from, distinct_is}
use Rattle.grid.proofs.AroundLaws.{Tally}
use Rattle.grid.proofs.EdgeLaws.{corner_short, same_before}

module _ (row : List ℤ) where
  -- the contour without equal neighbours
  abbrev pub distinct_points : List Point
  distinct_points = distinct_neighbours (points row)

  -- kept points were met up to position i - 1, the last of them b, to which one edge leads from the one before it, a
  pub record Along (n : ℕ) (a b : Point) (to : Edge) (kept i : ℕ) : Type 0 where
    pub low : 1 ≤ i
    pub within : i ≤ n
    pub few : kept ≤ i
    pub a_on : on limit a ≡ true
    pub here : b ≡ at row (i - 1)
    pub to_is : to ≡ between a b
    pub counted : length distinct_points ≡ kept + length (differing b (drop i (points row)))

  module _ {n : ℕ} (c : Contour row n) where
    -- the points before the first other are skipped
    skipped : (first : ℕ) → FirstOther row n first → (i : ℕ) → i ≤ first → differing (at row (n - 1)) (points row) ≡ differing (at row (n - 1)) (drop i (points row))
    skipped first x zero h = refl
    skipped first x (suc i) h =
        let l : i < n = omega (arith, x.within) in
        skipped first x i (omega arith) ∙ ap (differing (at row (n - 1))) (points_more c i l)
        ∙ differing_skip (at row (n - 1)) (at row i) (drop (i + 1) (points row)) (x.equal i (omega arith))
        ∙ ap (λ (k : ℕ). differing (at row (n - 1)) (drop k (points row))) (add-one i)

    pub none_distinct : FirstOther row n n → 0 < n → distinct_points ≡ []
    unfolding differing
    none_distinct x h = distinct_is c h ∙ skipped n x n (omega arith) ∙ ap (differing (at row (n - 1))) (points_done c n refl)

    module _ (first : ℕ) (x : FirstOther row n first) (h : first < n) where
      starts_with : distinct_points ≡ at row first ∷ differing (at row first) (drop (first + 1) (points row))
      starts_with =
          distinct_is c (omega arith) ∙ skipped first x first (omega arith) ∙ ap (differing (at row (n - 1))) (points_more c first h)
          ∙ differing_keep (at row (n - 1)) (at row first) (drop (first + 1) (points row)) (x.differs h)

      pub along_start : (closing : Edge) → closing ≡ between (at row (n - 1)) (at row first) → Along n (at row (n - 1)) (at row first) closing 1 (first + 1)
      along_start closing e = record {
        low = omega arith;
        within = omega arith;
        few = omega arith;
        a_on = at_on limit row (n - 1) c.on;
        here = let back : first ≡ first + 1 - 1 = omega arith in ap (at row) back;
        to_is = e;
        counted = ap length starts_with ∙ omega arith;
      }

      pub tally_start : (t : Corner → Bool) → Tally t false distinct_points (at row first) (at row (n - 1)) (at row first) (differing (at row first) (drop (first + 1) (points row)))
      unfolding corners
      tally_start t = record {
        is =
            let o = at row first in
            let rest = drop (first + 1) (points row) in
            let e : first + suc (n - suc first) ≡ n = omega arith in
            ap (some t) (ap corners starts_with ∙ ap (λ (p : Point). corners_from o p o (differing o rest)) (last_kept o rest ∙ last_from c (n - suc first) first e));
      }

    module _ {a b : Point} {to : Edge} {kept i : ℕ} (w : Along n a b to kept i) where
      b_on : on limit b ≡ true
      b_on = rw w.here (at_on limit row (i - 1) c.on)

      -- the next edge, to position j, leads from b
      module _ (j : ℕ) {from : Edge} (e : from ≡ between (at row (i - 1)) (at row j)) where
        pub next_from : from ≡ between b (at row j)
        next_from = rw w.here e

        pub next_short : Short limit to from
        next_short = rw (w.to_is, next_from) (corner_short limit a b (at row j) w.a_on b_on (at_on limit row j c.on))

      module _ (l : i < n) {from : Edge} (e : from ≡ between (at row (i - 1)) (at row i)) where
        moves : {t : Bool} → still from ≡ t → same (at row i) b ≡ t
        moves f = same_before b (at row i) ∙ ap still (sym (next_from i e)) ∙ f

        -- where it is still, nothing is left of its point
        pub next_skipped : still from ≡ true → differing b (drop i (points row)) ≡ differing b (drop (i + 1) (points row))
        next_skipped f = ap (differing b) (points_more c i l) ∙ differing_skip b (at row i) (drop (i + 1) (points row)) (moves f)

        pub along_skipped : still from ≡ true → Along n a b to kept (i + 1)
        along_skipped f = record {
          low = omega arith;
          within = omega arith;
          few = omega (arith, w.few);
          a_on = w.a_on;
          here = let back : i ≡ i + 1 - 1 = omega arith in sym (same_is (at row i) b (moves f)) ∙ ap (at row) back;
          to_is = w.to_is;
          counted = w.counted ∙ ap (λ (p : List Point). kept + length p) (next_skipped f);
        }

        -- where it is not, its point is the next that is left
        pub next_kept : still from ≡ false → differing b (drop i (points row)) ≡ at row i ∷ differing (at row i) (drop (i + 1) (points row))
        next_kept f = ap (differing b) (points_more c i l) ∙ differing_keep b (at row i) (drop (i + 1) (points row)) (moves f)

        pub along_kept : still from ≡ false → Along n b (at row i) from (kept + 1) (i + 1)
        along_kept f = record {
          low = omega arith;
          within = omega arith;
          few = omega (arith, w.few);
          a_on = b_on;
          here = let back : i ≡ i + 1 - 1 = omega arith in ap (at row) back;
          to_is = next_from i e;
          counted = w.counted ∙ ap (λ (p : List Point). kept + length p) (next_kept f) ∙ omega arith;
        }

      module _ (l : n ≤ i) where
        at_last : i ≡ n
        at_last = omega (arith, w.within)

        -- the edge from the last position to j leads from b
        pub closing_next : (j : ℕ) {closing : Edge} → closing ≡ between (at row (n - 1)) (at row j) → closing ≡ between (at row (i - 1)) (at row j)
        closing_next j e = rw at_last e

        pub along_none : differing b (drop i (points row)) ≡ []
        unfolding differing
        along_none = ap (differing b) (points_done c i at_last)

        pub along_count : length distinct_points ≡ kept
        along_count = w.counted ∙ ap (λ (p : List Point). kept + length p) along_none ∙ omega arith
