-- The look along a contour: for spikes among the points that are left without equal neighbours, and for what the verdicts say of the vertices that stand.
use mathlib.Core.Path.{◌≡◌, refl, sym, ◌∙◌, ap, ap₂}
use mathlib.Core.Bool.{Bool, true, false, not, ◌&&◌, ◌||◌, and-false, true≢false}
use mathlib.Core.List.{List, ◌∷◌}
use Prim.Native.Nat.{ℕ, zero, suc, ◌+◌, ◌-◌, ◌<◌, ◌≤◌}
use native.Mathlib.Omega.{arith}
use native.Mathlib.Numerals.{add-one}
use lib.Dec.{leb}
use lib.ListN.{length, drop}
use lib.IntN.{ℤ}
use borrow.Author.Tests.{le-leb, lt-leb, ne_eqb}
use Rattle.integers.proofs.Logic.{or_left, or_right}
use Rattle.grid.specs.declared.Point.{Point}
use Rattle.grid.specs.declared.Edge.{Edge}
use Rattle.grid.specs.Points.{at, points, same}
use Rattle.grid.specs.Edges.{between, still, aligned, backward, reverses}
use Rattle.grid.specs.Corners.{differing, corners, some, reverses_at}
use Rattle.grid.specs.Domain.{Contour}
use Rattle.grid.specs.Boxes.{box}
use Rattle.grid.specs.inside.Rows.{FirstOther}
use Rattle.grid.proofs.RowLaws.{points-length}
use Rattle.grid.proofs.AroundLaws.{corner, Tally, tally_more, tally_past, tally_met, tally_all}
use Rattle.grid.proofs.EdgeLaws.{moving}
use Rattle.grid.proofs.BoxLaws.{box_four}
use Rattle.grid.proofs.AlongLaws.{distinct_points, Along, along_start, tally_start, next_from, next_skipped, along_skipped, next_kept, along_kept, closing_next, along_none, along_count}
use Rattle.ring.specs.declared.Rule.{Rule}
use Rattle.ring.specs.declared.Rule.TheVariants.{Collinear, Spike}
use Rattle.ring.specs.Walk.{fresh, predecessor, to_go}
use Rattle.ring.specs.Rule.{goes, goes_at, goes_along}
use Rattle.ring.specs.inside.Rows.{FirstStand, Standing}
use Rattle.ring.proofs.Filling.{fresh_next, fresh_before, fresh_last}
use Rattle.ring.proofs.RuleLaws.{goes_edges}
use Rattle.ring.proofs.Along.{box_stands}
use Rattle.clean.specs.declared.inner.look.Look.{Look}
use Rattle.clean.specs.Verdicts.{spike_free_distinct, passes}
use Rattle.clean.specs.inside.Looking.{Onward, LookedOver}
use Rattle.clean.proofs.OutcomeLaws.{contour_count}
use Rattle.clean.proofs.VerdictLaws.{simple_many, spikes_many}
use Rattle.clean.proofs.Unchanged.{front_stands, standing_all, stands_simple, stands_spike_free}

module _ (row : List ℤ) where
  pub too_few : length (distinct_points row) < 3 → false ≡ spike_free_distinct (distinct_points row)
  unfolding spike_free_distinct
  too_few h = sym (ap (λ (t : Bool). t && not (some reverses_at (corners (distinct_points row)))) (lt-leb 3 (length (distinct_points row)) h))

  module _ {n first : ℕ} {to : Edge} {kept i : ℕ} where
    -- the way and the corners on it
    pub along : (w : Onward row n first to kept i) → Along row n w.a w.b to kept i
    along w = record { low = w.low; within = w.within; few = w.few; a_on = w.a_on; here = w.here; to_is = w.to_is; counted = w.counted }

    none_met : (w : Onward row n first to kept i) → Tally reverses_at false (distinct_points row) (at row first) w.a w.b (differing w.b (drop i (points row)))
    none_met w = record { is = w.none }

    both : {a b : Point} → first < n → Along row n a b to kept i → Tally reverses_at false (distinct_points row) (at row first) a b (differing b (drop i (points row))) → Onward row n first to kept i
    both {a} {b} h w t = record { a = a; b = b; begins = h; low = w.low; within = w.within; few = w.few; a_on = w.a_on; here = w.here; to_is = w.to_is; counted = w.counted; none = t.is }

  module _ {n : ℕ} (c : Contour row n) where
    pub onward_start : (first : ℕ) → FirstOther row n first → first < n → (closing : Edge) → closing ≡ between (at row (n - 1)) (at row first) → Onward row n first closing 1 (first + 1)
    onward_start first x h closing e = both h (along_start row c first x h closing e) (tally_start row c first x h reverses_at)

    module _ {first : ℕ} {to : Edge} {kept i : ℕ} (w : Onward row n first to kept i) where
      -- the edges tell whether the corner at b is a spike
      spike_told : (j : ℕ) {from : Edge} → from ≡ between (at row (i - 1)) (at row j) → reverses_at (corner w.a w.b (at row j)) ≡ reverses to from
      spike_told j e = sym (ap₂ reverses w.to_is (next_from row c (along w) j e))

      module _ (l : i < n) {from : Edge} (e : from ≡ between (at row (i - 1)) (at row i)) where
        pub onward_skip : still from ≡ true → Onward row n first to kept (i + 1)
        onward_skip f = both w.begins (along_skipped row c (along w) l e f) (rw (next_skipped row c (along w) l e f) at (none_met w))

        spike_next : still from ≡ false → Tally reverses_at false (distinct_points row) (at row first) w.a w.b (at row i ∷ differing (at row i) (drop (i + 1) (points row)))
        spike_next f = rw (next_kept row c (along w) l e f) at (none_met w)

        pub onward_keep : still from ≡ false → reverses to from ≡ false → Onward row n first from (kept + 1) (i + 1)
        onward_keep f g = both w.begins (along_kept row c (along w) l e f) (tally_past (spike_next f) (spike_told i e ∙ g))

        pub onward_turn : aligned to from ≡ false → Onward row n first from (kept + 1) (i + 1)
        onward_turn f = onward_keep (moving to from f) (ap (λ (t : Bool). t && backward to from) f)

        pub onward_on : still from ≡ false → backward to from ≡ false → Onward row n first from (kept + 1) (i + 1)
        onward_on f g = onward_keep f (ap (λ (t : Bool). aligned to from && t) g ∙ and-false (aligned to from))

        pub spike_met : aligned to from ≡ true → still from ≡ false → backward to from ≡ true → false ≡ spike_free_distinct (distinct_points row)
        unfolding spike_free_distinct
        spike_met p f g = sym (rw (tally_met (tally_more (spike_next f)) (spike_told i e ∙ ap₂ ◌&&◌ p g)) (and-false (leb 3 (length (distinct_points row)))))

      module _ (l : n ≤ i) where
        pub few_kept : kept < 3 → false ≡ spike_free_distinct (distinct_points row)
        few_kept h = too_few (omega (arith, along_count row c (along w) l))

        pub onward_all : {closing : Edge} → closing ≡ between (at row (n - 1)) (at row first) → 3 ≤ kept → (t : Bool) → t ≡ reverses to closing → not t ≡ spike_free_distinct (distinct_points row)
        unfolding spike_free_distinct
        onward_all e h t g =
            let m = le-leb 3 (length (distinct_points row)) (omega (arith, along_count row c (along w) l)) in
            let k = spike_told first (closing_next row c (along w) l first e) in
            sym (rw (m, tally_all (rw (along_none row c (along w) l) at (none_met w)), k, ← g))

    -- a vertex that stands by the rule Spike, told by its edges
    spike_stands : (u v : Edge) → goes_along Spike u v ≡ false → (still v ≡ false) × (reverses u v ≡ false)
    unfolding goes_along
    spike_stands u v e = let r = or_right (still u) (still v || reverses u v) e in (or_left (still v) (reverses u v) r, or_right (still v) (reverses u v) r)

    -- the first differs from the last, then
    first_other : 0 < n → to_go (goes Spike row) (fresh n) 0 ≡ false → FirstOther row n 0
    unfolding goes_at
    first_other h f = record {
      within = omega arith;
      equal = λ j l. absurd (omega arith);
      differs = λ l. rw (fresh_last n h) at (or_left (same (at row 0) (at row (predecessor (fresh n) 0))) _ f);
    }

    stands_along : (i : ℕ) → suc i < n → to_go (goes Spike row) (fresh n) i ≡ false → {to from : Edge}
        → to ≡ between (at row (predecessor (fresh n) i)) (at row i) → from ≡ between (at row i) (at row (suc i)) → goes_along Spike to from ≡ false
    stands_along i h f e g =
        ap₂ (goes_along Spike) e g ∙ sym (goes_edges Spike (at row (predecessor (fresh n) i)) (at row i) (at row (suc i)))
        ∙ ap (λ (j : ℕ). goes Spike row (predecessor (fresh n) i) i j) (sym (fresh_next n i h)) ∙ f

    -- it is the next point that is left, and no spike
    past_standing : {to from : Edge} {i : ℕ} → Onward row n 0 to (i + 1) (i + 1) → suc i < n → from ≡ between (at row i) (at row (suc i)) → goes_along Spike to from ≡ false
        → Onward row n 0 from (suc i + 1) (suc i + 1)
    past_standing {to} {from} {i} w h e f =
        let here : i + 1 - 1 ≡ i = omega arith in
        let l : i + 1 < n = omega arith in
        let g : from ≡ between (at row (i + 1 - 1)) (at row (i + 1)) = rw (here, add-one i) e in
        let s = spike_stands to from f in
        rw (add-one i) at (onward_keep w l g s.0 s.1)

    -- so vertices that stand from the front are left, and none of them is a spike
    reach : FirstOther row n 0 → (i : ℕ) → i < n → FirstStand (goes Spike row) n i → (to : Edge) → to ≡ between (at row (predecessor (fresh n) i)) (at row i) → Onward row n 0 to (i + 1) (i + 1)
    reach x zero h f to e = onward_start 0 x h to (e ∙ ap (λ (k : ℕ). between (at row k) (at row 0)) (fresh_last n h))
    reach x (suc i) h f to e =
        let g = e ∙ ap (λ (k : ℕ). between (at row k) (at row (suc i))) (fresh_before n i h) in
        past_standing (reach x i (omega arith) (λ j l. f j (omega arith)) (between (at row (predecessor (fresh n) i)) (at row i)) refl) h g (stands_along i h (f i (omega arith)) refl g)

    pub stands_onward : (k : ℕ) → (k ≡ 0 → ⊥) → k < n → FirstStand (goes Spike row) n k → {to : Edge} → to ≡ between (at row (k - 1)) (at row k) → Onward row n 0 to (k + 1) (k + 1)
    stands_onward zero h l f e = absurd (h refl)
    stands_onward (suc m) h l f {to} e =
        let before : suc m - 1 ≡ predecessor (fresh n) (suc m) = (omega arith) ∙ sym (fresh_before n m l) in
        reach (first_other (omega arith) (f 0 (omega arith))) (suc m) l f to (e ∙ ap (λ (k : ℕ). between (at row k) (at row (suc m))) before)

    -- where all stand a contour of three points or more passes
    stands_pass : (rule : Rule) → 3 ≤ n → FirstStand (goes rule row) n n → passes rule (points row) ≡ true
    stands_pass Collinear m f = stands_simple (points row) (omega (arith, points-length c)) (front_stands (goes_at Collinear) row c f)
    stands_pass Spike m f = (stands_spike_free (points row) (omega (arith, points-length c)) (front_stands (goes_at Spike) row c f)).0

    -- so of one that does not pass some vertex is to go
    pub failing_goes : (rule : Rule) → 3 ≤ n → (r : Look) → LookedOver rule row n r → r.passes ≡ false → r.standing < n
    failing_goes rule m r l f = omega (arith, l.standing.within, not_all)
      where
        not_all : r.standing ≡ n → ⊥
        not_all e = true≢false (sym (stands_pass rule m (rw e at l.standing.stand)) ∙ sym l.verdict ∙ f)

    -- a box passes by either rule
    pub box_passes : (rule : Rule) → box row ≡ true → true ≡ passes rule (points row)
    box_passes rule b = sym (stands_pass rule (omega (arith, box_four row c b)) (box_stands rule row b c).stand)

    module _ (rule : Rule) (many : 3 ≤ n) (k : ℕ) (x : Standing (goes rule row) n k) where
      pub looked_all : k ≡ n → LookedOver rule row n (record { passes = true; standing = k })
      looked_all e = record { verdict = sym (stands_pass rule many (rw e at x.stand)); standing = x }

      -- where not all stand, none passes by the rule Collinear
      pub looked_collinear : (k ≡ n → ⊥) → rule ≡ Collinear → LookedOver rule row n (record { passes = false; standing = k })
      looked_collinear h e = record { verdict = rw e (sym (ne_eqb k n h) ∙ standing_all (goes_at Collinear) row c (rw e at x) ∙ simple_many row (omega (arith, contour_count c))); standing = x }

      -- and by the rule Spike those that have no spikes left
      pub looked_spike : (b : Bool) → b ≡ spike_free_distinct (distinct_points row) → rule ≡ Spike → LookedOver rule row n (record { passes = b; standing = k })
      looked_spike b f e = record { verdict = rw e (f ∙ spikes_many row (omega (arith, contour_count c))); standing = x }
