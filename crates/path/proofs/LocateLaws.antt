-- Where a point lies, from edge to edge along a contour.
use mathlib.Core.Path.{◌≡◌, refl, sym, ◌∙◌, ap, ap₂}
use mathlib.Core.Bool.{Bool, true, false, xor, ◌||◌, true≢false}
use mathlib.Core.List.{List, [], ◌∷◌}
use Prim.Native.Nat.{ℕ, zero, suc, ◌+◌, ◌-◌, ◌<◌, ◌≤◌}
use native.Mathlib.Omega.{arith}
use lib.ListN.{length, drop}
use lib.IntN.{ℤ}
use Rattle.integers.specs.Equal.{eq_z}
use Rattle.integers.specs.Linear.{num, at as of, ◌:-◌ as ◌less◌}
use Rattle.integers.proofs.Equal.{eq_z_true}
use Rattle.integers.proofs.Linear.{lt_fails, lt_means, lt_denies, same_parts}
use Rattle.integers.proofs.Logic.{and_right, or_left, or_right}
use Rattle.grid.specs.declared.Point.{Point}
use Rattle.grid.specs.Points.{at, points, same}
use Rattle.grid.specs.Domain.{count, Contour}
use Rattle.replies.specs.declared.refusal.Refusal.{Refusal}
use Rattle.replies.specs.Ladder.{first_of}
use Rattle.replies.specs.Refusals.{number}
use Rattle.replies.proofs.RefusalLaws.{refusals_have_numbers}
use Rattle.std.proofs.Common.{Err}
use Rattle.grid.proofs.RowLaws.{points_count, points_more, points_done}
use Rattle.path.specs.Contains.{above, crosses, contained, refusals}
use Rattle.path.specs.declared.Located.{Located}
use Rattle.path.specs.Locate.{on_edge, touched, on_boundary, location, answer, answered, located}
use Rattle.path.specs.inside.Contains.{Across, before}
use Rattle.path.specs.inside.Locate.{under, Untouched}
use Rattle.path.proofs.ContainsLaws.{Counted, counted_none, counted_more, counted_beside, counted_all, from_last, before_in, past_run, past_first_run, nothing_contained}
use Rattle.path.proofs.OnEdge.{not_under, not_over}

-- what lies below p's horizontal is not p, nor above it
below_low : (p a : Point) → above (under p) a ≡ false → above p a ≡ false
below_low p a e = lt_fails (of p.y) (of a.y) (omega (arith, lt_denies (of p.y less num 1) (of a.y) e))

below_other : (p a : Point) → above (under p) a ≡ false → same p a ≡ false
below_other p a e = go (same p a) refl
  where
    go : (t : Bool) → same p a ≡ t → same p a ≡ false
    go false f = f
    go true f =
        let level = same_parts (of p.y) (of a.y) (eq_z_true p.y a.y (and_right (eq_z p.x a.x) (eq_z p.y a.y) f)) in
        absurd (omega (arith, lt_denies (of p.y less num 1) (of a.y) e))

-- the end of an edge that does not have p is not p
end_other : (p a b : Point) → on_edge p a b ≡ false → same p b ≡ false
unfolding on_edge
end_other p a b e = or_left (same p b) _ (or_right (same p a) _ e)

-- the place, by whether p is on the boundary and whether an odd number of edges counts
abbrev pub place_by : Bool → Bool → ℕ
place_by met odd = elim met [ true ↦ 1 | false ↦ elim odd [ true ↦ 2 | false ↦ 0 ] ]

module _ (row : List ℤ) (p : Point) where
  -- no edge so far has p, and their parity; on from a by position i
  record Passed (n : ℕ) (sofar : Bool) (a : Point) (i : ℕ) : Type 0 where
    counted : Counted row p n sofar a i
    boundary : on_boundary p (points row) ≡ touched p a (drop i (points row))

  module _ {n : ℕ} (c : Contour row n) where
    passed_none : 0 < n → Passed n false (at row (n - 1)) 0
    unfolding on_boundary
    passed_none h = record { counted = counted_none row p c h; boundary = from_last c h (touched p) (on_boundary p) (λ o l. refl) }

    module _ {sofar : Bool} {a : Point} {i : ℕ} (k : Passed n sofar a i) where
      next_edge : i < n → on_boundary p (points row) ≡ (on_edge p a (at row i) || touched p (at row i) (drop (i + 1) (points row)))
      unfolding touched
      next_edge h = k.boundary ∙ ap (touched p a) (points_more c i h)

      passed_more : i < n → on_edge p a (at row i) ≡ false → Passed n (xor sofar (crosses p a (at row i))) (at row i) (i + 1)
      passed_more h e = record { counted = counted_more row p c k.counted h; boundary = rw e at (next_edge h) }

      -- an edge that neither has p nor changes side
      passed_beside : i < n → on_edge p a (at row i) ≡ false → above p a ≡ above p (at row i) → Passed n sofar (at row i) (i + 1)
      passed_beside h e f = record { counted = counted_beside row p c k.counted h f; boundary = rw e at (next_edge h) }

      passed_met : i < n → on_edge p a (at row i) ≡ true → 1 ≡ location p (points row)
      unfolding location
      passed_met h e = let b : on_boundary p (points row) ≡ true = rw e at (next_edge h) in sym (ap (λ (t : Bool). place_by t (contained p (points row))) b)

      passed_all : n ≤ i → place_by false sofar ≡ location p (points row)
      unfolding touched location
      passed_all h =
          let e : i ≡ n = omega (arith, k.counted.within) in
          let b : on_boundary p (points row) ≡ false = k.boundary ∙ ap (touched p a) (points_done c i e) in
          sym (ap₂ place_by b (sym (counted_all row p c k.counted h)))

module _ (row : List ℤ) (p : Point) {n : ℕ} (c : Contour row n) where
  -- beyond a point above p's horizontal, and beyond one that is not, nor p
  abbrev High : Bool → Point → ℕ → Type 0
  High sofar a i = Passed row p n sofar a i × (above p a ≡ true)

  abbrev Low : Bool → Point → ℕ → Type 0
  Low sofar a i = Passed row p n sofar a i × (above p a ≡ false) × (same p a ≡ false)

  high_beside : {sofar : Bool} (a : Point) (i : ℕ) → High sofar a i → i < n → above p (at row i) ≡ true → High sofar (at row i) (i + 1)
  high_beside a i x h e = (passed_beside row p c x.0 h (not_under p a (at row i) x.1 e) (x.1 ∙ sym e), e)

  low_beside : {sofar : Bool} (a : Point) (i : ℕ) → Low sofar a i → i < n → above (under p) (at row i) ≡ false → Low sofar (at row i) (i + 1)
  low_beside a i x h e =
      let low = below_low p (at row i) e in
      (passed_beside row p c x.0 h (not_over p a (at row i) x.1 x.2 e) (x.1 ∙ sym low), low, below_other p (at row i) e)

  -- an edge that leaves a run
  past_high : {sofar : Bool} {i a r : ℕ} → a < n → Across row n i p true r → High sofar (at row a) r → Untouched row n p sofar a r
  past_high l y x = record { a_in = l; within = y.within; not_above = λ h e. absurd (true≢false (sym e ∙ y.changed h)); boundary = x.0.boundary; is = x.0.counted.is }

  past_low : {sofar : Bool} {i a r : ℕ} → a < n → Across row n i (under p) false r → Low sofar (at row a) r → Untouched row n p sofar a r
  past_low l y x = record { a_in = l; within = y.within; not_above = λ h e. x.1; boundary = x.0.boundary; is = x.0.counted.is }

  -- the first edge that may have p: by the side of the last point
  module _ (h : 0 < n) where
    pub first_from_above : (r : ℕ) → above p (at row (n - 1)) ≡ true → Across row n 0 p true r → Untouched row n p false (before n r) r
    first_from_above r e y = past_high (before_in n r h y.within) y (past_first_run row p true (High false) high_beside h (passed_none row p c h, e) r y)

    pub first_from_below : (r : ℕ) → above (at row (n - 1)) p ≡ true → Across row n 0 (under p) false r → Untouched row n p false (before n r) r
    first_from_below r e y =
        let below : above (under p) (at row (n - 1)) ≡ false = lt_fails (of p.y less num 1) (of (at row (n - 1)).y) (omega (arith, lt_means (of (at row (n - 1)).y) (of p.y) e)) in
        past_low (before_in n r h y.within) y
        (past_first_run row (under p) false (Low false) low_beside h (passed_none row p c h, below_low p (at row (n - 1)) below, below_other p (at row (n - 1)) below) r y)

    pub first_from_level : above p (at row (n - 1)) ≡ false → Untouched row n p false (before n 0) 0
    unfolding before
    first_from_level e = let x = passed_none row p c h in record { a_in = omega arith; within = omega arith; not_above = λ l f. e; boundary = x.boundary; is = x.counted.is }

  module _ {sofar : Bool} {a i : ℕ} (x : Untouched row n p sofar a i) where
    passed : Passed row p n sofar (at row a) i
    passed = record { counted = record { within = x.within; is = x.is }; boundary = x.boundary }

    pub untouched_met : i < n → on_edge p (at row a) (at row i) ≡ true → 1 ≡ location p (points row)
    untouched_met h e = passed_met row p c passed h e

    pub untouched_done : n ≤ i → place_by false sofar ≡ location p (points row)
    untouched_done h = passed_all row p c passed h

    module _ (h : i < n) (e : on_edge p (at row a) (at row i) ≡ false) where
      pub untouched_above : {t : Bool} {r : ℕ} → t ≡ crosses p (at row a) (at row i) → above p (at row i) ≡ true → Across row n (i + 1) p true r → Untouched row n p (xor sofar t) (r - 1) r
      untouched_above {t} f g y =
          past_high (omega (arith, y.from, y.within)) y (past_run row p true (High (xor sofar t)) high_beside i (rw (sym f) at (passed_more row p c passed h e), g) y)

      low_on : {s : Bool} {r : ℕ} → Passed row p n s (at row i) (i + 1) → above p (at row i) ≡ false → Across row n (i + 1) (under p) false r → Untouched row n p s (r - 1) r
      low_on {s} k g y =
          past_low (omega (arith, y.from, y.within)) y (past_run row (under p) false (Low s) low_beside i (k, g, end_other p (at row a) (at row i) e) y)

      pub untouched_falling : {t : Bool} {r : ℕ} → t ≡ crosses p (at row a) (at row i) → above p (at row i) ≡ false → Across row n (i + 1) (under p) false r → Untouched row n p (xor sofar t) (r - 1) r
      untouched_falling f g y = low_on (rw (sym f) at (passed_more row p c passed h e)) g y

      pub untouched_low : {r : ℕ} → above p (at row a) ≡ false → above p (at row i) ≡ false → Across row n (i + 1) (under p) false r → Untouched row n p sofar (r - 1) r
      untouched_low f g y = low_on (passed_beside row p c passed h e (f ∙ sym g)) g y

-- an empty contour has neither boundary nor inside
pub nothing_located : (p : Point) (row : List ℤ) → count row ≡ 0 → 0 ≡ location p (points row)
unfolding on_boundary location
nothing_located p row h = go (points row) (omega (arith, points_count row)) (nothing_contained p row h)
  where
    go : (l : List Point) → length l ≡ 0 → false ≡ contained p l → 0 ≡ location p l
    go [] e f = sym (ap (place_by false) (sym f))
    go (o ∷ l) e f = absurd (omega arith)

answer_refused : (k z : ℕ) → (k ≡ 0 → ⊥) → record { reply = k; place = 0 } ≡ answer k z
answer_refused zero z n = absurd (n refl)
answer_refused (suc k) z n = refl

-- the question as a whole
module _ (row : List ℤ) (x y : ℤ) where
  module _ (p : Point) (q : p ≡ record { x = x; y = y }) where
    as_asked : first_of (refusals p row) ≡ first_of (refusals (record { x = x; y = y }) row)
    as_asked = ap (λ (s : Point). first_of (refusals s row)) q

    due : ℕ → Located
    due k = answer k (location (record { x = x; y = y }) (points row))

    pub located_refused : (r : Refusal) → number r ≡ first_of (refusals p row) → answered (Err r) ≡ located row x y
    unfolding located due
    located_refused r e = answer_refused (number r) _ (refusals_have_numbers r) ∙ ap due (e ∙ as_asked)

    pub located_given : (k : ℕ) → first_of (refusals p row) ≡ 0 → k ≡ location p (points row) → record { reply = 0; place = k } ≡ located row x y
    unfolding located due
    located_given k e g =
        ap (answer 0) (g ∙ ap (λ (s : Point). location s (points row)) q) ∙ ap due (sym e ∙ as_asked)
