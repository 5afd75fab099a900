-- A contour's corners, met one after the other along its row.
use Rattle.std.proofs.Common.{◌≡◌, ℕ, zero, suc, ◌+◌, ◌-◌, ◌<◌, ◌≤◌, Bool, true, false, List, [], ◌∷◌, length, get_or, drop, ℤ, pos, sym, refl, ap, ◌∙◌, ap₂, true≢false, arith, Option, Some, None, MatchOption, unwrap_or}
use native.Mathlib.Decide.{dec_lt}
use lib.ListN.{get_or-eq_default}
use Rattle.integers.specs.Equal.{eq_z}
use Rattle.integers.specs.Polynomial.{#, num, ◌:-◌, ◌:*◌}
use Rattle.integers.proofs.Equal.{eq_z_true, eq_z_same}
use Rattle.integers.proofs.Logic.{and_left, and_right, or_left, or_right}
use Rattle.integers.proofs.Polynomial.{ring}
use Rattle.grid.specs.declared.Point.{Point}
use Rattle.grid.specs.Points.{at, origin, points, same}
use Rattle.grid.specs.Edges.{between, cross, sign, turn}
use Rattle.grid.specs.Neighbours.{preceding, following}
use Rattle.grid.specs.Corners.{last, differing, distinct_neighbours, Corner, corner_in, corners_from, corners, some, turn_at}
use Rattle.grid.specs.Domain.{Contour}
use Rattle.grid.specs.inside.Rows.{FirstOther}
use Rattle.rows.proofs.RowLaws.{any_default}
use Rattle.grid.proofs.RowLaws.{points_more, points_done}

pub same_is : (a b : Point) → same a b ≡ true → a ≡ b
same_is a b e =
    let xs = eq_z_true a.x b.x (and_left (eq_z a.x b.x) (eq_z a.y b.y) e) in
    let ys = eq_z_true a.y b.y (and_right (eq_z a.x b.x) (eq_z a.y b.y) e) in
    ap₂ (λ (u v : ℤ). record { x = u; y = v }) xs ys

pub is_same : (a b : Point) → a ≡ b → same a b ≡ true
is_same a b e = rw (e, eq_z_same b.x) (eq_z_same b.y)

pub is_not_same : (a b : Point) → (a ≡ b → ⊥) → same a b ≡ false
is_not_same a b n = go (same a b) refl
  where
    go : (t : Bool) → same a b ≡ t → same a b ≡ false
    go true e = absurd (n (same_is a b e))
    go false e = e

-- the first position, if any, whose point differs from the last one
pub found_other : (row : List ℤ) (n : ℕ) (r : Option ℕ)
    → MatchOption r ((k : ℕ) → 0 ≤ k → k < n → at row k ≡ at row (n - 1))
    (λ i. (0 ≤ i) × (i < n) × (at row i ≡ at row (n - 1) → ⊥) × ((k : ℕ) → 0 ≤ k → k < i → at row k ≡ at row (n - 1)))
    → FirstOther row n (unwrap_or r n)
found_other row n None h = record { within = omega arith; equal = λ j l. is_same _ _ (h j (omega arith) l); differs = λ l. absurd (omega arith) }
found_other row n (Some i) h = record { within = omega arith; equal = λ j l. is_same _ _ (h.3 j (omega arith) l); differs = λ _. is_not_same _ _ h.2 }

pub differing_skip : (a b : Point) (l : List Point) → same b a ≡ true → differing a (b ∷ l) ≡ differing a l
unfolding differing
differing_skip a b l e = rw (e, differing)

pub differing_keep : (a b : Point) (l : List Point) → same b a ≡ false → differing a (b ∷ l) ≡ b ∷ differing b l
unfolding differing
differing_keep a b l e = rw (e, differing)

-- skipping equal neighbours keeps the last point
pub last_kept : (a : Point) (l : List Point) → last a (differing a l) ≡ last a l
unfolding last differing
last_kept a [] = refl
last_kept a (b ∷ l) = go (same b a) refl (last_kept a l) (last_kept b l)
  where
    go : (t : Bool) → same b a ≡ t → last a (differing a l) ≡ last a l → last b (differing b l) ≡ last b l → last a (differing a (b ∷ l)) ≡ last b l
    go true e skipped kept = rw (differing_skip a b l e) (skipped ∙ ap (λ (p : Point). last p l) (sym (same_is b a e)))
    go false e skipped kept = rw (differing_keep a b l e) kept

module _ {row : List ℤ} {n : ℕ} (c : Contour row n) where
  pub last_from : (k i : ℕ) → i + suc k ≡ n → last (at row i) (drop (i + 1) (points row)) ≡ at row (n - 1)
  unfolding last
  last_from zero i e =
      let f : i ≡ n - 1 = omega arith in
      rw (points_done c (i + 1) (omega arith)) (ap (at row) f)
  last_from (suc k) i e = rw (points_more c (i + 1) (omega arith)) (last_from k (i + 1) (omega arith))

  pub distinct_is : 0 < n → distinct_neighbours (points row) ≡ differing (at row (n - 1)) (points row)
  unfolding distinct_neighbours
  distinct_is h =
      let e = points_more c 0 h in
      ap distinct_neighbours e ∙ ap (λ (l : Point). differing l (at row 0 ∷ drop 1 (points row))) (last_from (n - 1) 0 (omega arith)) ∙ ap (differing (at row (n - 1))) (sym e)

-- two points or fewer turn nowhere
flat : (a b : Point) → turn (between a b) (between b a) ≡ pos 0
unfolding cross
flat a b =
    ap sign
    (ring
    ((# 2 :- # 0) :* (# 1 :- # 3) :- (# 3 :- # 1) :* (# 0 :- # 2)) (num (pos 0))
    (a.x ∷ a.y ∷ b.x ∷ b.y ∷ []) refl)

pub few_turn_nowhere : (z : ℤ) → eq_z (pos 0) z ≡ false → (l : List Point) → length l ≤ 2 → some (λ (k : Corner). eq_z (turn_at k) z) (corners l) ≡ false
unfolding corners corners_from some last
few_turn_nowhere z n [] h = refl
few_turn_nowhere z n (a ∷ []) h = rw (flat a a, n)
few_turn_nowhere z n (a ∷ b ∷ []) h = rw (flat b a, flat a b, n)
few_turn_nowhere z n (a ∷ b ∷ d ∷ l) h = absurd (omega arith)

last_at : (a : Point) (l : List Point) → last a l ≡ get_or (a ∷ l) (length l) origin
unfolding last
last_at a [] = refl
last_at a (b ∷ l) = last_at b l

-- the corner at number j of those from b on
abbrev from_at : Point → Point → Point → List Point → ℕ → Corner
from_at o a b l j = record { before = get_or (a ∷ b ∷ l) j origin; vertex = get_or (b ∷ l) j origin; after = get_or l j o }

-- the same corner, by number
in_from : (o : Point) (l : List Point) (j : ℕ) → from_at o (last o l) o l j ≡ corner_in (o ∷ l) j
in_from o l zero = let e : suc (length l) - 1 ≡ length l = omega arith in rw (last_at o l, e)
in_from o l (suc j) = refl

module _ (t : Corner → Bool) where
  none_from : (o a b : Point) (l : List Point) → some t (corners_from o a b l) ≡ false → (j : ℕ) → j < suc (length l) → t (from_at o a b l j) ≡ false
  unfolding corners_from some
  none_from o a b [] e zero h = or_left _ _ e
  none_from o a b [] e (suc j) h = absurd (omega arith)
  none_from o a b (c ∷ l) e zero h = or_left _ _ e
  none_from o a b (c ∷ l) e (suc j) h = none_from o b c l (or_right (t (from_at o a b (c ∷ l) 0)) (some t (corners_from o b c l)) e) j (omega arith)

  from_none : (o a b : Point) (l : List Point) → ((j : ℕ) → j < suc (length l) → t (from_at o a b l j) ≡ false) → some t (corners_from o a b l) ≡ false
  unfolding corners_from some
  from_none o a b [] f = rw (f 0 (omega arith))
  from_none o a b (c ∷ l) f = rw (f 0 (omega arith)) (from_none o b c l (λ j h. f (suc j) (omega arith)))

  -- no corner passes the test, one by one
  pub no_corner : (l : List Point) → some t (corners l) ≡ false → (j : ℕ) → j < length l → t (corner_in l j) ≡ false
  unfolding corners
  no_corner [] e j h = absurd (omega arith)
  no_corner (o ∷ l) e j h = ap t (sym (in_from o l j)) ∙ none_from o (last o l) o l e j h

  pub corner_none : (l : List Point) → ((j : ℕ) → j < length l → t (corner_in l j) ≡ false) → some t (corners l) ≡ false
  unfolding corners some
  corner_none [] f = refl
  corner_none (o ∷ l) f = from_none o (last o l) o l (λ j h. ap t (in_from o l j) ∙ f j h)

-- a list in which each point differs from the one before it loses none
differs_all : (a : Point) (l : List Point) → ((j : ℕ) → j < length l → same (get_or l j origin) (get_or (a ∷ l) j origin) ≡ false) → differing a l ≡ l
unfolding differing
differs_all a [] f = refl
differs_all a (b ∷ l) f = differing_keep a b l (f 0 (omega arith)) ∙ ap (λ (r : List Point). b ∷ r) (differs_all b l (λ j h. f (suc j) (omega arith)))

differing-length : (a : Point) (l : List Point) → length (differing a l) ≤ length l
unfolding differing
differing-length a [] = omega arith
differing-length a (b ∷ l) = go (same b a) refl (differing-length a l) (differing-length b l)
  where
    go : (t : Bool) → same b a ≡ t → length (differing a l) ≤ length l → length (differing b l) ≤ length l → length (differing a (b ∷ l)) ≤ suc (length l)
    go true e p q = rw (differing_skip a b l e) (omega arith)
    go false e p q = rw (differing_keep a b l e) (omega arith)

-- and one that loses none has no equal neighbours
all_differ : (a : Point) (l : List Point) → differing a l ≡ l → (j : ℕ) → j < length l → same (get_or l j origin) (get_or (a ∷ l) j origin) ≡ false
all_differ a [] e j h = absurd (omega arith)
all_differ a (b ∷ l) e j h = go (same b a) refl (λ d. all_differ b l d) j h
  where
    go : (t : Bool) → same b a ≡ t → (differing b l ≡ l → (i : ℕ) → i < length l → same (get_or l i origin) (get_or (b ∷ l) i origin) ≡ false)
        → (j : ℕ) → j < suc (length l) → same (get_or (b ∷ l) j origin) (get_or (a ∷ b ∷ l) j origin) ≡ false
    go true s f j h = let n : length (differing a l) ≡ suc (length l) = ap length (sym (differing_skip a b l s) ∙ e) in absurd (omega (arith, differing-length a l))
    go false s f zero h = s
    go false s f (suc j) h = f (ap (drop 1) (sym (differing_keep a b l s) ∙ e)) j (omega arith)

pub all_distinct : (l : List Point) → ((j : ℕ) → j < length l → same (get_or l j origin) (preceding origin l j) ≡ false) → distinct_neighbours l ≡ l
unfolding distinct_neighbours
all_distinct [] f = refl
all_distinct (o ∷ l) f = differs_all (last o l) (o ∷ l) (λ j h. ap (λ (k : Corner). same (get_or (o ∷ l) j origin) k.before) (in_from o l j) ∙ f j h)

same_swap : (a b : Point) → same a b ≡ false → same b a ≡ false
same_swap a b n = go (same b a) refl
  where
    go : (t : Bool) → same b a ≡ t → same b a ≡ false
    go true e = absurd (true≢false (sym (rw (same_is b a e) (rw (eq_z_same a.x, eq_z_same a.y))) ∙ n))
    go false e = e

pub distinct_before : (l : List Point) → distinct_neighbours l ≡ l → (j : ℕ) → j < length l → same (get_or l j origin) (preceding origin l j) ≡ false
unfolding distinct_neighbours
distinct_before [] d j h = absurd (omega arith)
distinct_before (o ∷ l) d j h = ap (λ (k : Corner). same (get_or (o ∷ l) j origin) k.before) (sym (in_from o l j)) ∙ all_differ (last o l) (o ∷ l) d j h

pub distinct_after : (l : List Point) → distinct_neighbours l ≡ l → (j : ℕ) → j < length l → same (get_or l j origin) (following origin l j) ≡ false
distinct_after l d j h = go (dec_lt (suc j) (length l))
  where
    go : Dec (suc j < length l) → same (get_or l j origin) (following origin l j) ≡ false
    go (yes m) = rw (any_default l (suc j) (get_or l 0 origin) origin m) (same_swap (get_or l (suc j) origin) (get_or l j origin) (distinct_before l d (suc j) m))
    go (no m) =
        let e : length l - 1 ≡ j = omega arith in
        let f : length l ≤ suc j = omega arith in
        rw (get_or-eq_default l (get_or l 0 origin) f) (same_swap (get_or l 0 origin) (get_or l j origin) (rw e at (distinct_before l d 0 (omega arith))))
