-- A shift leaves every edge as it was, so what edges tell is told the same.
use mathlib.Core.Path.{◌≡◌, refl, sym, ◌∙◌, ap, ap₂}
use mathlib.Core.Bool.{Bool, true, false, not, xor, ◌&&◌, ◌||◌}
use mathlib.Core.List.{List, [], ◌∷◌, map}
use lib.ListN.{length-map}
use lib.IntN.{ℤ, pos, negsuc, ◌+ℤ◌, ◌-ℤ◌}
use lib.Signed.{lt_z, le_z}
use Rattle.integers.specs.Equal.{eq_z}
use Rattle.integers.specs.Polynomial.{#, num, ◌:+◌, ◌:-◌, ◌:*◌}
use Rattle.integers.proofs.Linear.{lt_z_difference, le_z_not}
use Rattle.integers.proofs.Polynomial.{ring}
use Rattle.grid.specs.declared.Point.{Point}
use Rattle.grid.specs.declared.Edge.{Edge}
use Rattle.grid.specs.Points.{same}
use Rattle.grid.specs.Edges.{between, from_origin, still, cross, turn, aligned, reverses}
use Rattle.grid.specs.Corners.{last, differing, distinct_neighbours, Corner, corners_from, corners, some, edge_to, edge_from, left_at, right_at, aligned_at, reverses_at}
use Rattle.grid.specs.Area.{exact}
use Rattle.grid.proofs.AroundLaws.{corner}
use Rattle.grid.proofs.EdgeLaws.{same_after}
use Rattle.grid.proofs.CornerLaws.{differing_skip, differing_keep}
use Rattle.grid.proofs.Round.{last-map, along, closed, closed-map}
use Rattle.grid.proofs.StartLaws.{term, exact_closed}
use Rattle.path.specs.Convex.{convex_distinct, is_convex}
use Rattle.path.specs.Contains.{meets_right, crosses, contained}
use Rattle.path.specs.Locate.{amid, on_edge, on_boundary, location}
use Rattle.path.proofs.LocateLaws.{place_by}
use Rattle.path.proofs.Theorems.{boundary_closed, contained_closed}
use Rattle.ring.specs.declared.Rule.{Rule}
use Rattle.ring.specs.declared.Rule.TheVariants.{Collinear, Spike}
use Rattle.ring.specs.Rule.{goes_at, goes_along}
use Rattle.ring.proofs.RuleLaws.{goes_edges}
use Rattle.clean.specs.Verdicts.{is_simple, spike_free_distinct, no_spikes, passes}
use Rattle.motion.specs.Moves.{shift}

-- two numbers that are shifted alike are as far apart as they were
gap : (x y d : ℤ) → (y +ℤ d) -ℤ (x +ℤ d) ≡ y -ℤ x
gap x y d = ring ((# 1 :+ # 2) :- (# 0 :+ # 2)) (# 1 :- # 0) (x ∷ y ∷ d ∷ []) refl

-- and in the same order
less : (x y d : ℤ) → lt_z (x +ℤ d) (y +ℤ d) ≡ lt_z x y
less x y d = lt_z_difference (x +ℤ d) (y +ℤ d) ∙ ap (lt_z (pos 0)) (gap x y d) ∙ sym (lt_z_difference x y)

at_most : (x y d : ℤ) → le_z (x +ℤ d) (y +ℤ d) ≡ le_z x y
at_most x y d = le_z_not (x +ℤ d) (y +ℤ d) ∙ ap not (less y x d) ∙ sym (le_z_not x y)

module _ (d : Edge) where
  abbrev to : Point → Point
  to = shift d

  edge_stays : (a b : Point) → between (to a) (to b) ≡ between a b
  edge_stays a b = ap₂ {C = Edge} (λ (u v : ℤ). record { dx = u; dy = v }) (gap a.x b.x d.dx) (gap a.y b.y d.dy)

  -- a corner with its points shifted
  abbrev pub corner_to : Corner → Corner
  corner_to k = corner (to k.before) (to k.vertex) (to k.after)

  -- what the two edges of a corner tell
  edges_tell : {X : Type 0} (f : Edge → Edge → X) (k : Corner) → f (edge_to (corner_to k)) (edge_from (corner_to k)) ≡ f (edge_to k) (edge_from k)
  edges_tell f k = ap₂ f (edge_stays k.before k.vertex) (edge_stays k.vertex k.after)

  -- so of either rule the same vertices go
  pub goes_shifted : (rule : Rule) (k : Corner) → goes_at rule (corner_to k) ≡ goes_at rule k
  goes_shifted rule k =
      goes_edges rule (to k.before) (to k.vertex) (to k.after)
      ∙ edges_tell (goes_along rule) k
      ∙ sym (goes_edges rule k.before k.vertex k.after)

  module _ (t : Corner → Bool) (stays : (k : Corner) → t (corner_to k) ≡ t k) where
    some_from : (o a b : Point) (l : List Point) → some t (corners_from (to o) (to a) (to b) (map to l)) ≡ some t (corners_from o a b l)
    unfolding some corners_from
    some_from o a b [] = ap (λ (u : Bool). u || false) (stays (corner a b o))
    some_from o a b (c ∷ l) = ap₂ ◌||◌ (stays (corner a b c)) (some_from o b c l)

    some_shifted : (l : List Point) → some t (corners (map to l)) ≡ some t (corners l)
    unfolding corners some
    some_shifted [] = refl
    some_shifted (o ∷ l) = ap (λ (z : Point). some t (corners_from (to o) z (to o) (map to l))) (last-map to o l) ∙ some_from o (last o l) o l

  some_left : (l : List Point) → some left_at (corners (map to l)) ≡ some left_at (corners l)
  some_left = some_shifted left_at (edges_tell (λ u v. eq_z (turn u v) (pos 1)))

  some_right : (l : List Point) → some right_at (corners (map to l)) ≡ some right_at (corners l)
  some_right = some_shifted right_at (edges_tell (λ u v. eq_z (turn u v) (negsuc 0)))

  some_aligned : (l : List Point) → some aligned_at (corners (map to l)) ≡ some aligned_at (corners l)
  some_aligned = some_shifted aligned_at (edges_tell aligned)

  some_reverses : (l : List Point) → some reverses_at (corners (map to l)) ≡ some reverses_at (corners l)
  some_reverses = some_shifted reverses_at (edges_tell reverses)

  -- equal points stay equal, and others differ
  same_shifted : (a b : Point) → same (to a) (to b) ≡ same a b
  same_shifted a b = same_after (to a) (to b) ∙ ap still (edge_stays a b) ∙ sym (same_after a b)

  differing_shifted : (a : Point) (l : List Point) → differing (to a) (map to l) ≡ map to (differing a l)
  unfolding differing
  differing_shifted a [] = refl
  differing_shifted a (b ∷ l) = go (same b a) refl (differing_shifted a l) (differing_shifted b l)
    where
      go : (t : Bool) → same b a ≡ t → differing (to a) (map to l) ≡ map to (differing a l) → differing (to b) (map to l) ≡ map to (differing b l)
          → differing (to a) (to b ∷ map to l) ≡ map to (differing a (b ∷ l))
      go true e skipped kept = differing_skip (to a) (to b) (map to l) (same_shifted b a ∙ e) ∙ skipped ∙ ap (map to) (sym (differing_skip a b l e))
      go false e skipped kept =
          differing_keep (to a) (to b) (map to l) (same_shifted b a ∙ e)
          ∙ ap (λ (r : List Point). to b ∷ r) kept ∙ ap (map to) (sym (differing_keep a b l e))

  distinct_shifted : (l : List Point) → distinct_neighbours (map to l) ≡ map to (distinct_neighbours l)
  unfolding distinct_neighbours
  distinct_shifted [] = refl
  distinct_shifted (o ∷ l) = ap (λ (p : Point). differing p (map to (o ∷ l))) (last-map to o l) ∙ differing_shifted (last o l) (o ∷ l)

  -- the verdicts
  pub passes_shifted : (rule : Rule) (l : List Point) → passes rule (map to l) ≡ passes rule l
  unfolding is_simple no_spikes spike_free_distinct
  passes_shifted Collinear l = rw (length-map l to, some_aligned l)
  passes_shifted Spike l = rw (length-map l to, distinct_shifted l, length-map (distinct_neighbours l) to, some_reverses (distinct_neighbours l))

  pub convex_shifted : (l : List Point) → is_convex (map to l) ≡ is_convex l
  unfolding is_convex convex_distinct
  convex_shifted l =
      let m = distinct_neighbours l in
      rw (length-map l to, distinct_shifted l, length-map m to, some_left m, some_right m, some_reverses m)

  -- where an asked point lies, shifted too
  module _ (p : Point) where
    meets_shifted : (l h : Point) → meets_right (to p) (to l) (to h) ≡ meets_right p l h
    meets_shifted l h = rw (gap l.x p.x d.dx, gap l.y h.y d.dy, gap l.y p.y d.dy, gap l.x h.x d.dx)

    crosses_shifted : (a b : Point) → crosses (to p) (to a) (to b) ≡ crosses p a b
    unfolding crosses
    crosses_shifted a b =
        let met : Bool → Bool → Bool → Bool = λ up s t. elim up [ true ↦ s | false ↦ t ] in
        ap₂ ◌&&◌ (ap₂ xor (less p.y a.y d.dy) (less p.y b.y d.dy))
        (ap (λ (up : Bool). met up (meets_right (to p) (to a) (to b)) (meets_right (to p) (to b) (to a))) (less a.y b.y d.dy)
        ∙ ap₂ (met (lt_z a.y b.y)) (meets_shifted a b) (meets_shifted b a))

    amid_shifted : (a b z e : ℤ) → amid (a +ℤ e) (b +ℤ e) (z +ℤ e) ≡ amid a b z
    amid_shifted a b z e = rw (at_most a z e, at_most z b e, at_most b z e, at_most z a e)

    on_edge_shifted : (a b : Point) → on_edge (to p) (to a) (to b) ≡ on_edge p a b
    unfolding on_edge
    on_edge_shifted a b =
        ap₂ ◌||◌ (same_shifted p a)
        (ap₂ ◌||◌ (same_shifted p b)
        (ap₂ ◌&&◌ (ap₂ aligned (edge_stays a b) (edge_stays a p))
        (ap₂ ◌&&◌ (amid_shifted a.x b.x p.x d.dx) (amid_shifted a.y b.y p.y d.dy))))

    pub contained_shifted : (l : List Point) → contained (to p) (map to l) ≡ contained p l
    contained_shifted l = contained_closed (to p) (map to l) ∙ closed-map xor false (crosses (to p)) (crosses p) to crosses_shifted l ∙ sym (contained_closed p l)

    boundary_shifted : (l : List Point) → on_boundary (to p) (map to l) ≡ on_boundary p l
    boundary_shifted l = boundary_closed (to p) (map to l) ∙ closed-map ◌||◌ false (on_edge (to p)) (on_edge p) to on_edge_shifted l ∙ sym (boundary_closed p l)

    pub location_shifted : (l : List Point) → location (to p) (map to l) ≡ location p l
    unfolding location
    location_shifted l = ap₂ place_by (boundary_shifted l) (contained_shifted l)

  -- the exact area: along a way the shift adds what it has with its end, less what it has with its start
  abbrev added : Point → ℤ
  added a = cross d (from_origin a)

  term_shifted : (a b : Point) → term (to a) (to b) ≡ term a b +ℤ (added b -ℤ added a)
  unfolding cross
  term_shifted a b =
      ring
      ((# 0 :+ # 4) :* (# 3 :+ # 5) :- (# 1 :+ # 5) :* (# 2 :+ # 4))
      ((# 0 :* # 3 :- # 1 :* # 2) :+ ((# 4 :* # 3 :- # 5 :* # 2) :- (# 4 :* # 1 :- # 5 :* # 0)))
      (a.x ∷ a.y ∷ b.x ∷ b.y ∷ d.dx ∷ d.dy ∷ []) refl

  along_shifted : (a : Point) (l : List Point) → along ◌+ℤ◌ (pos 0) term (to a) (map to l) ≡ along ◌+ℤ◌ (pos 0) term a l +ℤ (added (last a l) -ℤ added a)
  unfolding last
  along_shifted a [] = ring (num (pos 0)) (num (pos 0) :+ (# 0 :- # 0)) (added a ∷ []) refl
  along_shifted a (b ∷ l) =
      ap₂ ◌+ℤ◌ (term_shifted a b) (along_shifted b l)
      ∙ ring
      ((# 0 :+ (# 1 :- # 2)) :+ (# 3 :+ (# 4 :- # 1)))
      ((# 0 :+ # 3) :+ (# 4 :- # 2))
      (term a b ∷ added b ∷ added a ∷ along ◌+ℤ◌ (pos 0) term b l ∷ added (last b l) ∷ []) refl

  pub exact_shifted : (l : List Point) → exact (map to l) ≡ exact l
  unfolding last
  exact_shifted l = exact_closed (map to l) ∙ round l ∙ sym (exact_closed l)
    where
      round : (l : List Point) → closed ◌+ℤ◌ (pos 0) term (map to l) ≡ closed ◌+ℤ◌ (pos 0) term l
      round [] = refl
      round (o ∷ l) =
          ap (λ (z : Point). along ◌+ℤ◌ (pos 0) term z (map to (o ∷ l))) (last-map to o l)
          ∙ along_shifted (last o l) (o ∷ l)
          ∙ ring (# 0 :+ (# 1 :- # 1)) (# 0) (along ◌+ℤ◌ (pos 0) term (last o l) (o ∷ l) ∷ added (last o l) ∷ []) refl
