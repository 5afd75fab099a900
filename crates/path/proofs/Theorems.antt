-- What holds of the place that is answered.
use mathlib.Core.Path.{◌≡◌, refl, sym, ◌∙◌, ap, ap₂}
use mathlib.Core.Bool.{Bool, true, false, not, xor, ◌&&◌, ◌||◌, and_comm, or-true, or_assoc, or_comm}
use mathlib.Core.List.{List, [], ◌∷◌, ◌++◌, reverse, reverse-cons}
use Prim.Native.Nat.{ℕ, zero, suc, ◌/◌, ◌%◌, ◌+◌, ◌<◌}
use native.Mathlib.Omega.{arith}
use lib.Dec.{eqb, ltb}
use lib.ListN.{length, take, drop, length-append, length-reverse, take-append-drop}
use lib.IntN.{ℤ}
use Rattle.grid.specs.declared.Point.{Point}
use Rattle.grid.specs.Limits.{limit, most, all_on_grid}
use Rattle.grid.specs.Points.{at, on, points}
use Rattle.grid.specs.Corners.{last}
use Rattle.grid.specs.Domain.{count, domain}
use Rattle.grid.proofs.LimitLaws.{on_joined}
use Rattle.grid.proofs.PointLaws.{at_on}
use Rattle.grid.proofs.RowLaws.{points_more}
use Rattle.grid.proofs.DomainLaws.{in_domain}
use Rattle.grid.proofs.Round.{AnyStart, along, closed, closed_alike, moved_start, turned_round}
use Rattle.replies.specs.Ladder.{Rung, first_of}
use Rattle.replies.specs.Verdicts.{verdict}
use Rattle.path.specs.declared.Located.{Located}
use Rattle.path.specs.Contains.{above, crosses, odd, contained, refusals, contains}
use Rattle.path.specs.Locate.{on_edge, touched, on_boundary, location, answer, located}
use Rattle.path.proofs.ContainsLaws.{crosses_not, crosses_up, crosses_down, xor_assoc, xor_swap, false_xor}
use Rattle.path.proofs.OnEdge.{on_edge_swap, end_on_edge}
use Rattle.path.proofs.ContainsLaws.{refused_none}
use Rattle.path.proofs.LocateLaws.{place_by, located_given}

-- where the answer is inside or outside, `contains` says yes or no; and both refuse alike
as_contained : (k : ℕ) (met odd : Bool) → answer k (place_by met odd) ≡ record { reply = 0; place = 2 } → verdict k odd ≡ record { reply = 0; yes = true }
as_contained zero true odd e = let h : ◌≡◌ {A = ℕ} 1 2 = ap (λ (a : Located). a.place) e in absurd (omega arith)
as_contained zero false true e = refl
as_contained zero false false e = let h : ◌≡◌ {A = ℕ} 0 2 = ap (λ (a : Located). a.place) e in absurd (omega arith)
as_contained (suc k) met odd e = let h : suc k ≡ 0 = ap (λ (a : Located). a.reply) e in absurd (omega arith)

as_not_contained : (k : ℕ) (met odd : Bool) → answer k (place_by met odd) ≡ record { reply = 0; place = 0 } → verdict k odd ≡ record { reply = 0; yes = false }
as_not_contained zero true odd e = let h : ◌≡◌ {A = ℕ} 1 0 = ap (λ (a : Located). a.place) e in absurd (omega arith)
as_not_contained zero false true e = let h : ◌≡◌ {A = ℕ} 2 0 = ap (λ (a : Located). a.place) e in absurd (omega arith)
as_not_contained zero false false e = refl
as_not_contained (suc k) met odd e = let h : suc k ≡ 0 = ap (λ (a : Located). a.reply) e in absurd (omega arith)

same_reply : (k z : ℕ) (t : Bool) → (answer k z).reply ≡ (verdict k t).reply
same_reply zero z t = refl
same_reply (suc k) z t = refl

module _ (row : List ℤ) (x y : ℤ) where
  abbrev p : Point
  p = record { x = x; y = y }

  pub inside_is_contained : located row x y ≡ record { reply = 0; place = 2 } → contains row x y ≡ record { reply = 0; yes = true }
  unfolding located location contains
  inside_is_contained e = as_contained (first_of (refusals p row)) (on_boundary p (points row)) (contained p (points row)) e

  pub outside_is_not_contained : located row x y ≡ record { reply = 0; place = 0 } → contains row x y ≡ record { reply = 0; yes = false }
  unfolding located location contains
  outside_is_not_contained e = as_not_contained (first_of (refusals p row)) (on_boundary p (points row)) (contained p (points row)) e

  pub both_refuse_alike : (located row x y).reply ≡ (contains row x y).reply
  unfolding located contains
  both_refuse_alike = same_reply (first_of (refusals p row)) (location p (points row)) (contained p (points row))

-- a contour's points are on its boundary, wherever they stand
touched_there : (p a : Point) (l m : List Point) → touched p a (l ++ p ∷ m) ≡ true
unfolding touched
touched_there p a [] m = ap (λ (t : Bool). t || touched p p m) (end_on_edge p a)
touched_there p a (b ∷ l) m = ap (λ (t : Bool). on_edge p a b || t) (touched_there p b l m) ∙ or-true (on_edge p a b)

pub a_vertex_is_on_the_boundary : (p : Point) (l m : List Point) → location p (l ++ p ∷ m) ≡ 1
unfolding on_boundary location
a_vertex_is_on_the_boundary p l m = ap (λ (t : Bool). place_by t (contained p (l ++ p ∷ m))) (met l)
  where
    met : (l : List Point) → on_boundary p (l ++ p ∷ m) ≡ true
    met [] = touched_there p (last p m) [] m
    met (o ∷ l) = touched_there p (last o (l ++ p ∷ m)) (o ∷ l) m

pub a_vertex_is_located_on_the_boundary : (row : List ℤ) (i : ℕ) → first_of (domain limit row) ≡ 0 → i < count row → located row (at row i).x (at row i).y ≡ record { reply = 0; place = 1 }
a_vertex_is_located_on_the_boundary row i e h =
    let c = in_domain row e in
    let split : points row ≡ take i (points row) ++ at row i ∷ drop (i + 1) (points row) = sym (take-append-drop i (points row)) ∙ ap (λ (l : List Point). take i (points row) ++ l) (points_more c i h) in
    sym
    (located_given row (at row i).x (at row i).y (at row i) refl 1 (sym (refused_none row (at row i) e (at_on limit row i c.on)))
    (sym (ap (location (at row i)) split ∙ a_vertex_is_on_the_boundary (at row i) (take i (points row)) (drop (i + 1) (points row)))))

-- an edge counts the same either way
crosses_swap : (p a b : Point) → crosses p a b ≡ crosses p b a
crosses_swap p a b = go (above p a) (above p b) refl refl
  where
    go : (s t : Bool) → above p a ≡ s → above p b ≡ t → crosses p a b ≡ crosses p b a
    go true true e f = crosses_not p a b (e ∙ sym f) ∙ sym (crosses_not p b a (f ∙ sym e))
    go false false e f = crosses_not p a b (e ∙ sym f) ∙ sym (crosses_not p b a (f ∙ sym e))
    go false true e f = sym (crosses_up p a b e f) ∙ crosses_down p b a f e
    go true false e f = sym (crosses_down p a b e f) ∙ crosses_up p b a f e

-- the boundary and the parity are what all edges give together
touched_along : (p a : Point) (l : List Point) → touched p a l ≡ along ◌||◌ false (on_edge p) a l
unfolding touched
touched_along p a [] = refl
touched_along p a (b ∷ l) = ap (λ (t : Bool). on_edge p a b || t) (touched_along p b l)

odd_along : (p a : Point) (l : List Point) → odd p a l ≡ along xor false (crosses p) a l
unfolding odd
odd_along p a [] = refl
odd_along p a (b ∷ l) = ap (xor (crosses p a b)) (odd_along p b l)

pub boundary_closed : (p : Point) (c : List Point) → on_boundary p c ≡ closed ◌||◌ false (on_edge p) c
unfolding on_boundary
boundary_closed p [] = refl
boundary_closed p (o ∷ l) = touched_along p (last o l) (o ∷ l)

pub contained_closed : (p : Point) (c : List Point) → contained p c ≡ closed xor false (crosses p) c
unfolding contained
contained_closed p [] = refl
contained_closed p (o ∷ l) = odd_along p (last o l) (o ∷ l)

-- so neither changes with the start, nor with the order reversed
boundary_any_start : (p : Point) → AnyStart (on_boundary p)
boundary_any_start p l m = boundary_closed p (m ++ l) ∙ moved_start ◌||◌ false (on_edge p) or_assoc or_comm (λ s. refl) l m ∙ sym (boundary_closed p (l ++ m))

pub contained_any_start : (p : Point) → AnyStart (contained p)
contained_any_start p l m = contained_closed p (m ++ l) ∙ moved_start xor false (crosses p) xor_assoc xor_swap false_xor l m ∙ sym (contained_closed p (l ++ m))

boundary_reversed : (p : Point) (c : List Point) → on_boundary p (reverse c) ≡ on_boundary p c
boundary_reversed p c =
    boundary_closed p (reverse c) ∙ turned_round ◌||◌ false (on_edge p) or_assoc or_comm (λ s. refl) c
    ∙ closed_alike ◌||◌ false (λ a b. on_edge p b a) (on_edge p) (λ a b. on_edge_swap p b a) c ∙ sym (boundary_closed p c)

pub contained_reversed : (p : Point) (c : List Point) → contained p (reverse c) ≡ contained p c
contained_reversed p c =
    contained_closed p (reverse c) ∙ turned_round xor false (crosses p) xor_assoc xor_swap false_xor c
    ∙ closed_alike xor false (λ a b. crosses p b a) (crosses p) (λ a b. crosses_swap p b a) c ∙ sym (contained_closed p c)

-- and so the place does not
pub another_start_keeps_the_place : (p : Point) (l m : List Point) → location p (m ++ l) ≡ location p (l ++ m)
unfolding location
another_start_keeps_the_place p l m = ap₂ place_by (boundary_any_start p l m) (contained_any_start p l m)

pub reversing_keeps_the_place : (p : Point) (c : List Point) → location p (reverse c) ≡ location p c
unfolding location
reversing_keeps_the_place p c = ap₂ place_by (boundary_reversed p c) (contained_reversed p c)

-- the row of a contour
abbrev pub row_of : List Point → List ℤ
row_of [] = []
row_of (a ∷ l) = a.x ∷ a.y ∷ row_of l

points_row_of : (c : List Point) → points (row_of c) ≡ c
unfolding points
points_row_of [] = refl
points_row_of (a ∷ l) = ap (λ (m : List Point). a ∷ m) (points_row_of l)

row_of_joined : (l m : List Point) → row_of (l ++ m) ≡ row_of l ++ row_of m
row_of_joined [] m = refl
row_of_joined (a ∷ l) m = ap (λ (r : List ℤ). a.x ∷ a.y ∷ r) (row_of_joined l m)

length_row_of : (c : List Point) → length (row_of c) ≡ length c + length c
length_row_of [] = refl
length_row_of (a ∷ l) = omega (arith, length_row_of l)

-- whether all its points are on the grid, in any order
on_both : (l m : List Point) → all_on_grid limit (row_of (l ++ m)) ≡ (all_on_grid limit (row_of l) && all_on_grid limit (row_of m))
on_both l m = ap (all_on_grid limit) (row_of_joined l m) ∙ on_joined limit (row_of l) (row_of m)

on_moved : (l m : List Point) → all_on_grid limit (row_of (m ++ l)) ≡ all_on_grid limit (row_of (l ++ m))
on_moved l m = on_both m l ∙ and_comm (all_on_grid limit (row_of m)) (all_on_grid limit (row_of l)) ∙ sym (on_both l m)

on_reversed : (c : List Point) → all_on_grid limit (row_of (reverse c)) ≡ all_on_grid limit (row_of c)
on_reversed [] = refl
on_reversed (a ∷ l) =
    ap (λ (w : List Point). all_on_grid limit (row_of w)) (reverse-cons a l) ∙ on_moved (a ∷ []) (reverse l)
    ∙ on_both (a ∷ []) (reverse l) ∙ ap (λ (t : Bool). all_on_grid limit (row_of (a ∷ [])) && t) (on_reversed l) ∙ sym (on_both (a ∷ []) l)

-- a row is refused by its length and by whether it is on the grid
same_refusals : (q : Point) (r s : List ℤ) → length r ≡ length s → all_on_grid limit r ≡ all_on_grid limit s → first_of (refusals q r) ≡ first_of (refusals q s)
same_refusals q r s e f = ap₂ (λ (n : ℕ) (t : Bool). first_of (ladder n t)) e f
  where
    ladder : ℕ → Bool → List Rung
    ladder n t = (eqb (n % 2) 1, 1) ∷ (ltb most (n / 2), 2) ∷ (not t, 3) ∷ (not (on limit q), 3) ∷ []

module _ (x y : ℤ) where
  pub another_start_is_located_alike : (l m : List Point) → located (row_of (m ++ l)) x y ≡ located (row_of (l ++ m)) x y
  unfolding located
  another_start_is_located_alike l m =
      let q : Point = record { x = x; y = y } in
      let long : length (row_of (m ++ l)) ≡ length (row_of (l ++ m)) = omega (arith, length_row_of (m ++ l), length_row_of (l ++ m), length-append m l, length-append l m) in
      ap₂ answer (same_refusals q (row_of (m ++ l)) (row_of (l ++ m)) long (on_moved l m))
      (ap (location q) (points_row_of (m ++ l)) ∙ another_start_keeps_the_place q l m ∙ sym (ap (location q) (points_row_of (l ++ m))))

  pub reversed_is_located_alike : (c : List Point) → located (row_of (reverse c)) x y ≡ located (row_of c) x y
  unfolding located
  reversed_is_located_alike c =
      let q : Point = record { x = x; y = y } in
      let long : length (row_of (reverse c)) ≡ length (row_of c) = omega (arith, length_row_of (reverse c), length_row_of c, length-reverse c) in
      ap₂ answer (same_refusals q (row_of (reverse c)) (row_of c) long (on_reversed c))
      (ap (location q) (points_row_of (reverse c)) ∙ reversing_keeps_the_place q c ∙ sym (ap (location q) (points_row_of c)))
