-- A closed contour from another start, and the other way round: its corners, its points without equal neighbours, its exact area.
use Rattle.std.proofs.Common.{◌≡◌, Bool, true, false, ◌||◌, List, [], ◌∷◌, ◌++◌, reverse, length, ℤ, pos, ◌+ℤ◌, neg_ℤ, sym, refl, ap, ◌∙◌, ap₂, arith, length-append}
use mathlib.Core.Bool.{or_assoc, or_comm}
use lib.IntN.{+ℤ_assoc, +ℤ_comm, +ℤ_idl, neg_ℤ-+ℤ}
use Rattle.integers.specs.Polynomial.{#, ◌:-◌, ◌:*◌, :neg}
use Rattle.integers.proofs.Polynomial.{ring}
use Rattle.grid.specs.declared.Point.{Point}
use Rattle.grid.specs.Points.{same}
use Rattle.grid.specs.Edges.{from_origin, cross}
use Rattle.grid.specs.Corners.{last, differing, distinct_neighbours, Corner, corners_from, corners, some}
use Rattle.grid.specs.Area.{around, exact}
use Rattle.grid.proofs.AroundLaws.{corner}
use Rattle.grid.proofs.CornerLaws.{same_is, differing_skip, differing_keep}
use Rattle.grid.proofs.Round.{last_joined, AnyStart, any_start, along, closed, closed_alike, moved_start, turned_round}

pub length_any_start : AnyStart length
length_any_start l m = omega (arith, length-append m l, length-append l m)

-- the corners of two parts, each closed by the other
corners_joined : (o q a b : Point) (l m : List Point) → corners_from o a b (l ++ q ∷ m) ≡ corners_from q a b l ++ corners_from o (last b l) q m
unfolding corners_from last
corners_joined o q a b [] m = refl
corners_joined o q a b (c ∷ l) m = ap (λ (ks : List Corner). corner a b c ∷ ks) (corners_joined o q b c l m)

some_joined : (t : Corner → Bool) (ks js : List Corner) → some t (ks ++ js) ≡ (some t ks || some t js)
unfolding some
some_joined t [] js = refl
some_joined t (k ∷ ks) js = ap (λ (u : Bool). t k || u) (some_joined t ks js) ∙ sym (or_assoc (t k) (some t ks) (some t js))

-- whether some corner passes a test
module _ (t : Corner → Bool) where
  some_parts : (o q : Point) (l m : List Point) → some t (corners ((o ∷ l) ++ q ∷ m)) ≡ (some t (corners_from q (last q m) o l) || some t (corners_from o (last o l) q m))
  unfolding corners
  some_parts o q l m =
      ap (λ (z : Point). some t (corners_from o z o (l ++ q ∷ m))) (last_joined o q l m)
      ∙ ap (some t) (corners_joined o q (last q m) o l m)
      ∙ some_joined t (corners_from q (last q m) o l) (corners_from o (last o l) q m)

  pub some_any_start : AnyStart (λ l. some t (corners l))
  some_any_start = any_start
      (λ l. some t (corners l))
      (λ o q l m. some_parts q o m l ∙ or_comm (some t (corners_from o (last o l) q m)) (some t (corners_from q (last q m) o l)) ∙ sym (some_parts o q l m))

differing_joined : (a : Point) (l m : List Point) → differing a (l ++ m) ≡ differing a l ++ differing (last a l) m
unfolding differing last
differing_joined a [] m = refl
differing_joined a (b ∷ l) m = go (same b a) refl (differing_joined a l m) (differing_joined b l m)
  where
    go : (t : Bool) → same b a ≡ t → differing a (l ++ m) ≡ differing a l ++ differing (last a l) m → differing b (l ++ m) ≡ differing b l ++ differing (last b l) m
        → differing a (b ∷ (l ++ m)) ≡ differing a (b ∷ l) ++ differing (last b l) m
    go true e skipped kept =
        differing_skip a b (l ++ m) e ∙ skipped
        ∙ ap₂ (λ (p : Point) (r : List Point). r ++ differing (last p l) m) (sym (same_is b a e)) (sym (differing_skip a b l e))
    go false e skipped kept =
        differing_keep a b (l ++ m) e ∙ ap (λ (r : List Point). b ∷ r) kept
        ∙ ap (λ (r : List Point). r ++ differing (last b l) m) (sym (differing_keep a b l e))

-- without equal neighbours the same points are left, from another start
distinct_parts : (o q : Point) (l m : List Point) → distinct_neighbours ((o ∷ l) ++ q ∷ m) ≡ differing (last q m) (o ∷ l) ++ differing (last o l) (q ∷ m)
unfolding distinct_neighbours last
distinct_parts o q l m = ap (λ (z : Point). differing z ((o ∷ l) ++ q ∷ m)) (last_joined o q l m) ∙ differing_joined (last q m) (o ∷ l) (q ∷ m)

pub distinct_any_start : {X : Type 0} (f : List Point → X) → AnyStart f → AnyStart (λ l. f (distinct_neighbours l))
distinct_any_start f any = any_start
    (λ l. f (distinct_neighbours l))
    (λ o q l m. ap f (distinct_parts q o m l) ∙ any (differing (last q m) (o ∷ l)) (differing (last o l) (q ∷ m)) ∙ sym (ap f (distinct_parts o q l m)))

-- what an edge adds to the exact area
abbrev pub term : Point → Point → ℤ
term a b = cross (from_origin a) (from_origin b)

around_along : (o a : Point) (l : List Point) → around o a l ≡ along ◌+ℤ◌ (pos 0) term a l +ℤ term (last a l) o
unfolding around last
around_along o a [] = sym (+ℤ_idl (term a o))
around_along o a (b ∷ l) = ap (λ (z : ℤ). term a b +ℤ z) (around_along o b l) ∙ sym (+ℤ_assoc (term a b) (along ◌+ℤ◌ (pos 0) term b l) (term (last b l) o))

-- the exact area is the sum of what its edges add
pub exact_closed : (l : List Point) → exact l ≡ closed ◌+ℤ◌ (pos 0) term l
unfolding exact
exact_closed [] = refl
exact_closed (o ∷ l) = around_along o o l ∙ +ℤ_comm (along ◌+ℤ◌ (pos 0) term o l) (term (last o l) o)

pub exact_any_start : AnyStart exact
exact_any_start l m = exact_closed (m ++ l) ∙ moved_start ◌+ℤ◌ (pos 0) term +ℤ_assoc +ℤ_comm +ℤ_idl l m ∙ sym (exact_closed (l ++ m))

-- the other way each edge adds as much below 0, and so do all
term_back : (a b : Point) → term b a ≡ neg_ℤ (term a b)
unfolding cross
term_back a b = ring (# 2 :* # 1 :- # 3 :* # 0) (:neg (# 0 :* # 3 :- # 1 :* # 2)) (a.x ∷ a.y ∷ b.x ∷ b.y ∷ []) refl

along_negated : (a : Point) (l : List Point) → along ◌+ℤ◌ (pos 0) (λ b c. neg_ℤ (term b c)) a l ≡ neg_ℤ (along ◌+ℤ◌ (pos 0) term a l)
along_negated a [] = refl
along_negated a (b ∷ l) = ap (λ (z : ℤ). neg_ℤ (term a b) +ℤ z) (along_negated b l) ∙ sym (neg_ℤ-+ℤ (term a b) (along ◌+ℤ◌ (pos 0) term b l))

pub exact_reversed : (l : List Point) → exact (reverse l) ≡ neg_ℤ (exact l)
exact_reversed l =
    exact_closed (reverse l) ∙ turned_round ◌+ℤ◌ (pos 0) term +ℤ_assoc +ℤ_comm +ℤ_idl l
    ∙ closed_alike ◌+ℤ◌ (pos 0) (λ a b. term b a) (λ a b. neg_ℤ (term a b)) term_back l ∙ negated l ∙ ap neg_ℤ (sym (exact_closed l))
  where
    negated : (l : List Point) → closed ◌+ℤ◌ (pos 0) (λ a b. neg_ℤ (term a b)) l ≡ neg_ℤ (closed ◌+ℤ◌ (pos 0) term l)
    negated [] = refl
    negated (o ∷ l) = along_negated (last o l) (o ∷ l)
