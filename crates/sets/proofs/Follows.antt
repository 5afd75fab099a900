-- What a cleaned set that follows another has: nothing with an area is lost but behind an outline that collapses, and three wrong outcomes do not follow.
use Rattle.std.proofs.Common.{◌≡◌, ℕ, zero, suc, ◌<◌, true, List, [], ◌∷◌, length, get_or, ℤ, pos, nat_abs, sym, refl, ap, ◌∙◌, arith}
use Rattle.grid.specs.Points.{points}
use Rattle.grid.specs.Edges.{cross, dot}
use Rattle.grid.specs.Corners.{last, differing, distinct_neighbours, corners_from, corners, some}
use Rattle.grid.specs.Area.{around, exact}
use Rattle.grid.specs.Cases.{W9, W10}
use Rattle.ring.specs.declared.Rule.{Rule}
use Rattle.ring.specs.declared.Rule.TheVariants.{Collinear, Spike}
use Rattle.ring.proofs.Branches.{true_false}
use Rattle.clean.specs.Verdicts.{is_simple, spike_free_distinct, no_spikes, passes}
use Rattle.sets.specs.Promises.{Contours, AllContours, KeptAs, LaterFollow, Follow, ShapesFollow}
use Rattle.sets.specs.Promises.LaterFollow.{stays, goes}
use Rattle.sets.specs.Promises.Follow.{outline}
use Rattle.sets.specs.Promises.ShapesFollow.{stands, falls}
use Rattle.sets.proofs.Kept.{what_collapses_has_no_area}

module _ (rule : Rule) where
  -- contour number k is kept, as one of m
  abbrev pub KeptIn : List (List ℤ) → ℕ → List (List ℤ) → Type 0
  KeptIn l k m = (j : ℕ) × (j < length m) × KeptAs rule (get_or l k []) (get_or m j [])

  -- it has an area
  abbrev pub HasArea : List ℤ → Type 0
  HasArea c = exact (points c) ≡ pos 0 → ⊥

  later_with_an_area : (l m : List (List ℤ)) → LaterFollow rule l m → Contours l → (k : ℕ) → k < length l → HasArea (get_or l k []) → KeptIn l k m
  later_with_an_area [] m x h k i a = absurd (omega arith)
  later_with_an_area (c ∷ l) (d ∷ m) (stays y x) h zero i a = (0, omega arith, y)
  later_with_an_area (c ∷ l) (d ∷ m) (stays y x) h (suc k) i a =
      let z = later_with_an_area l m x h.1 k (omega arith) a in
      (suc z.0, omega (arith, z.1), z.2)
  later_with_an_area (c ∷ l) m (goes y x) h zero i a = absurd (a (what_collapses_has_no_area rule c h.0 y))
  later_with_an_area (c ∷ l) m (goes y x) h (suc k) i a = later_with_an_area l m x h.1 k (omega arith) a

  -- every contour with an area of a shape that stands is kept
  pub a_contour_with_an_area_is_kept : (s t : List (List ℤ)) → Follow rule s t → Contours s → (k : ℕ) → k < length s → HasArea (get_or s k []) → KeptIn s k t
  a_contour_with_an_area_is_kept [] t x h k i a = absurd (omega arith)
  a_contour_with_an_area_is_kept (c ∷ l) [] x h k i a = elim x [ ]
  a_contour_with_an_area_is_kept (c ∷ l) (d ∷ m) (outline y x) h zero i a = (0, omega arith, y)
  a_contour_with_an_area_is_kept (c ∷ l) (d ∷ m) (outline y x) h (suc k) i a =
      let z = later_with_an_area l m x h.1 k (omega arith) a in
      (suc z.0, omega (arith, z.1), z.2)

  -- and every shape stands whose outline has an area
  pub a_shape_whose_outline_has_an_area_stands : (set kept : List (List (List ℤ))) → ShapesFollow rule set kept → AllContours set
      → (k : ℕ) → k < length set → HasArea (get_or (get_or set k []) 0 []) → (j : ℕ) × (j < length kept) × Follow rule (get_or set k []) (get_or kept j [])
  a_shape_whose_outline_has_an_area_stands [] m x h k i a = absurd (omega arith)
  a_shape_whose_outline_has_an_area_stands (s ∷ l) (t ∷ m) (stands y x) h zero i a = (0, omega arith, y)
  a_shape_whose_outline_has_an_area_stands (s ∷ l) (t ∷ m) (stands y x) h (suc k) i a =
      let z = a_shape_whose_outline_has_an_area_stands l m x h.1 k (omega arith) a in
      (suc z.0, omega (arith, z.1), z.2)
  a_shape_whose_outline_has_an_area_stands ((c ∷ s) ∷ l) m (falls y x) h zero i a = absurd (a (what_collapses_has_no_area rule c h.0.0 y))
  a_shape_whose_outline_has_an_area_stands ((c ∷ s) ∷ l) m (falls y x) h (suc k) i a = a_shape_whose_outline_has_an_area_stands l m x h.1 k (omega arith) a

  -- what stands first came from the outline: no hole takes the place of an outline that is dropped
  pub the_outline_stays_the_outline : {c d : List ℤ} {l m : List (List ℤ)} → Follow rule (c ∷ l) (d ∷ m) → KeptAs rule c d
  the_outline_stays_the_outline (outline y x) = y

  -- a shape that has contours does not stand empty
  pub no_shape_stands_emptied : {c : List ℤ} {l : List (List ℤ)} → Follow rule (c ∷ l) [] → ⊥
  no_shape_stands_emptied x = elim x [ ]

  -- W10 has no area, and passes both verdicts
  w10_passes : passes rule (points W10) ≡ true
  unfolding points cross dot last differing distinct_neighbours corners_from corners some is_simple spike_free_distinct no_spikes
  w10_passes = go rule
    where
      go : (rule : Rule) → passes rule (points W10) ≡ true
      go Collinear = refl
      go Spike = refl

  -- so it stays as it is, behind an outline
  pub w10_stays : {l m : List (List ℤ)} → LaterFollow rule (W10 ∷ l) m → (n : List (List ℤ)) × (m ≡ W10 ∷ n) × LaterFollow rule l n
  w10_stays (stays {m = m} y x) = (m, ap (λ (d : List ℤ). d ∷ m) (y.copied w10_passes), x)
  w10_stays (goes y x) = true_false w10_passes y.fails

  -- and as an outline, which no shape loses
  pub w10_stands : {s : List (List ℤ)} {l m : List (List (List ℤ))} → ShapesFollow rule ((W10 ∷ s) ∷ l) m → (t : List (List ℤ)) × (n : List (List (List ℤ))) × (m ≡ t ∷ n) × Follow rule (W10 ∷ s) t
  w10_stands (stands {t = t} {m = n} y x) = (t, n, refl, y)
  w10_stands (falls y x) = true_false w10_passes y.fails

  w10_area : exact (points W10) ≡ pos 0
  unfolding points cross around exact
  w10_area = refl

  w9_area : exact (points W9) ≡ pos 32
  unfolding points cross around exact
  w9_area = refl

  -- and no hole takes its place
  pub no_hole_takes_its_place : {m : List (List ℤ)} → Follow rule (W10 ∷ W9 ∷ []) (W9 ∷ m) → ⊥
  no_hole_takes_its_place x =
      let z : ◌≡◌ {A = ℕ} 32 0 = ap nat_abs (sym w9_area ∙ (the_outline_stays_the_outline x).same_area ∙ w10_area) in
      omega arith
