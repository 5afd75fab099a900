-- Sets whose points are shifted: the same ranges name the contours, shifted, and so every question over them is answered alike.
use mathlib.Core.Path.{◌≡◌, refl, sym, ◌∙◌, ap, ap₂}
use mathlib.Core.Bool.{Bool, true, false, not, ◌&&◌}
use mathlib.Core.List.{List, [], ◌∷◌, ◌++◌, map, map-append}
use Prim.Native.Nat.{ℕ, ◌*◌}
use native.Mathlib.Omega.{arith}
use lib.Dec.{eqb}
use lib.ListN.{length, take, drop, length-map}
use lib.IntN.{ℤ, ◌+ℤ◌}
use Rattle.grid.specs.declared.Point.{Point}
use Rattle.grid.specs.declared.Edge.{Edge}
use Rattle.grid.specs.Points.{points}
use Rattle.grid.specs.Area.{wrapped, reported}
use Rattle.grid.specs.Domain.{count}
use Rattle.path.specs.Locate.{location}
use Rattle.ring.specs.declared.Rule.{Rule}
use Rattle.ring.specs.Walk.{Tally, End, Walked}
use Rattle.ring.specs.Walk.End.{kept, collapsed}
use Rattle.ring.specs.Rule.{goes}
use Rattle.ring.proofs.Theorems.{kept_rising}
use Rattle.clean.specs.Outcome.{walked}
use Rattle.clean.specs.Verdicts.{passes}
use Rattle.buffer.specs.declared.ranges.Span.{Span}
use Rattle.buffer.specs.Spans.{size, laid}
use Rattle.buffer.specs.Sets.{cut, joined, doubled, contour, contours, shapes, contour_spans, shape_spans, Even}
use Rattle.buffer.proofs.ListLaws.{map_cut}
use Rattle.sets.specs.Verdicts.{every}
use Rattle.sets.specs.Area.{filled, sum}
use Rattle.sets.specs.Contains.{inside, has}
use Rattle.sets.specs.Fates.{none_counted, Fate, walk_fate, fate, Stay, and_later, later, ShapeFate, behind, shape_fate, Shapes, and_others, shapes_fate}
use Rattle.sets.specs.Fates.Fate.{stays, gone}
use Rattle.sets.specs.Fates.ShapeFate.{stands, fallen}
use Rattle.motion.specs.Moves.{shift, shifted}
use Rattle.motion.proofs.Rows.{shifted_points, shifted_taken, shifted_dropped, shifted_joined}
use Rattle.motion.proofs.Shifts.{passes_shifted, location_shifted, exact_shifted}
use Rattle.motion.proofs.Cleanings.{shifted_count, chosen_shifted, walked_shifted}

module _ (d : Edge) where
  -- every contour of a set, shifted
  abbrev pub all_shifted : List (List ℤ) → List (List ℤ)
  all_shifted = map (shifted d)

  contour_shifted : (p : List ℤ) (s : Span) → contour (shifted d p) s ≡ shifted d (contour p s)
  contour_shifted p s =
      let e : size (doubled s) ≡ 2 * size s = omega arith in
      rw e (ap (take (2 * size s)) (shifted_dropped d s.start p) ∙ shifted_taken d (size s) (drop (2 * s.start) p))

  pub contours_shifted : (p : List ℤ) (cs : List Span) → contours (shifted d p) cs ≡ all_shifted (contours p cs)
  contours_shifted p [] = refl
  contours_shifted p (s ∷ cs) = ap₂ (λ (c : List ℤ) (l : List (List ℤ)). c ∷ l) (contour_shifted p s) (contours_shifted p cs)

  pub shapes_shifted : (p : List ℤ) (cs ss : List Span) → shapes (shifted d p) cs ss ≡ map all_shifted (shapes p cs ss)
  shapes_shifted p cs ss = ap (λ (l : List (List ℤ)). map (cut l) ss) (contours_shifted p cs) ∙ cuts ss
    where
      cuts : (ss : List Span) → map (cut (all_shifted (contours p cs))) ss ≡ map all_shifted (map (cut (contours p cs)) ss)
      cuts [] = refl
      cuts (s ∷ ss) = ap₂ (λ (c : List (List ℤ)) (l : List (List (List ℤ))). c ∷ l) (map_cut (shifted d) (contours p cs) s) (cuts ss)

  -- questions over the contours
  every_alike : (t u : List ℤ → Bool) → ((c : List ℤ) → t (shifted d c) ≡ u c) → (set : List (List ℤ)) → every t (all_shifted set) ≡ every u set
  unfolding every
  every_alike t u e [] = refl
  every_alike t u e (c ∷ set) = ap₂ ◌&&◌ (e c) (every_alike t u e set)

  pub every_shifted : (t : List ℤ → Bool) → ((c : List ℤ) → t (shifted d c) ≡ t c) → (set : List (List ℤ)) → every t (all_shifted set) ≡ every t set
  every_shifted t = every_alike t t

  pub contour_passes : (rule : Rule) (c : List ℤ) → passes rule (points (shifted d c)) ≡ passes rule (points c)
  contour_passes rule c = ap (passes rule) (shifted_points d c) ∙ passes_shifted d rule (points c)

  pub contour_filled : (c : List ℤ) → filled (shifted d c) ≡ filled c
  contour_filled c = ap (λ (n : ℕ). not (eqb n 0)) (shifted_count d c)

  pub contour_reported : (c : List ℤ) → reported (points (shifted d c)) ≡ reported (points c)
  contour_reported c = ap reported (shifted_points d c) ∙ ap wrapped (exact_shifted d (points c))

  pub sum_shifted : (set : List (List ℤ)) → sum (all_shifted set) ≡ sum set
  unfolding sum
  sum_shifted [] = refl
  sum_shifted (c ∷ set) = ap₂ ◌+ℤ◌ (contour_reported c) (sum_shifted set)

  module _ (a : Point) where
    pub contour_location : (c : List ℤ) → location (shift d a) (points (shifted d c)) ≡ location a (points c)
    contour_location c = ap (location (shift d a)) (shifted_points d c) ∙ location_shifted d a (points c)

    pub has_shifted : (set : List (List ℤ)) → has (shift d a) (all_shifted set) ≡ has a set
    unfolding has
    has_shifted [] = refl
    has_shifted (c ∷ l) = ap₂ ◌&&◌
        (ap (λ (n : ℕ). not (eqb n 0)) (contour_location c))
        (every_alike (λ c. not (inside (shift d a) c)) (λ c. not (inside a c)) (λ c. ap (λ (n : ℕ). not (eqb n 2)) (contour_location c)) l)

  -- what becomes of contours and shapes when they are cleaned
  abbrev fate_to : Fate → Fate
  fate_to (stays c t) = stays (shifted d c) t
  fate_to (gone t) = gone t

  abbrev stay_to : Stay → Stay
  stay_to l = record { contours = all_shifted l.contours; tally = l.tally }

  abbrev pub shape_to : ShapeFate → ShapeFate
  shape_to (stands s t) = stands (all_shifted s) t
  shape_to (fallen t) = fallen t

  abbrev pub shapes_to : Shapes → Shapes
  shapes_to l = record { shapes = map all_shifted l.shapes; tally = l.tally }

  module _ (rule : Rule) where
    walk_fate_shifted : (c : List ℤ) (e : End) (t : Tally) → (walked rule c).end ≡ e → walk_fate (shifted d c) e t ≡ fate_to (walk_fate c e t)
    walk_fate_shifted c (kept s) t is = ap (λ (r : List ℤ). stays r t) (chosen_shifted d c 0 s (kept_rising (goes rule c) (count c) is))
    walk_fate_shifted c collapsed t is = refl

    fate_shifted : (c : List ℤ) → fate rule (shifted d c) ≡ fate_to (fate rule c)
    unfolding fate
    fate_shifted c =
        ap₂ (λ (b : Bool) (w : Walked). elim b [ true ↦ stays (shifted d c) none_counted | false ↦ walk_fate (shifted d c) w.end w.tally ])
        (contour_passes rule c) (walked_shifted d rule c)
        ∙ by (passes rule (points c))
      where
        by : (b : Bool) → (elim b [ true ↦ stays (shifted d c) none_counted | false ↦ walk_fate (shifted d c) (walked rule c).end (walked rule c).tally ])
            ≡ fate_to (elim b [ true ↦ stays c none_counted | false ↦ walk_fate c (walked rule c).end (walked rule c).tally ])
        by true = refl
        by false = walk_fate_shifted c (walked rule c).end (walked rule c).tally refl

    later_shifted : (l : List (List ℤ)) → later rule (all_shifted l) ≡ stay_to (later rule l)
    unfolding later
    later_shifted [] = refl
    later_shifted (c ∷ l) = ap₂ and_later (fate_shifted c) (later_shifted l) ∙ by (fate rule c) (later rule l)
      where
        by : (f : Fate) (s : Stay) → and_later (fate_to f) (stay_to s) ≡ stay_to (and_later f s)
        by (stays c t) s = refl
        by (gone t) s = refl

    pub shape_fate_shifted : (s : List (List ℤ)) → shape_fate rule (all_shifted s) ≡ shape_to (shape_fate rule s)
    unfolding shape_fate
    shape_fate_shifted [] = refl
    shape_fate_shifted (c ∷ l) = ap₂ behind (fate_shifted c) (later_shifted l) ∙ by (fate rule c) (later rule l)
      where
        by : (f : Fate) (s : Stay) → behind (fate_to f) (stay_to s) ≡ shape_to (behind f s)
        by (stays c t) s = refl
        by (gone t) s = refl

    pub shapes_fate_shifted : (set : List (List (List ℤ))) → shapes_fate rule (map all_shifted set) ≡ shapes_to (shapes_fate rule set)
    unfolding shapes_fate
    shapes_fate_shifted [] = refl
    shapes_fate_shifted (s ∷ l) = ap₂ and_others (shape_fate_shifted s) (shapes_fate_shifted l) ∙ by (shape_fate rule s) (shapes_fate rule l)
      where
        by : (f : ShapeFate) (o : Shapes) → and_others (shape_to f) (shapes_to o) ≡ shapes_to (and_others f o)
        by (stands s t) o = refl
        by (fallen t) o = refl

  -- laid end to end
  pub joined_shifted : (set : List (List ℤ)) → Even set → joined (all_shifted set) ≡ shifted d (joined set)
  unfolding joined shifted
  joined_shifted [] h = refl
  joined_shifted (c ∷ set) h = ap (λ (l : List ℤ). shifted d c ++ l) (joined_shifted set h.1) ∙ sym (shifted_joined d c (joined set) h.0)

  pub shapes_joined : (set : List (List (List ℤ))) → joined (map all_shifted set) ≡ all_shifted (joined set)
  unfolding joined
  shapes_joined [] = refl
  shapes_joined (s ∷ set) = ap (λ (l : List (List ℤ)). all_shifted s ++ l) (shapes_joined set) ∙ sym (map-append (shifted d) s (joined set))

  pub counts_shifted : (set : List (List ℤ)) → contour_spans (all_shifted set) ≡ contour_spans set
  counts_shifted set = ap (laid 0) (counts set)
    where
      counts : (set : List (List ℤ)) → map count (all_shifted set) ≡ map count set
      counts [] = refl
      counts (c ∷ set) = ap₂ (λ (n : ℕ) (l : List ℕ). n ∷ l) (shifted_count d c) (counts set)

  pub lengths_shifted : (set : List (List (List ℤ))) → shape_spans (map all_shifted set) ≡ shape_spans set
  lengths_shifted set = ap (laid 0) (lengths set)
    where
      lengths : (set : List (List (List ℤ))) → map length (map all_shifted set) ≡ map length set
      lengths [] = refl
      lengths (s ∷ set) = ap₂ (λ (n : ℕ) (l : List ℕ). n ∷ l) (length-map s (shifted d)) (lengths set)
