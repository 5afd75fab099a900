-- What moving and turning an outline leaves as it was, of what the library answers.
use mathlib.Core.Path.{◌≡◌, refl, sym, ◌∙◌, ap, ap₂}
use mathlib.Core.Bool.{Bool, not}
use mathlib.Core.List.{List, [], ◌∷◌, ◌++◌, map}
use Prim.Native.Nat.{ℕ, zero, suc, ◌*◌}
use lib.Dec.{eqb}
use lib.ListN.{length}
use lib.IntN.{ℤ, pos, neg_ℤ}
use lib.Signed.{le_z}
use mir.Syntax.{w64}
use mir.Val.{to_z}
use Rattle.integers.specs.Modulo.{mod64}
use Rattle.integers.proofs.Modulo.{mod64_negated}
use Rattle.replies.specs.Ladder.{Rung, first_of}
use Rattle.replies.specs.Verdicts.{verdict}
use Rattle.replies.proofs.LadderLaws.{front_clear}
use Rattle.grid.specs.declared.Point.{Point}
use Rattle.grid.specs.declared.Edge.{Edge}
use Rattle.grid.specs.Limits.{limit}
use Rattle.grid.specs.Points.{points}
use Rattle.grid.specs.Area.{exact, wrapped, reported, halved}
use Rattle.grid.specs.Domain.{count, domain}
use Rattle.grid.proofs.DomainLaws.{in_domain}
use Rattle.grid.proofs.StartLaws.{exact_any_start, exact_reversed}
use Rattle.area.specs.Answers.{doubled, half, empty, refusals, answer as area_answer}
use Rattle.area.proofs.Theorems.{same_modulo_2^64}
use Rattle.path.specs.Convex.{is_convex, convex}
use Rattle.path.specs.Clockwise.{clockwise}
use Rattle.path.specs.Contains.{contained, contains}
use Rattle.path.specs.Locate.{location, located, answer as located_answer}
use Rattle.path.proofs.Theorems.{contained_any_start, another_start_keeps_the_place, reversing_keeps_the_place}
use Rattle.ring.specs.declared.Rule.{Rule}
use Rattle.ring.specs.declared.Rule.TheVariants.{Collinear, Spike}
use Rattle.clean.specs.Verdicts.{is_simple, no_spikes, passes, simple, spike_free}
use Rattle.clean.specs.Outcome as Clean
use Rattle.buffer.specs.Spans.{spans}
use Rattle.buffer.specs.Sets.{contours, shapes}
use Rattle.buffer.specs.Contours as C
use Rattle.buffer.specs.Shapes as S
use Rattle.sets.specs.Verdicts.{every, all_pass, verdict_by}
use Rattle.sets.specs.Verdicts as SetVerdicts
use Rattle.sets.specs.Area.{filled, reported_sum, area_refusals, doubled_by, half_by}
use Rattle.sets.specs.Area as SetArea
use Rattle.sets.specs.Contains.{has, in_shape, shape_refusals as asked_refusals}
use Rattle.sets.specs.Outcome as Sets
use Rattle.turned.specs.Starts.{started_at}
use Rattle.motion.specs.Moves.{shift, shifted, reversed, StillOn, AskedStillOn, kept_shifted, set_shifted, negated}
use Rattle.motion.proofs.Rows.{shifted-length, shifted_points, reversed_points}
use Rattle.motion.proofs.Shifts.{convex_shifted, contained_shifted, exact_shifted}
use Rattle.motion.proofs.Cleanings.{shifted_count, walked_shifted, outcome_shifted}
use Rattle.motion.proofs.Sets.{contours_shifted, shapes_shifted, every_shifted, contour_passes, contour_filled, sum_shifted, contour_location, has_shifted}
use Rattle.motion.proofs.SetCleanings.{shape_outcome_shifted, shapes_outcome_shifted}
use Rattle.motion.proofs.Answers.{shifted_alike, reversed_alike, started_alike, by_refusal, verdict_alike, area_alike, asked_alike}
use Rattle.motion.proofs.Starts.{simple_any_start, no_spikes_any_start, convex_any_start, from_start}

-- A shift, of any row and by any step.
module _ (d : Edge) (row : List ℤ) where
  pub a_shift_keeps_the_exact_area : exact (points (shifted d row)) ≡ exact (points row)
  a_shift_keeps_the_exact_area = ap exact (shifted_points d row) ∙ exact_shifted d (points row)

  -- the walk ends alike, with the same surviving positions, after as many decisions in as many turns
  pub a_shift_keeps_the_walk : (rule : Rule) → Clean.walked rule (shifted d row) ≡ Clean.walked rule row
  a_shift_keeps_the_walk rule = walked_shifted d rule row

-- A shift of a contour that is still on the grid: no answer changes.
module _ (d : Edge) (row : List ℤ) (on : StillOn d row) where
  pub a_shift_keeps_simple : simple (shifted d row) ≡ simple row
  unfolding simple
  a_shift_keeps_simple = verdict_alike (shifted_alike d row on) is_simple (λ h. contour_passes d Collinear row)

  pub a_shift_keeps_no_spikes : spike_free (shifted d row) ≡ spike_free row
  unfolding spike_free
  a_shift_keeps_no_spikes = verdict_alike (shifted_alike d row on) no_spikes (λ h. contour_passes d Spike row)

  pub a_shift_keeps_convex : convex (shifted d row) ≡ convex row
  unfolding convex
  a_shift_keeps_convex = verdict_alike (shifted_alike d row on) is_convex (λ h. ap is_convex (shifted_points d row) ∙ convex_shifted d (points row))

  pub a_shift_keeps_clockwise : clockwise (shifted d row) ≡ clockwise row
  unfolding clockwise
  a_shift_keeps_clockwise = area_alike (shifted_alike d row on) verdict (λ k a b. refl) (λ v. le_z v (pos 0)) (λ h. a_shift_keeps_the_exact_area d row)

  pub a_shift_keeps_the_doubled_area : doubled (shifted d row) ≡ doubled row
  unfolding doubled
  a_shift_keeps_the_doubled_area = area_alike (shifted_alike d row on) area_answer (λ k a b. refl) (λ v. v) (λ h. a_shift_keeps_the_exact_area d row)

  pub a_shift_keeps_the_half : half (shifted d row) ≡ half row
  unfolding half
  a_shift_keeps_the_half = area_alike (shifted_alike d row on) area_answer (λ k a b. refl) halved (λ h. a_shift_keeps_the_exact_area d row)

  -- an asked point is shifted too
  module _ (p : Point) (asked : AskedStillOn d p) where
    pub a_shift_keeps_contains : contains (shifted d row) (shift d p).x (shift d p).y ≡ contains row p.x p.y
    unfolding contains
    a_shift_keeps_contains = asked_alike
        (shifted_alike d row on) verdict (λ k a b. refl)
        (shift d p) p (asked.after ∙ sym asked.before)
        contained (λ h. ap (contained (shift d p)) (shifted_points d row) ∙ contained_shifted d p (points row))

    pub a_shift_keeps_located : located (shifted d row) (shift d p).x (shift d p).y ≡ located row p.x p.y
    unfolding located
    a_shift_keeps_located = asked_alike
        (shifted_alike d row on) located_answer (λ k a b. refl)
        (shift d p) p (asked.after ∙ sym asked.before)
        location (λ h. contour_location d p row)

  -- a cleaning by either rule, whatever is lent: the kept points are shifted, and all else is as it would be
  module _ (rule : Rule) (l : Clean.Lent) where
    pub a_shifted_contour_is_cleaned_as_it_was : Clean.outcome rule (shifted d row) l ≡ kept_shifted d (Clean.outcome rule row l)
    a_shifted_contour_is_cleaned_as_it_was = outcome_shifted d rule row on l

    -- so its reply, its points, its decisions and its turns are the same
    pub a_shift_keeps_the_cleaning's_answer : (Clean.outcome rule (shifted d row) l).answer ≡ (Clean.outcome rule row l).answer
    a_shift_keeps_the_cleaning's_answer = ap (λ (o : Clean.Outcome). o.answer) a_shifted_contour_is_cleaned_as_it_was

-- A shift of a set: its points are shifted, and its ranges stay. Those name its contours and its shapes, shifted.
pub a_shifted_set's_contours_are_shifted : (d : Edge) (p : List ℤ) (cs : List (List ℕ)) → contours (shifted d p) (spans cs) ≡ map (shifted d) (contours p (spans cs))
a_shifted_set's_contours_are_shifted d p cs = contours_shifted d p (spans cs)

pub a_shifted_set's_shapes_are_shifted : (d : Edge) (p : List ℤ) (cs ss : List (List ℕ)) → shapes (shifted d p) (spans cs) (spans ss) ≡ map (map (shifted d)) (shapes p (spans cs) (spans ss))
a_shifted_set's_shapes_are_shifted d p cs ss = shapes_shifted d p (spans cs) (spans ss)

-- Still on the grid no answer changes.
module _ (d : Edge) (p : List ℤ) (on : StillOn d p) (cs : List (List ℕ)) where
  -- its contours, as they were and as they are now
  abbrev set : List (List ℤ)
  set = contours p (spans cs)

  abbrev now : List (List ℤ)
  now = contours (shifted d p) (spans cs)

  sum_stays : reported_sum now ≡ reported_sum set
  sum_stays = ap reported_sum (contours_shifted d p (spans cs)) ∙ ap wrapped (sum_shifted d set)

  -- what is told of a set by its refusals and its contours, where the refusals are the same
  module _ (before after : List Rung) (same : after ≡ before) where
    verdict_stays : (rule : Rule) → verdict_by rule after now ≡ verdict_by rule before set
    unfolding verdict_by
    verdict_stays rule = ap₂ (λ (r : List Rung) (t : Bool). verdict (first_of r) t) same (ap (all_pass rule) (contours_shifted d p (spans cs)) ∙ every_shifted d (λ c. passes rule (points c)) (contour_passes d rule) set)

    area_stays : first_of (area_refusals after now) ≡ first_of (area_refusals before set)
    area_stays = ap₂ (λ (r : List Rung) (t : Bool). first_of (r ++ (not t, 8) ∷ [])) same (ap (every filled) (contours_shifted d p (spans cs)) ∙ every_shifted d filled (contour_filled d) set)

    doubled_stays : doubled_by after now ≡ doubled_by before set
    unfolding doubled_by
    doubled_stays = ap₂ area_answer area_stays sum_stays

    half_stays : half_by after now ≡ half_by before set
    unfolding half_by
    half_stays = ap₂ area_answer area_stays (ap halved sum_stays)

  -- a contour set
  same_contours : C.refusals (shifted d p) cs ≡ C.refusals p cs
  same_contours = rw (on.after, on.before, shifted-length d p)

  pub a_shift_keeps_a_set_simple : SetVerdicts.simple (shifted d p) cs ≡ SetVerdicts.simple p cs
  a_shift_keeps_a_set_simple = verdict_stays (C.refusals p cs) (C.refusals (shifted d p) cs) same_contours Collinear

  pub a_shift_keeps_a_set_without_spikes : SetVerdicts.spike_free (shifted d p) cs ≡ SetVerdicts.spike_free p cs
  a_shift_keeps_a_set_without_spikes = verdict_stays (C.refusals p cs) (C.refusals (shifted d p) cs) same_contours Spike

  pub a_shift_keeps_a_set's_doubled_area : SetArea.doubled (shifted d p) cs ≡ SetArea.doubled p cs
  a_shift_keeps_a_set's_doubled_area = doubled_stays (C.refusals p cs) (C.refusals (shifted d p) cs) same_contours

  pub a_shift_keeps_a_set's_half : SetArea.half (shifted d p) cs ≡ SetArea.half p cs
  a_shift_keeps_a_set's_half = half_stays (C.refusals p cs) (C.refusals (shifted d p) cs) same_contours

  pub a_shift_keeps_whether_a_set_is_empty : C.is_empty (shifted d p) cs ≡ C.is_empty p cs
  unfolding C.is_empty
  a_shift_keeps_whether_a_set_is_empty = ap₂ (λ (r : List Rung) (n : ℕ). verdict (first_of r) (eqb n 0)) same_contours (shifted_count d p)

  pub a_shift_keeps_whether_a_set_is_single : C.is_single (shifted d p) cs ≡ C.is_single p cs
  unfolding C.is_single
  a_shift_keeps_whether_a_set_is_single = ap (λ (r : List Rung). verdict (first_of r) (eqb (length cs) 1)) same_contours

  -- whether a shape has a point, which is shifted too
  pub a_shift_keeps_in_a_shape : (a : Point) → AskedStillOn d a → in_shape (shifted d p) cs (shift d a).x (shift d a).y ≡ in_shape p cs a.x a.y
  unfolding in_shape
  a_shift_keeps_in_a_shape a asked =
      let same : first_of (asked_refusals (shift d a) (shifted d p) cs) ≡ first_of (asked_refusals a p cs) = rw (on.after, on.before, asked.after, asked.before, shifted-length d p) in
      ap₂ verdict same (ap (has (shift d a)) (contours_shifted d p (spans cs)) ∙ has_shifted d a set)

  -- the contours cleaned as one shape, whatever is lent
  pub a_shifted_shape_is_cleaned_as_it_was : (rule : Rule) (l : Sets.Lent) → Sets.shape_outcome rule (shifted d p) cs l ≡ set_shifted d (Sets.shape_outcome rule p cs l)
  a_shifted_shape_is_cleaned_as_it_was rule l = shape_outcome_shifted d rule p on cs l

  -- a shape set
  module _ (ss : List (List ℕ)) where
    same_shapes : S.refusals (shifted d p) cs ss ≡ S.refusals p cs ss
    same_shapes = rw (on.after, on.before, shifted-length d p)

    pub a_shift_keeps_shapes_simple : SetVerdicts.shapes_simple (shifted d p) cs ss ≡ SetVerdicts.shapes_simple p cs ss
    a_shift_keeps_shapes_simple = verdict_stays (S.refusals p cs ss) (S.refusals (shifted d p) cs ss) same_shapes Collinear

    pub a_shift_keeps_shapes_without_spikes : SetVerdicts.shapes_spike_free (shifted d p) cs ss ≡ SetVerdicts.shapes_spike_free p cs ss
    a_shift_keeps_shapes_without_spikes = verdict_stays (S.refusals p cs ss) (S.refusals (shifted d p) cs ss) same_shapes Spike

    pub a_shift_keeps_the_shapes'_doubled_area : SetArea.shapes_doubled (shifted d p) cs ss ≡ SetArea.shapes_doubled p cs ss
    a_shift_keeps_the_shapes'_doubled_area = doubled_stays (S.refusals p cs ss) (S.refusals (shifted d p) cs ss) same_shapes

    pub a_shift_keeps_the_shapes'_half : SetArea.shapes_half (shifted d p) cs ss ≡ SetArea.shapes_half p cs ss
    a_shift_keeps_the_shapes'_half = half_stays (S.refusals p cs ss) (S.refusals (shifted d p) cs ss) same_shapes

    pub a_shift_keeps_whether_shapes_are_empty : S.is_empty (shifted d p) cs ss ≡ S.is_empty p cs ss
    unfolding S.is_empty
    a_shift_keeps_whether_shapes_are_empty = ap₂ (λ (r : List Rung) (n : ℕ). verdict (first_of r) (eqb n 0)) same_shapes (shifted_count d p)

    pub shifted_shapes_are_cleaned_as_they_were : (rule : Rule) (l : Sets.Lent) → Sets.shapes_outcome rule (shifted d p) cs ss l ≡ set_shifted d (Sets.shapes_outcome rule p cs ss l)
    shifted_shapes_are_cleaned_as_they_were rule l = shapes_outcome_shifted d rule p on cs l ss

-- The reversed order, of a row with two numbers for each point.
pub reversing_negates_the_exact_area : (row : List ℤ) → length row ≡ 2 * count row → exact (points (reversed row)) ≡ neg_ℤ (exact (points row))
reversing_negates_the_exact_area row h = ap exact (reversed_points row h) ∙ exact_reversed (points row)

-- of any row, the area that is answered
pub reversing_negates_the_doubled_area_modulo_2^64 : (row : List ℤ) → doubled (reversed row) ≡ negated (doubled row)
unfolding doubled wrapped mod64
reversing_negates_the_doubled_area_modulo_2^64 row = by_refusal
    area_answer (λ k a b. refl)
    (first_of (refusals (reversed row))) (first_of (refusals row)) (rw ((reversed_alike row).long, (reversed_alike row).on))
    (reported (points (reversed row))) (wrapped (neg_ℤ (reported (points row)))) value
    ∙ told (first_of (refusals row))
  where
    value : first_of (refusals row) ≡ 0 → reported (points (reversed row)) ≡ wrapped (neg_ℤ (reported (points row)))
    value z =
        let even = (in_domain row (front_clear (domain limit row) (empty row) z)).even in
        ap wrapped (reversing_negates_the_exact_area row even)
        ∙ ap (to_z w64) (sym (mod64_negated (reported (points row)) (exact (points row)) (same_modulo_2^64 (points row))))

    told : (k : ℕ) → area_answer k (wrapped (neg_ℤ (reported (points row)))) ≡ negated (area_answer k (reported (points row)))
    told zero = refl
    told (suc k) = refl

pub reversing_keeps_where_a_point_is_located : (row : List ℤ) (p : Point) → located (reversed row) p.x p.y ≡ located row p.x p.y
unfolding located
reversing_keeps_where_a_point_is_located row p = asked_alike
    (reversed_alike row) located_answer (λ k a b. refl)
    p p refl
    location (λ h. ap (location p) (reversed_points row h) ∙ reversing_keeps_the_place p (points row))

-- Another start, whichever point it is.
module _ (k : ℕ) (row : List ℤ) where
  pub another_start_keeps_the_exact_area : length row ≡ 2 * count row → exact (points (started_at k row)) ≡ exact (points row)
  another_start_keeps_the_exact_area = from_start exact exact_any_start k row

  pub another_start_keeps_the_doubled_area : doubled (started_at k row) ≡ doubled row
  unfolding doubled
  another_start_keeps_the_doubled_area = area_alike (started_alike k row) area_answer (λ k a b. refl) (λ v. v) another_start_keeps_the_exact_area

  pub another_start_keeps_the_half : half (started_at k row) ≡ half row
  unfolding half
  another_start_keeps_the_half = area_alike (started_alike k row) area_answer (λ k a b. refl) halved another_start_keeps_the_exact_area

  pub another_start_keeps_clockwise : clockwise (started_at k row) ≡ clockwise row
  unfolding clockwise
  another_start_keeps_clockwise = area_alike (started_alike k row) verdict (λ k a b. refl) (λ v. le_z v (pos 0)) another_start_keeps_the_exact_area

  pub another_start_keeps_simple : simple (started_at k row) ≡ simple row
  unfolding simple
  another_start_keeps_simple = verdict_alike (started_alike k row) is_simple (from_start is_simple simple_any_start k row)

  pub another_start_keeps_no_spikes : spike_free (started_at k row) ≡ spike_free row
  unfolding spike_free
  another_start_keeps_no_spikes = verdict_alike (started_alike k row) no_spikes (from_start no_spikes no_spikes_any_start k row)

  pub another_start_keeps_convex : convex (started_at k row) ≡ convex row
  unfolding convex
  another_start_keeps_convex = verdict_alike (started_alike k row) is_convex (from_start is_convex convex_any_start k row)

  pub another_start_keeps_contains : (p : Point) → contains (started_at k row) p.x p.y ≡ contains row p.x p.y
  unfolding contains
  another_start_keeps_contains p = asked_alike (started_alike k row) verdict (λ k a b. refl) p p refl contained (from_start (contained p) (contained_any_start p) k row)

  pub another_start_keeps_where_a_point_is_located : (p : Point) → located (started_at k row) p.x p.y ≡ located row p.x p.y
  unfolding located
  another_start_keeps_where_a_point_is_located p = asked_alike
      (started_alike k row) located_answer (λ k a b. refl)
      p p refl
      location (from_start (location p) (another_start_keeps_the_place p) k row)
