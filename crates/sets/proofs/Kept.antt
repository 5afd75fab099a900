-- What a user may count on when shapes are cleaned: areas, order, and sound ranges.
use Rattle.std.proofs.Common.{◌≡◌, ℕ, ◌*◌, Bool, true, false, ◌&&◌, List, [], ◌∷◌, ◌++◌, map, length, take, drop, ℤ, pos, sym, refl, ap, ◌∙◌, subst, ⊎_elim, arith, take_at}
use lib.ListN.{length-map, length-replicate}
use Rattle.grid.specs.Limits.{limit}
use Rattle.grid.specs.Points.{points}
use Rattle.grid.specs.Area.{exact}
use Rattle.grid.specs.Domain.{count, Contour}
use Rattle.grid.proofs.RowLaws.{points_count}
use Rattle.rows.specs.Rows.{front}
use Rattle.replies.specs.Ladder.{first_of}
use Rattle.replies.proofs.LadderLaws.{cleared}
use Rattle.area.proofs.Removal.{few_points}
use Rattle.ring.specs.declared.Rule.{Rule}
use Rattle.ring.specs.Walk.{Tally, End, survivors, fresh}
use Rattle.ring.specs.Walk.End.{kept, collapsed}
use Rattle.ring.specs.Rule.{goes_at, goes}
use Rattle.ring.proofs.Branches.{less?, true_false}
use Rattle.ring.proofs.Listed.{survivors_rise}
use Rattle.ring.proofs.RuleLaws.{goes_cross}
use Rattle.ring.proofs.Theorems.{kept_rising}
use Rattle.clean.specs.Outcome.{walked, chosen}
use Rattle.clean.proofs.RowLaws.{length_chosen}
use Rattle.clean.proofs.Picked.{points_chosen}
use Rattle.clean.proofs.Theorems.{kept_area, collapsed_area}
use Rattle.clean.proofs.Unchanged.{chosen_all}
use Rattle.integers.proofs.Logic.{and_left}
use Rattle.buffer.specs.Spans.{sound, spans, rows, laid}
use Rattle.buffer.specs.Sets.{joined, contour_spans, shape_spans, Even, contours, shapes}
use Rattle.buffer.proofs.Theorems.{what_is_packed_is_sound, packed_shapes_are_sound, packing_then_unpacking_gives_back_every_contour, packing_then_unpacking_gives_back_every_shape}
use Rattle.buffer.specs.Contours.{refusals as contour_refusals}
use Rattle.buffer.specs.Shapes.{refusals as shape_refusals}
use Rattle.buffer.proofs.RefusalLaws.{accepted}
use Rattle.buffer.proofs.WrittenLaws.{rows_front}
use Rattle.sets.specs.Fates.{none_counted, Fate, walk_fate, fate, and_later, later, ShapeFate, behind, shape_fate, and_others, shapes_fate}
use Rattle.sets.specs.Fates.Fate.{stays, gone}
use Rattle.sets.specs.Fates.ShapeFate.{stands, fallen}
use Rattle.sets.specs.Promises.{Contours, AllContours, Collapses, OutlineCollapses, KeptAs, LaterFollow, Follow, ShapesFollow}
use Rattle.sets.specs.Promises.LaterFollow.{no_more, stays as contour_stays, goes as contour_goes}
use Rattle.sets.specs.Promises.Follow.{empty, outline}
use Rattle.sets.specs.Promises.ShapesFollow.{no_shapes, falls, stands as shape_stands}
use Rattle.clean.specs.Verdicts.{passes}
use Rattle.sets.specs.Outcome.{Lent, Outcome, lacking, cleaned_shape, shape_outcome, cleaned_shapes, shapes_outcome}
use Rattle.buffer.proofs.SetLaws.{laid-length}
use Rattle.sets.proofs.Untouched.{answered, seven_is_done, shapes_answered}
use Rattle.sets.proofs.LaidLaws.{even-append, points_even}
use Rattle.sets.proofs.BehindLaws.{accepted_named, all_named, all_cut}

-- what becomes of a contour of the domain: it stays and is kept, or is gone and collapses
abbrev pub Right : Rule → List ℤ → Fate → Type 0
Right rule c (stays d k) = KeptAs rule c d × (length d ≡ 2 * count d)
Right rule c (gone k) = Collapses rule c

module _ (rule : Rule) where
  pub fate_is_right : (c : List ℤ) → Contour c (count c) → Right rule c (fate rule c)
  unfolding fate
  fate_is_right c h = go (passes rule (points c)) refl
    where
      chosen_even : (s : List ℕ) → length (chosen c s) ≡ 2 * count (chosen c s)
      chosen_even s = omega (arith, length_chosen c s)

      walk_right : passes rule (points c) ≡ false → (w : End) → (walked rule c).end ≡ w → Right rule c (walk_fate c w (walked rule c).tally)
      walk_right f collapsed e = record { fails = f; ends = e }
      walk_right f (kept s) e = (
        record {
          stands = λ x. let z : ◌≡◌ {A = ℕ} 0 1 = cc x.ends in omega arith;
          positions = s;
          rising = kept_rising (goes rule c) (count c) e;
          is = refl;
          same_area = ap exact (points_chosen c s) ∙ kept_area (goes_at rule) (goes_cross rule) c h e;
          copied = λ t. true_false t f;
          cleaned = λ f. e;
        },
        chosen_even s,
      )

      go : (b : Bool) → passes rule (points c) ≡ b → Right rule c (elim b [ true ↦ stays c none_counted | false ↦ walk_fate c (walked rule c).end (walked rule c).tally ])
      go true t = (
        record {
          stands = λ x. true_false t x.fails;
          positions = survivors (fresh (count c));
          rising = survivors_rise 0 (count c) (fresh (count c)) (omega (arith, length-replicate {A = ℕ} (count c) 0));
          is = sym (chosen_all c h);
          same_area = refl;
          copied = λ t. refl;
          cleaned = λ f. true_false t f;
        },
        h.even,
      )
      go false f = walk_right f (walked rule c).end refl

  -- a contour of the domain that collapses has no area; so one with an area is lost only behind an outline that collapses
  pub what_collapses_has_no_area : (c : List ℤ) → Contour c (count c) → Collapses rule c → exact (points c) ≡ pos 0
  what_collapses_has_no_area c h x = ⊎_elim
      (λ few. few_points (points c) (omega (arith, points_count c)))
      (λ many. collapsed_area (goes_at rule) (goes_cross rule) c h many x.ends)
      (less? (count c) 3)

  -- contours that follow others, each an even row of numbers
  abbrev Kept : List (List ℤ) → List (List ℤ) → Type 0
  Kept l m = LaterFollow rule l m × Even m

  later_is_right : (l : List (List ℤ)) → Contours l → Kept l (later rule l).contours
  unfolding later
  later_is_right [] h = (no_more, tt)
  later_is_right (c ∷ l) h = go (fate rule c) (fate_is_right c h.0) (later_is_right l h.1)
    where
      go : (f : Fate) → Right rule c f → Kept l (later rule l).contours → Kept (c ∷ l) (and_later f (later rule l)).contours
      go (stays d k) r x = (contour_stays r.0 x.0, (r.1, x.1))
      go (gone k) r x = (contour_goes r x.0, x.1)

  -- what becomes of a shape: it stands and is followed, or falls with an outline that collapses
  abbrev pub ShapeRight : List (List ℤ) → ShapeFate → Type 0
  ShapeRight s (stands t k) = Follow rule s t × Even t
  ShapeRight s (fallen k) = OutlineCollapses rule s

  pub shape_is_right : (s : List (List ℤ)) → Contours s → ShapeRight s (shape_fate rule s)
  unfolding shape_fate
  shape_is_right [] h = (empty, tt)
  shape_is_right (c ∷ l) h = go (fate rule c) (fate_is_right c h.0) (later_is_right l h.1)
    where
      go : (f : Fate) → Right rule c f → Kept l (later rule l).contours → ShapeRight (c ∷ l) (behind f (later rule l))
      go (stays d k) r x = (outline r.0 x.0, (r.1, x.1))
      go (gone k) r x = r

  -- shapes and contours stay in order; what is missing collapsed, or stood behind an outline that did
  pub cleaned_shapes_follow : (set : List (List (List ℤ))) → AllContours set → ShapesFollow rule set (shapes_fate rule set).shapes
  unfolding shapes_fate
  cleaned_shapes_follow [] h = no_shapes
  cleaned_shapes_follow (s ∷ l) h = go s (shape_fate rule s) (shape_is_right s h.0) (cleaned_shapes_follow l h.1)
    where
      go : (s : List (List ℤ)) (f : ShapeFate) → ShapeRight s f → ShapesFollow rule l (shapes_fate rule l).shapes → ShapesFollow rule (s ∷ l) (and_others f (shapes_fate rule l)).shapes
      go s (stands t k) r x = shape_stands r.0 x
      go [] (fallen k) r x = absurd r
      go (c ∷ s) (fallen k) r x = falls r x

  -- what is kept of shapes of the domain are even rows of numbers
  pub kept_even : (set : List (List (List ℤ))) → AllContours set → Even (joined (shapes_fate rule set).shapes)
  unfolding shapes_fate joined
  kept_even [] h = tt
  kept_even (s ∷ l) h = go s (shape_fate rule s) (shape_is_right s h.0) (kept_even l h.1)
    where
      go : (s : List (List ℤ)) (f : ShapeFate) → ShapeRight s f → Even (joined (shapes_fate rule l).shapes) → Even (joined (and_others f (shapes_fate rule l)).shapes)
      go s (stands t k) r x = even-append t (joined (shapes_fate rule l).shapes) r.1 x
      go [] (fallen k) r x = absurd r
      go (c ∷ s) (fallen k) r x = x

  -- the ranges that are written are sound for the points that are written
  pub the_contour_ranges_written_are_sound : (set : List (List (List ℤ))) → AllContours set
      → sound (contour_spans (joined (shapes_fate rule set).shapes)) (count (joined (joined (shapes_fate rule set).shapes))) ≡ true
  the_contour_ranges_written_are_sound set h = what_is_packed_is_sound (joined (shapes_fate rule set).shapes) (kept_even set h)

  pub the_shape_ranges_written_are_sound : (set : List (List (List ℤ))) → sound (shape_spans (shapes_fate rule set).shapes) (length (joined (shapes_fate rule set).shapes)) ≡ true
  the_shape_ranges_written_are_sound set = packed_shapes_are_sound (shapes_fate rule set).shapes

-- the contours of a set that no call refuses are of the domain
pub contours_of_a_set : (p : List ℤ) (cs : List (List ℕ)) → first_of (contour_refusals p cs) ≡ 0 → Contours (contours p (spans cs))
contours_of_a_set p cs z = let a = accepted limit p (sound (spans cs) (count p)) z in all_named p cs (accepted_named p cs _ a a.sound)

-- and so are those of its shapes
pub shapes_of_a_set : (p : List ℤ) (cs ss : List (List ℕ)) → first_of (shape_refusals p cs ss) ≡ 0 → AllContours (shapes p (spans cs) (spans ss))
shapes_of_a_set p cs ss z =
    let a = accepted limit p (sound (spans cs) (count p) && sound (spans ss) (length cs)) z in
    all_cut (contours p (spans cs)) (spans ss) (all_named p cs (accepted_named p cs _ a (and_left (sound (spans cs) (count p)) _ a.sound)))

-- what is laid in front of the rows, taken back
points_back : (t : List (List ℤ)) → Even t → (out : List ℤ) → take (2 * count (joined t)) (front (joined t) out) ≡ joined t
points_back t h out = take_at (joined t) (drop (length (joined t)) out) (2 * count (joined t)) (points_even t h)

ranges_back : (p : ℕ) (sizes : List ℕ) (n : ℕ) → length sizes ≡ n → (records : List (List ℕ)) → spans (take n (front (rows (laid p sizes)) records)) ≡ laid p sizes
ranges_back p sizes n e records = ap (λ (k : ℕ). spans (take k (front (rows (laid p sizes)) records))) (sym (laid-length p sizes ∙ e)) ∙ rows_front (laid p sizes) records

-- One shape, of a call that is not refused; o is whatever the contract allows.
module _ (rule : Rule) (p : List ℤ) (cs : List (List ℕ)) (l : Lent) (o : Outcome) (is : o ≡ shape_outcome rule p cs l) where
  becomes_right : first_of (contour_refusals p cs ++ lacking p cs [] l) ≡ 0 → ShapeRight rule (contours p (spans cs)) (shape_fate rule (contours p (spans cs)))
  becomes_right z = shape_is_right rule (contours p (spans cs)) (contours_of_a_set p cs (cleared (contour_refusals p cs) (lacking p cs [] l) tt z).0)

  -- 7 is answered of a shape whose outline collapses
  pub a_collapsed_shape's_outline_collapses : o.answer.reply ≡ 7 → OutlineCollapses rule (contours p (spans cs))
  a_collapsed_shape's_outline_collapses seven =
      let u = seven_is_done rule p cs l o is seven in
      go (shape_fate rule (contours p (spans cs))) (becomes_right u.0) u.1
    where
      go : (f : ShapeFate) → ShapeRight rule (contours p (spans cs)) f → o ≡ cleaned_shape (count p) f l → OutlineCollapses rule (contours p (spans cs))
      go (stands t k) r e = let z : ◌≡◌ {A = ℕ} 0 7 = sym (ap (λ (w : Outcome). w.answer.reply) e) ∙ seven in absurd (omega arith)
      go (fallen k) r e = r

  module _ (ok : o.answer.reply ≡ 0) where
    -- the ranges and the contours that were written, unpacked
    abbrev pub kept_ranges : List (List ℕ)
    kept_ranges = take o.answer.contours o.rows.contours

    abbrev pub kept_contours : List (List ℤ)
    kept_contours = contours (take (2 * o.answer.points) o.rows.points) (spans kept_ranges)

    -- what the shape stands with
    module _ (t : List (List ℤ)) (k : Tally) (even : Even t) (e : o ≡ cleaned_shape (count p) (stands t k) l) where
      ranges_are : spans kept_ranges ≡ contour_spans t
      ranges_are = rw e (ranges_back 0 (map count t) (length t) (length-map t count) l.contours)

      unpacked : kept_contours ≡ t
      unpacked =
          let f : take (2 * o.answer.points) o.rows.points ≡ joined t = rw e (points_back t even l.points) in
          rw (f, ranges_are) (packing_then_unpacking_gives_back_every_contour t even)

      ranges_sound : sound (spans kept_ranges) o.answer.points ≡ true
      ranges_sound = rw (ranges_are, ap (λ (w : Outcome). w.answer.points) e) (what_is_packed_is_sound t even)

    right : Follow rule (contours p (spans cs)) kept_contours × (sound (spans kept_ranges) o.answer.points ≡ true)
    right =
        let u = answered rule p cs l o is ok in
        go (shape_fate rule (contours p (spans cs))) (becomes_right u.0) u.1
      where
        go : (f : ShapeFate) → ShapeRight rule (contours p (spans cs)) f → o ≡ cleaned_shape (count p) f l
            → Follow rule (contours p (spans cs)) kept_contours × (sound (spans kept_ranges) o.answer.points ≡ true)
        go (fallen k) r e = let z : ◌≡◌ {A = ℕ} 7 0 = sym (ap (λ (w : Outcome). w.answer.reply) e) ∙ ok in absurd (omega arith)
        go (stands t k) r e = (subst (Follow rule (contours p (spans cs))) (sym (unpacked t k r.1 e)) r.0, ranges_sound t k r.1 e)

    -- they follow those of the shape, its outline first
    pub a_cleaned_shape_follows : Follow rule (contours p (spans cs)) kept_contours
    a_cleaned_shape_follows = right.0

    -- so 0 is answered only where the outline does not collapse
    pub a_cleaned_shape's_outline_stands : OutlineCollapses rule (contours p (spans cs)) → ⊥
    a_cleaned_shape's_outline_stands = outline_stands (contours p (spans cs)) kept_contours a_cleaned_shape_follows
      where
        outline_stands : (s t : List (List ℤ)) → Follow rule s t → OutlineCollapses rule s → ⊥
        outline_stands [] t x h = h
        outline_stands (c ∷ s) [] x h = elim x [ ]
        outline_stands (c ∷ s) (d ∷ t) (outline y x) h = y.stands h

    -- and the ranges that were written are sound
    pub a_cleaned_shape's_ranges_are_sound : sound (spans kept_ranges) o.answer.points ≡ true
    a_cleaned_shape's_ranges_are_sound = right.1

-- Shapes that were cleaned; o is whatever the contract allows.
module _ (rule : Rule) (p : List ℤ) (cs ss : List (List ℕ)) (l : Lent) (o : Outcome) (is : o ≡ shapes_outcome rule p cs ss l) (ok : o.answer.reply ≡ 0) where
  abbrev pub written_points : List ℤ
  written_points = take (2 * o.answer.points) o.rows.points

  abbrev pub written_contours : List (List ℕ)
  written_contours = take o.answer.contours o.rows.contours

  abbrev pub written_shapes : List (List ℕ)
  written_shapes = take o.answer.shapes o.rows.shapes

  abbrev kept_shapes : List (List (List ℤ))
  kept_shapes = (shapes_fate rule (shapes p (spans cs) (spans ss))).shapes

  cleaned : (first_of (shape_refusals p cs ss) ≡ 0) × (o ≡ cleaned_shapes (count p) (shapes_fate rule (shapes p (spans cs) (spans ss))) l)
  cleaned =
      let u = shapes_answered rule p cs ss l o is ok in
      ((cleared (shape_refusals p cs ss) (lacking p cs ss l) tt u.0).0, u.1)

  in_domain : AllContours (shapes p (spans cs) (spans ss))
  in_domain = shapes_of_a_set p cs ss cleaned.0

  contours_written : spans written_contours ≡ contour_spans (joined kept_shapes)
  contours_written = rw cleaned.1 (ranges_back 0 (map count (joined kept_shapes)) (length (joined kept_shapes)) (length-map (joined kept_shapes) count) l.contours)

  shapes_written : spans written_shapes ≡ shape_spans kept_shapes
  shapes_written = rw cleaned.1 (ranges_back 0 (map length kept_shapes) (length kept_shapes) (length-map kept_shapes length) l.shapes)

  shapes_unpacked : shapes written_points (spans written_contours) (spans written_shapes) ≡ kept_shapes
  shapes_unpacked =
      let h = kept_even rule (shapes p (spans cs) (spans ss)) in_domain in
      let e : written_points ≡ joined (joined kept_shapes) = rw cleaned.1 (points_back (joined kept_shapes) h l.points) in
      rw (e, contours_written, shapes_written) (packing_then_unpacking_gives_back_every_shape kept_shapes h)

  -- the shapes that were written, unpacked, follow those of the set
  pub a_cleaned_shape_set_follows : ShapesFollow rule (shapes p (spans cs) (spans ss)) (shapes written_points (spans written_contours) (spans written_shapes))
  a_cleaned_shape_set_follows = subst (ShapesFollow rule (shapes p (spans cs) (spans ss))) (sym shapes_unpacked) (cleaned_shapes_follow rule (shapes p (spans cs) (spans ss)) in_domain)

  -- and their ranges are sound
  pub a_cleaned_shape_set's_contour_ranges_are_sound : sound (spans written_contours) o.answer.points ≡ true
  a_cleaned_shape_set's_contour_ranges_are_sound =
      rw (contours_written, ap (λ (w : Outcome). w.answer.points) cleaned.1) (the_contour_ranges_written_are_sound rule (shapes p (spans cs) (spans ss)) in_domain)

  pub a_cleaned_shape_set's_shape_ranges_are_sound : sound (spans written_shapes) o.answer.contours ≡ true
  a_cleaned_shape_set's_shape_ranges_are_sound =
      rw (shapes_written, ap (λ (w : Outcome). w.answer.contours) cleaned.1) (the_shape_ranges_written_are_sound rule (shapes p (spans cs) (spans ss)))
