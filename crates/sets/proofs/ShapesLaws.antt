-- What is written, once shapes are cleaned one after the other.
use Rattle.std.proofs.Common.{◌≡◌, ◌+◌, ◌≤◌, List, [], ◌∷◌, map, length, ℤ, sym, refl, ap, ◌∙◌, arith}
use Rattle.ring.specs.declared.Rule.{Rule}
use Rattle.buffer.specs.Spans.{rows, laid}
use Rattle.buffer.specs.Sets.{joined}
use Rattle.rows.specs.Rows.{placed}
use Rattle.sets.specs.Fates.{ShapeFate, Shapes, shape_fate, and_others, shapes_fate}
use Rattle.sets.specs.Fates.ShapeFate.{stands, fallen}
use Rattle.sets.specs.inside.Shape.{Tested, run_shape, Room}
use Rattle.sets.specs.inside.Shapes.{Grouped, grouped, added, run_shapes}
use Rattle.sets.specs.Promises.{AllContours}
use Rattle.sets.proofs.LaidLaws.{points_even}
use Rattle.rows.proofs.PlacedLaws.{placed_none, set_placed}
use Rattle.sets.proofs.BehindLaws.{same_reached}
use Rattle.sets.proofs.AfterLaws.{laid_behind, after, after_none, after_both, same_progress, shaped, shape_after}
use Rattle.sets.proofs.ShapeLaws.{same_grouped}
use Rattle.sets.proofs.EachLaws.{Leaves, room_front, shape_leaves, adding_reached, adding_few, adding_long}
use Rattle.sets.proofs.Kept.{ShapeRight, shape_is_right}

-- shapes that stay, laid behind those that are written
abbrev pub among : Shapes → Grouped → Grouped
among t s =
    grouped (s.written + length t.shapes)
    (after (record { contours = joined t.shapes; tally = t.tally }) s.reached)
    (placed s.written (rows (laid s.reached.progress.contours (map length t.shapes))) s.shapes)

module _ (rule : Rule) where
  -- a shape's fate, and those that stay behind it
  among_first : (c rest : List (List ℤ)) (w : ShapeFate) → ShapeRight rule c w → (s : Grouped) → Leaves rest s.reached (shaped rule w s.reached).reached → s.written + 1 ≤ length s.shapes
      → (t : Shapes) → among t (added (shaped rule w s.reached) s) ≡ among (and_others w t) s
  unfolding joined laid
  among_first c rest (fallen k) x s y h t = same_grouped refl (same_reached (same_progress refl refl (omega arith) (omega arith)) refl refl) refl
  among_first c rest (stands ds k) x s y h t =
      let e = points_even ds x.1 in
      same_grouped (omega arith)
      (after_both (record { contours = ds; tally = k }) (record { contours = joined t.shapes; tally = t.tally }) s.reached x.1
      (omega (arith, y.room.room, y.points_long)) (omega (arith, y.room.space, y.contours_long)))
      (ap (placed (s.written + 1) (rows (laid (s.reached.progress.contours + length ds) (map length t.shapes)))) (set_placed s.shapes s.written _ (omega arith))
      ∙ laid_behind s.shapes s.written (s.written + 1) s.reached.progress.contours (s.reached.progress.contours + length ds) (length ds ∷ []) (map length t.shapes) h refl (omega arith))

  pub shapes_after : (l : List (List (List ℤ))) (s : Grouped) → AllContours l → Room (joined l) s.reached.progress s.reached.points s.reached.contours → s.written + length l ≤ length s.shapes
      → run_shapes rule l s ≡ among (shapes_fate rule l) s
  unfolding run_shapes shapes_fate joined laid
  shapes_after [] s a r h = same_grouped (omega arith) (after_none s.reached) (sym (placed_none s.shapes s.written))
  shapes_after (c ∷ l) s a r h =
      let u = run_shape rule c s.reached in
      let y : Leaves (joined l) s.reached u.reached = shape_leaves rule (joined l) c s.reached a.0 r in
      let e : u ≡ shaped rule (shape_fate rule c) s.reached = shape_after rule c s.reached a.0 (room_front c (joined l) s.reached.progress s.reached.points s.reached.contours r) in
      shapes_after l (added u s) a.1
      (rw (adding_reached u.stands u.reached s) y.room)
      (omega (arith, adding_few u.stands u.reached s, adding_long u.stands u.reached s))
      ∙ ap (λ (v : Tested). among (shapes_fate rule l) (added v s)) e
      ∙ among_first c (joined l) (shape_fate rule c) (shape_is_right rule c a.0) s (rw e at y) (omega arith) (shapes_fate rule l)
