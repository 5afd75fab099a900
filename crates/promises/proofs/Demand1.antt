-- Demand 1 holds.
use mathlib.Core.Path.{◌≡◌, refl, ◌∙◌, ap}
use mathlib.Core.Logic.{inl}
use mathlib.Core.List.{List, map-append}
use Prim.Native.Nat.{ℕ}
use lib.IntN.{ℤ}
use Rattle.replies.specs.Ladder.{Rung}
use Rattle.ring.specs.declared.Rule.TheVariants.{Collinear, Spike}
use Rattle.area.specs.Answers as Areas
use Rattle.path.specs.Convex.{convex}
use Rattle.path.specs.Clockwise.{clockwise}
use Rattle.path.specs.Contains.{contains}
use Rattle.path.specs.Locate.{located}
use Rattle.clean.specs.Verdicts as Verdicts
use Rattle.buffer.specs.Contours as Contours
use Rattle.buffer.specs.Shapes as Shapes
use Rattle.sets.specs.Verdicts.{verdict_by}
use Rattle.sets.specs.Area.{doubled_by, half_by}
use Rattle.sets.specs.Contains.{in_shape}
use Rattle.pool.specs.Outcome as Pool
use Rattle.area.proofs as area
use Rattle.path.proofs as path
use Rattle.clean.proofs as clean
use Rattle.buffer.proofs as buffer
use Rattle.sets.proofs as sets
use Rattle.fates.proofs as fates
use Rattle.setfile.proofs as setfile
use Rattle.salvage.proofs as salvage
use Rattle.drawing.proofs as drawing
use Rattle.difference.proofs as difference
use Rattle.pool.proofs as pool
use Rattle.promises.specs.Calls.{numbers, ◌and◌}
use Rattle.promises.specs.Demand1.{NothingTraps, TheOrderOfTheNumbers, EveryBadInputGetsItsNumber, OutputAndScratchAreThenUntouched, ACollapsedContourLeavesOutputUntouchedAndItsScratchZeroed, Demand1}
use Rattle.promises.proofs.Calls.{numbered, verdict_numbered, area_numbered, location_numbered, count_numbered}
use Rattle.promises.proofs.Refusals.{handed_none, first_none, packing_numbered, packing_untouched, reading_numbered, reading_untouched, cleaning_numbered, cleaning_collapsed, shape_numbered, shape_collapsed, shapes_numbered, fates_numbered, writing_numbered, writing_untouched, writing_2_numbered, writing_2_untouched, salvage_numbered, salvage_untouched, export_numbered, export_untouched, press_numbered, press_untouched, comparison_numbered, comparison_untouched}

nothing_traps : NothingTraps
nothing_traps = record {
  area·area_two = record { is_proved = area.area_two.Met.met; asks_nothing = λ κs a. tt };
  area·area = record { is_proved = area.area.Met.met; asks_nothing = λ κs a. tt };
  path·is_clockwise_ordered = record { is_proved = path.is_clockwise_ordered.Met.met; asks_nothing = λ κs a. tt };
  clean·simple·is_simple = record { is_proved = clean.simple.is_simple.Met.met; asks_nothing = λ κs a. tt };
  clean·despike·has_no_spikes = record { is_proved = clean.despike.has_no_spikes.Met.met; asks_nothing = λ κs a. tt };
  path·is_convex = record { is_proved = path.is_convex.Met.met; asks_nothing = λ κs a. tt };
  path·contains_point = record { is_proved = path.contains_point.Met.met; asks_nothing = λ κs a. tt };
  path·locate = record { is_proved = path.locate.Met.met; asks_nothing = λ κs a. tt };
  sets·in_shape = record { is_proved = sets.in_shape.Met.met; asks_nothing = λ κs a. tt };
  sets·simple·is_simple = record { is_proved = sets.simple.is_simple.Met.met; asks_nothing = λ κs a. tt };
  sets·despike·has_no_spikes = record { is_proved = sets.despike.has_no_spikes.Met.met; asks_nothing = λ κs a. tt };
  sets·shapes·is_simple = record { is_proved = sets.shapes.is_simple.Met.met; asks_nothing = λ κs a. tt };
  sets·shapes·has_no_spikes = record { is_proved = sets.shapes.has_no_spikes.Met.met; asks_nothing = λ κs a. tt };
  sets·areas·area_two = record { is_proved = sets.areas.area_two.Met.met; asks_nothing = λ κs a. tt };
  sets·areas·area = record { is_proved = sets.areas.area.Met.met; asks_nothing = λ κs a. tt };
  sets·shapes·area_two = record { is_proved = sets.shapes.area_two.Met.met; asks_nothing = λ κs a. tt };
  sets·shapes·area = record { is_proved = sets.shapes.area.Met.met; asks_nothing = λ κs a. tt };
  clean·simple·simplified = record { is_proved = clean.simple.simplified.Met.met; asks_nothing = λ κs a. tt };
  clean·despike·despiked = record { is_proved = clean.despike.despiked.Met.met; asks_nothing = λ κs a. tt };
  clean·kept_part = record { is_proved = clean.kept_part.Met.met; asks_nothing = λ κs a. tt };
  buffer·ranges·sound = record { is_proved = buffer.ranges.sound.Met.met; asks_nothing = λ κs a. tt };
  buffer·contours·check = record { is_proved = buffer.contours.check.Met.met; asks_nothing = λ κs a. tt };
  buffer·shapes·check = record { is_proved = buffer.shapes.check.Met.met; asks_nothing = λ κs a. tt };
  buffer·contours·set_with_contour = record { is_proved = buffer.contours.set_with_contour.Met.met; asks_nothing = λ κs a. tt };
  buffer·contours·set_with_shape = record { is_proved = buffer.contours.set_with_shape.Met.met; asks_nothing = λ κs a. tt };
  buffer·contours·set_with_shapes = record { is_proved = buffer.contours.set_with_shapes.Met.met; asks_nothing = λ κs a. tt };
  buffer·shapes·set_with_contour = record { is_proved = buffer.shapes.set_with_contour.Met.met; asks_nothing = λ κs a. tt };
  buffer·shapes·set_with_shape = record { is_proved = buffer.shapes.set_with_shape.Met.met; asks_nothing = λ κs a. tt };
  buffer·shapes·set_with_shapes = record { is_proved = buffer.shapes.set_with_shapes.Met.met; asks_nothing = λ κs a. tt };
  buffer·contours·add_contour = record { is_proved = buffer.contours.add_contour.Met.met; asks_nothing = λ κs a. tt };
  buffer·shapes·add_shape = record { is_proved = buffer.shapes.add_shape.Met.met; asks_nothing = λ κs a. tt };
  buffer·contours·is_empty = record { is_proved = buffer.contours.is_empty.Met.met; asks_nothing = λ κs a. tt };
  buffer·contours·is_single_contour = record { is_proved = buffer.contours.is_single_contour.Met.met; asks_nothing = λ κs a. tt };
  buffer·contours·points_count = record { is_proved = buffer.contours.points_count.Met.met; asks_nothing = λ κs a. tt };
  buffer·contours·contours_count = record { is_proved = buffer.contours.contours_count.Met.met; asks_nothing = λ κs a. tt };
  buffer·shapes·is_empty = record { is_proved = buffer.shapes.is_empty.Met.met; asks_nothing = λ κs a. tt };
  buffer·shapes·points_count = record { is_proved = buffer.shapes.points_count.Met.met; asks_nothing = λ κs a. tt };
  buffer·shapes·contours_count = record { is_proved = buffer.shapes.contours_count.Met.met; asks_nothing = λ κs a. tt };
  buffer·shapes·shapes_count = record { is_proved = buffer.shapes.shapes_count.Met.met; asks_nothing = λ κs a. tt };
  buffer·shapes·contours_in = record { is_proved = buffer.shapes.contours_in.Met.met; asks_nothing = λ κs a. tt };
  buffer·contours·contour = record { is_proved = buffer.contours.contour.Met.met; asks_nothing = λ κs a. tt };
  buffer·contours·first_contour = record { is_proved = buffer.contours.first_contour.Met.met; asks_nothing = λ κs a. tt };
  buffer·shapes·contour_of = record { is_proved = buffer.shapes.contour_of.Met.met; asks_nothing = λ κs a. tt };
  sets·simple·simplified_shape = record { is_proved = sets.simple.simplified_shape.Met.met; asks_nothing = λ κs a. tt };
  sets·despike·despiked_shape = record { is_proved = sets.despike.despiked_shape.Met.met; asks_nothing = λ κs a. tt };
  sets·simple·simplified_shapes = record { is_proved = sets.simple.simplified_shapes.Met.met; asks_nothing = λ κs a. tt };
  sets·despike·despiked_shapes = record { is_proved = sets.despike.despiked_shapes.Met.met; asks_nothing = λ κs a. tt };
  fates·simplified = record { is_proved = fates.simplified.Met.met; asks_nothing = λ κs a. tt };
  fates·despiked = record { is_proved = fates.despiked.Met.met; asks_nothing = λ κs a. tt };
  setfile·read = record { is_proved = setfile.read.Met.met; asks_nothing = λ κs a. tt };
  setfile·write = record { is_proved = setfile.write.Met.met; asks_nothing = λ κs a. tt };
  setfile·write_2 = record { is_proved = setfile.write_2.Met.met; asks_nothing = λ κs a. tt };
  salvage·mend = record { is_proved = salvage.mend.Met.met; asks_nothing = λ κs a. tt };
  drawing·import = record { is_proved = drawing.import.Met.met; asks_nothing = λ κs a. tt };
  drawing·export = record { is_proved = drawing.export.Met.met; asks_nothing = λ κs a. tt };
  difference·compare = record { is_proved = difference.compare.Met.met; asks_nothing = λ κs a. tt };
  difference·walker·reached = record { is_proved = difference.walker.reached.Met.met; asks_nothing = λ κs a. tt };
  pool·add = record { is_proved = pool.add.Met.met; asks_nothing = λ κs a. tt };
  pool·remove = record { is_proved = pool.remove.Met.met; asks_nothing = λ κs a. tt };
  pool·contours_count = record { is_proved = pool.contours_count.Met.met; asks_nothing = λ κs a. tt };
  pool·held = record { is_proved = pool.held.Met.met; asks_nothing = λ κs a. tt };
  pool·free = record { is_proved = pool.free.Met.met; asks_nothing = λ κs a. tt };
  pool·contour_of = record { is_proved = pool.contour_of.Met.met; asks_nothing = λ κs a. tt };
}

the_order_of_the_numbers : TheOrderOfTheNumbers
the_order_of_the_numbers = record {
  a_contour = λ points. refl;
  the_area_of_a_contour = λ points. refl;
  a_point_in_a_contour = λ asked points. refl;
  a_contour_to_be_cleaned = λ points l. refl;
  a-set = λ points ranges. refl;
  the_area_of_a_set = λ points ranges. refl;
  a_point_in_a_shape = λ asked points ranges. refl;
  a_shape_to_be_cleaned = λ points ranges l. refl;
  shapes = λ points contours shapes. refl;
  the_area_of_shapes = λ points contours shapes. refl;
  shapes_to_be_cleaned = λ points contours shapes l. refl;
  an_addition = λ points more sound. refl;
  packing = λ refusals points contours shapes out records groups. map-append (λ (rung : Rung). rung.1) refusals _;
  a_file_to_be_read = λ f. refl;
  a_file_to_be_written = λ points contours shapes bytes. refl;
  a_file_of_edition_2_to_be_written = λ points contours shapes bytes. refl;
  a_file_to_be_salvaged = λ f out dropped. refl;
  a_drawing_to_be_brought_in = λ kinds floats. refl;
  a_set_to_be_drawn = λ points ranges kinds floats. refl;
  two_sets_to_be_compared = λ points ranges others other-ranges listing. refl;
  contours_to_be_told_of = λ points contours shapes l. refl;
  a_contour_to_be_put_in_a_pool = λ press tool contour s. refl;
  a_contour_to_be_taken_out = λ press s. refl;
}

every_bad_input_gets_its_number : EveryBadInputGetsItsNumber
unfolding Areas.doubled Areas.half convex clockwise contains located Verdicts.simple Verdicts.spike_free in_shape verdict_by doubled_by half_by Contours.is_empty Contours.is_single Contours.points_count Contours.contours_count Contours.contour_at Shapes.is_empty Shapes.points_count Shapes.contours_count Shapes.shapes_count Shapes.contours_in Shapes.contour_of Pool.contours_count Pool.held_count Pool.free_count Pool.contour_of
every_bad_input_gets_its_number = record {
  area·area_two = λ κs a x e h. area_numbered _ h;
  area·area = λ κs a x e h. area_numbered _ h;
  path·is_clockwise_ordered = λ κs a x e h. verdict_numbered _ h;
  clean·simple·is_simple = λ κs a x e h. verdict_numbered _ h;
  clean·despike·has_no_spikes = λ κs a x e h. verdict_numbered _ h;
  path·is_convex = λ κs a x e h. verdict_numbered _ h;
  path·contains_point = λ κs a x e h. verdict_numbered _ h;
  sets·simple·is_simple = λ κs a x e h. verdict_numbered _ h;
  sets·despike·has_no_spikes = λ κs a x e h. verdict_numbered _ h;
  sets·shapes·is_simple = λ κs a x e h. verdict_numbered _ h;
  sets·shapes·has_no_spikes = λ κs a x e h. verdict_numbered _ h;
  sets·areas·area_two = λ κs a x e h. area_numbered _ h;
  sets·areas·area = λ κs a x e h. area_numbered _ h;
  sets·shapes·area_two = λ κs a x e h. area_numbered _ h;
  sets·shapes·area = λ κs a x e h. area_numbered _ h;
  clean·simple·simplified = λ κs a x e h. cleaning_numbered Collinear _ _ _ h;
  clean·despike·despiked = λ κs a x e h. cleaning_numbered Spike _ _ _ h;
  buffer·contours·check = λ κs a x e h. numbered numbers _ (λ k. k) (λ k. refl) (inl refl) h;
  buffer·shapes·check = λ κs a x e h. numbered numbers _ (λ k. k) (λ k. refl) (inl refl) h;
  buffer·contours·set_with_contour = λ κs a x e h. packing_numbered _ _ _ _ _ _ _ _ h;
  buffer·contours·set_with_shape = λ κs a x e h. packing_numbered _ _ _ _ _ _ _ _ h;
  buffer·contours·set_with_shapes = λ κs a x e h. packing_numbered _ _ _ _ _ _ _ _ h;
  buffer·shapes·set_with_contour = λ κs a x e h. packing_numbered _ _ _ _ _ _ _ _ h;
  buffer·shapes·set_with_shape = λ κs a x e h. packing_numbered _ _ _ _ _ _ _ _ h;
  buffer·shapes·set_with_shapes = λ κs a x e h. packing_numbered _ _ _ _ _ _ _ _ h;
  buffer·contours·add_contour = λ κs a x e h. packing_numbered _ _ _ _ _ _ _ _ h;
  buffer·shapes·add_shape = λ κs a x e h. packing_numbered _ _ _ _ _ _ _ _ h;
  buffer·contours·is_empty = λ κs a x e h. verdict_numbered _ h;
  buffer·contours·is_single_contour = λ κs a x e h. verdict_numbered _ h;
  buffer·contours·points_count = λ κs a x e h. count_numbered _ h;
  buffer·contours·contours_count = λ κs a x e h. count_numbered _ h;
  buffer·shapes·is_empty = λ κs a x e h. verdict_numbered _ h;
  buffer·shapes·points_count = λ κs a x e h. count_numbered _ h;
  buffer·shapes·contours_count = λ κs a x e h. count_numbered _ h;
  buffer·shapes·shapes_count = λ κs a x e h. count_numbered _ h;
  buffer·shapes·contours_in = λ κs a x e h. count_numbered _ h;
  buffer·contours·contour = λ κs a x e h bad. h ∙ handed_none _ _ _ bad;
  buffer·contours·first_contour = λ κs a x e h bad. h ∙ first_none _ _ bad;
  buffer·shapes·contour_of = λ κs a x e h bad. h ∙ handed_none _ _ _ bad;
  sets·simple·simplified_shape = λ κs a x e h. shape_numbered Collinear _ _ _ _ h;
  sets·despike·despiked_shape = λ κs a x e h. shape_numbered Spike _ _ _ _ h;
  sets·simple·simplified_shapes = λ κs a x e h. shapes_numbered Collinear _ _ _ _ _ h;
  sets·despike·despiked_shapes = λ κs a x e h. shapes_numbered Spike _ _ _ _ _ h;
  setfile·read = λ κs a x e h. reading_numbered a.0.now a.1.0.now a.1.1.0.now a.1.1.1.0.now _ h;
  setfile·write = λ κs a x e h. writing_numbered _ _ _ _ _ h;
  setfile·write_2 = λ κs a x e h. writing_2_numbered _ _ _ _ _ h;
  path·locate = λ κs a x e h. location_numbered _ h;
  sets·in_shape = λ κs a x e h. verdict_numbered _ h;
  fates·simplified = λ κs a x e h. fates_numbered Collinear _ _ _ _ _ h;
  fates·despiked = λ κs a x e h. fates_numbered Spike _ _ _ _ _ h;
  salvage·mend = λ κs a x e h. salvage_numbered _ _ _ _ h;
  drawing·import = λ κs a x e h. packing_numbered _ _ _ _ _ _ _ _ h;
  drawing·export = λ κs a x e h. export_numbered _ _ _ _ _ h;
  difference·compare = λ κs a x e h. comparison_numbered _ _ _ _ _ _ h;
  pool·add = λ κs a x e h. press_numbered _ _ _ _ h;
  pool·remove = λ κs a x e h. press_numbered _ _ _ _ h;
  pool·contours_count = λ κs a x e h. count_numbered _ h;
  pool·held = λ κs a x e h. count_numbered _ h;
  pool·free = λ κs a x e h. count_numbered _ h;
  pool·contour_of = λ κs a x e h bad. h ∙ handed_none _ _ _ bad;
}

-- a contour set has no row of shapes
points_and_contours : {p q : List ℤ} {cs ds ss ts : List (List ℕ)} → (p and cs and ss) ≡ (q and ds and ts) → (p and cs) ≡ (q and ds)
points_and_contours e = ap (λ (r : List ℤ × (List (List ℕ) × List (List ℕ))). r.0 and r.1.0) e

output_and_scratch_are_then_untouched : OutputAndScratchAreThenUntouched
output_and_scratch_are_then_untouched = record {
  clean·simple·simplified = λ κs a x e h. clean.Demand.a_refusal_leaves_every_row_as_it_was Collinear _ _ _ h;
  clean·despike·despiked = λ κs a x e h. clean.Demand.a_refusal_leaves_every_row_as_it_was Spike _ _ _ h;
  buffer·contours·set_with_contour = λ κs a x e h not-0 not-7. points_and_contours (packing_untouched _ _ _ _ _ _ _ _ h not-0);
  buffer·contours·set_with_shape = λ κs a x e h not-0 not-7. points_and_contours (packing_untouched _ _ _ _ _ _ _ _ h not-0);
  buffer·contours·set_with_shapes = λ κs a x e h not-0 not-7. points_and_contours (packing_untouched _ _ _ _ _ _ _ _ h not-0);
  buffer·contours·add_contour = λ κs a x e h not-0 not-7. points_and_contours (packing_untouched _ _ _ _ _ _ _ _ h not-0);
  buffer·shapes·set_with_contour = λ κs a x e h not-0 not-7. packing_untouched _ _ _ _ _ _ _ _ h not-0;
  buffer·shapes·set_with_shape = λ κs a x e h not-0 not-7. packing_untouched _ _ _ _ _ _ _ _ h not-0;
  buffer·shapes·set_with_shapes = λ κs a x e h not-0 not-7. packing_untouched _ _ _ _ _ _ _ _ h not-0;
  buffer·shapes·add_shape = λ κs a x e h not-0 not-7. packing_untouched _ _ _ _ _ _ _ _ h not-0;
  sets·simple·simplified_shape = λ κs a x e h. sets.Untouched.a_refused_shape_leaves_every_row_as_it_was Collinear _ _ _ _ h;
  sets·despike·despiked_shape = λ κs a x e h. sets.Untouched.a_refused_shape_leaves_every_row_as_it_was Spike _ _ _ _ h;
  sets·simple·simplified_shapes = λ κs a x e h not-0 not-7. sets.Untouched.refused_shapes_leave_every_row_as_it_was Collinear _ _ _ _ _ h not-0;
  sets·despike·despiked_shapes = λ κs a x e h not-0 not-7. sets.Untouched.refused_shapes_leave_every_row_as_it_was Spike _ _ _ _ _ h not-0;
  fates·simplified = λ κs a x e h not-0 not-7. fates.Theorems.a_refusal_leaves_every_row_as_it_was Collinear _ _ _ _ _ h not-0;
  fates·despiked = λ κs a x e h not-0 not-7. fates.Theorems.a_refusal_leaves_every_row_as_it_was Spike _ _ _ _ _ h not-0;
  setfile·read = λ κs a x e h not-0 not-7. reading_untouched a.0.now a.1.0.now a.1.1.0.now a.1.1.1.0.now _ h not-0;
  setfile·write = λ κs a x e h not-0 not-7. writing_untouched _ _ _ _ _ h not-0;
  setfile·write_2 = λ κs a x e h not-0 not-7. writing_2_untouched _ _ _ _ _ h not-0;
  salvage·mend = λ κs a x e h not-0 not-7. salvage_untouched _ _ _ _ h not-0;
  drawing·import = λ κs a x e h not-0 not-7. points_and_contours (packing_untouched _ _ _ _ _ _ _ _ h not-0);
  drawing·export = λ κs a x e h not-0 not-7. export_untouched _ _ _ _ _ h not-0;
  difference·compare = λ κs a x e h not-0 not-7. comparison_untouched _ _ _ _ _ _ h not-0;
  pool·add = λ κs a x e h not-0 not-7. press_untouched _ _ _ _ h not-0;
  pool·remove = λ κs a x e h not-0 not-7. press_untouched _ _ _ _ h not-0;
}

a_collapsed_contour_only_zeroes_its_scratch : ACollapsedContourLeavesOutputUntouchedAndItsScratchZeroed
a_collapsed_contour_only_zeroes_its_scratch = record {
  clean·simple·simplified = λ κs a x e h. cleaning_collapsed Collinear _ _ _ h;
  clean·despike·despiked = λ κs a x e h. cleaning_collapsed Spike _ _ _ h;
  sets·simple·simplified_shape = λ κs a x e h. shape_collapsed Collinear _ _ _ _ h;
  sets·despike·despiked_shape = λ κs a x e h. shape_collapsed Spike _ _ _ _ h;
  sets·simple·simplified_shapes = λ κs a x e h. sets.Untouched.shapes_never_answer_seven Collinear _ _ _ _ _ h;
  sets·despike·despiked_shapes = λ κs a x e h. sets.Untouched.shapes_never_answer_seven Spike _ _ _ _ _ h;
}

pub demand_1 : Demand1
demand_1 = record {
  nothing_traps_whatever_numbers_arrive = nothing_traps;
  every_bad_input_gets_its_number = every_bad_input_gets_its_number;
  the_first_that_holds_in_this_order = the_order_of_the_numbers;
  output_and_scratch_are_then_untouched = output_and_scratch_are_then_untouched;
  a_collapsed_contour_leaves_output_untouched_and_its_scratch_zeroed = a_collapsed_contour_only_zeroes_its_scratch;
}
