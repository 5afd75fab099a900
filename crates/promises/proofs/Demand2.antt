-- Demand 2 holds.
use mathlib.Core.Path.{refl}
use Rattle.buffer.proofs.ranges.sound_spans.Met as sound_spans
use Rattle.ukmerelt.proofs.contour_sets.ukm_ranges_sound.Met as ukm_ranges_sound
use Rattle.setfile.proofs.Theorems.{an_edition_can_carry, what_is_written_fits}
use Rattle.promises.specs.Demand2.{EveryAnswerEqualsTheRules, ReaderAndWriterUndoEachOther, RangesThatAreStructs, Demand2}
use Rattle.promises.proofs.Calls.{follows}
use Rattle.promises.proofs.BothWays as both

every_answer_equals_the_rules : EveryAnswerEqualsTheRules
every_answer_equals_the_rules = record {
  area·area_two = follows (λ κs a x e h. h);
  area·area = follows (λ κs a x e h. h);
  path·is_clockwise_ordered = follows (λ κs a x e h. h);
  clean·simple·is_simple = follows (λ κs a x e h. h);
  clean·despike·has_no_spikes = follows (λ κs a x e h. h);
  path·is_convex = follows (λ κs a x e h. h);
  path·contains_point = follows (λ κs a x e h. h);
  sets·simple·is_simple = follows (λ κs a x e h. h);
  sets·despike·has_no_spikes = follows (λ κs a x e h. h);
  sets·shapes·is_simple = follows (λ κs a x e h. h);
  sets·shapes·has_no_spikes = follows (λ κs a x e h. h);
  sets·areas·area_two = follows (λ κs a x e h. h);
  sets·areas·area = follows (λ κs a x e h. h);
  sets·shapes·area_two = follows (λ κs a x e h. h);
  sets·shapes·area = follows (λ κs a x e h. h);
  clean·simple·simplified = follows (λ κs a x e h. h);
  clean·despike·despiked = follows (λ κs a x e h. h);
  clean·kept_part = follows (λ κs a x e h. h);
  buffer·ranges·sound = follows (λ κs a x e h. h);
  buffer·contours·check = follows (λ κs a x e h. h);
  buffer·shapes·check = follows (λ κs a x e h. h);
  buffer·contours·set_with_contour = follows (λ κs a x e h. h);
  buffer·contours·set_with_shape = follows (λ κs a x e h. h);
  buffer·contours·set_with_shapes = follows (λ κs a x e h. h);
  buffer·shapes·set_with_contour = follows (λ κs a x e h. h);
  buffer·shapes·set_with_shape = follows (λ κs a x e h. h);
  buffer·shapes·set_with_shapes = follows (λ κs a x e h. h);
  buffer·contours·add_contour = follows (λ κs a x e h. h);
  buffer·shapes·add_shape = follows (λ κs a x e h. h);
  buffer·contours·is_empty = follows (λ κs a x e h. h);
  buffer·contours·is_single_contour = follows (λ κs a x e h. h);
  buffer·contours·points_count = follows (λ κs a x e h. h);
  buffer·contours·contours_count = follows (λ κs a x e h. h);
  buffer·shapes·is_empty = follows (λ κs a x e h. h);
  buffer·shapes·points_count = follows (λ κs a x e h. h);
  buffer·shapes·contours_count = follows (λ κs a x e h. h);
  buffer·shapes·shapes_count = follows (λ κs a x e h. h);
  buffer·shapes·contours_in = follows (λ κs a x e h. h);
  buffer·contours·contour = follows (λ κs a x e h. h);
  buffer·contours·first_contour = follows (λ κs a x e h. h);
  buffer·shapes·contour_of = follows (λ κs a x e h. h);
  sets·simple·simplified_shape = follows (λ κs a x e h. h);
  sets·despike·despiked_shape = follows (λ κs a x e h. h);
  sets·simple·simplified_shapes = follows (λ κs a x e h. h);
  sets·despike·despiked_shapes = follows (λ κs a x e h. h);
  setfile·read = follows (λ κs a x e h. h);
  setfile·write = follows (λ κs a x e h. h);
  setfile·write_2 = follows (λ κs a x e h. h);
  path·locate = follows (λ κs a x e h. h);
  sets·in_shape = follows (λ κs a x e h. h);
  fates·simplified = follows (λ κs a x e h. h);
  fates·despiked = follows (λ κs a x e h. h);
  salvage·mend = follows (λ κs a x e h. h);
  drawing·import = follows (λ κs a x e h. h);
  drawing·export = follows (λ κs a x e h. h);
  difference·compare = follows (λ κs a x e h. h);
  difference·walker·reached = follows (λ κs a x e h. h);
  pool·add = follows (λ κs a x e h. h);
  pool·remove = follows (λ κs a x e h. h);
  pool·contours_count = follows (λ κs a x e h. h);
  pool·held = follows (λ κs a x e h. h);
  pool·free = follows (λ κs a x e h. h);
  pool·contour_of = follows (λ κs a x e h. h);
}

reader_and_writer_undo_each_other : ReaderAndWriterUndoEachOther
reader_and_writer_undo_each_other = record {
  a_file_can_carry_what_the_writer_refuses_at_most_for_room = λ second p cs ss. an_edition_can_carry p cs ss second;
  every_set_a_file_can_carry_is_written = λ second p cs ss fits bytes enough w is. both.a_set_that_fits_is_written second p cs ss bytes w is fits enough;
  what_is_written_is_read_back = λ second p cs ss bytes w is done out records groups points_in contours_in shapes_in r back.
      let same = both.the_set_that_was_written_is_read second p cs ss bytes w is done out records groups r back points_in contours_in shapes_in in
      let even = (what_is_written_fits second p cs ss bytes w is done).regular.even in (
        both.what_was_written_is_not_refused second p cs ss bytes w is done out records groups r back points_in contours_in shapes_in,
        both.its_edition_is_told second p cs ss bytes w is done out records groups r back points_in contours_in shapes_in,
        record { points_are = same.points even; contours_are = same.contours; shapes_are = same.shapes },
      );
  what_is_read_is_written_again = λ f h out records groups r is done bytes enough w again.
      (both.what_was_read_is_not_refused f h out records groups r is done bytes enough w again, both.the_file_that_was_read_is_written f h out records groups r is done bytes enough w again);
}

ranges_that_are_structs : RangesThatAreStructs
ranges_that_are_structs = record {
  buffer·ranges·sound_spans = λ 𝓛 mem run. refl;
  buffer·ranges·sound_spans_is_proved = sound_spans.met;
  ukm_ranges_sound = λ 𝓛 mem run. refl;
  ukm_ranges_sound_is_proved = ukm_ranges_sound.met;
  equals_the_rule = follows (λ κs a x e h. h);
}

pub demand_2 : Demand2
demand_2 = record {
  every_answer_equals_the_rules = every_answer_equals_the_rules;
  so_does_that_of_ranges_that_are_structs = ranges_that_are_structs;
  file_reader_and_writer_undo_each_other_on_every_set_the_file_can_carry = reader_and_writer_undo_each_other;
}
