-- What C and Rust call hands on.
use Rattle.ukmerelt.proofs as ukmerelt
use Rattle.promises.specs.Exports.{NoExportTraps, EveryExportHandsOn, EveryExportEqualsTheRules}
use Rattle.promises.proofs.Calls.{follows}

pub no_export_traps : NoExportTraps
no_export_traps = record {
  ukm_area_two = record { is_proved = ukmerelt.contours.ukm_area_two.Met.met; asks_nothing = λ κs a. tt };
  ukm_area = record { is_proved = ukmerelt.contours.ukm_area.Met.met; asks_nothing = λ κs a. tt };
  ukm_is_convex = record { is_proved = ukmerelt.contours.ukm_is_convex.Met.met; asks_nothing = λ κs a. tt };
  ukm_is_clockwise = record { is_proved = ukmerelt.contours.ukm_is_clockwise.Met.met; asks_nothing = λ κs a. tt };
  ukm_contains = record { is_proved = ukmerelt.contours.ukm_contains.Met.met; asks_nothing = λ κs a. tt };
  ukm_locate = record { is_proved = ukmerelt.contours.ukm_locate.Met.met; asks_nothing = λ κs a. tt };
  ukm_is_simple = record { is_proved = ukmerelt.contours.ukm_is_simple.Met.met; asks_nothing = λ κs a. tt };
  ukm_has_no_spikes = record { is_proved = ukmerelt.contours.ukm_has_no_spikes.Met.met; asks_nothing = λ κs a. tt };
  ukm_simplified = record { is_proved = ukmerelt.contours.ukm_simplified.Met.met; asks_nothing = λ κs a. tt };
  ukm_despiked = record { is_proved = ukmerelt.contours.ukm_despiked.Met.met; asks_nothing = λ κs a. tt };
  ukm_set_is_simple = record { is_proved = ukmerelt.contour_sets.ukm_set_is_simple.Met.met; asks_nothing = λ κs a. tt };
  ukm_set_has_no_spikes = record { is_proved = ukmerelt.contour_sets.ukm_set_has_no_spikes.Met.met; asks_nothing = λ κs a. tt };
  ukm_set_area_two = record { is_proved = ukmerelt.contour_sets.ukm_set_area_two.Met.met; asks_nothing = λ κs a. tt };
  ukm_set_area = record { is_proved = ukmerelt.contour_sets.ukm_set_area.Met.met; asks_nothing = λ κs a. tt };
  ukm_in_shape = record { is_proved = ukmerelt.contour_sets.ukm_in_shape.Met.met; asks_nothing = λ κs a. tt };
  ukm_shapes_is_simple = record { is_proved = ukmerelt.shape_sets.ukm_shapes_is_simple.Met.met; asks_nothing = λ κs a. tt };
  ukm_shapes_has_no_spikes = record { is_proved = ukmerelt.shape_sets.ukm_shapes_has_no_spikes.Met.met; asks_nothing = λ κs a. tt };
  ukm_shapes_area_two = record { is_proved = ukmerelt.shape_sets.ukm_shapes_area_two.Met.met; asks_nothing = λ κs a. tt };
  ukm_shapes_area = record { is_proved = ukmerelt.shape_sets.ukm_shapes_area.Met.met; asks_nothing = λ κs a. tt };
  ukm_simplified_shape = record { is_proved = ukmerelt.shapes.ukm_simplified_shape.Met.met; asks_nothing = λ κs a. tt };
  ukm_despiked_shape = record { is_proved = ukmerelt.shapes.ukm_despiked_shape.Met.met; asks_nothing = λ κs a. tt };
  ukm_simplified_shapes = record { is_proved = ukmerelt.shapes.ukm_simplified_shapes.Met.met; asks_nothing = λ κs a. tt };
  ukm_despiked_shapes = record { is_proved = ukmerelt.shapes.ukm_despiked_shapes.Met.met; asks_nothing = λ κs a. tt };
  ukm_simplified_fates = record { is_proved = ukmerelt.telling.ukm_simplified_fates.Met.met; asks_nothing = λ κs a. tt };
  ukm_despiked_fates = record { is_proved = ukmerelt.telling.ukm_despiked_fates.Met.met; asks_nothing = λ κs a. tt };
  ukm_pack_contour = record { is_proved = ukmerelt.packing.ukm_pack_contour.Met.met; asks_nothing = λ κs a. tt };
  ukm_pack_shape = record { is_proved = ukmerelt.packing.ukm_pack_shape.Met.met; asks_nothing = λ κs a. tt };
  ukm_pack_shapes = record { is_proved = ukmerelt.packing.ukm_pack_shapes.Met.met; asks_nothing = λ κs a. tt };
  ukm_add_contour = record { is_proved = ukmerelt.packing.ukm_add_contour.Met.met; asks_nothing = λ κs a. tt };
  ukm_add_shape = record { is_proved = ukmerelt.packing.ukm_add_shape.Met.met; asks_nothing = λ κs a. tt };
  ukm_read_set = record { is_proved = ukmerelt.files.ukm_read_set.Met.met; asks_nothing = λ κs a. tt };
  ukm_write_set = record { is_proved = ukmerelt.files.ukm_write_set.Met.met; asks_nothing = λ κs a. tt };
  ukm_write_set_2 = record { is_proved = ukmerelt.files.ukm_write_set_2.Met.met; asks_nothing = λ κs a. tt };
  ukm_salvage = record { is_proved = ukmerelt.files.ukm_salvage.Met.met; asks_nothing = λ κs a. tt };
  ukm_import_mm = record { is_proved = ukmerelt.drawings.ukm_import_mm.Met.met; asks_nothing = λ κs a. tt };
  ukm_export_mm = record { is_proved = ukmerelt.drawings.ukm_export_mm.Met.met; asks_nothing = λ κs a. tt };
  ukm_compare_sets = record { is_proved = ukmerelt.comparing.ukm_compare_sets.Met.met; asks_nothing = λ κs a. tt };
  ukm_pool_add = record { is_proved = ukmerelt.pools.ukm_pool_add.Met.met; asks_nothing = λ κs a. tt };
  ukm_pool_remove = record { is_proved = ukmerelt.pools.ukm_pool_remove.Met.met; asks_nothing = λ κs a. tt };
  ukm_pool_contours = record { is_proved = ukmerelt.pools.ukm_pool_contours.Met.met; asks_nothing = λ κs a. tt };
  ukm_pool_held = record { is_proved = ukmerelt.pools.ukm_pool_held.Met.met; asks_nothing = λ κs a. tt };
  ukm_pool_free = record { is_proved = ukmerelt.pools.ukm_pool_free.Met.met; asks_nothing = λ κs a. tt };
}

pub every_export_hands_on : EveryExportHandsOn
every_export_hands_on = record {
  ukm_area_two = λ κs a x e h. h;
  ukm_area = λ κs a x e h. h;
  ukm_is_convex = λ κs a x e h. h;
  ukm_is_clockwise = λ κs a x e h. h;
  ukm_contains = λ κs a x e h. h;
  ukm_locate = λ κs a x e h. h;
  ukm_is_simple = λ κs a x e h. h;
  ukm_has_no_spikes = λ κs a x e h. h;
  ukm_simplified = λ κs a x e h. h;
  ukm_despiked = λ κs a x e h. h;
  ukm_set_is_simple = λ κs a x e h. h;
  ukm_set_has_no_spikes = λ κs a x e h. h;
  ukm_set_area_two = λ κs a x e h. h;
  ukm_set_area = λ κs a x e h. h;
  ukm_in_shape = λ κs a x e h. h;
  ukm_shapes_is_simple = λ κs a x e h. h;
  ukm_shapes_has_no_spikes = λ κs a x e h. h;
  ukm_shapes_area_two = λ κs a x e h. h;
  ukm_shapes_area = λ κs a x e h. h;
  ukm_simplified_shape = λ κs a x e h. h;
  ukm_despiked_shape = λ κs a x e h. h;
  ukm_simplified_shapes = λ κs a x e h. h;
  ukm_despiked_shapes = λ κs a x e h. h;
  ukm_simplified_fates = λ κs a x e h. h;
  ukm_despiked_fates = λ κs a x e h. h;
  ukm_pack_contour = λ κs a x e h. h;
  ukm_pack_shape = λ κs a x e h. h;
  ukm_pack_shapes = λ κs a x e h. h;
  ukm_add_contour = λ κs a x e h. h;
  ukm_add_shape = λ κs a x e h. h;
  ukm_read_set = λ κs a x e h. h;
  ukm_write_set = λ κs a x e h. h;
  ukm_write_set_2 = λ κs a x e h. h;
  ukm_salvage = λ κs a x e h. h;
  ukm_import_mm = λ κs a x e h. h;
  ukm_export_mm = λ κs a x e h. h;
  ukm_compare_sets = λ κs a x e h. h;
  ukm_pool_add = λ κs a x e h. h;
  ukm_pool_remove = λ κs a x e h. h;
  ukm_pool_contours = λ κs a x e h. h;
  ukm_pool_held = λ κs a x e h. h;
  ukm_pool_free = λ κs a x e h. h;
}

pub every_export_equals_the_rules : EveryExportEqualsTheRules
every_export_equals_the_rules = record {
  ukm_area_two = follows (λ κs a x e h. h);
  ukm_area = follows (λ κs a x e h. h);
  ukm_is_convex = follows (λ κs a x e h. h);
  ukm_is_clockwise = follows (λ κs a x e h. h);
  ukm_contains = follows (λ κs a x e h. h);
  ukm_locate = follows (λ κs a x e h. h);
  ukm_is_simple = follows (λ κs a x e h. h);
  ukm_has_no_spikes = follows (λ κs a x e h. h);
  ukm_simplified = follows (λ κs a x e h. h);
  ukm_despiked = follows (λ κs a x e h. h);
  ukm_set_is_simple = follows (λ κs a x e h. h);
  ukm_set_has_no_spikes = follows (λ κs a x e h. h);
  ukm_set_area_two = follows (λ κs a x e h. h);
  ukm_set_area = follows (λ κs a x e h. h);
  ukm_in_shape = follows (λ κs a x e h. h);
  ukm_shapes_is_simple = follows (λ κs a x e h. h);
  ukm_shapes_has_no_spikes = follows (λ κs a x e h. h);
  ukm_shapes_area_two = follows (λ κs a x e h. h);
  ukm_shapes_area = follows (λ κs a x e h. h);
  ukm_simplified_shape = follows (λ κs a x e h. h);
  ukm_despiked_shape = follows (λ κs a x e h. h);
  ukm_simplified_shapes = follows (λ κs a x e h. h);
  ukm_despiked_shapes = follows (λ κs a x e h. h);
  ukm_simplified_fates = follows (λ κs a x e h. h);
  ukm_despiked_fates = follows (λ κs a x e h. h);
  ukm_pack_contour = follows (λ κs a x e h. h);
  ukm_pack_shape = follows (λ κs a x e h. h);
  ukm_pack_shapes = follows (λ κs a x e h. h);
  ukm_add_contour = follows (λ κs a x e h. h);
  ukm_add_shape = follows (λ κs a x e h. h);
  ukm_read_set = follows (λ κs a x e h. h);
  ukm_write_set = follows (λ κs a x e h. h);
  ukm_write_set_2 = follows (λ κs a x e h. h);
  ukm_salvage = follows (λ κs a x e h. h);
  ukm_import_mm = follows (λ κs a x e h. h);
  ukm_export_mm = follows (λ κs a x e h. h);
  ukm_compare_sets = follows (λ κs a x e h. h);
  ukm_pool_add = follows (λ κs a x e h. h);
  ukm_pool_remove = follows (λ κs a x e h. h);
  ukm_pool_contours = follows (λ κs a x e h. h);
  ukm_pool_held = follows (λ κs a x e h. h);
  ukm_pool_free = follows (λ κs a x e h. h);
}
