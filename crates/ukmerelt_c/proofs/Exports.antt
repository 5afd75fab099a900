-- Each exported function never traps, and hands on to the one of `ukmerelt` with its name: it allows no outcome that that one does not.
use Rattle.promises.specs.Calls.{NeverTraps, HandsOn}
use Rattle.ukmerelt.proofs as library
use Rattle.ukmerelt_c.proofs.comparing
use Rattle.ukmerelt_c.proofs.contour_sets
use Rattle.ukmerelt_c.proofs.contours
use Rattle.ukmerelt_c.proofs.drawings
use Rattle.ukmerelt_c.proofs.files
use Rattle.ukmerelt_c.proofs.packing
use Rattle.ukmerelt_c.proofs.pools
use Rattle.ukmerelt_c.proofs.shape_sets
use Rattle.ukmerelt_c.proofs.shapes
use Rattle.ukmerelt_c.proofs.telling

-- each never traps
pub record NoExportTraps : Type 2 where
  pub ukm_compare_sets : NeverTraps comparing.ukm_compare_sets.Statement.statement comparing.ukm_compare_sets.Reads.Asked
  pub ukm_ranges_sound : NeverTraps contour_sets.ukm_ranges_sound.Statement.statement contour_sets.ukm_ranges_sound.Reads.Asked
  pub ukm_set_is_simple : NeverTraps contour_sets.ukm_set_is_simple.Statement.statement contour_sets.ukm_set_is_simple.Reads.Asked
  pub ukm_set_has_no_spikes : NeverTraps contour_sets.ukm_set_has_no_spikes.Statement.statement contour_sets.ukm_set_has_no_spikes.Reads.Asked
  pub ukm_set_area_two : NeverTraps contour_sets.ukm_set_area_two.Statement.statement contour_sets.ukm_set_area_two.Reads.Asked
  pub ukm_set_area : NeverTraps contour_sets.ukm_set_area.Statement.statement contour_sets.ukm_set_area.Reads.Asked
  pub ukm_in_shape : NeverTraps contour_sets.ukm_in_shape.Statement.statement contour_sets.ukm_in_shape.Reads.Asked
  pub ukm_area_two : NeverTraps contours.ukm_area_two.Statement.statement contours.ukm_area_two.Reads.Asked
  pub ukm_area : NeverTraps contours.ukm_area.Statement.statement contours.ukm_area.Reads.Asked
  pub ukm_is_convex : NeverTraps contours.ukm_is_convex.Statement.statement contours.ukm_is_convex.Reads.Asked
  pub ukm_is_clockwise : NeverTraps contours.ukm_is_clockwise.Statement.statement contours.ukm_is_clockwise.Reads.Asked
  pub ukm_contains : NeverTraps contours.ukm_contains.Statement.statement contours.ukm_contains.Reads.Asked
  pub ukm_locate : NeverTraps contours.ukm_locate.Statement.statement contours.ukm_locate.Reads.Asked
  pub ukm_is_simple : NeverTraps contours.ukm_is_simple.Statement.statement contours.ukm_is_simple.Reads.Asked
  pub ukm_has_no_spikes : NeverTraps contours.ukm_has_no_spikes.Statement.statement contours.ukm_has_no_spikes.Reads.Asked
  pub ukm_simplified : NeverTraps contours.ukm_simplified.Statement.statement contours.ukm_simplified.Reads.Asked
  pub ukm_despiked : NeverTraps contours.ukm_despiked.Statement.statement contours.ukm_despiked.Reads.Asked
  pub ukm_import_mm : NeverTraps drawings.ukm_import_mm.Statement.statement drawings.ukm_import_mm.Reads.Asked
  pub ukm_export_mm : NeverTraps drawings.ukm_export_mm.Statement.statement drawings.ukm_export_mm.Reads.Asked
  pub ukm_read_set : NeverTraps files.ukm_read_set.Statement.statement files.ukm_read_set.Reads.Asked
  pub ukm_write_set : NeverTraps files.ukm_write_set.Statement.statement files.ukm_write_set.Reads.Asked
  pub ukm_write_set_2 : NeverTraps files.ukm_write_set_2.Statement.statement files.ukm_write_set_2.Reads.Asked
  pub ukm_salvage : NeverTraps files.ukm_salvage.Statement.statement files.ukm_salvage.Reads.Asked
  pub ukm_pack_contour : NeverTraps packing.ukm_pack_contour.Statement.statement packing.ukm_pack_contour.Reads.Asked
  pub ukm_pack_shape : NeverTraps packing.ukm_pack_shape.Statement.statement packing.ukm_pack_shape.Reads.Asked
  pub ukm_pack_shapes : NeverTraps packing.ukm_pack_shapes.Statement.statement packing.ukm_pack_shapes.Reads.Asked
  pub ukm_add_contour : NeverTraps packing.ukm_add_contour.Statement.statement packing.ukm_add_contour.Reads.Asked
  pub ukm_add_shape : NeverTraps packing.ukm_add_shape.Statement.statement packing.ukm_add_shape.Reads.Asked
  pub ukm_pool_add : NeverTraps pools.ukm_pool_add.Statement.statement pools.ukm_pool_add.Reads.Asked
  pub ukm_pool_remove : NeverTraps pools.ukm_pool_remove.Statement.statement pools.ukm_pool_remove.Reads.Asked
  pub ukm_pool_contours : NeverTraps pools.ukm_pool_contours.Statement.statement pools.ukm_pool_contours.Reads.Asked
  pub ukm_pool_held : NeverTraps pools.ukm_pool_held.Statement.statement pools.ukm_pool_held.Reads.Asked
  pub ukm_pool_free : NeverTraps pools.ukm_pool_free.Statement.statement pools.ukm_pool_free.Reads.Asked
  pub ukm_shapes_is_simple : NeverTraps shape_sets.ukm_shapes_is_simple.Statement.statement shape_sets.ukm_shapes_is_simple.Reads.Asked
  pub ukm_shapes_has_no_spikes : NeverTraps shape_sets.ukm_shapes_has_no_spikes.Statement.statement shape_sets.ukm_shapes_has_no_spikes.Reads.Asked
  pub ukm_shapes_area_two : NeverTraps shape_sets.ukm_shapes_area_two.Statement.statement shape_sets.ukm_shapes_area_two.Reads.Asked
  pub ukm_shapes_area : NeverTraps shape_sets.ukm_shapes_area.Statement.statement shape_sets.ukm_shapes_area.Reads.Asked
  pub ukm_simplified_shape : NeverTraps shapes.ukm_simplified_shape.Statement.statement shapes.ukm_simplified_shape.Reads.Asked
  pub ukm_despiked_shape : NeverTraps shapes.ukm_despiked_shape.Statement.statement shapes.ukm_despiked_shape.Reads.Asked
  pub ukm_simplified_shapes : NeverTraps shapes.ukm_simplified_shapes.Statement.statement shapes.ukm_simplified_shapes.Reads.Asked
  pub ukm_despiked_shapes : NeverTraps shapes.ukm_despiked_shapes.Statement.statement shapes.ukm_despiked_shapes.Reads.Asked
  pub ukm_simplified_fates : NeverTraps telling.ukm_simplified_fates.Statement.statement telling.ukm_simplified_fates.Reads.Asked
  pub ukm_despiked_fates : NeverTraps telling.ukm_despiked_fates.Statement.statement telling.ukm_despiked_fates.Reads.Asked

pub no_export_traps : NoExportTraps
no_export_traps = record {
  ukm_compare_sets = record { is_proved = comparing.ukm_compare_sets.Met.met; asks_nothing = λ κs a. tt };
  ukm_ranges_sound = record { is_proved = contour_sets.ukm_ranges_sound.Met.met; asks_nothing = λ κs a. tt };
  ukm_set_is_simple = record { is_proved = contour_sets.ukm_set_is_simple.Met.met; asks_nothing = λ κs a. tt };
  ukm_set_has_no_spikes = record { is_proved = contour_sets.ukm_set_has_no_spikes.Met.met; asks_nothing = λ κs a. tt };
  ukm_set_area_two = record { is_proved = contour_sets.ukm_set_area_two.Met.met; asks_nothing = λ κs a. tt };
  ukm_set_area = record { is_proved = contour_sets.ukm_set_area.Met.met; asks_nothing = λ κs a. tt };
  ukm_in_shape = record { is_proved = contour_sets.ukm_in_shape.Met.met; asks_nothing = λ κs a. tt };
  ukm_area_two = record { is_proved = contours.ukm_area_two.Met.met; asks_nothing = λ κs a. tt };
  ukm_area = record { is_proved = contours.ukm_area.Met.met; asks_nothing = λ κs a. tt };
  ukm_is_convex = record { is_proved = contours.ukm_is_convex.Met.met; asks_nothing = λ κs a. tt };
  ukm_is_clockwise = record { is_proved = contours.ukm_is_clockwise.Met.met; asks_nothing = λ κs a. tt };
  ukm_contains = record { is_proved = contours.ukm_contains.Met.met; asks_nothing = λ κs a. tt };
  ukm_locate = record { is_proved = contours.ukm_locate.Met.met; asks_nothing = λ κs a. tt };
  ukm_is_simple = record { is_proved = contours.ukm_is_simple.Met.met; asks_nothing = λ κs a. tt };
  ukm_has_no_spikes = record { is_proved = contours.ukm_has_no_spikes.Met.met; asks_nothing = λ κs a. tt };
  ukm_simplified = record { is_proved = contours.ukm_simplified.Met.met; asks_nothing = λ κs a. tt };
  ukm_despiked = record { is_proved = contours.ukm_despiked.Met.met; asks_nothing = λ κs a. tt };
  ukm_import_mm = record { is_proved = drawings.ukm_import_mm.Met.met; asks_nothing = λ κs a. tt };
  ukm_export_mm = record { is_proved = drawings.ukm_export_mm.Met.met; asks_nothing = λ κs a. tt };
  ukm_read_set = record { is_proved = files.ukm_read_set.Met.met; asks_nothing = λ κs a. tt };
  ukm_write_set = record { is_proved = files.ukm_write_set.Met.met; asks_nothing = λ κs a. tt };
  ukm_write_set_2 = record { is_proved = files.ukm_write_set_2.Met.met; asks_nothing = λ κs a. tt };
  ukm_salvage = record { is_proved = files.ukm_salvage.Met.met; asks_nothing = λ κs a. tt };
  ukm_pack_contour = record { is_proved = packing.ukm_pack_contour.Met.met; asks_nothing = λ κs a. tt };
  ukm_pack_shape = record { is_proved = packing.ukm_pack_shape.Met.met; asks_nothing = λ κs a. tt };
  ukm_pack_shapes = record { is_proved = packing.ukm_pack_shapes.Met.met; asks_nothing = λ κs a. tt };
  ukm_add_contour = record { is_proved = packing.ukm_add_contour.Met.met; asks_nothing = λ κs a. tt };
  ukm_add_shape = record { is_proved = packing.ukm_add_shape.Met.met; asks_nothing = λ κs a. tt };
  ukm_pool_add = record { is_proved = pools.ukm_pool_add.Met.met; asks_nothing = λ κs a. tt };
  ukm_pool_remove = record { is_proved = pools.ukm_pool_remove.Met.met; asks_nothing = λ κs a. tt };
  ukm_pool_contours = record { is_proved = pools.ukm_pool_contours.Met.met; asks_nothing = λ κs a. tt };
  ukm_pool_held = record { is_proved = pools.ukm_pool_held.Met.met; asks_nothing = λ κs a. tt };
  ukm_pool_free = record { is_proved = pools.ukm_pool_free.Met.met; asks_nothing = λ κs a. tt };
  ukm_shapes_is_simple = record { is_proved = shape_sets.ukm_shapes_is_simple.Met.met; asks_nothing = λ κs a. tt };
  ukm_shapes_has_no_spikes = record { is_proved = shape_sets.ukm_shapes_has_no_spikes.Met.met; asks_nothing = λ κs a. tt };
  ukm_shapes_area_two = record { is_proved = shape_sets.ukm_shapes_area_two.Met.met; asks_nothing = λ κs a. tt };
  ukm_shapes_area = record { is_proved = shape_sets.ukm_shapes_area.Met.met; asks_nothing = λ κs a. tt };
  ukm_simplified_shape = record { is_proved = shapes.ukm_simplified_shape.Met.met; asks_nothing = λ κs a. tt };
  ukm_despiked_shape = record { is_proved = shapes.ukm_despiked_shape.Met.met; asks_nothing = λ κs a. tt };
  ukm_simplified_shapes = record { is_proved = shapes.ukm_simplified_shapes.Met.met; asks_nothing = λ κs a. tt };
  ukm_despiked_shapes = record { is_proved = shapes.ukm_despiked_shapes.Met.met; asks_nothing = λ κs a. tt };
  ukm_simplified_fates = record { is_proved = telling.ukm_simplified_fates.Met.met; asks_nothing = λ κs a. tt };
  ukm_despiked_fates = record { is_proved = telling.ukm_despiked_fates.Met.met; asks_nothing = λ κs a. tt };
}

-- each hands on
pub record EveryExportHandsOn : Type 0 where
  pub ukm_compare_sets : HandsOn comparing.ukm_compare_sets.Reads.Learnt library.comparing.ukm_compare_sets.Reads.Learnt
  pub ukm_ranges_sound : HandsOn contour_sets.ukm_ranges_sound.Reads.Learnt library.contour_sets.ukm_ranges_sound.Reads.Learnt
  pub ukm_set_is_simple : HandsOn contour_sets.ukm_set_is_simple.Reads.Learnt library.contour_sets.ukm_set_is_simple.Reads.Learnt
  pub ukm_set_has_no_spikes : HandsOn contour_sets.ukm_set_has_no_spikes.Reads.Learnt library.contour_sets.ukm_set_has_no_spikes.Reads.Learnt
  pub ukm_set_area_two : HandsOn contour_sets.ukm_set_area_two.Reads.Learnt library.contour_sets.ukm_set_area_two.Reads.Learnt
  pub ukm_set_area : HandsOn contour_sets.ukm_set_area.Reads.Learnt library.contour_sets.ukm_set_area.Reads.Learnt
  pub ukm_in_shape : HandsOn contour_sets.ukm_in_shape.Reads.Learnt library.contour_sets.ukm_in_shape.Reads.Learnt
  pub ukm_area_two : HandsOn contours.ukm_area_two.Reads.Learnt library.contours.ukm_area_two.Reads.Learnt
  pub ukm_area : HandsOn contours.ukm_area.Reads.Learnt library.contours.ukm_area.Reads.Learnt
  pub ukm_is_convex : HandsOn contours.ukm_is_convex.Reads.Learnt library.contours.ukm_is_convex.Reads.Learnt
  pub ukm_is_clockwise : HandsOn contours.ukm_is_clockwise.Reads.Learnt library.contours.ukm_is_clockwise.Reads.Learnt
  pub ukm_contains : HandsOn contours.ukm_contains.Reads.Learnt library.contours.ukm_contains.Reads.Learnt
  pub ukm_locate : HandsOn contours.ukm_locate.Reads.Learnt library.contours.ukm_locate.Reads.Learnt
  pub ukm_is_simple : HandsOn contours.ukm_is_simple.Reads.Learnt library.contours.ukm_is_simple.Reads.Learnt
  pub ukm_has_no_spikes : HandsOn contours.ukm_has_no_spikes.Reads.Learnt library.contours.ukm_has_no_spikes.Reads.Learnt
  pub ukm_simplified : HandsOn contours.ukm_simplified.Reads.Learnt library.contours.ukm_simplified.Reads.Learnt
  pub ukm_despiked : HandsOn contours.ukm_despiked.Reads.Learnt library.contours.ukm_despiked.Reads.Learnt
  pub ukm_import_mm : HandsOn drawings.ukm_import_mm.Reads.Learnt library.drawings.ukm_import_mm.Reads.Learnt
  pub ukm_export_mm : HandsOn drawings.ukm_export_mm.Reads.Learnt library.drawings.ukm_export_mm.Reads.Learnt
  pub ukm_read_set : HandsOn files.ukm_read_set.Reads.Learnt library.files.ukm_read_set.Reads.Learnt
  pub ukm_write_set : HandsOn files.ukm_write_set.Reads.Learnt library.files.ukm_write_set.Reads.Learnt
  pub ukm_write_set_2 : HandsOn files.ukm_write_set_2.Reads.Learnt library.files.ukm_write_set_2.Reads.Learnt
  pub ukm_salvage : HandsOn files.ukm_salvage.Reads.Learnt library.files.ukm_salvage.Reads.Learnt
  pub ukm_pack_contour : HandsOn packing.ukm_pack_contour.Reads.Learnt library.packing.ukm_pack_contour.Reads.Learnt
  pub ukm_pack_shape : HandsOn packing.ukm_pack_shape.Reads.Learnt library.packing.ukm_pack_shape.Reads.Learnt
  pub ukm_pack_shapes : HandsOn packing.ukm_pack_shapes.Reads.Learnt library.packing.ukm_pack_shapes.Reads.Learnt
  pub ukm_add_contour : HandsOn packing.ukm_add_contour.Reads.Learnt library.packing.ukm_add_contour.Reads.Learnt
  pub ukm_add_shape : HandsOn packing.ukm_add_shape.Reads.Learnt library.packing.ukm_add_shape.Reads.Learnt
  pub ukm_pool_add : HandsOn pools.ukm_pool_add.Reads.Learnt library.pools.ukm_pool_add.Reads.Learnt
  pub ukm_pool_remove : HandsOn pools.ukm_pool_remove.Reads.Learnt library.pools.ukm_pool_remove.Reads.Learnt
  pub ukm_pool_contours : HandsOn pools.ukm_pool_contours.Reads.Learnt library.pools.ukm_pool_contours.Reads.Learnt
  pub ukm_pool_held : HandsOn pools.ukm_pool_held.Reads.Learnt library.pools.ukm_pool_held.Reads.Learnt
  pub ukm_pool_free : HandsOn pools.ukm_pool_free.Reads.Learnt library.pools.ukm_pool_free.Reads.Learnt
  pub ukm_shapes_is_simple : HandsOn shape_sets.ukm_shapes_is_simple.Reads.Learnt library.shape_sets.ukm_shapes_is_simple.Reads.Learnt
  pub ukm_shapes_has_no_spikes : HandsOn shape_sets.ukm_shapes_has_no_spikes.Reads.Learnt library.shape_sets.ukm_shapes_has_no_spikes.Reads.Learnt
  pub ukm_shapes_area_two : HandsOn shape_sets.ukm_shapes_area_two.Reads.Learnt library.shape_sets.ukm_shapes_area_two.Reads.Learnt
  pub ukm_shapes_area : HandsOn shape_sets.ukm_shapes_area.Reads.Learnt library.shape_sets.ukm_shapes_area.Reads.Learnt
  pub ukm_simplified_shape : HandsOn shapes.ukm_simplified_shape.Reads.Learnt library.shapes.ukm_simplified_shape.Reads.Learnt
  pub ukm_despiked_shape : HandsOn shapes.ukm_despiked_shape.Reads.Learnt library.shapes.ukm_despiked_shape.Reads.Learnt
  pub ukm_simplified_shapes : HandsOn shapes.ukm_simplified_shapes.Reads.Learnt library.shapes.ukm_simplified_shapes.Reads.Learnt
  pub ukm_despiked_shapes : HandsOn shapes.ukm_despiked_shapes.Reads.Learnt library.shapes.ukm_despiked_shapes.Reads.Learnt
  pub ukm_simplified_fates : HandsOn telling.ukm_simplified_fates.Reads.Learnt library.telling.ukm_simplified_fates.Reads.Learnt
  pub ukm_despiked_fates : HandsOn telling.ukm_despiked_fates.Reads.Learnt library.telling.ukm_despiked_fates.Reads.Learnt

pub every_export_hands_on : EveryExportHandsOn
every_export_hands_on = record {
  ukm_compare_sets = λ κs a x e h. h;
  ukm_ranges_sound = λ κs a x e h. h;
  ukm_set_is_simple = λ κs a x e h. h;
  ukm_set_has_no_spikes = λ κs a x e h. h;
  ukm_set_area_two = λ κs a x e h. h;
  ukm_set_area = λ κs a x e h. h;
  ukm_in_shape = λ κs a x e h. h;
  ukm_area_two = λ κs a x e h. h;
  ukm_area = λ κs a x e h. h;
  ukm_is_convex = λ κs a x e h. h;
  ukm_is_clockwise = λ κs a x e h. h;
  ukm_contains = λ κs a x e h. h;
  ukm_locate = λ κs a x e h. h;
  ukm_is_simple = λ κs a x e h. h;
  ukm_has_no_spikes = λ κs a x e h. h;
  ukm_simplified = λ κs a x e h. h;
  ukm_despiked = λ κs a x e h. h;
  ukm_import_mm = λ κs a x e h. h;
  ukm_export_mm = λ κs a x e h. h;
  ukm_read_set = λ κs a x e h. h;
  ukm_write_set = λ κs a x e h. h;
  ukm_write_set_2 = λ κs a x e h. h;
  ukm_salvage = λ κs a x e h. h;
  ukm_pack_contour = λ κs a x e h. h;
  ukm_pack_shape = λ κs a x e h. h;
  ukm_pack_shapes = λ κs a x e h. h;
  ukm_add_contour = λ κs a x e h. h;
  ukm_add_shape = λ κs a x e h. h;
  ukm_pool_add = λ κs a x e h. h;
  ukm_pool_remove = λ κs a x e h. h;
  ukm_pool_contours = λ κs a x e h. h;
  ukm_pool_held = λ κs a x e h. h;
  ukm_pool_free = λ κs a x e h. h;
  ukm_shapes_is_simple = λ κs a x e h. h;
  ukm_shapes_has_no_spikes = λ κs a x e h. h;
  ukm_shapes_area_two = λ κs a x e h. h;
  ukm_shapes_area = λ κs a x e h. h;
  ukm_simplified_shape = λ κs a x e h. h;
  ukm_despiked_shape = λ κs a x e h. h;
  ukm_simplified_shapes = λ κs a x e h. h;
  ukm_despiked_shapes = λ κs a x e h. h;
  ukm_simplified_fates = λ κs a x e h. h;
  ukm_despiked_fates = λ κs a x e h. h;
}
