-- What `ukmerelt_c` exports for C and Rust, which is held to these functions in turn (its proofs/Exports). Each hands its arguments on to one of the library, and allows no outcome that that one does not; so what the demands say of that one holds of it too.
use Rattle.std.specs.Prelude.{[]}
use Rattle.replies.proofs.OneOutcome.{three, four, five, six, eight}
use Rattle.area.specs.Answers as Areas
use Rattle.path.specs.Convex.{convex}
use Rattle.path.specs.Clockwise.{clockwise}
use Rattle.path.specs.Contains.{contains}
use Rattle.path.specs.Locate.{located}
use Rattle.ring.specs.declared.Rule.TheVariants.{Collinear, Spike}
use Rattle.clean.specs.Verdicts as Verdicts
use Rattle.clean.specs.Outcome as Cleaning
use Rattle.buffer.specs.Answers as Packing
use Rattle.buffer.specs.Contours as Contours
use Rattle.buffer.specs.Shapes as Shapes
use Rattle.sets.specs.Verdicts as SetVerdicts
use Rattle.sets.specs.Area as SetAreas
use Rattle.sets.specs.Contains.{in_shape}
use Rattle.sets.specs.Outcome as SetCleaning
use Rattle.fates.specs.Outcome as Fates
use Rattle.setfile.specs.Reading as Reading
use Rattle.setfile.specs.Writing as Writing
use Rattle.setfile.specs.Writing2 as Writing2
use Rattle.salvage.specs.Outcome as Salvage
use Rattle.drawing.specs.Importing as Importing
use Rattle.drawing.specs.Exporting as Exporting
use Rattle.difference.specs.Outcome as Comparing
use Rattle.pool.specs.Calls.Call.{add, remove}
use Rattle.pool.specs.Rows.{lent}
use Rattle.pool.specs.Outcome as Pool
use Rattle.area.proofs as area
use Rattle.path.proofs as path
use Rattle.clean.proofs as clean
use Rattle.buffer.proofs as buffer
use Rattle.sets.proofs as sets
use Rattle.fates.proofs as fates
use Rattle.setfile.proofs as setfile
use Rattle.salvage.proofs as salvage
use Rattle.drawing.proofs as drawing
use Rattle.difference.proofs as difference
use Rattle.pool.proofs as pool
use Rattle.ukmerelt.proofs as ukmerelt
use Rattle.promises.specs.Calls.{NeverTraps, HandsOnAs, Follows, Answers, of_contour, of_set, of_shapes, contour_lent, shape_lent, shapes_lent, fates_lent, numbers, verdicts, areas, locations, counts, packings, readings, cleanings, set_cleanings, writings, salvagings, drawings, comparisons}

-- each never traps
pub record NoExportTraps : Type 2 where
  pub ukm_area_two : NeverTraps ukmerelt.contours.ukm_area_two.Statement.statement ukmerelt.contours.ukm_area_two.Reads.Asked
  pub ukm_area : NeverTraps ukmerelt.contours.ukm_area.Statement.statement ukmerelt.contours.ukm_area.Reads.Asked
  pub ukm_is_convex : NeverTraps ukmerelt.contours.ukm_is_convex.Statement.statement ukmerelt.contours.ukm_is_convex.Reads.Asked
  pub ukm_is_clockwise : NeverTraps ukmerelt.contours.ukm_is_clockwise.Statement.statement ukmerelt.contours.ukm_is_clockwise.Reads.Asked
  pub ukm_contains : NeverTraps ukmerelt.contours.ukm_contains.Statement.statement ukmerelt.contours.ukm_contains.Reads.Asked
  pub ukm_locate : NeverTraps ukmerelt.contours.ukm_locate.Statement.statement ukmerelt.contours.ukm_locate.Reads.Asked
  pub ukm_is_simple : NeverTraps ukmerelt.contours.ukm_is_simple.Statement.statement ukmerelt.contours.ukm_is_simple.Reads.Asked
  pub ukm_has_no_spikes : NeverTraps ukmerelt.contours.ukm_has_no_spikes.Statement.statement ukmerelt.contours.ukm_has_no_spikes.Reads.Asked
  pub ukm_simplified : NeverTraps ukmerelt.contours.ukm_simplified.Statement.statement ukmerelt.contours.ukm_simplified.Reads.Asked
  pub ukm_despiked : NeverTraps ukmerelt.contours.ukm_despiked.Statement.statement ukmerelt.contours.ukm_despiked.Reads.Asked
  pub ukm_set_is_simple : NeverTraps ukmerelt.contour_sets.ukm_set_is_simple.Statement.statement ukmerelt.contour_sets.ukm_set_is_simple.Reads.Asked
  pub ukm_set_has_no_spikes : NeverTraps ukmerelt.contour_sets.ukm_set_has_no_spikes.Statement.statement ukmerelt.contour_sets.ukm_set_has_no_spikes.Reads.Asked
  pub ukm_set_area_two : NeverTraps ukmerelt.contour_sets.ukm_set_area_two.Statement.statement ukmerelt.contour_sets.ukm_set_area_two.Reads.Asked
  pub ukm_set_area : NeverTraps ukmerelt.contour_sets.ukm_set_area.Statement.statement ukmerelt.contour_sets.ukm_set_area.Reads.Asked
  pub ukm_in_shape : NeverTraps ukmerelt.contour_sets.ukm_in_shape.Statement.statement ukmerelt.contour_sets.ukm_in_shape.Reads.Asked
  pub ukm_shapes_is_simple : NeverTraps ukmerelt.shape_sets.ukm_shapes_is_simple.Statement.statement ukmerelt.shape_sets.ukm_shapes_is_simple.Reads.Asked
  pub ukm_shapes_has_no_spikes : NeverTraps ukmerelt.shape_sets.ukm_shapes_has_no_spikes.Statement.statement ukmerelt.shape_sets.ukm_shapes_has_no_spikes.Reads.Asked
  pub ukm_shapes_area_two : NeverTraps ukmerelt.shape_sets.ukm_shapes_area_two.Statement.statement ukmerelt.shape_sets.ukm_shapes_area_two.Reads.Asked
  pub ukm_shapes_area : NeverTraps ukmerelt.shape_sets.ukm_shapes_area.Statement.statement ukmerelt.shape_sets.ukm_shapes_area.Reads.Asked
  pub ukm_simplified_shape : NeverTraps ukmerelt.shapes.ukm_simplified_shape.Statement.statement ukmerelt.shapes.ukm_simplified_shape.Reads.Asked
  pub ukm_despiked_shape : NeverTraps ukmerelt.shapes.ukm_despiked_shape.Statement.statement ukmerelt.shapes.ukm_despiked_shape.Reads.Asked
  pub ukm_simplified_shapes : NeverTraps ukmerelt.shapes.ukm_simplified_shapes.Statement.statement ukmerelt.shapes.ukm_simplified_shapes.Reads.Asked
  pub ukm_despiked_shapes : NeverTraps ukmerelt.shapes.ukm_despiked_shapes.Statement.statement ukmerelt.shapes.ukm_despiked_shapes.Reads.Asked
  pub ukm_simplified_fates : NeverTraps ukmerelt.telling.ukm_simplified_fates.Statement.statement ukmerelt.telling.ukm_simplified_fates.Reads.Asked
  pub ukm_despiked_fates : NeverTraps ukmerelt.telling.ukm_despiked_fates.Statement.statement ukmerelt.telling.ukm_despiked_fates.Reads.Asked
  pub ukm_pack_contour : NeverTraps ukmerelt.packing.ukm_pack_contour.Statement.statement ukmerelt.packing.ukm_pack_contour.Reads.Asked
  pub ukm_pack_shape : NeverTraps ukmerelt.packing.ukm_pack_shape.Statement.statement ukmerelt.packing.ukm_pack_shape.Reads.Asked
  pub ukm_pack_shapes : NeverTraps ukmerelt.packing.ukm_pack_shapes.Statement.statement ukmerelt.packing.ukm_pack_shapes.Reads.Asked
  pub ukm_add_contour : NeverTraps ukmerelt.packing.ukm_add_contour.Statement.statement ukmerelt.packing.ukm_add_contour.Reads.Asked
  pub ukm_add_shape : NeverTraps ukmerelt.packing.ukm_add_shape.Statement.statement ukmerelt.packing.ukm_add_shape.Reads.Asked
  pub ukm_read_set : NeverTraps ukmerelt.files.ukm_read_set.Statement.statement ukmerelt.files.ukm_read_set.Reads.Asked
  pub ukm_write_set : NeverTraps ukmerelt.files.ukm_write_set.Statement.statement ukmerelt.files.ukm_write_set.Reads.Asked
  pub ukm_write_set_2 : NeverTraps ukmerelt.files.ukm_write_set_2.Statement.statement ukmerelt.files.ukm_write_set_2.Reads.Asked
  pub ukm_salvage : NeverTraps ukmerelt.files.ukm_salvage.Statement.statement ukmerelt.files.ukm_salvage.Reads.Asked
  pub ukm_import_mm : NeverTraps ukmerelt.drawings.ukm_import_mm.Statement.statement ukmerelt.drawings.ukm_import_mm.Reads.Asked
  pub ukm_export_mm : NeverTraps ukmerelt.drawings.ukm_export_mm.Statement.statement ukmerelt.drawings.ukm_export_mm.Reads.Asked
  pub ukm_compare_sets : NeverTraps ukmerelt.comparing.ukm_compare_sets.Statement.statement ukmerelt.comparing.ukm_compare_sets.Reads.Asked
  pub ukm_pool_add : NeverTraps ukmerelt.pools.ukm_pool_add.Statement.statement ukmerelt.pools.ukm_pool_add.Reads.Asked
  pub ukm_pool_remove : NeverTraps ukmerelt.pools.ukm_pool_remove.Statement.statement ukmerelt.pools.ukm_pool_remove.Reads.Asked
  pub ukm_pool_contours : NeverTraps ukmerelt.pools.ukm_pool_contours.Statement.statement ukmerelt.pools.ukm_pool_contours.Reads.Asked
  pub ukm_pool_held : NeverTraps ukmerelt.pools.ukm_pool_held.Statement.statement ukmerelt.pools.ukm_pool_held.Reads.Asked
  pub ukm_pool_free : NeverTraps ukmerelt.pools.ukm_pool_free.Statement.statement ukmerelt.pools.ukm_pool_free.Reads.Asked

-- each hands on
pub record EveryExportHandsOn : Type 0 where
  pub ukm_area_two : HandsOnAs ukmerelt.contours.ukm_area_two.Reads.Learnt areas.told area.area_two.Reads.Learnt
  pub ukm_area : HandsOnAs ukmerelt.contours.ukm_area.Reads.Learnt areas.told area.area.Reads.Learnt
  pub ukm_is_convex : HandsOnAs ukmerelt.contours.ukm_is_convex.Reads.Learnt verdicts.told path.is_convex.Reads.Learnt
  pub ukm_is_clockwise : HandsOnAs ukmerelt.contours.ukm_is_clockwise.Reads.Learnt verdicts.told path.is_clockwise_ordered.Reads.Learnt
  pub ukm_contains : HandsOnAs ukmerelt.contours.ukm_contains.Reads.Learnt verdicts.told path.contains_point.Reads.Learnt
  pub ukm_locate : HandsOnAs ukmerelt.contours.ukm_locate.Reads.Learnt locations.told path.locate.Reads.Learnt
  pub ukm_is_simple : HandsOnAs ukmerelt.contours.ukm_is_simple.Reads.Learnt verdicts.told clean.simple.is_simple.Reads.Learnt
  pub ukm_has_no_spikes : HandsOnAs ukmerelt.contours.ukm_has_no_spikes.Reads.Learnt verdicts.told clean.despike.has_no_spikes.Reads.Learnt
  pub ukm_simplified : HandsOnAs ukmerelt.contours.ukm_simplified.Reads.Learnt cleanings.told clean.simple.simplified.Reads.Learnt
  pub ukm_despiked : HandsOnAs ukmerelt.contours.ukm_despiked.Reads.Learnt cleanings.told clean.despike.despiked.Reads.Learnt
  pub ukm_set_is_simple : HandsOnAs ukmerelt.contour_sets.ukm_set_is_simple.Reads.Learnt verdicts.told sets.simple.is_simple.Reads.Learnt
  pub ukm_set_has_no_spikes : HandsOnAs ukmerelt.contour_sets.ukm_set_has_no_spikes.Reads.Learnt verdicts.told sets.despike.has_no_spikes.Reads.Learnt
  pub ukm_set_area_two : HandsOnAs ukmerelt.contour_sets.ukm_set_area_two.Reads.Learnt areas.told sets.areas.area_two.Reads.Learnt
  pub ukm_set_area : HandsOnAs ukmerelt.contour_sets.ukm_set_area.Reads.Learnt areas.told sets.areas.area.Reads.Learnt
  pub ukm_in_shape : HandsOnAs ukmerelt.contour_sets.ukm_in_shape.Reads.Learnt verdicts.told sets.in_shape.Reads.Learnt
  pub ukm_shapes_is_simple : HandsOnAs ukmerelt.shape_sets.ukm_shapes_is_simple.Reads.Learnt verdicts.told sets.shapes.is_simple.Reads.Learnt
  pub ukm_shapes_has_no_spikes : HandsOnAs ukmerelt.shape_sets.ukm_shapes_has_no_spikes.Reads.Learnt verdicts.told sets.shapes.has_no_spikes.Reads.Learnt
  pub ukm_shapes_area_two : HandsOnAs ukmerelt.shape_sets.ukm_shapes_area_two.Reads.Learnt areas.told sets.shapes.area_two.Reads.Learnt
  pub ukm_shapes_area : HandsOnAs ukmerelt.shape_sets.ukm_shapes_area.Reads.Learnt areas.told sets.shapes.area.Reads.Learnt
  pub ukm_simplified_shape : HandsOnAs ukmerelt.shapes.ukm_simplified_shape.Reads.Learnt set_cleanings.told sets.simple.simplified_shape.Reads.Learnt
  pub ukm_despiked_shape : HandsOnAs ukmerelt.shapes.ukm_despiked_shape.Reads.Learnt set_cleanings.told sets.despike.despiked_shape.Reads.Learnt
  pub ukm_simplified_shapes : HandsOnAs ukmerelt.shapes.ukm_simplified_shapes.Reads.Learnt set_cleanings.told sets.simple.simplified_shapes.Reads.Learnt
  pub ukm_despiked_shapes : HandsOnAs ukmerelt.shapes.ukm_despiked_shapes.Reads.Learnt set_cleanings.told sets.despike.despiked_shapes.Reads.Learnt
  pub ukm_simplified_fates : HandsOnAs ukmerelt.telling.ukm_simplified_fates.Reads.Learnt counts.told fates.simplified.Reads.Learnt
  pub ukm_despiked_fates : HandsOnAs ukmerelt.telling.ukm_despiked_fates.Reads.Learnt counts.told fates.despiked.Reads.Learnt
  pub ukm_pack_contour : HandsOnAs ukmerelt.packing.ukm_pack_contour.Reads.Learnt packings.told buffer.shapes.set_with_contour.Reads.Learnt
  pub ukm_pack_shape : HandsOnAs ukmerelt.packing.ukm_pack_shape.Reads.Learnt packings.told buffer.shapes.set_with_shape.Reads.Learnt
  pub ukm_pack_shapes : HandsOnAs ukmerelt.packing.ukm_pack_shapes.Reads.Learnt packings.told buffer.shapes.set_with_shapes.Reads.Learnt
  pub ukm_add_contour : HandsOnAs ukmerelt.packing.ukm_add_contour.Reads.Learnt packings.told buffer.contours.add_contour.Reads.Learnt
  pub ukm_add_shape : HandsOnAs ukmerelt.packing.ukm_add_shape.Reads.Learnt packings.told buffer.shapes.add_shape.Reads.Learnt
  pub ukm_read_set : HandsOnAs ukmerelt.files.ukm_read_set.Reads.Learnt readings.told setfile.read.Reads.Learnt
  pub ukm_write_set : HandsOnAs ukmerelt.files.ukm_write_set.Reads.Learnt writings.told setfile.write.Reads.Learnt
  pub ukm_write_set_2 : HandsOnAs ukmerelt.files.ukm_write_set_2.Reads.Learnt writings.told setfile.write_2.Reads.Learnt
  pub ukm_salvage : HandsOnAs ukmerelt.files.ukm_salvage.Reads.Learnt salvagings.told salvage.mend.Reads.Learnt
  pub ukm_import_mm : HandsOnAs ukmerelt.drawings.ukm_import_mm.Reads.Learnt packings.told drawing.import.Reads.Learnt
  pub ukm_export_mm : HandsOnAs ukmerelt.drawings.ukm_export_mm.Reads.Learnt drawings.told drawing.export.Reads.Learnt
  pub ukm_compare_sets : HandsOnAs ukmerelt.comparing.ukm_compare_sets.Reads.Learnt (comparisons 0).told difference.compare.Reads.Learnt
  pub ukm_pool_add : HandsOnAs ukmerelt.pools.ukm_pool_add.Reads.Learnt numbers.told pool.add.Reads.Learnt
  pub ukm_pool_remove : HandsOnAs ukmerelt.pools.ukm_pool_remove.Reads.Learnt numbers.told pool.remove.Reads.Learnt
  pub ukm_pool_contours : HandsOnAs ukmerelt.pools.ukm_pool_contours.Reads.Learnt counts.told pool.contours_count.Reads.Learnt
  pub ukm_pool_held : HandsOnAs ukmerelt.pools.ukm_pool_held.Reads.Learnt counts.told pool.held.Reads.Learnt
  pub ukm_pool_free : HandsOnAs ukmerelt.pools.ukm_pool_free.Reads.Learnt counts.told pool.free.Reads.Learnt

-- and what C gets, what it is answered and what is left in the rows that it lent, is what the rule of that function says, the same that the second demand says of it: no other outcome is allowed
pub record EveryExportEqualsTheRules : Type 0 where
  pub ukm_area_two : Answers ukmerelt.contours.ukm_area_two.Reads.Learnt (of_contour Areas.doubled)
  pub ukm_area : Answers ukmerelt.contours.ukm_area.Reads.Learnt (of_contour Areas.half)
  pub ukm_is_convex : Answers ukmerelt.contours.ukm_is_convex.Reads.Learnt (of_contour convex)
  pub ukm_is_clockwise : Answers ukmerelt.contours.ukm_is_clockwise.Reads.Learnt (of_contour clockwise)
  pub ukm_contains : Answers ukmerelt.contours.ukm_contains.Reads.Learnt λ a. three a λ points x y. contains points.now x y
  pub ukm_locate : Answers ukmerelt.contours.ukm_locate.Reads.Learnt λ a. three a λ points x y. located points.now x y
  pub ukm_is_simple : Answers ukmerelt.contours.ukm_is_simple.Reads.Learnt (of_contour Verdicts.simple)
  pub ukm_has_no_spikes : Answers ukmerelt.contours.ukm_has_no_spikes.Reads.Learnt (of_contour Verdicts.spike_free)
  pub ukm_simplified : Follows ukmerelt.contours.ukm_simplified.Reads.Learnt
      (λ x e. Cleaning.leaving x (contour_lent e)) (λ a. of_contour (Cleaning.outcome Collinear) a (contour_lent a))
  pub ukm_despiked : Follows ukmerelt.contours.ukm_despiked.Reads.Learnt
      (λ x e. Cleaning.leaving x (contour_lent e)) (λ a. of_contour (Cleaning.outcome Spike) a (contour_lent a))
  pub ukm_set_is_simple : Answers ukmerelt.contour_sets.ukm_set_is_simple.Reads.Learnt (of_set SetVerdicts.simple)
  pub ukm_set_has_no_spikes : Answers ukmerelt.contour_sets.ukm_set_has_no_spikes.Reads.Learnt (of_set SetVerdicts.spike_free)
  pub ukm_set_area_two : Answers ukmerelt.contour_sets.ukm_set_area_two.Reads.Learnt (of_set SetAreas.doubled)
  pub ukm_set_area : Answers ukmerelt.contour_sets.ukm_set_area.Reads.Learnt (of_set SetAreas.half)
  pub ukm_in_shape : Answers ukmerelt.contour_sets.ukm_in_shape.Reads.Learnt λ a. four a λ points ranges x y. in_shape points.now ranges.now x y
  pub ukm_shapes_is_simple : Answers ukmerelt.shape_sets.ukm_shapes_is_simple.Reads.Learnt (of_shapes SetVerdicts.shapes_simple)
  pub ukm_shapes_has_no_spikes : Answers ukmerelt.shape_sets.ukm_shapes_has_no_spikes.Reads.Learnt (of_shapes SetVerdicts.shapes_spike_free)
  pub ukm_shapes_area_two : Answers ukmerelt.shape_sets.ukm_shapes_area_two.Reads.Learnt (of_shapes SetAreas.shapes_doubled)
  pub ukm_shapes_area : Answers ukmerelt.shape_sets.ukm_shapes_area.Reads.Learnt (of_shapes SetAreas.shapes_half)
  pub ukm_simplified_shape : Follows ukmerelt.shapes.ukm_simplified_shape.Reads.Learnt
      (λ x e. SetCleaning.leaving x (shape_lent e)) (λ a. of_set (SetCleaning.shape_outcome Collinear) a (shape_lent a))
  pub ukm_despiked_shape : Follows ukmerelt.shapes.ukm_despiked_shape.Reads.Learnt
      (λ x e. SetCleaning.leaving x (shape_lent e)) (λ a. of_set (SetCleaning.shape_outcome Spike) a (shape_lent a))
  pub ukm_simplified_shapes : Follows ukmerelt.shapes.ukm_simplified_shapes.Reads.Learnt
      (λ x e. SetCleaning.leaving x (shapes_lent e)) (λ a. of_shapes (SetCleaning.shapes_outcome Collinear) a (shapes_lent a))
  pub ukm_despiked_shapes : Follows ukmerelt.shapes.ukm_despiked_shapes.Reads.Learnt
      (λ x e. SetCleaning.leaving x (shapes_lent e)) (λ a. of_shapes (SetCleaning.shapes_outcome Spike) a (shapes_lent a))
  pub ukm_simplified_fates : Follows ukmerelt.telling.ukm_simplified_fates.Reads.Learnt
      (λ x e. Fates.leaving x (fates_lent e)) (λ a. of_shapes (Fates.fates_outcome Collinear) a (fates_lent a))
  pub ukm_despiked_fates : Follows ukmerelt.telling.ukm_despiked_fates.Reads.Learnt
      (λ x e. Fates.leaving x (fates_lent e)) (λ a. of_shapes (Fates.fates_outcome Spike) a (fates_lent a))
  pub ukm_pack_contour : Follows ukmerelt.packing.ukm_pack_contour.Reads.Learnt
      (λ x e. four e λ contour out records groups. Packing.leaving x out.now records.now groups.now)
      (λ a. four a λ contour out records groups. Shapes.with_contour contour.now out.now records.now groups.now)
  pub ukm_pack_shape : Follows ukmerelt.packing.ukm_pack_shape.Reads.Learnt
      (λ x e. five e λ points ranges out records groups. Packing.leaving x out.now records.now groups.now)
      (λ a. five a λ points ranges out records groups. Shapes.with_shape points.now ranges.now out.now records.now groups.now)
  pub ukm_pack_shapes : Follows ukmerelt.packing.ukm_pack_shapes.Reads.Learnt
      (λ x e. six e λ points contours shapes out records groups. Packing.leaving x out.now records.now groups.now)
      (λ a. six a λ points contours shapes out records groups. Shapes.with_shapes points.now contours.now shapes.now out.now records.now groups.now)
  pub ukm_add_contour : Follows ukmerelt.packing.ukm_add_contour.Reads.Learnt
      (λ x e. five e λ points ranges contour out records. Packing.leaving x out.now records.now [])
      (λ a. five a λ points ranges contour out records. Contours.with_one_more points.now ranges.now contour.now out.now records.now)
  pub ukm_add_shape : Follows ukmerelt.packing.ukm_add_shape.Reads.Learnt
      (λ x e. eight e λ points contours shapes more ranges out records groups. Packing.leaving x out.now records.now groups.now)
      (λ a. eight a λ points contours shapes more ranges out records groups.
      Shapes.with_one_more points.now contours.now shapes.now more.now ranges.now out.now records.now groups.now)
  pub ukm_read_set : Follows ukmerelt.files.ukm_read_set.Reads.Learnt
      (λ x e. four e λ bytes out records groups. Reading.leaving x out.now records.now groups.now)
      (λ a. four a λ bytes out records groups. Reading.outcome bytes.now out.now records.now groups.now)
  pub ukm_write_set : Follows ukmerelt.files.ukm_write_set.Reads.Learnt
      (λ x e. four e λ points contours shapes bytes. Writing.leaving x.reply x.bytes bytes.now)
      (λ a. four a λ points contours shapes bytes. Writing.outcome points.now contours.now shapes.now bytes.now)
  pub ukm_write_set_2 : Follows ukmerelt.files.ukm_write_set_2.Reads.Learnt
      (λ x e. four e λ points contours shapes bytes. Writing.leaving x.reply x.bytes bytes.now)
      (λ a. four a λ points contours shapes bytes. Writing2.outcome points.now contours.now shapes.now bytes.now)
  pub ukm_salvage : Follows ukmerelt.files.ukm_salvage.Reads.Learnt
      (λ x e. three e λ bytes out dropped. Salvage.leaving x out.now dropped.now)
      (λ a. three a λ bytes out dropped. Salvage.outcome bytes.now out.now dropped.now)
  pub ukm_import_mm : Follows ukmerelt.drawings.ukm_import_mm.Reads.Learnt
      (λ x e. four e λ kinds floats points ranges. Packing.leaving x points.now ranges.now [])
      (λ a. four a λ kinds floats points ranges. Importing.outcome kinds.now floats.now points.now ranges.now)
  pub ukm_export_mm : Follows ukmerelt.drawings.ukm_export_mm.Reads.Learnt
      (λ x e. four e λ points ranges kinds floats. Exporting.leaving x kinds.now floats.now)
      (λ a. four a λ points ranges kinds floats. Exporting.outcome points.now ranges.now kinds.now floats.now)
  pub ukm_compare_sets : Follows ukmerelt.comparing.ukm_compare_sets.Reads.Learnt
      (λ x e. five e λ points ranges others other-ranges listing. Comparing.leaving x listing.now)
      (λ a. five a λ points ranges others other-ranges listing. Comparing.outcome points.now ranges.now others.now other-ranges.now listing.now)
  pub ukm_pool_add : Follows ukmerelt.pools.ukm_pool_add.Reads.Learnt
      (λ x e. three e λ points records contours. Pool.leaving x points.now records.now contours.now)
      (λ a. five a λ points records contours second contour. Pool.called (Pool.number second) (add 0 contour.now) (lent points.now records.now contours.now))
  pub ukm_pool_remove : Follows ukmerelt.pools.ukm_pool_remove.Reads.Learnt
      (λ x e. three e λ points records contours. Pool.leaving x points.now records.now contours.now)
      (λ a. four a λ points records contours second. Pool.called (Pool.number second) remove (lent points.now records.now contours.now))
  pub ukm_pool_contours : Answers ukmerelt.pools.ukm_pool_contours.Reads.Learnt λ a. four a λ points records contours second. Pool.contours_count (Pool.number second) (lent points.now records.now contours)
  pub ukm_pool_held : Answers ukmerelt.pools.ukm_pool_held.Reads.Learnt λ a. four a λ points records contours second. Pool.held_count (Pool.number second) (lent points.now records.now contours)
  pub ukm_pool_free : Answers ukmerelt.pools.ukm_pool_free.Reads.Learnt λ a. three a λ points records contours. Pool.free_count (lent points.now records.now contours)
