-- Demand 2: "Every answer equals the rules as 01 writes them; file reader and writer undo each other on every set the file can carry."
use Rattle.std.specs.Prelude.{◌≡◌, ◌↔◌, Bool, List, [], ℕ, ◌<◌, ◌≤◌, length, get_or, ℤ}
use seplogic.Ra.Ura.{Ura}
use base.Logic.{SProp}
use prog.Memory.{Memory}
use prog.Routine.{Routine}
use types.Logic.{Logic}
use contract.Lifetimes.{Lfts}
use contract.Monad.{Fun}
use denote.Triple.Entry.{Args}
use denote.Triple.Clauses.{AtExit}
use Rattle.replies.specs.Refusals.{told}
use Rattle.replies.specs.Ladder.{first_of}
use Rattle.replies.proofs.OneOutcome.{ensuring, two, three, four, five, six, eight}
use Rattle.area.specs.Answers as Areas
use Rattle.path.specs.Convex.{convex}
use Rattle.path.specs.Clockwise.{clockwise}
use Rattle.path.specs.Contains.{contains}
use Rattle.path.specs.Locate.{located}
use Rattle.ring.specs.declared.Rule.TheVariants.{Collinear, Spike}
use Rattle.clean.specs.Verdicts as Verdicts
use Rattle.clean.specs.Outcome as Cleaning
use Rattle.clean.specs.Part.{kept_part}
use Rattle.buffer.specs.Spans.{spans, sound}
use Rattle.rows.specs.Parts.{part}
use Rattle.buffer.specs.Answers as Packing
use Rattle.buffer.specs.Contours as Contours
use Rattle.buffer.specs.Shapes as Shapes
use Rattle.sets.specs.Verdicts as SetVerdicts
use Rattle.sets.specs.Area as SetAreas
use Rattle.sets.specs.Contains.{in_shape}
use Rattle.sets.specs.Outcome as SetCleaning
use Rattle.fates.specs.Outcome as Fates
use Rattle.setfile.specs.Reading as Reading
use Rattle.setfile.specs.Editions.{number, is_second}
use Rattle.setfile.specs.Writing as Writing
use Rattle.setfile.specs.Writing2 as Writing2
use Rattle.setfile.specs.Promises.{Fit, edition_file, write_refusals, write_outcome, written_file}
use Rattle.salvage.specs.Outcome as Salvage
use Rattle.drawing.specs.Importing as Importing
use Rattle.drawing.specs.Exporting as Exporting
use Rattle.difference.specs.Outcome as Comparing
use Rattle.difference.specs.Walking as Walking
use Rattle.pool.specs.Calls.Call.{add, remove}
use Rattle.pool.specs.Rows.{lent}
use Rattle.pool.specs.Outcome as Pool
use Rattle.area.proofs as area
use Rattle.path.proofs as path
use Rattle.clean.proofs as clean
use Rattle.buffer.proofs as buffer
use Rattle.sets.proofs as sets
use Rattle.fates.proofs as fates
use Rattle.setfile.proofs as setfile
use Rattle.salvage.proofs as salvage
use Rattle.drawing.proofs as drawing
use Rattle.difference.proofs as difference
use Rattle.pool.proofs as pool
use Rattle.ukmerelt.proofs as ukmerelt
use Rattle.buffer.specs.contracts.ranges.sound_spans
use Rattle.ukmerelt.specs.contracts.contour_sets.ukm_ranges_sound
use Rattle.promises.specs.Calls.{of_contour, of_set, of_shapes, contour_lent, shape_lent, shapes_lent, fates_lent, Follows, Answers, Tells, HandsOut, numbers, verdicts, areas, locations, counts}

-- each function, and its rule: what it answers, or what it answers and leaves in the rows that it was lent
pub record EveryAnswerEqualsTheRules : Type 0 where
  -- The grid and its arithmetic.
  pub area·area_two : Tells areas area.area_two.Reads.Learnt (of_contour Areas.doubled)
  pub area·area : Tells areas area.area.Reads.Learnt (of_contour Areas.half)
  pub path·is_clockwise_ordered : Tells verdicts path.is_clockwise_ordered.Reads.Learnt (of_contour clockwise)
  -- Verdicts.
  pub clean·simple·is_simple : Tells verdicts clean.simple.is_simple.Reads.Learnt (of_contour Verdicts.simple)
  pub clean·despike·has_no_spikes : Tells verdicts clean.despike.has_no_spikes.Reads.Learnt (of_contour Verdicts.spike_free)
  pub path·is_convex : Tells verdicts path.is_convex.Reads.Learnt (of_contour convex)
  pub path·contains_point : Tells verdicts path.contains_point.Reads.Learnt λ a. three a λ points x y. contains points.now x y
  pub sets·simple·is_simple : Tells verdicts sets.simple.is_simple.Reads.Learnt (of_set SetVerdicts.simple)
  pub sets·despike·has_no_spikes : Tells verdicts sets.despike.has_no_spikes.Reads.Learnt (of_set SetVerdicts.spike_free)
  pub sets·shapes·is_simple : Tells verdicts sets.shapes.is_simple.Reads.Learnt (of_shapes SetVerdicts.shapes_simple)
  pub sets·shapes·has_no_spikes : Tells verdicts sets.shapes.has_no_spikes.Reads.Learnt (of_shapes SetVerdicts.shapes_spike_free)
  -- The area of a set.
  pub sets·areas·area_two : Tells areas sets.areas.area_two.Reads.Learnt (of_set SetAreas.doubled)
  pub sets·areas·area : Tells areas sets.areas.area.Reads.Learnt (of_set SetAreas.half)
  pub sets·shapes·area_two : Tells areas sets.shapes.area_two.Reads.Learnt (of_shapes SetAreas.shapes_doubled)
  pub sets·shapes·area : Tells areas sets.shapes.area.Reads.Learnt (of_shapes SetAreas.shapes_half)
  -- The walk, and the second call.
  pub clean·simple·simplified : Follows clean.simple.simplified.Reads.Learnt
      (λ x e. Cleaning.leaving (Cleaning.cleaned_as x) (contour_lent e)) (λ a. of_contour (Cleaning.outcome Collinear) a (contour_lent a))
  pub clean·despike·despiked : Follows clean.despike.despiked.Reads.Learnt
      (λ x e. Cleaning.leaving (Cleaning.cleaned_as x) (contour_lent e)) (λ a. of_contour (Cleaning.outcome Spike) a (contour_lent a))
  pub clean·kept_part : HandsOut clean.kept_part.Reads.Learnt λ a. three a λ contour out k. kept_part (part contour) (part out) k
  -- Sets: their ranges.
  pub buffer·ranges·sound : Answers buffer.ranges.sound.Reads.Learnt λ a. two a λ ranges count. sound (spans ranges.now) count
  pub buffer·contours·check : Tells numbers buffer.contours.check.Reads.Learnt λ a. two a λ points ranges. first_of (Contours.refusals points.now ranges.now)
  pub buffer·shapes·check : Tells numbers buffer.shapes.check.Reads.Learnt λ a. three a λ points contours shapes. first_of (Shapes.refusals points.now contours.now shapes.now)
  -- Packing.
  pub buffer·contours·set_with_contour : Follows buffer.contours.set_with_contour.Reads.Learnt
      (λ x e. three e λ contour out records. Packing.leaving (Packing.packed_as x) out.now records.now [])
      (λ a. three a λ contour out records. Contours.with_contour contour.now out.now records.now)
  pub buffer·contours·set_with_shape : Follows buffer.contours.set_with_shape.Reads.Learnt
      (λ x e. four e λ points ranges out records. Packing.leaving (Packing.packed_as x) out.now records.now [])
      (λ a. four a λ points ranges out records. Contours.with_shape points.now ranges.now out.now records.now)
  pub buffer·contours·set_with_shapes : Follows buffer.contours.set_with_shapes.Reads.Learnt
      (λ x e. five e λ points contours shapes out records. Packing.leaving (Packing.packed_as x) out.now records.now [])
      (λ a. five a λ points contours shapes out records. Contours.with_shapes points.now contours.now shapes.now out.now records.now)
  pub buffer·shapes·set_with_contour : Follows buffer.shapes.set_with_contour.Reads.Learnt
      (λ x e. four e λ contour out records groups. Packing.leaving (Packing.packed_as x) out.now records.now groups.now)
      (λ a. four a λ contour out records groups. Shapes.with_contour contour.now out.now records.now groups.now)
  pub buffer·shapes·set_with_shape : Follows buffer.shapes.set_with_shape.Reads.Learnt
      (λ x e. five e λ points ranges out records groups. Packing.leaving (Packing.packed_as x) out.now records.now groups.now)
      (λ a. five a λ points ranges out records groups. Shapes.with_shape points.now ranges.now out.now records.now groups.now)
  pub buffer·shapes·set_with_shapes : Follows buffer.shapes.set_with_shapes.Reads.Learnt
      (λ x e. six e λ points contours shapes out records groups. Packing.leaving (Packing.packed_as x) out.now records.now groups.now)
      (λ a. six a λ points contours shapes out records groups. Shapes.with_shapes points.now contours.now shapes.now out.now records.now groups.now)
  -- Adding one.
  pub buffer·contours·add_contour : Follows buffer.contours.add_contour.Reads.Learnt
      (λ x e. five e λ points ranges contour out records. Packing.leaving (Packing.packed_as x) out.now records.now [])
      (λ a. five a λ points ranges contour out records. Contours.with_one_more points.now ranges.now contour.now out.now records.now)
  pub buffer·shapes·add_shape : Follows buffer.shapes.add_shape.Reads.Learnt
      (λ x e. eight e λ points contours shapes more ranges out records groups. Packing.leaving (Packing.packed_as x) out.now records.now groups.now)
      (λ a. eight a λ points contours shapes more ranges out records groups.
      Shapes.with_one_more points.now contours.now shapes.now more.now ranges.now out.now records.now groups.now)
  -- Counting.
  pub buffer·contours·is_empty : Tells verdicts buffer.contours.is_empty.Reads.Learnt (of_set Contours.is_empty)
  pub buffer·contours·is_single_contour : Tells verdicts buffer.contours.is_single_contour.Reads.Learnt (of_set Contours.is_single)
  pub buffer·contours·points_count : Tells counts buffer.contours.points_count.Reads.Learnt (of_set Contours.points_count)
  pub buffer·contours·contours_count : Tells counts buffer.contours.contours_count.Reads.Learnt (of_set Contours.contours_count)
  pub buffer·shapes·is_empty : Tells verdicts buffer.shapes.is_empty.Reads.Learnt (of_shapes Shapes.is_empty)
  pub buffer·shapes·points_count : Tells counts buffer.shapes.points_count.Reads.Learnt (of_shapes Shapes.points_count)
  pub buffer·shapes·contours_count : Tells counts buffer.shapes.contours_count.Reads.Learnt (of_shapes Shapes.contours_count)
  pub buffer·shapes·shapes_count : Tells counts buffer.shapes.shapes_count.Reads.Learnt (of_shapes Shapes.shapes_count)
  pub buffer·shapes·contours_in : Tells counts buffer.shapes.contours_in.Reads.Learnt λ a. four a λ points contours shapes s. Shapes.contours_in points.now contours.now shapes.now s
  -- Unpacking.
  pub buffer·contours·contour : HandsOut buffer.contours.contour.Reads.Learnt λ a. three a λ points ranges k. Contours.contour_at (part points) ranges.now k
  pub buffer·contours·first_contour : HandsOut buffer.contours.first_contour.Reads.Learnt λ a. two a λ points ranges. Contours.first_contour (part points) ranges.now
  pub buffer·shapes·contour_of : HandsOut buffer.shapes.contour_of.Reads.Learnt λ a. five a λ points contours shapes s c. Shapes.contour_of (part points) contours.now shapes.now s c
  -- Cleaning one shape, and shapes.
  pub sets·simple·simplified_shape : Follows sets.simple.simplified_shape.Reads.Learnt
      (λ x e. SetCleaning.leaving (SetCleaning.cleaned_as x) (shape_lent e)) (λ a. of_set (SetCleaning.shape_outcome Collinear) a (shape_lent a))
  pub sets·despike·despiked_shape : Follows sets.despike.despiked_shape.Reads.Learnt
      (λ x e. SetCleaning.leaving (SetCleaning.cleaned_as x) (shape_lent e)) (λ a. of_set (SetCleaning.shape_outcome Spike) a (shape_lent a))
  pub sets·simple·simplified_shapes : Follows sets.simple.simplified_shapes.Reads.Learnt
      (λ x e. SetCleaning.leaving (SetCleaning.cleaned_as x) (shapes_lent e)) (λ a. of_shapes (SetCleaning.shapes_outcome Collinear) a (shapes_lent a))
  pub sets·despike·despiked_shapes : Follows sets.despike.despiked_shapes.Reads.Learnt
      (λ x e. SetCleaning.leaving (SetCleaning.cleaned_as x) (shapes_lent e)) (λ a. of_shapes (SetCleaning.shapes_outcome Spike) a (shapes_lent a))
  -- The set file.
  pub setfile·read : Follows setfile.read.Reads.Learnt
      (λ x e. four e λ bytes out records groups. Reading.leaving (Reading.read_as x) out.now records.now groups.now)
      (λ a. four a λ bytes out records groups. Reading.outcome bytes.now out.now records.now groups.now)
  pub setfile·write : Follows setfile.write.Reads.Learnt
      (λ x e. four e λ points contours shapes bytes. Writing.leaving (Writing.written_as x).reply (Writing.written_as x).bytes bytes.now)
      (λ a. four a λ points contours shapes bytes. Writing.outcome points.now contours.now shapes.now bytes.now)
  -- Beyond 01: where a point lies, and whether a shape has it, which 02 says in place of 01; what becomes of each contour, a file of edition 2 written, salvage of a file, drawings in millimetres, two sets compared, and a pool that two presses share.
  pub setfile·write_2 : Follows setfile.write_2.Reads.Learnt
      (λ x e. four e λ points contours shapes bytes. Writing.leaving (Writing.written_as x).reply (Writing.written_as x).bytes bytes.now)
      (λ a. four a λ points contours shapes bytes. Writing2.outcome points.now contours.now shapes.now bytes.now)
  pub path·locate : Tells locations path.locate.Reads.Learnt λ a. three a λ points x y. located points.now x y
  pub sets·in_shape : Tells verdicts sets.in_shape.Reads.Learnt λ a. four a λ points ranges x y. in_shape points.now ranges.now x y
  pub fates·simplified : Follows fates.simplified.Reads.Learnt
      (λ x e. Fates.leaving (Packing.counted_as x) (fates_lent e)) (λ a. of_shapes (Fates.fates_outcome Collinear) a (fates_lent a))
  pub fates·despiked : Follows fates.despiked.Reads.Learnt
      (λ x e. Fates.leaving (Packing.counted_as x) (fates_lent e)) (λ a. of_shapes (Fates.fates_outcome Spike) a (fates_lent a))
  pub salvage·mend : Follows salvage.mend.Reads.Learnt
      (λ x e. three e λ bytes out dropped. Salvage.leaving (Salvage.salvaged_as x) out.now dropped.now)
      (λ a. three a λ bytes out dropped. Salvage.outcome bytes.now out.now dropped.now)
  pub drawing·import : Follows drawing.import.Reads.Learnt
      (λ x e. four e λ kinds floats points ranges. Packing.leaving (Packing.packed_as x) points.now ranges.now [])
      (λ a. four a λ kinds floats points ranges. Importing.outcome kinds.now floats.now points.now ranges.now)
  pub drawing·export : Follows drawing.export.Reads.Learnt
      (λ x e. four e λ points ranges kinds floats. Exporting.leaving (Exporting.drawn_as x) kinds.now floats.now)
      (λ a. four a λ points ranges kinds floats. Exporting.outcome points.now ranges.now kinds.now floats.now)
  pub difference·compare : Follows difference.compare.Reads.Learnt
      (λ x e. five e λ points ranges others other-ranges listing. Comparing.leaving (Comparing.compared_as x) listing.now)
      (λ a. five a λ points ranges others other-ranges listing. Comparing.outcome points.now ranges.now others.now other-ranges.now listing.now)
  pub difference·walker·reached : HandsOut difference.walker.reached.Reads.Learnt λ a. three a λ points place end. Walking.handed (part points) place end
  pub pool·add : Follows pool.add.Reads.Learnt
      (λ x e. three e λ points records contours. Pool.leaving (told x) points.now records.now contours.now)
      (λ a. five a λ points records contours second contour. Pool.called (Pool.number second) (add 0 contour.now) (lent points.now records.now contours.now))
  pub pool·remove : Follows pool.remove.Reads.Learnt
      (λ x e. three e λ points records contours. Pool.leaving (told x) points.now records.now contours.now)
      (λ a. four a λ points records contours second. Pool.called (Pool.number second) remove (lent points.now records.now contours.now))
  pub pool·contours_count : Tells counts pool.contours_count.Reads.Learnt λ a. four a λ points records contours second. Pool.contours_count (Pool.number second) (lent points.now records.now contours)
  pub pool·held : Tells counts pool.held.Reads.Learnt λ a. four a λ points records contours second. Pool.held_count (Pool.number second) (lent points.now records.now contours)
  pub pool·free : Tells counts pool.free.Reads.Learnt λ a. three a λ points records contours. Pool.free_count (lent points.now records.now contours)
  pub pool·contour_of : HandsOut pool.contour_of.Reads.Learnt λ a. five a λ points records contours second k. Pool.contour_of (part points) records.now contours (Pool.number second) k

-- a file is a row of bytes
abbrev pub Bytes : List ℕ → Type 0
Bytes f = (i : ℕ) → i < length f → get_or f i 0 < 256

-- the set that stands in front of the rows is this one: its points, its contour ranges and its shape ranges
pub record IsTheSet (p : List ℤ) (cs ss : List (List ℕ)) (o : Packing.Outcome) : Type 0 where
  pub points_are : Packing.written_points o ≡ p
  pub contours_are : spans (Packing.written_contours o) ≡ spans cs
  pub shapes_are : spans (Packing.written_shapes o) ≡ spans ss

-- "on every set the file can carry", in either edition; w is what the writer's contract allows, and r what the reader's does
pub record ReaderAndWriterUndoEachOther : Type 0 where
  pub a_file_can_carry_what_the_writer_refuses_at_most_for_room : (second : Bool) (p : List ℤ) (cs ss : List (List ℕ)) → (first_of (write_refusals second p cs ss) ≡ 0) ↔ Fit second p cs ss
  pub every_set_a_file_can_carry_is_written : (second : Bool) (p : List ℤ) (cs ss : List (List ℕ)) → Fit second p cs ss
      → (bytes : List ℕ) → length (edition_file second p cs ss) ≤ length bytes
      → (w : Writing.Outcome) → w ≡ write_outcome second p cs ss bytes → w.answer.reply ≡ 0
  pub what_is_written_is_read_back : (second : Bool) (p : List ℤ) (cs ss : List (List ℕ)) (bytes : List ℕ) (w : Writing.Outcome) → w ≡ write_outcome second p cs ss bytes → w.answer.reply ≡ 0
      → (out : List ℤ) (records groups : List (List ℕ)) → length p ≤ length out → length cs ≤ length records → length ss ≤ length groups
      → (r : Reading.Outcome) → r ≡ Reading.outcome (written_file w) out records groups
      → (r.answer.reply ≡ 0) × (r.answer.edition ≡ number second) × IsTheSet p cs ss (Reading.as_packed r)
  pub what_is_read_is_written_again : (f : List ℕ) → Bytes f → (out : List ℤ) (records groups : List (List ℕ)) (r : Reading.Outcome) → r ≡ Reading.outcome f out records groups → r.answer.reply ≡ 0
      → (bytes : List ℕ) → length f ≤ length bytes
      → (w : Writing.Outcome)
      → w ≡ write_outcome (is_second f) (Packing.written_points (Reading.as_packed r)) (Packing.written_contours (Reading.as_packed r)) (Packing.written_shapes (Reading.as_packed r)) bytes
      → (w.answer.reply ≡ 0) × (written_file w ≡ f)

-- whether ranges that are structs are sound, as both functions ensure it that take a slice of them
abbrev pub SoundSpans : (κs : Lfts 1) → Args sound_spans.signature κs → Bool → AtExit sound_spans.ended κs → Type 0
SoundSpans κs a x e = x ≡ sound a.0.now a.1.0

-- the checker has no plain reading of their contracts, so here these are whole: in every model of the logic each is the contract that asks nothing and ensures that fact
pub record RangesThatAreStructs : Type 2 where
  pub buffer·ranges·sound_spans : {M : Type 1} {𝓤 : Ura M} (𝓛 : Logic 𝓤) (mem : Memory → SProp 𝓤) (run : Routine → Fun 𝓤)
      → sound_spans.spec 𝓛 mem run ≡ ensuring 𝓛 sound_spans.ended SoundSpans
  pub buffer·ranges·sound_spans_is_proved : {M : Type 1} → buffer.ranges.sound_spans.Statement.statement M
  pub ukm_ranges_sound : {M : Type 1} {𝓤 : Ura M} (𝓛 : Logic 𝓤) (mem : Memory → SProp 𝓤) (run : Routine → Fun 𝓤)
      → ukm_ranges_sound.spec 𝓛 mem run ≡ ensuring 𝓛 ukm_ranges_sound.ended SoundSpans
  pub ukm_ranges_sound_is_proved : {M : Type 1} → ukmerelt.contour_sets.ukm_ranges_sound.Statement.statement M
  pub equals_the_rule : Answers SoundSpans λ a. two a λ ranges count. sound ranges.now count

pub record Demand2 : Type 2 where
  pub every_answer_equals_the_rules : EveryAnswerEqualsTheRules
  pub so_does_that_of_ranges_that_are_structs : RangesThatAreStructs
  pub file_reader_and_writer_undo_each_other_on_every_set_the_file_can_carry : ReaderAndWriterUndoEachOther
