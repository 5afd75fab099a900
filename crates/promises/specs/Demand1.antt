-- Demand 1: "Nothing traps, whatever numbers arrive. Every bad input gets its number; output and scratch are then untouched. A collapsed contour leaves output untouched and its scratch zeroed."
use Rattle.std.specs.Prelude.{◌≡◌, Bool, false, List, [], ◌∷◌, ◌++◌, map, leb, length, ℤ, ℕ, Float}
use Rattle.grid.specs.Limits.{limit}
use Rattle.grid.specs.declared.Point.{Point}
use Rattle.replies.specs.Ladder.{Rung, first_of, room}
use Rattle.grid.specs.Domain.{count, domain}
use Rattle.replies.proofs.OneOutcome.{three, four, five, six, eight}
use Rattle.area.specs.Answers as Areas
use Rattle.path.specs.Contains as PathContains
use Rattle.clean.specs.Outcome as Cleaning
use Rattle.buffer.specs.declared.ranges.Span.{Span}
use Rattle.buffer.specs.Spans.{spans, sound, moved}
use Rattle.buffer.specs.Sets.{joined, whole, every, contours, contour_spans, shape_spans}
use Rattle.rows.specs.Parts.{part}
use Rattle.buffer.specs.Refusals.{both, unsound}
use Rattle.buffer.specs.Answers.{enough}
use Rattle.buffer.specs.Contours as Contours
use Rattle.buffer.specs.Shapes as Shapes
use Rattle.sets.specs.Area.{area_refusals}
use Rattle.sets.specs.Contains as SetContains
use Rattle.sets.specs.Outcome as SetCleaning
use Rattle.fates.specs.Outcome as Fates
use Rattle.setfile.specs.Entries.{contours_of, shapes_of, damage, read_contours}
use Rattle.setfile.specs.Format.{file_length}
use Rattle.setfile.specs.Editions.{parsed}
use Rattle.setfile.specs.Reading as Reading
use Rattle.setfile.specs.Writing as Writing
use Rattle.setfile.specs.Writing2 as Writing2
use Rattle.salvage.specs.Outcome as Salvage
use Rattle.drawing.specs.Commands.{items}
use Rattle.drawing.specs.Faults.{first_fault}
use Rattle.drawing.specs.Importing as Importing
use Rattle.drawing.specs.Exporting as Exporting
use Rattle.difference.specs.Outcome as Comparing
use Rattle.pool.specs.Calls.Call.{add, remove}
use Rattle.pool.specs.Rows as Pool
use Rattle.pool.specs.Outcome as PoolCalls
use Rattle.pool.specs.Outcome.{number}
use Rattle.area.proofs as area
use Rattle.path.proofs as path
use Rattle.clean.proofs as clean
use Rattle.buffer.proofs as buffer
use Rattle.sets.proofs as sets
use Rattle.fates.proofs as fates
use Rattle.setfile.proofs as setfile
use Rattle.salvage.proofs as salvage
use Rattle.drawing.proofs as drawing
use Rattle.difference.proofs as difference
use Rattle.pool.proofs as pool
use Rattle.promises.specs.Calls.{of_contour, of_set, of_shapes, Always, NeverTraps, numbers, verdicts, areas, locations, counts, packings, readings, cleanings, set_cleanings, writings, salvagings, drawings, comparisons, Numbered, Refuses, HandsNothing, ◌and◌, contour_lent, shape_lent, shapes_lent, fates_lent, OnlyZeroed, ShapeOnlyZeroed, Untouched, Collapses}

-- no function asks anything, and each is proved
pub record NothingTraps : Type 2 where
  pub area·area_two : NeverTraps area.area_two.Statement.statement area.area_two.Reads.Asked
  pub area·area : NeverTraps area.area.Statement.statement area.area.Reads.Asked
  pub path·is_clockwise_ordered : NeverTraps path.is_clockwise_ordered.Statement.statement path.is_clockwise_ordered.Reads.Asked
  pub clean·simple·is_simple : NeverTraps clean.simple.is_simple.Statement.statement clean.simple.is_simple.Reads.Asked
  pub clean·despike·has_no_spikes : NeverTraps clean.despike.has_no_spikes.Statement.statement clean.despike.has_no_spikes.Reads.Asked
  pub path·is_convex : NeverTraps path.is_convex.Statement.statement path.is_convex.Reads.Asked
  pub path·contains_point : NeverTraps path.contains_point.Statement.statement path.contains_point.Reads.Asked
  pub path·locate : NeverTraps path.locate.Statement.statement path.locate.Reads.Asked
  pub sets·in_shape : NeverTraps sets.in_shape.Statement.statement sets.in_shape.Reads.Asked
  pub sets·simple·is_simple : NeverTraps sets.simple.is_simple.Statement.statement sets.simple.is_simple.Reads.Asked
  pub sets·despike·has_no_spikes : NeverTraps sets.despike.has_no_spikes.Statement.statement sets.despike.has_no_spikes.Reads.Asked
  pub sets·shapes·is_simple : NeverTraps sets.shapes.is_simple.Statement.statement sets.shapes.is_simple.Reads.Asked
  pub sets·shapes·has_no_spikes : NeverTraps sets.shapes.has_no_spikes.Statement.statement sets.shapes.has_no_spikes.Reads.Asked
  pub sets·areas·area_two : NeverTraps sets.areas.area_two.Statement.statement sets.areas.area_two.Reads.Asked
  pub sets·areas·area : NeverTraps sets.areas.area.Statement.statement sets.areas.area.Reads.Asked
  pub sets·shapes·area_two : NeverTraps sets.shapes.area_two.Statement.statement sets.shapes.area_two.Reads.Asked
  pub sets·shapes·area : NeverTraps sets.shapes.area.Statement.statement sets.shapes.area.Reads.Asked
  pub clean·simple·simplified : NeverTraps clean.simple.simplified.Statement.statement clean.simple.simplified.Reads.Asked
  pub clean·despike·despiked : NeverTraps clean.despike.despiked.Statement.statement clean.despike.despiked.Reads.Asked
  pub clean·kept_part : NeverTraps clean.kept_part.Statement.statement clean.kept_part.Reads.Asked
  pub buffer·ranges·sound : NeverTraps buffer.ranges.sound.Statement.statement buffer.ranges.sound.Reads.Asked
  pub buffer·contours·check : NeverTraps buffer.contours.check.Statement.statement buffer.contours.check.Reads.Asked
  pub buffer·shapes·check : NeverTraps buffer.shapes.check.Statement.statement buffer.shapes.check.Reads.Asked
  pub buffer·contours·set_with_contour : NeverTraps buffer.contours.set_with_contour.Statement.statement buffer.contours.set_with_contour.Reads.Asked
  pub buffer·contours·set_with_shape : NeverTraps buffer.contours.set_with_shape.Statement.statement buffer.contours.set_with_shape.Reads.Asked
  pub buffer·contours·set_with_shapes : NeverTraps buffer.contours.set_with_shapes.Statement.statement buffer.contours.set_with_shapes.Reads.Asked
  pub buffer·shapes·set_with_contour : NeverTraps buffer.shapes.set_with_contour.Statement.statement buffer.shapes.set_with_contour.Reads.Asked
  pub buffer·shapes·set_with_shape : NeverTraps buffer.shapes.set_with_shape.Statement.statement buffer.shapes.set_with_shape.Reads.Asked
  pub buffer·shapes·set_with_shapes : NeverTraps buffer.shapes.set_with_shapes.Statement.statement buffer.shapes.set_with_shapes.Reads.Asked
  pub buffer·contours·add_contour : NeverTraps buffer.contours.add_contour.Statement.statement buffer.contours.add_contour.Reads.Asked
  pub buffer·shapes·add_shape : NeverTraps buffer.shapes.add_shape.Statement.statement buffer.shapes.add_shape.Reads.Asked
  pub buffer·contours·is_empty : NeverTraps buffer.contours.is_empty.Statement.statement buffer.contours.is_empty.Reads.Asked
  pub buffer·contours·is_single_contour : NeverTraps buffer.contours.is_single_contour.Statement.statement buffer.contours.is_single_contour.Reads.Asked
  pub buffer·contours·points_count : NeverTraps buffer.contours.points_count.Statement.statement buffer.contours.points_count.Reads.Asked
  pub buffer·contours·contours_count : NeverTraps buffer.contours.contours_count.Statement.statement buffer.contours.contours_count.Reads.Asked
  pub buffer·shapes·is_empty : NeverTraps buffer.shapes.is_empty.Statement.statement buffer.shapes.is_empty.Reads.Asked
  pub buffer·shapes·points_count : NeverTraps buffer.shapes.points_count.Statement.statement buffer.shapes.points_count.Reads.Asked
  pub buffer·shapes·contours_count : NeverTraps buffer.shapes.contours_count.Statement.statement buffer.shapes.contours_count.Reads.Asked
  pub buffer·shapes·shapes_count : NeverTraps buffer.shapes.shapes_count.Statement.statement buffer.shapes.shapes_count.Reads.Asked
  pub buffer·shapes·contours_in : NeverTraps buffer.shapes.contours_in.Statement.statement buffer.shapes.contours_in.Reads.Asked
  pub buffer·contours·contour : NeverTraps buffer.contours.contour.Statement.statement buffer.contours.contour.Reads.Asked
  pub buffer·contours·first_contour : NeverTraps buffer.contours.first_contour.Statement.statement buffer.contours.first_contour.Reads.Asked
  pub buffer·shapes·contour_of : NeverTraps buffer.shapes.contour_of.Statement.statement buffer.shapes.contour_of.Reads.Asked
  pub sets·simple·simplified_shape : NeverTraps sets.simple.simplified_shape.Statement.statement sets.simple.simplified_shape.Reads.Asked
  pub sets·despike·despiked_shape : NeverTraps sets.despike.despiked_shape.Statement.statement sets.despike.despiked_shape.Reads.Asked
  pub sets·simple·simplified_shapes : NeverTraps sets.simple.simplified_shapes.Statement.statement sets.simple.simplified_shapes.Reads.Asked
  pub sets·despike·despiked_shapes : NeverTraps sets.despike.despiked_shapes.Statement.statement sets.despike.despiked_shapes.Reads.Asked
  pub fates·simplified : NeverTraps fates.simplified.Statement.statement fates.simplified.Reads.Asked
  pub fates·despiked : NeverTraps fates.despiked.Statement.statement fates.despiked.Reads.Asked
  pub setfile·read : NeverTraps setfile.read.Statement.statement setfile.read.Reads.Asked
  pub setfile·write : NeverTraps setfile.write.Statement.statement setfile.write.Reads.Asked
  pub setfile·write_2 : NeverTraps setfile.write_2.Statement.statement setfile.write_2.Reads.Asked
  pub salvage·mend : NeverTraps salvage.mend.Statement.statement salvage.mend.Reads.Asked
  pub drawing·import : NeverTraps drawing.import.Statement.statement drawing.import.Reads.Asked
  pub drawing·export : NeverTraps drawing.export.Statement.statement drawing.export.Reads.Asked
  pub difference·compare : NeverTraps difference.compare.Statement.statement difference.compare.Reads.Asked
  pub difference·walker·reached : NeverTraps difference.walker.reached.Statement.statement difference.walker.reached.Reads.Asked
  pub pool·add : NeverTraps pool.add.Statement.statement pool.add.Reads.Asked
  pub pool·remove : NeverTraps pool.remove.Statement.statement pool.remove.Reads.Asked
  pub pool·contours_count : NeverTraps pool.contours_count.Statement.statement pool.contours_count.Reads.Asked
  pub pool·held : NeverTraps pool.held.Statement.statement pool.held.Reads.Asked
  pub pool·free : NeverTraps pool.free.Statement.statement pool.free.Reads.Asked
  pub pool·contour_of : NeverTraps pool.contour_of.Statement.statement pool.contour_of.Reads.Asked

-- the refusals of the first contour: those of a contour where there are no ranges, and of a set where there are
abbrev pub first_refusals : List ℤ → List (List ℕ) → List Rung
first_refusals points [] = domain limit points
first_refusals points (range ∷ ranges) = Contours.refusals points (range ∷ ranges)

-- the refusals of the area of a contour set, and of a shape set
abbrev pub set_area_refusals : List ℤ → List (List ℕ) → List Rung
set_area_refusals points ranges = area_refusals (Contours.refusals points ranges) (contours points (spans ranges))

abbrev pub shapes_area_refusals : List ℤ → List (List ℕ) → List (List ℕ) → List Rung
shapes_area_refusals points ranges shapes = area_refusals (Shapes.refusals points ranges shapes) (contours points (spans ranges))

-- the refusals of a contour, of a shape and of shapes that are to be cleaned
abbrev pub cleaning_refusals : List ℤ → Cleaning.Lent → List Rung
cleaning_refusals points l = Cleaning.refusals points (length l.next) (length l.prev) (length l.mark) (length l.out)

abbrev pub shape_refusals : List ℤ → List (List ℕ) → SetCleaning.Lent → List Rung
shape_refusals points ranges l = Contours.refusals points ranges ++ SetCleaning.lacking points ranges [] l

abbrev pub shapes_refusals : List ℤ → List (List ℕ) → List (List ℕ) → SetCleaning.Lent → List Rung
shapes_refusals points contours shapes l = Shapes.refusals points contours shapes ++ SetCleaning.lacking points contours shapes l

-- the refusals of shapes of which the contours' fates are told
abbrev pub fates_refusals : List ℤ → List (List ℕ) → List (List ℕ) → Fates.Lent → List Rung
fates_refusals points contours shapes l = Shapes.refusals points contours shapes ++ Fates.lacking points contours l

-- the refusals of a set that is packed into rows: what is asked of it, and room for it
abbrev pub packed : List Rung → List ℤ → List Span → List Span → List ℤ → List (List ℕ) → List (List ℕ) → List Rung
packed refusals points contours shapes out records groups = refusals ++ room (enough points contours shapes out records groups)

-- the refusals of a file that is read into rows
abbrev pub read_refusals : List ℕ → List ℤ → List (List ℕ) → List (List ℕ) → List Rung
read_refusals f out records groups =
    let found = read_contours (parsed f) in
    packed (Reading.refusals f) (joined (contours_of found)) (contour_spans (contours_of found)) (shape_spans (shapes_of found)) out records groups

-- the refusals of a drawing that is brought into rows
abbrev pub import_refusals : List ℕ → List Float → List ℤ → List (List ℕ) → List Rung
import_refusals kinds floats out records =
    let set = Importing.drawn kinds floats in
    packed (Importing.refusals kinds floats) (joined set) (contour_spans set) [] out records []

-- the refusals of a file that is written to a row
abbrev pub write_refusals : List ℤ → List (List ℕ) → List (List ℕ) → List ℕ → List Rung
write_refusals points contours shapes bytes =
    Writing.refusals points contours shapes ++ room (leb (file_length (length contours) (count points)) (length bytes))

-- and of one of edition 2
abbrev pub write_2_refusals : List ℤ → List (List ℕ) → List (List ℕ) → List ℕ → List Rung
write_2_refusals points contours shapes bytes =
    Writing2.refusals points contours shapes ++ room (leb (length (Writing2.file_of points contours shapes)) (length bytes))

-- the refusals of a set that is drawn into rows
abbrev pub export_refusals : List ℤ → List (List ℕ) → List ℕ → List Float → List Rung
export_refusals points ranges kinds floats =
    Exporting.refusals points ranges ++ room (Exporting.enough (Exporting.commands (contours points (spans ranges))) kinds floats)

-- the refusals of what is read of a pool
abbrev pub pool_refusals : List ℤ → List (List ℕ) → ℕ → List Rung
pool_refusals points records contours = unsound (Pool.sound (Pool.lent points records contours))

-- the numbers of a ladder's rungs
abbrev pub order : List Rung → List ℕ
order ladder = map (λ (rung : Rung). rung.1) ladder

-- "Order: 1, 2, 6, 3, 12, 4, 5, 8, 7"; a number that stands twice is asked of two things
pub record TheOrderOfTheNumbers : Type 0 where
  pub a_contour : (points : List ℤ) → order (domain limit points) ≡ 1 ∷ 2 ∷ 3 ∷ []
  pub the_area_of_a_contour : (points : List ℤ) → order (Areas.refusals points) ≡ 1 ∷ 2 ∷ 3 ∷ 8 ∷ []
  pub a_point_in_a_contour : (asked : Point) (points : List ℤ) → order (PathContains.refusals asked points) ≡ 1 ∷ 2 ∷ 3 ∷ 3 ∷ []
  pub a_contour_to_be_cleaned : (points : List ℤ) (l : Cleaning.Lent) → order (cleaning_refusals points l) ≡ 1 ∷ 2 ∷ 3 ∷ 4 ∷ 4 ∷ 4 ∷ 5 ∷ []
  pub a-set : (points : List ℤ) (ranges : List (List ℕ)) → order (Contours.refusals points ranges) ≡ 1 ∷ 2 ∷ 6 ∷ 3 ∷ []
  pub the_area_of_a_set : (points : List ℤ) (ranges : List (List ℕ)) → order (set_area_refusals points ranges) ≡ 1 ∷ 2 ∷ 6 ∷ 3 ∷ 8 ∷ []
  pub a_point_in_a_shape : (asked : Point) (points : List ℤ) (ranges : List (List ℕ)) → order (SetContains.shape_refusals asked points ranges) ≡ 1 ∷ 2 ∷ 6 ∷ 3 ∷ 3 ∷ []
  pub a_shape_to_be_cleaned : (points : List ℤ) (ranges : List (List ℕ)) (l : SetCleaning.Lent) → order (shape_refusals points ranges l) ≡ 1 ∷ 2 ∷ 6 ∷ 3 ∷ 4 ∷ 4 ∷ 4 ∷ 5 ∷ []
  pub shapes : (points : List ℤ) (contours shapes : List (List ℕ)) → order (Shapes.refusals points contours shapes) ≡ 1 ∷ 2 ∷ 6 ∷ 3 ∷ []
  pub the_area_of_shapes : (points : List ℤ) (contours shapes : List (List ℕ)) → order (shapes_area_refusals points contours shapes) ≡ 1 ∷ 2 ∷ 6 ∷ 3 ∷ 8 ∷ []
  pub shapes_to_be_cleaned : (points : List ℤ) (contours shapes : List (List ℕ)) (l : SetCleaning.Lent) → order (shapes_refusals points contours shapes l) ≡ 1 ∷ 2 ∷ 6 ∷ 3 ∷ 4 ∷ 4 ∷ 4 ∷ 5 ∷ []
  pub an_addition : (points more : List ℤ) (sound : Bool) → order (both points more sound) ≡ 1 ∷ 1 ∷ 2 ∷ 6 ∷ 3 ∷ 3 ∷ []
  pub packing : (refusals : List Rung) (points : List ℤ) (contours shapes : List Span) (out : List ℤ) (records groups : List (List ℕ))
      → order (packed refusals points contours shapes out records groups) ≡ order refusals ++ 5 ∷ []
  pub a_file_to_be_read : (f : List ℕ) → order (Reading.refusals f) ≡ 2 ∷ damage (parsed f) ∷ 3 ∷ []
  pub a_file_to_be_written : (points : List ℤ) (contours shapes : List (List ℕ)) (bytes : List ℕ) → order (write_refusals points contours shapes bytes) ≡ 1 ∷ 2 ∷ 2 ∷ 6 ∷ 3 ∷ 12 ∷ 5 ∷ []
  -- beyond 01
  pub a_file_of_edition_2_to_be_written : (points : List ℤ) (contours shapes : List (List ℕ)) (bytes : List ℕ)
      → order (write_2_refusals points contours shapes bytes) ≡ 1 ∷ 2 ∷ 6 ∷ 3 ∷ 12 ∷ 2 ∷ 5 ∷ []
  pub a_file_to_be_salvaged : (f out : List ℕ) (dropped : List (List ℕ)) → order (Salvage.refusals f out dropped) ≡ 2 ∷ 10 ∷ 9 ∷ 5 ∷ []
  pub a_drawing_to_be_brought_in : (kinds : List ℕ) (floats : List Float) → order (Importing.refusals kinds floats) ≡ 13 ∷ first_fault false (items kinds floats) ∷ 2 ∷ []
  pub a_set_to_be_drawn : (points : List ℤ) (ranges : List (List ℕ)) (kinds : List ℕ) (floats : List Float) → order (export_refusals points ranges kinds floats) ≡ 1 ∷ 2 ∷ 6 ∷ 3 ∷ 5 ∷ []
  pub two_sets_to_be_compared : (points : List ℤ) (ranges : List (List ℕ)) (others : List ℤ) (other-ranges listing : List (List ℕ))
      → order (Comparing.all_refusals points ranges others other-ranges listing) ≡ 1 ∷ 2 ∷ 6 ∷ 3 ∷ 1 ∷ 2 ∷ 6 ∷ 3 ∷ 5 ∷ []
  pub contours_to_be_told_of : (points : List ℤ) (contours shapes : List (List ℕ)) (l : Fates.Lent) → order (fates_refusals points contours shapes l) ≡ 1 ∷ 2 ∷ 6 ∷ 3 ∷ 4 ∷ 4 ∷ 4 ∷ 5 ∷ []
  pub a_contour_to_be_put_in_a_pool : (press tool : ℕ) (contour : List ℤ) (s : Pool.Lent) → order (PoolCalls.rungs press (add tool contour) s) ≡ 1 ∷ 2 ∷ 6 ∷ 3 ∷ 17 ∷ 5 ∷ []
  pub a_contour_to_be_taken_out : (press : ℕ) (s : Pool.Lent) → order (PoolCalls.rungs press remove s) ≡ 6 ∷ 18 ∷ []

-- each function that answers with a number, and its ladder: the conditions of a bad input, in the order in which they decide
pub record EveryBadInputGetsItsNumber : Type 0 where
  -- The grid and its arithmetic.
  pub area·area_two : Refuses areas area.area_two.Reads.Learnt (of_contour Areas.refusals)
  pub area·area : Refuses areas area.area.Reads.Learnt (of_contour Areas.refusals)
  pub path·is_clockwise_ordered : Refuses verdicts path.is_clockwise_ordered.Reads.Learnt (of_contour Areas.refusals)
  -- Verdicts.
  pub clean·simple·is_simple : Refuses verdicts clean.simple.is_simple.Reads.Learnt (of_contour (domain limit))
  pub clean·despike·has_no_spikes : Refuses verdicts clean.despike.has_no_spikes.Reads.Learnt (of_contour (domain limit))
  pub path·is_convex : Refuses verdicts path.is_convex.Reads.Learnt (of_contour (domain limit))
  pub path·contains_point : Refuses verdicts path.contains_point.Reads.Learnt λ a. three a λ points x y. PathContains.refusals (record { x = x; y = y }) points.now
  pub sets·simple·is_simple : Refuses verdicts sets.simple.is_simple.Reads.Learnt (of_set Contours.refusals)
  pub sets·despike·has_no_spikes : Refuses verdicts sets.despike.has_no_spikes.Reads.Learnt (of_set Contours.refusals)
  pub sets·shapes·is_simple : Refuses verdicts sets.shapes.is_simple.Reads.Learnt (of_shapes Shapes.refusals)
  pub sets·shapes·has_no_spikes : Refuses verdicts sets.shapes.has_no_spikes.Reads.Learnt (of_shapes Shapes.refusals)
  -- The area of a set.
  pub sets·areas·area_two : Refuses areas sets.areas.area_two.Reads.Learnt (of_set set_area_refusals)
  pub sets·areas·area : Refuses areas sets.areas.area.Reads.Learnt (of_set set_area_refusals)
  pub sets·shapes·area_two : Refuses areas sets.shapes.area_two.Reads.Learnt (of_shapes shapes_area_refusals)
  pub sets·shapes·area : Refuses areas sets.shapes.area.Reads.Learnt (of_shapes shapes_area_refusals)
  -- The walk.
  pub clean·simple·simplified : Refuses cleanings clean.simple.simplified.Reads.Learnt λ a. of_contour cleaning_refusals a (contour_lent a)
  pub clean·despike·despiked : Refuses cleanings clean.despike.despiked.Reads.Learnt λ a. of_contour cleaning_refusals a (contour_lent a)
  -- Sets, asked for their refusal.
  pub buffer·contours·check : Refuses numbers buffer.contours.check.Reads.Learnt (of_set Contours.refusals)
  pub buffer·shapes·check : Refuses numbers buffer.shapes.check.Reads.Learnt (of_shapes Shapes.refusals)
  -- Packing.
  pub buffer·contours·set_with_contour : Refuses packings buffer.contours.set_with_contour.Reads.Learnt λ a. three a λ contour out records.
      packed (domain limit contour.now) contour.now (whole contour.now ∷ []) [] out.now records.now []
  pub buffer·contours·set_with_shape : Refuses packings buffer.contours.set_with_shape.Reads.Learnt λ a. four a λ points ranges out records.
      packed (Contours.refusals points.now ranges.now) points.now (spans ranges.now) [] out.now records.now []
  pub buffer·contours·set_with_shapes : Refuses packings buffer.contours.set_with_shapes.Reads.Learnt λ a. five a λ points contours shapes out records.
      packed (Shapes.refusals points.now contours.now shapes.now) points.now (spans contours.now) [] out.now records.now []
  pub buffer·shapes·set_with_contour : Refuses packings buffer.shapes.set_with_contour.Reads.Learnt λ a. four a λ contour out records groups.
      packed (domain limit contour.now) contour.now (whole contour.now ∷ []) (every (whole contour.now ∷ []) ∷ []) out.now records.now groups.now
  pub buffer·shapes·set_with_shape : Refuses packings buffer.shapes.set_with_shape.Reads.Learnt λ a. five a λ points ranges out records groups.
      packed (Contours.refusals points.now ranges.now) points.now (spans ranges.now) (every ranges.now ∷ []) out.now records.now groups.now
  pub buffer·shapes·set_with_shapes : Refuses packings buffer.shapes.set_with_shapes.Reads.Learnt λ a. six a λ points contours shapes out records groups.
      packed (Shapes.refusals points.now contours.now shapes.now) points.now (spans contours.now) (spans shapes.now) out.now records.now groups.now
  -- Adding one.
  pub buffer·contours·add_contour : Refuses packings buffer.contours.add_contour.Reads.Learnt λ a. five a λ points ranges contour out records.
      packed (both points.now contour.now (sound (spans ranges.now) (count points.now))) (points.now ++ contour.now)
      (spans ranges.now ++ moved (count points.now) (whole contour.now) ∷ []) [] out.now records.now []
  pub buffer·shapes·add_shape : Refuses packings buffer.shapes.add_shape.Reads.Learnt λ a. eight a λ points contours shapes more ranges out records groups.
      packed (both points.now more.now (Shapes.both_sound points.now contours.now shapes.now more.now ranges.now))
      (points.now ++ more.now) (spans contours.now ++ map (moved (count points.now)) (spans ranges.now)) (spans shapes.now ++ moved (length contours.now) (every ranges.now) ∷ [])
      out.now records.now groups.now
  -- Counting.
  pub buffer·contours·is_empty : Refuses verdicts buffer.contours.is_empty.Reads.Learnt (of_set Contours.refusals)
  pub buffer·contours·is_single_contour : Refuses verdicts buffer.contours.is_single_contour.Reads.Learnt (of_set Contours.refusals)
  pub buffer·contours·points_count : Refuses counts buffer.contours.points_count.Reads.Learnt (of_set Contours.refusals)
  pub buffer·contours·contours_count : Refuses counts buffer.contours.contours_count.Reads.Learnt (of_set Contours.refusals)
  pub buffer·shapes·is_empty : Refuses verdicts buffer.shapes.is_empty.Reads.Learnt (of_shapes Shapes.refusals)
  pub buffer·shapes·points_count : Refuses counts buffer.shapes.points_count.Reads.Learnt (of_shapes Shapes.refusals)
  pub buffer·shapes·contours_count : Refuses counts buffer.shapes.contours_count.Reads.Learnt (of_shapes Shapes.refusals)
  pub buffer·shapes·shapes_count : Refuses counts buffer.shapes.shapes_count.Reads.Learnt (of_shapes Shapes.refusals)
  pub buffer·shapes·contours_in : Refuses counts buffer.shapes.contours_in.Reads.Learnt (of_shapes Shapes.refusals)
  -- Unpacking, which answers with a part alone.
  pub buffer·contours·contour : HandsNothing buffer.contours.contour.Reads.Learnt (of_set Contours.refusals) (λ a. part a.0)
  pub buffer·contours·first_contour : HandsNothing buffer.contours.first_contour.Reads.Learnt (of_set first_refusals) (λ a. part a.0)
  pub buffer·shapes·contour_of : HandsNothing buffer.shapes.contour_of.Reads.Learnt (of_shapes Shapes.refusals) (λ a. part a.0)
  -- Cleaning one shape, and shapes.
  pub sets·simple·simplified_shape : Refuses set_cleanings sets.simple.simplified_shape.Reads.Learnt λ a. of_set shape_refusals a (shape_lent a)
  pub sets·despike·despiked_shape : Refuses set_cleanings sets.despike.despiked_shape.Reads.Learnt λ a. of_set shape_refusals a (shape_lent a)
  pub sets·simple·simplified_shapes : Refuses set_cleanings sets.simple.simplified_shapes.Reads.Learnt λ a. of_shapes shapes_refusals a (shapes_lent a)
  pub sets·despike·despiked_shapes : Refuses set_cleanings sets.despike.despiked_shapes.Reads.Learnt λ a. of_shapes shapes_refusals a (shapes_lent a)
  -- The set file.
  pub setfile·read : Refuses readings setfile.read.Reads.Learnt λ a. four a λ bytes out records groups. read_refusals bytes.now out.now records.now groups.now
  pub setfile·write : Refuses writings setfile.write.Reads.Learnt λ a. four a λ points contours shapes bytes. write_refusals points.now contours.now shapes.now bytes.now
  pub setfile·write_2 : Refuses writings setfile.write_2.Reads.Learnt λ a. four a λ points contours shapes bytes. write_2_refusals points.now contours.now shapes.now bytes.now
  -- Beyond 01: where a point lies, and whether a shape has it; what becomes of each contour, salvage of a file, drawings in millimetres, two sets compared, and a pool that two presses share.
  pub path·locate : Refuses locations path.locate.Reads.Learnt λ a. three a λ points x y. PathContains.refusals (record { x = x; y = y }) points.now
  pub sets·in_shape : Refuses verdicts sets.in_shape.Reads.Learnt λ a. four a λ points ranges x y. SetContains.shape_refusals (record { x = x; y = y }) points.now ranges.now
  pub fates·simplified : Refuses counts fates.simplified.Reads.Learnt λ a. of_shapes fates_refusals a (fates_lent a)
  pub fates·despiked : Refuses counts fates.despiked.Reads.Learnt λ a. of_shapes fates_refusals a (fates_lent a)
  pub salvage·mend : Refuses salvagings salvage.mend.Reads.Learnt λ a. three a λ bytes out dropped. Salvage.refusals bytes.now out.now dropped.now
  pub drawing·import : Refuses packings drawing.import.Reads.Learnt λ a. four a λ kinds floats points ranges. import_refusals kinds.now floats.now points.now ranges.now
  pub drawing·export : Refuses drawings drawing.export.Reads.Learnt λ a. four a λ points ranges kinds floats. export_refusals points.now ranges.now kinds.now floats.now
  pub difference·compare : Always difference.compare.Reads.Learnt λ a x e.
      Numbered
      (comparisons (five a λ points ranges others other-ranges listing.
      Comparing.whose (first_of (Contours.refusals points.now ranges.now)) (first_of (Contours.refusals others.now other-ranges.now))))
      (five a λ points ranges others other-ranges listing. Comparing.all_refusals points.now ranges.now others.now other-ranges.now listing.now) (Comparing.compared_as x)
  pub pool·add : Refuses numbers pool.add.Reads.Learnt λ a. five a λ points records contours second contour.
      PoolCalls.rungs (number second) (add 0 contour.now) (Pool.lent points.now records.now contours.now)
  pub pool·remove : Refuses numbers pool.remove.Reads.Learnt λ a. four a λ points records contours second.
      PoolCalls.rungs (number second) remove (Pool.lent points.now records.now contours.now)
  pub pool·contours_count : Refuses counts pool.contours_count.Reads.Learnt λ a. three a λ points records contours. pool_refusals points.now records.now contours
  pub pool·held : Refuses counts pool.held.Reads.Learnt λ a. three a λ points records contours. pool_refusals points.now records.now contours
  pub pool·free : Refuses counts pool.free.Reads.Learnt λ a. three a λ points records contours. pool_refusals points.now records.now contours
  pub pool·contour_of : HandsNothing pool.contour_of.Reads.Learnt (λ a. three a λ points records contours. pool_refusals points.now records.now contours) (λ a. part a.0)

-- each function that is lent rows to write to, and these rows, as they are before the call and after it
pub record OutputAndScratchAreThenUntouched : Type 0 where
  pub clean·simple·simplified : Untouched cleanings clean.simple.simplified.Reads.Learnt contour_lent
  pub clean·despike·despiked : Untouched cleanings clean.despike.despiked.Reads.Learnt contour_lent
  pub buffer·contours·set_with_contour : Untouched packings buffer.contours.set_with_contour.Reads.Learnt λ a. three a λ contour out records. out.now and records.now
  pub buffer·contours·set_with_shape : Untouched packings buffer.contours.set_with_shape.Reads.Learnt λ a. four a λ points ranges out records. out.now and records.now
  pub buffer·contours·set_with_shapes : Untouched packings buffer.contours.set_with_shapes.Reads.Learnt λ a. five a λ points contours shapes out records. out.now and records.now
  pub buffer·contours·add_contour : Untouched packings buffer.contours.add_contour.Reads.Learnt λ a. five a λ points ranges contour out records. out.now and records.now
  pub buffer·shapes·set_with_contour : Untouched packings buffer.shapes.set_with_contour.Reads.Learnt λ a. four a λ contour out records groups. out.now and records.now and groups.now
  pub buffer·shapes·set_with_shape : Untouched packings buffer.shapes.set_with_shape.Reads.Learnt λ a. five a λ points ranges out records groups. out.now and records.now and groups.now
  pub buffer·shapes·set_with_shapes : Untouched packings buffer.shapes.set_with_shapes.Reads.Learnt λ a. six a λ points contours shapes out records groups. out.now and records.now and groups.now
  pub buffer·shapes·add_shape : Untouched packings buffer.shapes.add_shape.Reads.Learnt λ a. eight a λ points contours shapes more ranges out records groups. out.now and records.now and groups.now
  pub sets·simple·simplified_shape : Untouched set_cleanings sets.simple.simplified_shape.Reads.Learnt shape_lent
  pub sets·despike·despiked_shape : Untouched set_cleanings sets.despike.despiked_shape.Reads.Learnt shape_lent
  pub sets·simple·simplified_shapes : Untouched set_cleanings sets.simple.simplified_shapes.Reads.Learnt shapes_lent
  pub sets·despike·despiked_shapes : Untouched set_cleanings sets.despike.despiked_shapes.Reads.Learnt shapes_lent
  pub fates·simplified : Untouched counts fates.simplified.Reads.Learnt fates_lent
  pub fates·despiked : Untouched counts fates.despiked.Reads.Learnt fates_lent
  pub setfile·read : Untouched readings setfile.read.Reads.Learnt λ a. four a λ bytes out records groups. out.now and records.now and groups.now
  pub setfile·write : Untouched writings setfile.write.Reads.Learnt λ a. four a λ points contours shapes bytes. bytes.now
  pub setfile·write_2 : Untouched writings setfile.write_2.Reads.Learnt λ a. four a λ points contours shapes bytes. bytes.now
  pub salvage·mend : Untouched salvagings salvage.mend.Reads.Learnt λ a. three a λ bytes out dropped. out.now and dropped.now
  pub drawing·import : Untouched packings drawing.import.Reads.Learnt λ a. four a λ kinds floats points ranges. points.now and ranges.now
  pub drawing·export : Untouched drawings drawing.export.Reads.Learnt λ a. four a λ points ranges kinds floats. kinds.now and floats.now
  pub difference·compare : Untouched (comparisons 0) difference.compare.Reads.Learnt λ a. five a λ points ranges others other-ranges listing. listing.now
  pub pool·add : Untouched numbers pool.add.Reads.Learnt λ a. three a λ points records contours. Pool.lent points.now records.now contours.now
  pub pool·remove : Untouched numbers pool.remove.Reads.Learnt λ a. three a λ points records contours. Pool.lent points.now records.now contours.now

-- the cleaners, of a contour and of a shape; of shapes 7 is never the answer
pub record ACollapsedContourLeavesOutputUntouchedAndItsScratchZeroed : Type 0 where
  pub clean·simple·simplified : Collapses cleanings clean.simple.simplified.Reads.Learnt OnlyZeroed (of_contour count) contour_lent
  pub clean·despike·despiked : Collapses cleanings clean.despike.despiked.Reads.Learnt OnlyZeroed (of_contour count) contour_lent
  pub sets·simple·simplified_shape : Collapses set_cleanings sets.simple.simplified_shape.Reads.Learnt ShapeOnlyZeroed (of_contour count) shape_lent
  pub sets·despike·despiked_shape : Collapses set_cleanings sets.despike.despiked_shape.Reads.Learnt ShapeOnlyZeroed (of_contour count) shape_lent
  pub sets·simple·simplified_shapes : Always sets.simple.simplified_shapes.Reads.Learnt λ a x e. (SetCleaning.cleaned_as x).reply ≡ 7 → ⊥
  pub sets·despike·despiked_shapes : Always sets.despike.despiked_shapes.Reads.Learnt λ a x e. (SetCleaning.cleaned_as x).reply ≡ 7 → ⊥

pub record Demand1 : Type 2 where
  pub nothing_traps_whatever_numbers_arrive : NothingTraps
  pub every_bad_input_gets_its_number : EveryBadInputGetsItsNumber
  pub the_first_that_holds_in_this_order : TheOrderOfTheNumbers
  pub output_and_scratch_are_then_untouched : OutputAndScratchAreThenUntouched
  pub a_collapsed_contour_leaves_output_untouched_and_its_scratch_zeroed : ACollapsedContourLeavesOutputUntouchedAndItsScratchZeroed
