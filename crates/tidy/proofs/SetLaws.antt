-- What the cleaning of a set leaves in rows with room for it, and what is asked where its fates are told.
use mathlib.Core.Path.{◌≡◌, sym, ◌∙◌, ap}
use mathlib.Core.List.{List, map}
use Prim.Native.Nat.{ℕ, ◌*◌, ◌≤◌}
use native.Mathlib.Omega.{arith}
use lib.ListN.{length, take, drop, replicate, length-map, length-append, length-replicate}
use lib.Seq.{take_at}
use lib.IntN.{ℤ}
use Rattle.grid.specs.Domain.{count}
use Rattle.rows.specs.Rows.{front}
use Rattle.rows.proofs.RowLaws.{placed_front}
use Rattle.ring.specs.declared.Rule.{Rule}
use Rattle.buffer.specs.Spans.{span, spans, rows, laid, sound}
use Rattle.buffer.specs.Sets.{joined, cut, contour, contours, shapes, contour_spans, shape_spans}
use Rattle.buffer.proofs.SpanLaws.{range_within}
use Rattle.buffer.proofs.PartLaws.{names_of}
use Rattle.buffer.proofs.Theorems.{a_sound_set's_contours_laid_end_to_end_are_its_points, a_sound_set's_shapes_laid_end_to_end_are_its_contours}
use Rattle.sets.specs.declared.inner.shapes.Total.{Total}
use Rattle.sets.specs.Fates.{shapes_fate}
use Rattle.sets.specs.Promises.{AllContours}
use Rattle.sets.specs.inside.Contour.{Scratch, reached, none_yet}
use Rattle.sets.specs.inside.Shape.{Named, Room}
use Rattle.sets.specs.inside.Shapes as Cleaning
use Rattle.sets.specs.inside.Shapes.{Grouped, grouped, run_shapes}
use Rattle.sets.proofs.BehindLaws.{all_named, all_cut}
use Rattle.sets.proofs.LaidLaws.{points_even, rows_long}
use Rattle.sets.proofs.ShapesLaws.{among, shapes_after}
use Rattle.sets.proofs.Kept.{kept_even}
use Rattle.fates.specs.inside.Telling as Telling
use Rattle.report.specs.Listing.{most_listed}
use Rattle.tidy.specs.inside.Sets.{Tidiable}

-- scratch as it is lent
pub no_scratch : Scratch most_listed (replicate 8192 0) (replicate 8192 0) (replicate 8192 0)
no_scratch =
    let n = length-replicate {A = ℕ} 8192 0 in
    record { in_next = omega (arith, n); in_prev = omega (arith, n); in_mark = omega (arith, n) }

-- rows with room for the points, contours and shapes of a set
pub record Roomy (out : List ℤ) (records groups : List (List ℕ)) : Type 0 where
  pub numbers : 2 * most_listed ≤ length out
  pub contours : 4095 ≤ length records
  pub shapes : 4095 ≤ length groups

module _ {p : List ℤ} {cs ss : List (List ℕ)} (t : Tidiable p cs ss) where
  abbrev all : List (List (List ℤ))
  all = shapes p (spans cs) (spans ss)

  pub named : Named p cs
  named = record { domain = t.domain; names = λ k h. names_of p cs k t.domain.even t.contours h }

  pub all_joined : joined all ≡ contours p (spans cs)
  all_joined =
      a_sound_set's_shapes_laid_end_to_end_are_its_contours p (spans cs) (spans ss) t.domain.even t.contours
      (ap (sound (spans ss)) (length-map cs span) ∙ t.shapes)

  pub contours-length : length (contours p (spans cs)) ≡ length cs
  contours-length = length-map (spans cs) (contour p) ∙ length-map cs span

  all_contours : AllContours all
  all_contours = all_cut (contours p (spans cs)) (spans ss) (all_named p cs named)

  scratch : {next prev mark : List ℕ} → Scratch most_listed next prev mark → Scratch (count p) next prev mark
  scratch s = record { in_next = omega (arith, s.in_next, t.few_points); in_prev = omega (arith, s.in_prev, t.few_points); in_mark = omega (arith, s.in_mark, t.few_points) }

  -- its fates can be told
  pub tellable : {next prev mark fates : List ℕ} → Scratch most_listed next prev mark → length fates ≡ length cs → Telling.Each p cs ss next prev mark fates
  tellable s e = record { tellable = record { named = named; scratch = scratch s; long = e }; sound = t.shapes }

  -- and its shapes cleaned, in such rows
  module _ {out : List ℤ} {records groups : List (List ℕ)} (has : Roomy out records groups) where
    room : Room (joined all) none_yet out records
    room =
        let n = ap length (a_sound_set's_contours_laid_end_to_end_are_its_points p (spans cs) t.domain.even t.contours) in
        rw all_joined (record {
          room = omega (arith, n, t.domain.even, t.few_points, has.numbers);
          space = omega (arith, contours-length, t.few_contours, has.contours);
          narrow = omega (arith, contours-length, t.few_contours);
          fits = omega (arith, n, t.domain.even, t.few_points);
          turns_fit = omega (arith, n, t.domain.even, t.few_points);
        })

    pub cleanable : {next prev mark : List ℕ} → Scratch most_listed next prev mark → Cleaning.Each p cs ss next prev mark out records groups
    cleanable s = record {
      named = named;
      scratch = scratch s;
      within = λ k h. let w = range_within ss (length cs) k t.shapes h in record { forward = w.forward; ends = w.ends };
      room = room;
      space = omega (arith, t.few_shapes, has.shapes);
      narrow = omega (arith, t.few_shapes);
    }

-- what the cleaning of a set has left of such rows
pub record HasCleaned (p : List ℤ) (cs ss : List (List ℕ)) (rule : Rule) (out : List ℤ) (records groups : List (List ℕ)) (w : Total) (out' : List ℤ) (records' groups' : List (List ℕ)) : Type 0 where
  pub set : Tidiable p cs ss
  pub has : Roomy out records groups
  pub is : grouped w.shapes (reached w.progress out' records') groups' ≡ run_shapes rule (shapes p (spans cs) (spans ss)) (grouped 0 (reached none_yet out records) groups)

module _ {p : List ℤ} {cs ss : List (List ℕ)} {rule : Rule} {out : List ℤ} {records groups : List (List ℕ)} {w : Total} {out' : List ℤ} {records' groups' : List (List ℕ)}
    (done : HasCleaned p cs ss rule out records groups w out' records' groups') where
  abbrev ds : List (List (List ℤ))
  ds = (shapes_fate rule (shapes p (spans cs) (spans ss))).shapes

  laid_out : grouped w.shapes (reached w.progress out' records') groups' ≡ among (shapes_fate rule (shapes p (spans cs) (spans ss))) (grouped 0 (reached none_yet out records) groups)
  laid_out =
      done.is
      ∙ shapes_after rule (shapes p (spans cs) (spans ss)) (grouped 0 (reached none_yet out records) groups) (all_contours done.set) (room done.set done.has)
      (omega (arith, done.set.few_shapes, done.has.shapes, length-map (spans ss) (cut (contours p (spans cs))) ∙ length-map ss span))

  numbers_even : length (joined (joined ds)) ≡ 2 * count (joined (joined ds))
  numbers_even = points_even (joined ds) (kept_even rule (shapes p (spans cs) (spans ss)) (all_contours done.set))

  points_number : w.progress.points ≡ count (joined (joined ds))
  points_number = ap (λ (x : Grouped). x.reached.progress.points) laid_out ∙ omega arith

  contours_number : w.progress.contours ≡ length (rows (contour_spans (joined ds)))
  contours_number = ap (λ (x : Grouped). x.reached.progress.contours) laid_out ∙ omega (arith, rows_long 0 (map count (joined ds)), length-map (joined ds) count)

  shapes_number : w.shapes ≡ length (rows (shape_spans ds))
  shapes_number = ap (λ (x : Grouped). x.written) laid_out ∙ omega (arith, rows_long 0 (map length ds), length-map ds length)

  points_left : out' ≡ front (joined (joined ds)) out
  points_left = ap (λ (x : Grouped). x.reached.points) laid_out ∙ placed_front out (joined (joined ds))

  contours_left : records' ≡ front (rows (contour_spans (joined ds))) records
  contours_left = ap (λ (x : Grouped). x.reached.contours) laid_out ∙ placed_front records (rows (laid 0 (map count (joined ds))))

  shapes_left : groups' ≡ front (rows (shape_spans ds)) groups
  shapes_left = ap (λ (x : Grouped). x.shapes) laid_out ∙ placed_front groups (rows (laid 0 (map length ds)))

  pub points_in : 2 * w.progress.points ≤ length out'
  points_in = omega (arith, points_number, numbers_even, ap length points_left ∙ length-append (joined (joined ds)) (drop (length (joined (joined ds))) out))

  pub contours_in : w.progress.contours ≤ length records'
  contours_in = omega (arith, contours_number, ap length contours_left ∙ length-append (rows (contour_spans (joined ds))) (drop (length (rows (contour_spans (joined ds)))) records))

  pub shapes_in : w.shapes ≤ length groups'
  shapes_in = omega (arith, shapes_number, ap length shapes_left ∙ length-append (rows (shape_spans ds)) (drop (length (rows (shape_spans ds))) groups))

  pub points_are : take (2 * w.progress.points) out' ≡ joined (joined ds)
  points_are = ap (take (2 * w.progress.points)) points_left ∙ take_at (joined (joined ds)) _ (2 * w.progress.points) (omega (arith, points_number, numbers_even))

  pub contours_are : take w.progress.contours records' ≡ rows (contour_spans (joined ds))
  contours_are = ap (take w.progress.contours) contours_left ∙ take_at (rows (contour_spans (joined ds))) _ w.progress.contours (sym contours_number)

  pub shapes_are : take w.shapes groups' ≡ rows (shape_spans ds)
  shapes_are = ap (take w.shapes) shapes_left ∙ take_at (rows (shape_spans ds)) _ w.shapes (sym shapes_number)
