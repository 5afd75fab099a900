-- Of each kind of outcome: a bad input gets its number, and a refusal leaves every row as it was.
use mathlib.Core.Path.{◌≡◌, refl, sym, ◌∙◌, ap}
use mathlib.Core.Logic.{◌⊎◌, inl, inr}
use mathlib.Core.List.{List, [], ◌∷◌}
use Prim.Native.Nat.{ℕ, zero, suc}
use lib.IntN.{ℤ}
use lib.Ieee.{Float}
use Rattle.replies.specs.Ladder.{Rung, first_of}
use Rattle.grid.specs.Domain.{count}
use Rattle.ring.specs.declared.Rule.{Rule}
use Rattle.ring.specs.Rule.{goes_at}
use Rattle.ring.specs.Walk.{Tally, End}
use Rattle.ring.specs.Walk.End.{kept, collapsed}
use Rattle.clean.specs.Outcome as Cleaning
use Rattle.clean.proofs.OutcomeLaws.{outcome_refused, outcome_done}
use Rattle.clean.proofs.Demand as clean
use Rattle.buffer.specs.declared.ranges.Span.{Span}
use Rattle.buffer.specs.Spans.{spans}
use Rattle.buffer.specs.Sets.{joined, contours, shapes, contour_spans, shape_spans}
use Rattle.rows.specs.Parts.{Part, none}
use Rattle.buffer.specs.Parts.{handed}
use Rattle.buffer.specs.Answers as Packing
use Rattle.buffer.specs.Contours as Contours
use Rattle.buffer.proofs.Theorems as buffer
use Rattle.sets.specs.Fates.{ShapeFate, shape_fate, shapes_fate}
use Rattle.sets.specs.Fates.ShapeFate.{stands, fallen}
use Rattle.sets.specs.Outcome as SetCleaning
use Rattle.fates.specs.Fates.{fates}
use Rattle.fates.specs.Outcome as Fates
use Rattle.sets.proofs.Untouched as sets
use Rattle.setfile.specs.Entries.{Entry, contours_of, shapes_of, read_contours}
use Rattle.setfile.specs.Editions.{is_second, parsed}
use Rattle.setfile.specs.Reading as Reading
use Rattle.setfile.specs.Writing as Writing
use Rattle.setfile.specs.Writing2 as Writing2
use Rattle.salvage.specs.Outcome as Salvage
use Rattle.drawing.specs.declared.command.Command.{Command}
use Rattle.drawing.specs.Exporting as Exporting
use Rattle.difference.specs.Lines.{lines_of}
use Rattle.difference.specs.Outcome as Comparing
use Rattle.pool.specs.Calls.{Call, done}
use Rattle.pool.specs.Rows.{Lent, contents}
use Rattle.pool.specs.Outcome as Pool
use Rattle.promises.specs.Calls.{numbers, cleanings, packings, readings, set_cleanings, counts, writings, salvagings, drawings, comparisons, Numbered, ◌and◌, OnlyZeroed, ShapeOnlyZeroed}
use Rattle.promises.specs.Demand1.{first_refusals, cleaning_refusals, shape_refusals, shapes_refusals, fates_refusals, packed, read_refusals, write_refusals, write_2_refusals, export_refusals}
use Rattle.promises.proofs.Calls.{numbered}

-- A part that is handed out.
pub handed_none : (k : ℕ) (row contour : Part) → (k ≡ 0 → ⊥) → handed k row contour ≡ none row
handed_none zero row contour bad = absurd (bad refl)
handed_none (suc k) row contour bad = refl

pub first_none : (row : Part) (ranges : List (List ℕ)) → (first_of (first_refusals row.numbers ranges) ≡ 0 → ⊥) → Contours.first_contour row ranges ≡ none row
unfolding Contours.first_contour Contours.contour_at
first_none row [] bad = handed_none _ row _ bad
first_none row (range ∷ ranges) bad = handed_none _ row _ bad

-- A set that is packed.
module _ (refusals : List Rung) (p : List ℤ) (cs ss : List Span) (out : List ℤ) (records groups : List (List ℕ)) (o : Packing.Outcome) (is : o ≡ Packing.stored refusals p cs ss out records groups) where
  pub packing_numbered : Numbered packings (packed refusals p cs ss out records groups) o.answer
  unfolding Packing.stored
  packing_numbered = numbered packings _ (λ k. (Packing.outcome k p cs ss out records groups).answer) (λ k. refl) (inl refl) (ap (λ (w : Packing.Outcome). w.answer) is)

  pub packing_untouched : (o.answer.reply ≡ 0 → ⊥) → (o.points and o.contours and o.shapes) ≡ (out and records and groups)
  packing_untouched bad = let u = buffer.a_refusal_leaves_every_row_as_it_was refusals p cs ss out records groups o is bad in rw (u.0, u.1, u.2)

-- A set that is read of a file.
module _ (f : List ℕ) (out : List ℤ) (records groups : List (List ℕ)) (o : Reading.Outcome) (is : o ≡ Reading.outcome f out records groups) where
  abbrev found : List Entry
  found = read_contours (parsed f)

  abbrev set_found : ℕ → Packing.Outcome
  set_found k = Packing.outcome k (joined (contours_of found)) (contour_spans (contours_of found)) (shape_spans (shapes_of found)) out records groups

  pub reading_numbered : Numbered readings (read_refusals f out records groups) o.answer
  unfolding Packing.stored
  reading_numbered =
      numbered readings _ (λ k. (Reading.with_edition (is_second f) (set_found k)).answer) (λ k. refl) (inl refl) (ap (λ (w : Reading.Outcome). w.answer) is)

  pub reading_untouched : (o.answer.reply ≡ 0 → ⊥) → (o.points and o.contours and o.shapes) ≡ (out and records and groups)
  unfolding Packing.stored
  reading_untouched bad = go (first_of (read_refusals f out records groups)) is
    where
      go : (k : ℕ) → o ≡ Reading.with_edition (is_second f) (set_found k) → (o.points and o.contours and o.shapes) ≡ (out and records and groups)
      go zero e = absurd (bad (rw e))
      go (suc k) e = rw e

-- A contour that is cleaned.
finished_done : (row : List ℤ) (e : End) (t : Tally) (l : Cleaning.Lent) → ((Cleaning.finished row e t l).answer.reply ≡ 0) ⊎ ((Cleaning.finished row e t l).answer.reply ≡ 7)
finished_done row (kept positions) t l = inl refl
finished_done row collapsed t l = inr refl

module _ (rule : Rule) (row : List ℤ) (l : Cleaning.Lent) (o : Cleaning.Outcome) (is : o ≡ Cleaning.outcome rule row l) where
  pub cleaning_numbered : Numbered cleanings (cleaning_refusals row l) o.answer
  cleaning_numbered = record {
    a_bad_input_gets_its_number = λ bad. ap (λ (w : Cleaning.Outcome). w.answer) (is ∙ sym (outcome_refused (goes_at rule) row l _ refl bad));
    no_other_input_is_refused = λ none. rw (is ∙ outcome_done (goes_at rule) row l none) (finished_done row (Cleaning.walked rule row).end (Cleaning.walked rule row).tally l);
  }

  pub cleaning_collapsed : o.answer.reply ≡ 7 → OnlyZeroed (count row) l o.rows
  cleaning_collapsed seven =
      let z = clean.a_collapse_only_zeroes_the_scratch rule row l o is seven in
      record { output_untouched = z.out_is; next_zeroed = z.next_zeroed; prev_zeroed = z.prev_zeroed; mark_zeroed = z.mark_zeroed }

-- A shape that is cleaned.
fate_done : (n : ℕ) (f : ShapeFate) (l : SetCleaning.Lent) → ((SetCleaning.cleaned_shape n f l).answer.reply ≡ 0) ⊎ ((SetCleaning.cleaned_shape n f l).answer.reply ≡ 7)
fate_done n (stands contours tally) l = inl refl
fate_done n (fallen tally) l = inr refl

module _ (rule : Rule) (p : List ℤ) (cs : List (List ℕ)) (l : SetCleaning.Lent) (o : SetCleaning.Outcome) (is : o ≡ SetCleaning.shape_outcome rule p cs l) where
  pub shape_numbered : Numbered set_cleanings (shape_refusals p cs l) o.answer
  unfolding SetCleaning.shape_outcome
  shape_numbered =
      let fate = shape_fate rule (contours p (spans cs)) in
      numbered set_cleanings _ (λ k. (SetCleaning.outcome k l (SetCleaning.cleaned_shape (count p) fate l)).answer) (λ k. refl) (fate_done (count p) fate l) (ap (λ (w : SetCleaning.Outcome). w.answer) is)

  pub shape_collapsed : o.answer.reply ≡ 7 → ShapeOnlyZeroed (count p) l o.rows
  shape_collapsed seven =
      let u = sets.a_collapsed_shape_leaves_every_output_row_as_it_was rule p cs l o is seven in
      let z = sets.a_collapsed_shape_leaves_the_scratch_zeroed rule p cs l o is seven in
      record { points_untouched = u.0; contours_untouched = u.1; next_zeroed = z.0; prev_zeroed = z.1; mark_zeroed = z.2 }

-- Shapes that are cleaned.
module _ (rule : Rule) (p : List ℤ) (cs ss : List (List ℕ)) (l : SetCleaning.Lent) (o : SetCleaning.Outcome) (is : o ≡ SetCleaning.shapes_outcome rule p cs ss l) where
  pub shapes_numbered : Numbered set_cleanings (shapes_refusals p cs ss l) o.answer
  unfolding SetCleaning.shapes_outcome
  shapes_numbered =
      numbered set_cleanings _ (λ k. (SetCleaning.outcome k l (SetCleaning.cleaned_shapes (count p) (shapes_fate rule (shapes p (spans cs) (spans ss))) l)).answer) (λ k. refl) (inl refl)
      (ap (λ (w : SetCleaning.Outcome). w.answer) is)

-- Contours of which the fates are told.
module _ (rule : Rule) (p : List ℤ) (cs ss : List (List ℕ)) (l : Fates.Lent) (o : Fates.Outcome) (is : o ≡ Fates.fates_outcome rule p cs ss l) where
  pub fates_numbered : Numbered counts (fates_refusals p cs ss l) o.answer
  unfolding Fates.fates_outcome
  fates_numbered =
      numbered counts _ (λ k. (Fates.outcome k l (Fates.telling (count p) (fates rule (shapes p (spans cs) (spans ss))) l)).answer) (λ k. refl) (inl refl)
      (ap (λ (w : Fates.Outcome). w.answer) is)

-- A file that is written, in whichever edition.
module _ (ladder : List Rung) (f row : List ℕ) (o : Writing.Outcome) (is : o ≡ Writing.written (first_of ladder) f row) where
  written_numbered : Numbered writings ladder o.answer
  written_numbered = numbered writings ladder (λ k. (Writing.written k f row).answer) (λ k. refl) (inl refl) (ap (λ (w : Writing.Outcome). w.answer) is)

  written_untouched : (o.answer.reply ≡ 0 → ⊥) → o.bytes ≡ row
  written_untouched bad = go (first_of ladder) is
    where
      go : (k : ℕ) → o ≡ Writing.written k f row → o.bytes ≡ row
      go zero e = absurd (bad (rw e))
      go (suc k) e = rw e

module _ (p : List ℤ) (cs ss : List (List ℕ)) (row : List ℕ) (o : Writing.Outcome) where
  pub writing_numbered : o ≡ Writing.outcome p cs ss row → Numbered writings (write_refusals p cs ss row) o.answer
  unfolding Writing.outcome
  writing_numbered is = written_numbered (write_refusals p cs ss row) _ row o is

  pub writing_untouched : o ≡ Writing.outcome p cs ss row → (o.answer.reply ≡ 0 → ⊥) → o.bytes ≡ row
  unfolding Writing.outcome
  writing_untouched is = written_untouched (write_refusals p cs ss row) _ row o is

  pub writing_2_numbered : o ≡ Writing2.outcome p cs ss row → Numbered writings (write_2_refusals p cs ss row) o.answer
  unfolding Writing2.outcome
  writing_2_numbered is = written_numbered (write_2_refusals p cs ss row) _ row o is

  pub writing_2_untouched : o ≡ Writing2.outcome p cs ss row → (o.answer.reply ≡ 0 → ⊥) → o.bytes ≡ row
  unfolding Writing2.outcome
  writing_2_untouched is = written_untouched (write_2_refusals p cs ss row) _ row o is

-- A file that is salvaged.
module _ (f out : List ℕ) (list : List (List ℕ)) (o : Salvage.Outcome) (is : o ≡ Salvage.outcome f out list) where
  pub salvage_numbered : Numbered salvagings (Salvage.refusals f out list) o.answer
  unfolding Salvage.outcome
  salvage_numbered = numbered salvagings _ (λ k. (Salvage.answered k f out list).answer) (λ k. refl) (inl refl) (ap (λ (w : Salvage.Outcome). w.answer) is)

  pub salvage_untouched : (o.answer.reply ≡ 0 → ⊥) → (o.bytes and o.list) ≡ (out and list)
  unfolding Salvage.outcome
  salvage_untouched bad = go (first_of (Salvage.refusals f out list)) is
    where
      go : (k : ℕ) → o ≡ Salvage.answered k f out list → (o.bytes and o.list) ≡ (out and list)
      go zero e = absurd (bad (rw e))
      go (suc k) e = rw e

-- A set that is drawn.
module _ (p : List ℤ) (ranges : List (List ℕ)) (kinds : List ℕ) (floats : List Float) (o : Exporting.Outcome) (is : o ≡ Exporting.outcome p ranges kinds floats) where
  abbrev commands : List Command
  commands = Exporting.commands (contours p (spans ranges))

  pub export_numbered : Numbered drawings (export_refusals p ranges kinds floats) o.answer
  unfolding Exporting.outcome
  export_numbered = numbered drawings (export_refusals p ranges kinds floats) (λ k. (Exporting.put k commands kinds floats).answer) (λ k. refl) (inl refl) (ap (λ (w : Exporting.Outcome). w.answer) is)

  pub export_untouched : (o.answer.reply ≡ 0 → ⊥) → (o.kinds and o.floats) ≡ (kinds and floats)
  unfolding Exporting.outcome
  export_untouched bad = go (first_of (export_refusals p ranges kinds floats)) is
    where
      go : (k : ℕ) → o ≡ Exporting.put k commands kinds floats → (o.kinds and o.floats) ≡ (kinds and floats)
      go zero e = absurd (bad (rw e))
      go (suc k) e = rw e

-- Two sets that are compared.
module _ (p : List ℤ) (rs : List (List ℕ)) (q : List ℤ) (ss listing : List (List ℕ)) (o : Comparing.Outcome) (is : o ≡ Comparing.outcome p rs q ss listing) where
  abbrev whose : ℕ
  whose = Comparing.whose (first_of (Contours.refusals p rs)) (first_of (Contours.refusals q ss))

  pub comparison_numbered : Numbered (comparisons whose) (Comparing.all_refusals p rs q ss listing) o.answer
  unfolding Comparing.outcome
  comparison_numbered =
      numbered (comparisons whose) (Comparing.all_refusals p rs q ss listing) (λ k. (Comparing.answered k whose (lines_of p rs q ss) listing).answer) (λ k. refl) (inl refl)
      (ap (λ (w : Comparing.Outcome). w.answer) is)

  pub comparison_untouched : (o.answer.reply ≡ 0 → ⊥) → o.listing ≡ listing
  unfolding Comparing.outcome
  comparison_untouched bad = go (first_of (Comparing.all_refusals p rs q ss listing)) is
    where
      go : (k : ℕ) → o ≡ Comparing.answered k whose (lines_of p rs q ss) listing → o.listing ≡ listing
      go zero e = absurd (bad (rw e))
      go (suc k) e = rw e

-- A call of a press.
module _ (press : ℕ) (call : Call) (s : Lent) (o : Pool.Outcome) (is : o ≡ Pool.called press call s) where
  pub press_numbered : Numbered numbers (Pool.rungs press call s) o.reply
  unfolding Pool.called
  press_numbered = numbered numbers _ (λ k. (Pool.outcome k (done press call (contents s)) s).reply) (λ k. refl) (inl refl) (ap (λ (w : Pool.Outcome). w.reply) is)

  pub press_untouched : (o.reply ≡ 0 → ⊥) → o.pool ≡ s
  unfolding Pool.called
  press_untouched bad = go (Pool.refused press call s) is
    where
      go : (k : ℕ) → o ≡ Pool.outcome k (done press call (contents s)) s → o.pool ≡ s
      go zero e = absurd (bad (rw e))
      go (suc k) e = rw e
