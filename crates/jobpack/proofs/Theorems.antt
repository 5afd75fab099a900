-- What a user may count on: a file that is dumped comes back from its text byte for byte, and a text is packed in one way.
use mathlib.Core.Path.{◌≡◌, refl, sym, ◌∙◌, ap, ap₂}
use mathlib.Core.Bool.{Bool, true, false}
use mathlib.Core.List.{List, [], ◌∷◌, ◌++◌}
use Prim.Native.Nat.{ℕ, ◌≤◌}
use native.Mathlib.Omega.{arith}
use lib.ListN.{length}
use lib.IntN.{ℤ, nat_abs}
use borrow.Author.Tests.{leb-true, le-ltb}
use Rattle.integers.proofs.Logic.{and_left, and_right}
use Rattle.replies.proofs.OneOutcome.{Determined, by_its_definition, three}
use Rattle.grid.specs.Limits.{limit, most, on_grid, all_on_grid}
use Rattle.grid.proofs.LimitLaws.{on_grid_size, all_on_wider, on_joined}
use Rattle.replies.specs.Ladder.{first_of}
use Rattle.bits.specs.Bits.{Bytes}
use Rattle.buffer.specs.Spans.{rows}
use Rattle.buffer.specs.Sets.{joined, contour_spans, shape_spans}
use Rattle.setfile.specs.Entries.{Entry, contours_of, shapes_of, read_contours}
use Rattle.setfile.specs.Editions.{bound, is_second, parsed}
use Rattle.setfile.specs.Reading.{refusals}
use Rattle.setfile.specs.Promises.{Each, points_of}
use Rattle.setfile.proofs.SizeLaws.{promised_few}
use Rattle.setfile.proofs.HoldLaws.{bound_within, first_started}
use Rattle.setfile.proofs.EditionsLaws.{what_is_read_can_be_carried}
use Rattle.setfile.proofs.Theorems.{whole, the_set_that_is_read_can_be_carried, the_set_that_is_read_can_be_written, every_file_that_is_read_is_written_the_same}
use Rattle.report.specs.Text.{places, decimal}
use Rattle.report.proofs.JobLaws.{job_sized}
use Rattle.jobtext.specs.Text.{lines, head, text, dumped}
use Rattle.jobtext.proofs.DumpLaws.{dumped_done}
use Rattle.jobtext.proofs.LengthLaws.{dumped_short}
use Rattle.jobread.specs.declared.Place.{Place}
use Rattle.jobread.specs.declared.Place.TheVariants.{Start}
use Rattle.jobread.specs.Places.{after_head}
use Rattle.jobread.specs.Reading.{State, state_at, step, run, nothing}
use Rattle.jobpack.specs.Packing.{Packed, written, set_packed, packed_at, says_second, longest, packed, leaving, packing}
use Rattle.jobread.proofs.RunLaws.{run-append}
use Rattle.jobpack.proofs.LineRun.{Small}
use Rattle.jobpack.proofs.LinesRun.{Set, all_run}
use Rattle.jobpack.proofs.inner.packing.pack.Reads as pack·contract

-- the line of the edition
head_run : (s : Bool) → run nothing (head s) ≡ state_at nothing Start
unfolding run step after_head decimal places
head_run true = refl
head_run false = refl

head_says : (s : Bool) (t : List ℕ) → says_second (head s ++ t) ≡ s
unfolding decimal places
head_says true t = refl
head_says false t = refl

-- coordinates of the grid are numbers that a text can have
small_numbers : (c : List ℤ) → all_on_grid limit c ≡ true → Small c
unfolding all_on_grid limit
small_numbers [] e = tt
small_numbers (z ∷ c) e =
    (omega (arith, leb-true (nat_abs z) limit (sym (on_grid_size limit z) ∙ and_left (on_grid limit z) (all_on_grid limit c) e)), small_numbers c (and_right (on_grid limit z) (all_on_grid limit c) e))

all_small : (l : List (List ℤ)) → all_on_grid limit (joined l) ≡ true → Each Small l
unfolding joined
all_small [] e = tt
all_small (c ∷ l) e =
    let o = sym (on_joined limit c (joined l)) ∙ e in
    (small_numbers c (and_left (all_on_grid limit c) (all_on_grid limit (joined l)) o), all_small l (and_right (all_on_grid limit c) (all_on_grid limit (joined l)) o))

-- the text of a job, read
read_text : (s : Bool) (l : List Entry) → length (text s l) ≤ longest → Set l (run (state_at nothing Start) (lines l))
    → packed (text s l) ≡ set_packed s (joined (contours_of l)) (rows (contour_spans (contours_of l))) (rows (shape_spans (shapes_of l)))
unfolding packed
read_text s l h x =
    let e : run nothing (text s l) ≡ run (state_at nothing Start) (lines l) = run-append nothing (head s) (lines l) ∙ ap (λ (t : State). run t (lines l)) (head_run s) in
    rw (le-ltb longest (length (text s l)) h, packed)
    (ap (λ (t : State). packed_at t.lines.reader.place (says_second (text s l)) t) e
    ∙ ap₂ (λ (p : Place) (b : Bool). packed_at p b (run (state_at nothing Start) (lines l))) x.place (head_says s (lines l))
    ∙ ap₂ (λ (p : List ℤ) (cs : List (List ℕ)). set_packed s p cs (run (state_at nothing Start) (lines l)).lines.shapes) x.points x.contours
    ∙ ap (set_packed s (joined (contours_of l)) (rows (contour_spans (contours_of l)))) x.shapes)

-- every file that is dumped is packed again as it was
pub packing_undoes_dumping : (f : List ℕ) → Bytes f → first_of (refusals f) ≡ 0 → packed (dumped f) ≡ record { file = f; words = [] }
unfolding most
packing_undoes_dumping f h ok =
    let s : Bool = is_second f in
    let l : List Entry = read_contours (parsed f) in
    let r = (the_set_that_is_read_can_be_carried f h ok).regular in
    let on = all_on_wider (bound s) limit (points_of f) (bound_within s) r.on in
    let started = first_started s l 0 (what_is_read_can_be_carried f h l (whole f h ok)).all in
    let set = all_run l started (omega (arith, (job_sized f).few, promised_few f)) (omega (arith, r.even, r.within)) (job_sized f).even (all_small (contours_of l) on) in
    let short : length (text s l) ≤ longest = omega (arith, dumped_short f h, ap length (dumped_done f ok)) in
    ap packed (dumped_done f ok) ∙ read_text s l short set
    ∙ ap₂ written (the_set_that_is_read_can_be_written f h ok) (every_file_that_is_read_is_written_the_same f h ok)

-- so no two files have one text
pub no_two_files_have_one_text : (f g : List ℕ) → Bytes f → Bytes g → first_of (refusals f) ≡ 0 → first_of (refusals g) ≡ 0 → dumped f ≡ dumped g → f ≡ g
no_two_files_have_one_text f g hf hg f-ok g-ok e =
    ap (λ (p : Packed). p.file) (sym (packing_undoes_dumping f hf f-ok) ∙ ap packed e ∙ packing_undoes_dumping g hg g-ok)

-- any two outcomes that the contract of `pack` allows are identical: both lengths, and both rows
pub a_text_is_packed_in_one_way : Determined pack·contract.Learnt (λ κs r e. three e (λ text out words. leaving r out.now words.now))
a_text_is_packed_in_one_way = by_its_definition (λ κs a. three a (λ text out words. packing text.now out.now words.now)) (λ κs a r e h. h)
