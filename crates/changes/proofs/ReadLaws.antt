-- What reading a file leaves in rows that have room for as much as is listed of one.
use mathlib.Core.Path.{◌≡◌, refl, sym, ◌∙◌, ap}
use mathlib.Core.Bool.{Bool, true, false}
use mathlib.Core.List.{List, ◌++◌, map}
use Prim.Native.Nat.{ℕ, zero, suc, ◌*◌, ◌≤◌}
use native.Mathlib.Omega.{arith}
use lib.Dec.{leb}
use lib.ListN.{length, take, drop, length-append, length-drop, length-map}
use lib.Seq.{take_at}
use lib.IntN.{ℤ}
use borrow.Author.Tests.{leb-true, leb-false, le-leb, lt-leb}
use Rattle.replies.specs.Ladder.{first_of, room}
use Rattle.rows.specs.Rows.{front}
use Rattle.grid.specs.Limits.{most}
use Rattle.grid.specs.Domain.{count}
use Rattle.buffer.specs.declared.ranges.Span.{Span}
use Rattle.buffer.specs.Spans.{spans, row, rows}
use Rattle.buffer.specs.Sets.{joined, contours, contour_spans, shape_spans}
use Rattle.buffer.specs.Answers as A
use Rattle.buffer.specs.Answers.{enough}
use Rattle.buffer.proofs.SetLaws.{laid-length}
use Rattle.buffer.proofs.WrittenLaws.{spans_rows}
use Rattle.buffer.proofs.Theorems.{packing_then_unpacking_gives_back_every_contour, points_total, the_counts_add_up, what_is_packed_is_sound}
use Rattle.setfile.specs.declared.answer.Read.{Read}
use Rattle.setfile.specs.Entries.{Entry, shapes_of, read_contours}
use Rattle.setfile.specs.Editions.{number, is_second, parsed}
use Rattle.setfile.specs.Reading as R
use Rattle.setfile.specs.Reading.{refusals}
use Rattle.setfile.specs.Promises.{shape_ranges}
use Rattle.setfile.proofs.SizeLaws.{promised_few, shapes_few}
use Rattle.difference.specs.inside.Sets.{Sound}
use Rattle.report.specs.Listing.{most_listed, job, listing_refusals}
use Rattle.report.proofs.JobLaws.{job_sized}
use Rattle.report.proofs.ReportLaws.{accepted}

-- the set of a file
module _ (f : List ℕ) where
  -- its contours are so few
  pub job_few : length (job f) ≤ 4095
  job_few = omega (arith, (job_sized f).few, promised_few f, length-map (read_contours (parsed f)) (λ (e : Entry). e.points))

  pub ranges-length : length (rows (contour_spans (job f))) ≡ length (job f)
  ranges-length = length-map (contour_spans (job f)) row ∙ laid-length 0 (map count (job f)) ∙ length-map (job f) count

  numbers-length : length (joined (job f)) ≡ 2 * count (joined (job f))
  numbers-length = omega (arith, points_total (job f) (job_sized f).even, the_counts_add_up (job f) (job_sized f).even)

  -- unpacked it is what the file carries
  pub contours_back : contours (joined (job f)) (spans (rows (contour_spans (job f)))) ≡ job f
  contours_back =
      ap (contours (joined (job f))) (spans_rows (contour_spans (job f)))
      ∙ packing_then_unpacking_gives_back_every_contour (job f) (job_sized f).even

  -- and no call refuses it, where the file is not
  pub set_sound : first_of (listing_refusals f) ≡ 0 → Sound (joined (job f)) (rows (contour_spans (job f)))
  unfolding most
  set_sound e =
      let a = accepted f e in
      record {
        domain = record { even = numbers-length; few = omega (arith, a.few, numbers-length); on = a.on };
        tied = rw (spans_rows (contour_spans (job f))) (what_is_packed_is_sound (job f) (job_sized f).even);
      }

-- rows with room for as many points as are listed, and for all contours and shapes of a file
pub record Roomy (out : List ℤ) (cs ss : List (List ℕ)) : Type 0 where
  pub numbers : length out ≡ 2 * most_listed
  pub contours : 4095 ≤ length cs
  pub shapes : 4095 ≤ length ss

module _ (f : List ℕ) (out : List ℤ) (cs ss : List (List ℕ)) (has : Roomy out cs ss) where
  abbrev shapes_in : List Span
  shapes_in = shape_spans (shapes_of (read_contours (parsed f)))

  shapes-length : length shapes_in ≤ 4095
  shapes-length =
      let l : List Entry = read_contours (parsed f) in
      omega (arith, laid-length 0 (map length (shapes_of l)), length-map (shapes_of l) length, shapes_few l, (job_sized f).few, promised_few f)

  -- only the points can be too many
  enough_is : enough (joined (job f)) (contour_spans (job f)) shapes_in out cs ss ≡ leb (count (joined (job f))) most_listed
  enough_is = go (leb (count (joined (job f))) most_listed) refl
    where
      go : (b : Bool) → leb (count (joined (job f))) most_listed ≡ b → enough (joined (job f)) (contour_spans (job f)) shapes_in out cs ss ≡ b
      go true e =
          let h = leb-true (count (joined (job f))) most_listed e in
          rw (
            le-leb (length (joined (job f))) (length out) (omega (arith, numbers-length f, has.numbers)),
            le-leb (length (contour_spans (job f))) (length cs) (omega (arith, laid-length 0 (map count (job f)), length-map (job f) count, job_few f, has.contours)),
            le-leb (length shapes_in) (length ss) (omega (arith, shapes-length, has.shapes)),
          )
      go false e =
          let h = leb-false (count (joined (job f))) most_listed e in
          rw (lt-leb (length (joined (job f))) (length out) (omega (arith, numbers-length f, has.numbers)))

-- what reading a file has left of such rows
pub record HasRead (f : List ℕ) (out : List ℤ) (cs ss : List (List ℕ)) (r : Read) (out' : List ℤ) (cs' ss' : List (List ℕ)) : Type 0 where
  pub has : Roomy out cs ss
  pub is : R.leaving r out' cs' ss' ≡ R.outcome f out cs ss

module _ {f : List ℕ} {out : List ℤ} {cs ss : List (List ℕ)} {r : Read} {out' : List ℤ} {cs' ss' : List (List ℕ)} (done : HasRead f out cs ss r out' cs' ss') where
  answered : (k : ℕ) → first_of (listing_refusals f) ≡ k
      → R.leaving r out' cs' ss' ≡ R.with_edition (is_second f) (A.outcome k (joined (job f)) (contour_spans (job f)) (shapes_in f out cs ss done.has) out cs ss)
  unfolding A.stored
  answered k e =
      done.is
      ∙ ap (λ (n : ℕ). R.with_edition (is_second f) (A.outcome n (joined (job f)) (contour_spans (job f)) (shapes_in f out cs ss done.has) out cs ss))
      (ap (λ (b : Bool). first_of (refusals f ++ room b)) (enough_is f out cs ss done.has) ∙ e)

  pub reply_is : r.reply ≡ first_of (listing_refusals f)
  reply_is = go (first_of (listing_refusals f)) refl
    where
      go : (k : ℕ) → first_of (listing_refusals f) ≡ k → r.reply ≡ first_of (listing_refusals f)
      go zero e = ap (λ (o : R.Outcome). o.answer.reply) (answered 0 e) ∙ sym e
      go (suc k) e = ap (λ (o : R.Outcome). o.answer.reply) (answered (suc k) e) ∙ sym e

  -- it is not refused
  module _ (z : r.reply ≡ 0) where
    pub accepted_file : first_of (listing_refusals f) ≡ 0
    accepted_file = sym reply_is ∙ z

    points_number : r.points ≡ count (joined (job f))
    points_number = ap (λ (o : R.Outcome). o.answer.points) (answered 0 accepted_file)

    contours_number : r.contours ≡ length (rows (contour_spans (job f)))
    contours_number = ap (λ (o : R.Outcome). o.answer.contours) (answered 0 accepted_file) ∙ sym (length-map (contour_spans (job f)) row)

    points_left : out' ≡ front (joined (job f)) out
    points_left = ap (λ (o : R.Outcome). o.points) (answered 0 accepted_file)

    ranges_left : cs' ≡ front (rows (contour_spans (job f))) cs
    ranges_left = ap (λ (o : R.Outcome). o.contours) (answered 0 accepted_file)

    shapes_left : ss' ≡ front (rows (shapes_in f out cs ss done.has)) ss
    shapes_left = ap (λ (o : R.Outcome). o.shapes) (answered 0 accepted_file)

    shapes_number : r.shapes ≡ length (rows (shapes_in f out cs ss done.has))
    shapes_number = ap (λ (o : R.Outcome). o.answer.shapes) (answered 0 accepted_file) ∙ sym (length-map (shapes_in f out cs ss done.has) row)

    pub edition_is : r.edition ≡ number (is_second f)
    edition_is = ap (λ (o : R.Outcome). o.answer.edition) (answered 0 accepted_file)

    -- the row of shapes has the room that it had
    pub shapes_long : 4095 ≤ length ss'
    shapes_long =
        omega (
          arith,
          ap length shapes_left ∙ length-append (rows (shapes_in f out cs ss done.has)) (drop (length (rows (shapes_in f out cs ss done.has))) ss),
          length-drop (length (rows (shapes_in f out cs ss done.has))) ss,
          done.has.shapes,
        )

    pub few_points : r.points ≤ most_listed
    few_points = omega (arith, points_number, numbers-length f, (accepted f accepted_file).few)

    pub points_in : 2 * r.points ≤ length out'
    points_in = omega (arith, points_number, numbers-length f, ap length points_left ∙ length-append (joined (job f)) (drop (length (joined (job f))) out))

    pub ranges_in : r.contours ≤ length cs'
    ranges_in = omega (arith, contours_number, ap length ranges_left ∙ length-append (rows (contour_spans (job f))) (drop (length (rows (contour_spans (job f)))) cs))

    pub points_are : take (2 * r.points) out' ≡ joined (job f)
    points_are = ap (take (2 * r.points)) points_left ∙ take_at (joined (job f)) _ (2 * r.points) (omega (arith, points_number, numbers-length f))

    pub ranges_are : take r.contours cs' ≡ rows (contour_spans (job f))
    ranges_are = ap (take r.contours) ranges_left ∙ take_at (rows (contour_spans (job f))) _ r.contours (sym contours_number)

    pub shapes_in_row : r.shapes ≤ length ss'
    shapes_in_row = omega (arith, shapes_number, ap length shapes_left ∙ length-append (rows (shapes_in f out cs ss done.has)) (drop (length (rows (shapes_in f out cs ss done.has))) ss))

    pub shapes_are : take r.shapes ss' ≡ shape_ranges f
    shapes_are = ap (take r.shapes) shapes_left ∙ take_at (rows (shapes_in f out cs ss done.has)) _ r.shapes (sym shapes_number)

    pub few_shapes : r.shapes ≤ 4095
    few_shapes = omega (arith, shapes_number, length-map (shapes_in f out cs ss done.has) row, shapes-length f out cs ss done.has)

    pub few_contours : r.contours ≤ 4095
    few_contours = omega (arith, contours_number, ranges-length f, job_few f)
