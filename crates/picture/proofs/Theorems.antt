-- What a user may count on.
use mathlib.Core.Path.{◌≡◌, refl, sym, ◌∙◌, ap, ap₂, subst}
use mathlib.Core.List.{List, map}
use Prim.Native.Nat.{ℕ, zero, suc, ◌≤◌}
use native.Mathlib.Omega.{arith}
use lib.ListN.{length, length-append, length-map}
use lib.IntN.{ℤ}
use Rattle.rows.specs.Rows.{front}
use Rattle.replies.specs.Ladder.{first_of}
use Rattle.replies.proofs.OneOutcome.{Determined, by_its_definition, two}
use Rattle.grid.specs.Points.{points}
use Rattle.grid.proofs.RowLaws.{points_count}
use Rattle.buffer.specs.Sets.{joined}
use Rattle.setfile.specs.Entries.{Entry, read_contours}
use Rattle.setfile.specs.Editions.{is_second, parsed}
use Rattle.setfile.proofs.SizeLaws.{promised_few}
use Rattle.setfile.proofs.GatherLaws.{shapes_filled}
use Rattle.report.specs.Listing.{rule_of, job, listing_refusals}
use Rattle.report.proofs.TextLaws.{decimal_short}
use Rattle.report.proofs.JobLaws.{job_sized}
use Rattle.report.proofs.ReportLaws.{accepted}
use Rattle.vertices.specs.Vertices.{all_kept, job_vertices}
use Rattle.picture.specs.Markup.{WellFormed}
use Rattle.picture.specs.Frame.{sizes}
use Rattle.picture.specs.Picture.{outline, shapes, all_spots, job_shapes, job_extent, shown, picture}
use Rattle.picture.specs.inside.Parts.{opening, closing}
use Rattle.picture.proofs.PartLaws.{shown_parts}
use Rattle.picture.proofs.PictureLaws.{picture_refused, picture_drawn}
use Rattle.picture.proofs.LengthLaws.{parts_of_four, opening-length, closing-length, shapes-length, filled_few, spots-length, vertices_few}
use Rattle.picture.proofs.FormLaws.{shown_content, drawn_formed}
use Rattle.picture.proofs.OnceLaws.{shapes_joined, map_joined}
use Rattle.picture.proofs.inner.drawing.draw.Reads as draw·contract

-- any two outcomes that the contract of `draw` allows are identical: the length that is answered, and the row of text
pub a_file_has_one_picture : Determined {O = ℕ × List ℕ} draw·contract.Learnt (λ κs r e. two e (λ bytes text. (r, text.now)))
a_file_has_one_picture =
    by_its_definition
    (λ κs a. two a (λ bytes text. (length (picture bytes.now), front (picture bytes.now) text.now)))
    (λ κs a r e h. ap₂ (λ (n : ℕ) (t : List ℕ). (n, t)) h.0 h.1)

-- the picture of a file that is not refused is well formed
pub every_picture_is_well_formed : (f : List ℕ) → first_of (listing_refusals f) ≡ 0 → WellFormed (picture f)
every_picture_is_well_formed f e =
    subst WellFormed (sym (picture_drawn f e)) (drawn_formed (job_extent f) (sizes (job_extent f)) (shown f) (shown_content (job_shapes f) (job_vertices f)))

-- the parts of the shapes' paths, one behind the other, are those of the file's contours in their order
pub each_contour_is_shown_once : (f : List ℕ) → joined (map (map outline) (job_shapes f)) ≡ map outline (job f)
each_contour_is_shown_once f = map_joined outline (job_shapes f) ∙ ap (map outline) (shapes_joined f)

-- so the room that the program has is enough for any file
pub no_picture_is_longer : (f : List ℕ) → length (picture f) ≤ 800000
no_picture_is_longer f = go (first_of (listing_refusals f)) refl
  where
    go : (k : ℕ) → first_of (listing_refusals f) ≡ k → length (picture f) ≤ 800000
    go (suc k) e = rw (picture_refused f (suc k) (sym e) (λ z. omega arith)) (simp length-append (omega (arith, decimal_short (suc k))))
    go zero e =
        let x = job_extent f in
        omega (
          arith,
          ap length (picture_drawn f e ∙ shown_parts x (sizes x) (shapes (job_shapes f)) (all_spots (job_vertices f)))
              ∙ parts_of_four (opening x (sizes x)) (shapes (job_shapes f)) (all_spots (job_vertices f)) (closing (sizes x)),
          opening-length x (sizes x),
          closing-length (sizes x),
          shapes-length (job_shapes f),
          ap length (shapes_joined f),
          ap (λ (l : List (List ℤ)). length (joined l)) (shapes_joined f),
          filled_few (job_shapes f) (shapes_filled (read_contours (parsed f))),
          length-map (read_contours (parsed f)) (λ (c : Entry). c.points),
          (job_sized f).few,
          promised_few f,
          (accepted f e).few,
          spots-length (job_vertices f),
          vertices_few (all_kept (rule_of (is_second f)) (job f)) (points (joined (job f))),
          points_count (joined (job f)),
        )
