-- What is said of two files, once both are read.
use mathlib.Core.Path.{◌≡◌, refl, sym, ◌∙◌, ap, ap₂}
use mathlib.Core.List.{List, ◌++◌}
use Prim.Native.Nat.{ℕ, zero, suc, ◌*◌, ◌≤◌}
use native.Mathlib.Omega.{arith}
use lib.ListN.{length, take, length-append, length-map}
use lib.IntN.{ℤ}
use Rattle.replies.specs.Ladder.{first_of}
use Rattle.rows.specs.Rows.{front}
use Rattle.setfile.specs.declared.answer.Read.{Read}
use Rattle.difference.specs.Lines.{listed, lines_of, row, written}
use Rattle.difference.proofs.ListLaws.{listed-length}
use Rattle.report.specs.Text.{decimal, line_end, refused}
use Rattle.report.specs.Listing.{job, listing_refusals}
use Rattle.report.specs.inside.Lines.{Put}
use Rattle.report.proofs.TextLaws.{decimal_short}
use Rattle.report.proofs.ReportLaws.{accepted}
use Rattle.report.proofs.PutLaws.{put_front}
use Rattle.changes.specs.Words.{lines, counts, said, the_first, the_second, told, changes}
use Rattle.changes.specs.inside.Lines.{Places, Comparable}
use Rattle.changes.proofs.LineLaws.{lines-length}
use Rattle.changes.proofs.CountLaws.{counts-length}
use Rattle.changes.proofs.PlaceLaws.{places}
use Rattle.changes.proofs.ReadLaws.{job_few, ranges-length, contours_back, set_sound, HasRead, accepted_file, points_are, ranges_are}

pub said-length : (listing : List (List ℕ)) → Places listing → length listing ≤ 4095 → length (said listing) ≤ 311328
said-length listing p h =
    omega (arith, length-append (lines 1 listing) (counts listing), lines-length 1 listing p (omega arith), counts-length listing h)

-- the listing of two files
module _ (f g : List ℕ) where
  abbrev pub listing_of : List (List ℕ)
  listing_of = written (listed (job f) (job g))

  listing-length : length listing_of ≤ 4095
  listing-length = omega (arith, length-map (listed (job f) (job g)) row, listed-length (job f) (job g), job_few f, job_few g)

  pub first_told : {r : ℕ} → r ≡ first_of (listing_refusals f) → (r ≡ 0 → ⊥) → changes f g ≡ (the_first ++ refused) ++ decimal r ++ line_end
  unfolding changes
  first_told {r} e n = ap (λ (k : ℕ). told k (first_of (listing_refusals g)) listing_of) (sym e) ∙ go r n
    where
      go : (k : ℕ) → (k ≡ 0 → ⊥) → told k (first_of (listing_refusals g)) listing_of ≡ (the_first ++ refused) ++ decimal k ++ line_end
      go zero n = absurd (n refl)
      go (suc k) n = refl

  pub second_told : first_of (listing_refusals f) ≡ 0 → {r : ℕ} → r ≡ first_of (listing_refusals g) → (r ≡ 0 → ⊥) → changes f g ≡ (the_second ++ refused) ++ decimal r ++ line_end
  unfolding changes
  second_told z {r} e n = ap₂ (λ (j k : ℕ). told j k listing_of) z (sym e) ∙ go r n
    where
      go : (k : ℕ) → (k ≡ 0 → ⊥) → told 0 k listing_of ≡ (the_second ++ refused) ++ decimal k ++ line_end
      go zero n = absurd (n refl)
      go (suc k) n = refl

  pub both_told : first_of (listing_refusals f) ≡ 0 → first_of (listing_refusals g) ≡ 0 → changes f g ≡ said listing_of
  unfolding changes
  both_told z y = ap₂ (λ (j k : ℕ). told j k listing_of) z y

  pub changes-length : length (changes f g) ≤ 311328
  changes-length = go (first_of (listing_refusals f)) (first_of (listing_refusals g)) refl refl
    where
      go : (j k : ℕ) → first_of (listing_refusals f) ≡ j → first_of (listing_refusals g) ≡ k → length (changes f g) ≤ 311328
      go (suc j) k d e = rw (first_told (sym d) (λ z. omega arith)) (simp length-append (omega (arith, decimal_short (suc j))))
      go zero (suc k) d e = rw (second_told d (sym e) (λ z. omega arith)) (simp length-append (omega (arith, decimal_short (suc k))))
      go zero zero d e = rw (both_told d e) (said-length listing_of (places (job f) (job g) (accepted g e).sound) listing-length)

-- a file that is refused: what is put is what is said
pub put_told : (f g : List ℕ) {word text : List ℕ} {r : ℕ} {exit : List ℕ} → changes f g ≡ word → Put 0 word text r exit → (r ≡ length (changes f g)) × (exit ≡ front (changes f g) text)
put_told f g e p = rw e (put_front p)

-- both files are read, and neither is refused
module _ {f g : List ℕ} {a b : List ℤ} {c d s t : List (List ℕ)} {r q : Read} {a' b' : List ℤ} {c' d' s' t' : List (List ℕ)}
    (one : HasRead f a c s r a' c' s') (other : HasRead g b d t q b' d' t') (z : r.reply ≡ 0) (y : q.reply ≡ 0) where
  listing_is : written (lines_of (take (2 * r.points) a') (take r.contours c') (take (2 * q.points) b') (take q.contours d')) ≡ listing_of f g
  listing_is =
      rw (points_are one z, ranges_are one z, points_are other y, ranges_are other y)
      (ap₂ (λ (l m : List (List ℤ)). written (listed l m)) (contours_back f) (contours_back g))

  pub comparable : Comparable (take (2 * r.points) a') (take r.contours c') (take (2 * q.points) b') (take q.contours d')
  comparable = record {
    first = rw (points_are one z, ranges_are one z) (set_sound f (accepted_file one z));
    second = rw (points_are other y, ranges_are other y) (set_sound g (accepted_file other y));
    first_few = rw (ranges_are one z) (omega (arith, ranges-length f, job_few f));
    second_few = rw (ranges_are other y) (omega (arith, ranges-length g, job_few g));
    places = rw listing_is (places (job f) (job g) (accepted g (accepted_file other y)).sound);
  }

  pub changes_are : changes f g ≡ said (written (lines_of (take (2 * r.points) a') (take r.contours c') (take (2 * q.points) b') (take q.contours d')))
  changes_are = both_told f g (accepted_file one z) (accepted_file other y) ∙ ap said (sym listing_is)
