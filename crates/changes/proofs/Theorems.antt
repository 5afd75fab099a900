-- What a user may count on.
use mathlib.Core.Path.{◌≡◌, sym, ◌∙◌, ap, ap₂}
use mathlib.Core.List.{List, ◌++◌}
use mathlib.Core.Logic.{◌↔◌}
use Prim.Native.Nat.{ℕ, ◌≤◌}
use native.Mathlib.Omega.{arith}
use lib.ListN.{length, length-append}
use lib.IntN.{ℤ}
use Rattle.rows.specs.Rows.{front}
use Rattle.replies.proofs.OneOutcome.{Determined, by_its_definition, three}
use Rattle.replies.specs.Ladder.{first_of}
use Rattle.difference.specs.Lines.{listed, written}
use Rattle.report.specs.Listing.{job, listing_refusals}
use Rattle.report.proofs.JobLaws.{job_sized}
use Rattle.changes.specs.Words.{lines, counts, changes}
use Rattle.changes.proofs.ChangeLaws.{listing_of, both_told, changes-length}
use Rattle.changes.proofs.SameLaws.{no_line_same, same_no_line}
use Rattle.changes.proofs.inner.comparing.tell.Reads as tell·contract

-- any two outcomes that the contract of `tell` allows are identical: the length that is answered, and the row of text
pub two_files_have_one_telling : Determined {O = ℕ × List ℕ} tell·contract.Learnt (λ κs r e. three e (λ first second text. (r, text.now)))
two_files_have_one_telling =
    by_its_definition
    (λ κs a. three a (λ first second text. (length (changes first.now second.now), front (changes first.now second.now) text.now)))
    (λ κs a r e h. ap₂ (λ (n : ℕ) (t : List ℕ). (n, t)) h.0 h.1)

-- so the room that the program has is enough for any two files
pub nothing_said_is_longer : (f g : List ℕ) → length (changes f g) ≤ 311328
nothing_said_is_longer = changes-length

-- of two files that are not refused
module _ (f g : List ℕ) (z : first_of (listing_refusals f) ≡ 0) (y : first_of (listing_refusals g) ≡ 0) where
  pub no_line_is_said_exactly_where_both_carry_the_same_contours : (changes f g ≡ counts (listing_of f g)) ↔ (job g ≡ job f)
  no_line_is_said_exactly_where_both_carry_the_same_contours = (
    λ e.
        no_line_same 1 (job f) (job g) (job_sized f).even (job_sized g).even
        (omega (arith, length-append (lines 1 (listing_of f g)) (counts (listing_of f g)), ap length (sym (both_told f g z y) ∙ e))),
    λ e. both_told f g z y ∙ ap (λ (l : List ℕ). l ++ counts (listing_of f g)) (ap (λ (m : List (List ℤ)). lines 1 (written (listed (job f) m))) e ∙ same_no_line 1 (job f)),
  )
