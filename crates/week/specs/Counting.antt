-- A file of either edition, counted among a week's figures.
use mathlib.Core.Bool.{Bool, true, false}
use mathlib.Core.List.{List}
use Prim.Native.Nat.{ℕ, zero, suc, ◌+◌}
use lib.IntN.{ℤ}
use Rattle.replies.specs.Ladder.{first_of}
use Rattle.ring.specs.declared.Rule.{Rule}
use Rattle.figures.specs.declared.answer.Figures.{Figures}
use Rattle.figures.specs.declared.answer.Added.{Added}
use Rattle.figures.specs.Entries.{Found, entries}
use Rattle.figures.specs.Batch.{figures_of}
use Rattle.figures.specs.Joining.{sum, answered}
use Rattle.figures.specs.Adding.{adding_refusals}
use Rattle.setfile.specs.Editions.{is_second}
use Rattle.report.specs.Listing.{rule_of, job, listing_refusals}
use Rattle.week.specs.declared.answer.Week.{Week}

-- a set that is not refused
abbrev pub taken : Rule → List (List ℤ) → Found
taken rule contours = record { rule = rule; refusal = 0; contours = contours }

-- a file as it is found: the walk of its edition, the number of its first refusal, and the contours that it carries
abbrev pub found_file : List ℕ → Found
found_file file = record { rule = rule_of (is_second file); refusal = first_of (listing_refusals file); contours = job file }

-- a set that was found added to figures, or 21 and the figures as they were
unfoldable pub with_found : Figures → Found → Added
with_found f s = answered (first_of (adding_refusals f s)) f (sum f (figures_of (entries s)))

-- by the number of the answer: one file more, or as many, and the week is full
abbrev pub counted_by : ℕ → ℕ → Bool → Figures → Week
counted_by zero files untold f = record { figures = f; files = files + 1; full = false; untold = untold }
counted_by (suc k) files untold f = record { figures = f; files = files; full = true; untold = untold }

-- the week with a file more, which was added to its figures
abbrev pub with_file : Week → Bool → Added → Week
with_file w untold a = counted_by a.reply w.files untold a.figures
