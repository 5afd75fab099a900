-- Figures added up, up to 65,535 contours and refused sets in all.
use mathlib.Core.Bool.{Bool, not, ◌&&◌}
use mathlib.Core.List.{List, [], ◌∷◌}
use Prim.Native.Nat.{ℕ, zero, suc, ◌+◌, ◌-◌, ◌*◌, ◌^◌}
use lib.Dec.{leb}
use lib.IntN.{ℤ, pos, neg_ℤ, ◌+ℤ◌}
use lib.Signed.{le_z}
use Rattle.std.specs.Prelude.{Result, Ok, Err}
use Rattle.replies.specs.declared.refusal.Refusal.{Refusal}
use Rattle.replies.specs.Ladder.{Rung, first_of}
use Rattle.replies.specs.Refusals.{number}
use Rattle.figures.specs.declared.answer.Figures.{Figures}
use Rattle.figures.specs.declared.answer.Added.{Added}
use Rattle.figures.specs.Halves.{high, low, whole}

-- the most contours and refused sets that figures count
abbrev pub most_counted : ℕ
most_counted = 65535

-- as many contours of 65,536 points
abbrev pub most_points : ℕ
most_points = 65535 * 65536

-- a contour of n points takes at most 4n - 9 decisions
abbrev pub most_decisions : ℕ
most_decisions = 65535 * (4 * 65536 - 9)

-- as many areas, each from -2^63 to 2^63 - 1: the high part of their sum is from the negative of this to one less
abbrev pub most_high : ℕ
most_high = 65535 * 2 ^ 31

-- the sum of a row
unfoldable pub total : List ℕ → ℕ
total [] = 0
total (x ∷ r) = x + total r

-- how many contours and refused sets figures count in all
abbrev pub in_all : Figures → ℕ
in_all f = total f.totals

-- two rows of totals, number by number
unfoldable pub added_up : List ℕ → List ℕ → List ℕ
added_up [] s = []
added_up (x ∷ r) [] = []
added_up (x ∷ r) (y ∷ s) = (x + y) ∷ added_up r s

-- the sum of the areas that figures tell
abbrev pub area_sum : Figures → ℤ
area_sum f = whole f.high f.low

-- two figures added up
unfoldable pub sum : Figures → Figures → Figures
sum f g = record {
  totals = added_up f.totals g.totals;
  before = f.before + g.before;
  after = f.after + g.after;
  decisions = f.decisions + g.decisions;
  high = high (area_sum f +ℤ area_sum g);
  low = low (area_sum f +ℤ area_sum g);
}

-- no field but the totals is beyond what so many contours and refused sets come to
unfoldable pub possible : Figures → Bool
possible f =
    leb f.before most_points && (leb f.after most_points && (leb f.decisions most_decisions
    && (le_z (neg_ℤ (pos most_high)) f.high && le_z f.high (pos (most_high - 1)))))

-- the figures are possible, and so many more are not too many
unfoldable pub fits : Figures → ℕ → Bool
fits f more = leb (in_all f + more) most_counted && possible f

-- 21: they do not fit
abbrev pub over : Bool → List Rung
over fit = (not fit, 21) ∷ []

-- an answer
abbrev pub added : ℕ → Figures → Added
added reply f = record { reply = reply; figures = f }

-- what comes of an addition to figures, or its refusal and the figures as they were, as C has it
abbrev pub added_as : Figures → Result Figures Refusal → Added
added_as f (Ok g) = added 0 g
added_as f (Err r) = added (number r) f

-- by the number of the refusal: the figures as they were, or others
abbrev pub answered : ℕ → Figures → Figures → Added
answered (suc k) f others = added (suc k) f
answered zero f others = added 0 others

-- the refusal of a joining
abbrev pub joining_refusals : Figures → Figures → List Rung
joining_refusals f g = over (fits f (in_all g) && possible g)

-- two figures joined: added up, or refused, and the first as they were
unfoldable pub joined_figures : Figures → Figures → Added
joined_figures f g = answered (first_of (joining_refusals f g)) f (sum f g)
