-- One set added to the figures, and what that leaves in the rows that are lent.
use mathlib.Core.List.{List, [], ◌∷◌, ◌++◌}
use Prim.Native.Nat.{ℕ, zero, suc}
use lib.Dec.{leb}
use lib.ListN.{length}
use lib.IntN.{ℤ}
use Rattle.replies.specs.Ladder.{Rung, first_of, room}
use Rattle.grid.specs.Domain.{count}
use Rattle.rows.specs.Rows.{front}
use Rattle.ring.specs.declared.Rule.{Rule}
use Rattle.ring.specs.Walk.{End}
use Rattle.ring.specs.Walk.End.{kept, collapsed}
use Rattle.clean.specs.Outcome.{scratch, walked, chosen, Lent, lent, swept}
use Rattle.buffer.specs.Spans.{spans}
use Rattle.buffer.specs.Sets.{contours}
use Rattle.buffer.specs.Contours.{refusals}
use Rattle.figures.specs.declared.answer.Figures.{Figures}
use Rattle.figures.specs.declared.answer.Added.{Added}
use Rattle.figures.specs.Entries.{Found, entries}
use Rattle.figures.specs.Batch.{figures_of}
use Rattle.figures.specs.Joining.{sum, fits, over, added}

-- 4 and 5, by all points of the set
abbrev pub lacking : List ℤ → Lent → List Rung
lacking p l = scratch (count p) (length l.next) (length l.prev) (length l.mark) ++ room (leb (length p) (length l.out))

-- the refusals of a set that is brought: 1, 2, 6, 3, 4, 5; they count under their number
abbrev pub set_refusals : List ℤ → List (List ℕ) → Lent → List Rung
set_refusals p ranges l = refusals p ranges ++ lacking p l

-- the set as the call finds it
abbrev pub found : Rule → List ℤ → List (List ℕ) → Lent → Found
found rule p ranges l = record { rule = rule; refusal = first_of (set_refusals p ranges l); contours = contours p (spans ranges) }

-- the output after a contour, by the end of its walk: the kept points are in front of it, or it is as it was
abbrev pub written : List ℤ → End → List ℤ → List ℤ
written c (kept s) out = front (chosen c s) out
written c collapsed out = out

-- after contours, one after the other
unfoldable pub outputs : Rule → List (List ℤ) → List ℤ → List ℤ
outputs rule [] out = out
outputs rule (c ∷ cs) out = outputs rule cs (written c (walked rule c).end out)

-- the rows after a set of n points, by the number of its refusal: as they were, or the scratch is zeroed and the output written
abbrev pub used : ℕ → Rule → List (List ℤ) → ℕ → Lent → Lent
used (suc k) rule cs n l = l
used zero rule cs n l = swept n (lent l.next l.prev l.mark (outputs rule cs l.out))

-- the answer of a call, and the lent rows as it leaves them
pub record Outcome : Type 0 where
  pub answer : Added
  pub rows : Lent

abbrev pub leaving : Added → Lent → Outcome
leaving answer rows = record { answer = answer; rows = rows }

-- by the number of the refusal: all as it was, or other figures and rows
abbrev pub outcome : ℕ → Figures → Figures → Lent → Lent → Outcome
outcome (suc k) f others l rows = leaving (added (suc k) f) l
outcome zero f others l rows = leaving (added 0 others) rows

-- the refusal of an addition: its entries do not fit
abbrev pub adding_refusals : Figures → Found → List Rung
adding_refusals f s = over (fits f (length (entries s)))

-- one set added: the figures of its entries go onto the figures
unfoldable pub add_outcome : Figures → Rule → List ℤ → List (List ℕ) → Lent → Outcome
add_outcome f rule p ranges l =
    outcome (first_of (adding_refusals f (found rule p ranges l)))
    f (sum f (figures_of (entries (found rule p ranges l))))
    l (used (found rule p ranges l).refusal rule (contours p (spans ranges)) (count p) l)
