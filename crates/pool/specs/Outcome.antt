-- What the calls on a lent pool answer and leave.
use Rattle.std.specs.Prelude.{Bool, true, false, ◌&&◌, List, [], ◌∷◌, map, ℕ, zero, suc, ◌*◌, leb, eqb, length, get_or, ℤ}
use Rattle.replies.specs.Ladder.{Rung, first_of}
use Rattle.rows.specs.Parts.{Part, none}
use Rattle.buffer.specs.declared.answer.Counted.{Counted}
use Rattle.buffer.specs.Answers.{counted}
use Rattle.buffer.specs.Parts.{contour_parts, handed}
use Rattle.pool.specs.Lists.{Entry, capacity, held, if_so, own, other, free}
use Rattle.pool.specs.Calls.{Call, unsound, refusals, done}
use Rattle.pool.specs.Rows.{Slot, span_of, Lent, lent, used, contents, laid_out, sound}

-- a reply, and the rows and the count as the call leaves them
pub record Outcome : Type 0 where
  pub reply : ℕ
  pub pool : Lent

-- a reply, and the rows and the count
abbrev pub leaving : ℕ → List ℤ → List (List ℕ) → ℕ → Outcome
leaving reply points records contours = record { reply = reply; pool = lent points records contours }

-- by the number of the first refusal: refused, and all as it was, or a pool laid out
abbrev pub outcome : ℕ → List Entry → Lent → Outcome
outcome zero l s = record { reply = 0; pool = laid_out l s }
outcome (suc k) l s = record { reply = suc k; pool = s }

-- the number of a press
abbrev pub number : Bool → ℕ
number false = 0
number true = 1

-- the rows have places for every pool
abbrev pub enough : Lent → Bool
enough s = leb (2 * capacity) (length s.points) && leb capacity (length s.records)

-- what a call of a press asks of lent rows
abbrev pub rungs : ℕ → Call → Lent → List Rung
rungs p c s = refusals (sound s) (enough s) (own p (contents s)) (held (own (other p) (contents s))) c

-- its first refusal, or 0
abbrev pub refused : ℕ → Call → Lent → ℕ
refused p c s = first_of (rungs p c s)

-- a call of a press on lent rows
unfoldable pub called : ℕ → Call → Lent → Outcome
called p c s = outcome (refused p c s) (done p c (contents s)) s

-- what is read of lent rows: 6, or a count of the pool that they hold
abbrev pub count_of : (List Entry → ℕ) → Lent → Counted
count_of f s = counted (first_of (unsound (sound s))) (f (contents s))

-- how many contours a press has
unfoldable pub contours_count : ℕ → Lent → Counted
contours_count p s = count_of (λ l. length (own p l)) s

-- how many points it holds
unfoldable pub held_count : ℕ → Lent → Counted
held_count p s = count_of (λ l. held (own p l)) s

-- the free count
unfoldable pub free_count : Lent → Counted
free_count s = count_of free s

-- the records of a press, in order
unfoldable pub own_slots : ℕ → List Slot → List Slot
own_slots p [] = []
own_slots p (s ∷ l) = if_so (eqb p s.press) s (own_slots p l)

-- contour number k of a press as a part of the points, or the empty part at their front where it is not there
unfoldable pub contour_of : Part → List (List ℕ) → ℕ → ℕ → ℕ → Part
contour_of points records contours p k =
    let s = lent points.numbers records contours in
    handed (first_of (unsound (sound s))) points
    (get_or (contour_parts points (map span_of (own_slots p (used s)))) k (none points))
