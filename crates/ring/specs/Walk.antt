-- The walk over the surviving positions of a ring, for any rule that says which vertex is to go. Here m is a row of marks, p a position, and t what is counted so far.
use Rattle.std.specs.Prelude.{ℕ, zero, suc, ◌*◌, ◌<◌, List, [], ◌∷◌, ◌++◌, Bool, true, false, length, get_or, set, take, drop, replicate, ltb, leb, eqb}

-- A row has one of three marks for each position of the ring.
abbrev pub unmarked : ℕ
unmarked = 0

abbrev pub marked : ℕ
marked = 1

abbrev pub removed : ℕ
removed = 2

-- The mark of position p. Past the end of the row every position is removed.
abbrev pub mark_at : List ℕ → ℕ → ℕ
mark_at m p = get_or m p removed

-- Position p survives.
abbrev pub Survivor : List ℕ → ℕ → Type 0
Survivor m p = mark_at m p < removed

-- The surviving positions, in rising order, of a row whose first position is i.
unfoldable pub survivors_from : ℕ → List ℕ → List ℕ
survivors_from i [] = []
survivors_from i (x ∷ m) = elim (ltb x removed) [ true ↦ i ∷ survivors_from (suc i) m | false ↦ survivors_from (suc i) m ]

-- The survivors of a ring, in rising position.
abbrev pub survivors : List ℕ → List ℕ
survivors m = survivors_from 0 m

-- The survivors other than p, in the order of a round from p: those above it, then those below it.
unfoldable pub others : List ℕ → ℕ → List ℕ
others m p = survivors_from (suc p) (drop (suc p) m) ++ survivors_from 0 (take p m)

-- The last element of a list, or d if it has none.
abbrev pub last : List ℕ → ℕ → ℕ
last [] d = d
last (x ∷ l) d = last l x

-- The successor of p is the first of the others. Alone, p is its own.
unfoldable pub successor : List ℕ → ℕ → ℕ
successor m p = get_or (others m p) 0 p

-- The predecessor of p is the last of the others. Alone, p is its own.
unfoldable pub predecessor : List ℕ → ℕ → ℕ
predecessor m p = last (others m p) p

-- How many positions have the mark x.
unfoldable pub occurrences : ℕ → List ℕ → ℕ
occurrences x [] = 0
occurrences x (y ∷ m) = elim (eqb y x) [ true ↦ suc (occurrences x m) | false ↦ occurrences x m ]

-- All survivors are marked: no position is unmarked.
abbrev pub all_marked : List ℕ → Bool
all_marked m = eqb (occurrences unmarked m) 0

-- Only three survive.
abbrev pub only_three : List ℕ → Bool
only_three m = leb (length (survivors m)) 3

-- The row with position p unmarked, if it was marked.
unfoldable pub unmark : List ℕ → ℕ → List ℕ
unmark m p = elim (eqb (mark_at m p) marked) [ true ↦ set m p unmarked | false ↦ m ]

-- The row with position p, its successor and its predecessor unmarked.
unfoldable pub unmark_about : List ℕ → ℕ → List ℕ
unmark_about m p = unmark (unmark (unmark m p) (successor m p)) (predecessor m p)

-- The row with vertex c removed, and with its predecessor P, P's new successor and P's predecessor unmarked.
unfoldable pub remove : List ℕ → ℕ → List ℕ
remove m c = unmark_about (set m c removed) (predecessor m c)

-- What a walk counts: its decisions, and its turns, which are all its visits, those that decide and those that step over a marked position.
pub record Tally : Type 0 where
  pub decisions : ℕ
  pub turns : ℕ

-- A walk ends with the survivors that it keeps, or collapsed.
pub data End : Type 0 where
  kept : List ℕ → End
  collapsed : End

-- What a walk comes to: how it ended, and what it counted.
pub record Walked : Type 0 where
  pub end : End
  pub tally : Tally

-- A walk is under way, with its marks, its position and what it counted so far; or it has ended.
pub data Stage : Type 0 where
  under_way : List ℕ → ℕ → Tally → Stage
  ended : Walked → Stage

-- So many decisions, in so many turns.
abbrev pub tally : ℕ → ℕ → Tally
tally k v = record { decisions = k; turns = v }

-- One turn more, with a decision.
abbrev pub counted : Tally → Tally
counted t = tally (suc t.decisions) (suc t.turns)

-- One turn more, with none.
abbrev pub stepped_over : Tally → Tally
stepped_over t = tally t.decisions (suc t.turns)

-- A walk that ended so, with this tally.
abbrev pub ending : End → Tally → Walked
ending e t = record { end = e; tally = t }

-- The row of n positions with nothing marked.
abbrev pub fresh : ℕ → List ℕ
fresh n = replicate n unmarked

-- The walk starts at position 0, with nothing marked.
abbrev pub start : ℕ → Stage
start n = under_way (fresh n) 0 (tally 0 0)

-- What a walk has come to: one that is under way has kept its survivors so far.
abbrev pub come_to : Stage → Walked
come_to (under_way m p t) = ending (kept (survivors m)) t
come_to (ended w) = w

-- The rule says of a predecessor, a vertex and a successor whether the vertex is to go.
module _ (goes : ℕ → ℕ → ℕ → Bool) where
  -- The vertex at position p is to go.
  abbrev pub to_go : List ℕ → ℕ → Bool
  to_go m p = goes (predecessor m p) p (successor m p)

  -- A decision at position p, which is counted.
  unfoldable pub decide : List ℕ → ℕ → Tally → Stage
  decide m p t =
      elim (to_go m p) [
        -- If the vertex is to go and only three survive, the ring has collapsed. If it is to go otherwise, it is removed, and the walk moves to its predecessor.
        | true ↦ elim (only_three m) [ true ↦ ended (ending collapsed (counted t)) | false ↦ under_way (remove m p) (predecessor m p) (counted t) ]
        -- If it stays, it is marked, and the walk steps forward.
        | false ↦ under_way (set m p marked) (successor m p) (counted t)
      ]

  -- One look at the ring: it ends the walk if all survivors are marked, and otherwise visits the position, which is a turn, to step forward if it is marked and to decide if it isn't.
  unfoldable pub look : Stage → Stage
  look (under_way m p t) =
      elim (all_marked m) [
        | true ↦ ended (ending (kept (survivors m)) t)
        | false ↦ elim (eqb (mark_at m p) marked) [ true ↦ under_way m (successor m p) (stepped_over t) | false ↦ decide m p t ]
      ]
  look (ended w) = ended w

  -- So many looks, one after the other.
  unfoldable pub looks : ℕ → Stage → Stage
  looks zero w = w
  looks (suc v) w = look (looks v w)

  -- The walk of a ring of n positions. Under three it has collapsed, with no turn; otherwise 3 n visits and one more look are enough for it to end.
  unfoldable pub walk : ℕ → Walked
  walk n = elim (ltb n 3) [ true ↦ ending collapsed (tally 0 0) | false ↦ come_to (looks (suc (3 * n)) (start n)) ]
