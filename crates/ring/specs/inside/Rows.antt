-- The two rows that link a ring, and what the code asks and leaves of them and of the marks.
use Rattle.std.specs.Prelude.{ℕ, ◌+◌, ◌-◌, ◌^◌, ◌<◌, ◌≤◌, ◌≡◌, Bool, true, false, List, ◌++◌, length, get_or, set, replicate}
use Rattle.ring.specs.Walk.{unmarked, marked, removed, mark_at, Survivor, survivors, successor, predecessor, occurrences, unmark, unmark_about, remove, fresh, to_go, Walked, tally, ending, walk}
use Rattle.ring.specs.Walk.End.{kept, collapsed}
use Rattle.ring.specs.Promises.{idle_round}
use Rattle.ring.specs.declared.Ending.{Ending}

-- Each survivor has its successor in one row and its predecessor in the other.
pub record Linked (m next prev : List ℕ) : Type 0 where
  pub next_long : length next ≡ length m
  pub prev_long : length prev ≡ length m
  pub to_successor : (p : ℕ) → Survivor m p → get_or next p 0 ≡ successor m p
  pub to_predecessor : (p : ℕ) → Survivor m p → get_or prev p 0 ≡ predecessor m p

-- Three rows of one length, whose positions fit their elements.
pub record Level (next prev mark : List ℕ) : Type 0 where
  pub next_long : length next ≡ length mark
  pub prev_long : length prev ≡ length mark
  pub some : 1 ≤ length mark
  pub few : length mark ≤ 2 ^ 32

-- All n positions are linked, none marked.
pub record AllLinked (n : ℕ) (mark next prev : List ℕ) : Type 0 where
  pub marks : mark ≡ fresh n
  pub linked : Linked mark next prev

-- The row of n positions with the first k marked.
abbrev pub first_marked : ℕ → ℕ → List ℕ
first_marked n k = replicate k marked ++ fresh (n - k)

module _ (goes : ℕ → ℕ → ℕ → Bool) (n : ℕ) where
  -- The first k positions of a ring of n stand: none of them is to go, with its neighbours where nothing is removed.
  abbrev pub FirstStand : ℕ → Type 0
  FirstStand k = (j : ℕ) → j < k → to_go goes (fresh n) j ≡ false

  -- The first k stand, and the next one is to go, if there is one.
  pub record Standing (k : ℕ) : Type 0 where
    pub within : k ≤ n
    pub stand : FirstStand k
    pub next_goes : k < n → to_go goes (fresh n) k ≡ true

  -- All positions are linked, and the first k are marked, which stand.
  pub record Begun (k : ℕ) (mark next prev : List ℕ) : Type 0 where
    pub inside : k < n
    pub stand : FirstStand k
    pub marks : mark ≡ first_marked n k
    pub linked : Linked mark next prev

-- Position c is unmarked, and others survive beside it.
pub record Removable (m next prev : List ℕ) (c : ℕ) : Type 0 where
  pub due : mark_at m c ≡ unmarked
  pub others : 1 < length (survivors m)
  pub linked : Linked m next prev

-- Position c is out of the ring, with no other mark changed, and p was its predecessor.
pub record Unlinked (m : List ℕ) (c : ℕ) (m' next prev : List ℕ) (p : ℕ) : Type 0 where
  pub marks : m' ≡ set m c removed
  pub linked : Linked m' next prev
  pub before : p ≡ predecessor m c

-- Position p is unmarked, which took so many marks off.
pub record Unmarked (m : List ℕ) (p : ℕ) (m' : List ℕ) (taken : ℕ) : Type 0 where
  pub marks : m' ≡ unmark m p
  pub fewer : occurrences marked m' + taken ≡ occurrences marked m
  pub small : taken ≤ 1

-- Position p and its neighbours are unmarked, which took so many marks off.
pub record UnmarkedAbout (m : List ℕ) (p : ℕ) (m' : List ℕ) (taken : ℕ) : Type 0 where
  pub marks : m' ≡ unmark_about m p
  pub fewer : occurrences marked m' + taken ≡ occurrences marked m
  pub small : taken ≤ 3

-- Vertex c is removed, which took so many marks off.
pub record Removed (m : List ℕ) (c : ℕ) (m' next prev : List ℕ) (taken : ℕ) : Type 0 where
  pub marks : m' ≡ remove m c
  pub linked : Linked m' next prev
  pub fewer : occurrences marked m' + taken ≡ occurrences marked m
  pub small : taken ≤ 3

-- A ring in which the walk has come to position p, which is marked, though not all are: each survivor has its predecessor in a row, and so many remain.
pub record Idling (m prev : List ℕ) (p remaining : ℕ) : Type 0 where
  pub prev_long : length prev ≡ length m
  pub to_predecessor : (q : ℕ) → Survivor m q → get_or prev q 0 ≡ predecessor m q
  pub met : mark_at m p ≡ marked
  pub some : occurrences unmarked m ≡ 0 → ⊥
  pub remaining_is : remaining ≡ length (survivors m)

-- The turns of a walk that kept a ring: the decisions that were made where it met a marked position, and its last round.
abbrev pub turns_of : Ending → List ℕ → ℕ
turns_of e m = e.decisions - occurrences unmarked m + idle_round m e.at

-- The walk that an ending tells of, with the survivors in the row of marks.
abbrev pub ended_as : Ending → List ℕ → Walked
ended_as e m =
    elim e.kept [
      | true ↦ ending (kept (survivors m)) (tally e.decisions (turns_of e m))
      | false ↦ ending collapsed (tally e.decisions e.decisions)
    ]

-- A walk met a marked position; each survivor has its predecessor in a row, and the numbers are small.
pub record Halted (m prev : List ℕ) (e : Ending) : Type 0 where
  pub prev_long : length prev ≡ length m
  pub to_predecessor : (q : ℕ) → Survivor m q → get_or prev q 0 ≡ predecessor m q
  pub met : mark_at m e.at ≡ marked
  pub due : occurrences unmarked m ≤ e.decisions
  pub small : e.decisions + length m < 2 ^ 64

-- The walk of a ring of n ended so, with these marks, and with links back from which its turns can be told.
pub record Ended (goes : ℕ → ℕ → ℕ → Bool) (n : ℕ) (m prev : List ℕ) (e : Ending) : Type 0 where
  pub is : walk goes n ≡ ended_as e m
  pub halted : e.kept ≡ true → Halted m prev e
