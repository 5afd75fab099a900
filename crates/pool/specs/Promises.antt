-- What the theorems speak of: histories of calls, and what a press can know of them.
use Rattle.std.specs.Prelude.{Bool, true, List, [], ◌∷◌, ℕ, ◌-◌, ◌≤◌, eqb}
use Rattle.replies.specs.Ladder.{first_of}
use Rattle.pool.specs.Lists.{Entry, capacity, held, if_so, free}
use Rattle.pool.specs.Calls.{Call, refusals, told, done, unless, after}
use Rattle.pool.specs.Calls.Call.{add, remove}
use Rattle.pool.specs.Rows.{Lent}
use Rattle.pool.specs.Outcome.{called}

-- a call and who makes it
pub record Made : Type 0 where
  pub press : ℕ
  pub call : Call

-- a tool that a call adds is one of 256
abbrev pub Fit : Call → Type 0
Fit (add tool contour) = tool ≤ 255
Fit remove = Unit {0}

-- each call is made by one of the two presses
abbrev pub ByTwo : List Made → Type 0
ByTwo [] = Unit {0}
ByTwo (m ∷ h) = (m.press ≤ 1) × ByTwo h

-- each tool of a history is one of 256
abbrev pub AllFit : List Made → Type 0
AllFit [] = Unit {0}
AllFit (m ∷ h) = Fit m.call × AllFit h

-- the list after a history
unfoldable pub run : Bool → List Made → List Entry → List Entry
run enough [] l = l
run enough (m ∷ h) l = run enough h (after enough m.press m.call l)

-- the lent rows after a history
unfoldable pub run_rows : List Made → Lent → Lent
run_rows [] s = s
run_rows (m ∷ h) s = run_rows h (called m.press m.call s).pool

-- what a press is told in a history, call by call
unfoldable pub heard : Bool → ℕ → List Made → List Entry → List ℕ
heard enough p [] l = []
heard enough p (m ∷ h) l =
    if_so (eqb p m.press) (told enough p l m.call) (heard enough p h (after enough m.press m.call l))

-- what a press is told in a history of lent rows, call by call
unfoldable pub heard_rows : ℕ → List Made → Lent → List ℕ
heard_rows p [] s = []
heard_rows p (m ∷ h) s =
    let o = called m.press m.call s in
    if_so (eqb p m.press) o.reply (heard_rows p h o.pool)

-- a call, and the free count before it
pub record Seen : Type 0 where
  pub call : Call
  pub free : ℕ

-- a press's own calls in a history, each with the free count before it
unfoldable pub seen : Bool → ℕ → List Made → List Entry → List Seen
seen enough p [] l = []
seen enough p (m ∷ h) l =
    if_so (eqb p m.press) (record { call = m.call; free = free l }) (seen enough p h (after enough m.press m.call l))

-- what a press is told, by its own contours and the free count alone
abbrev pub told_free : Bool → List Entry → ℕ → Call → ℕ
told_free enough mine f c = first_of (refusals true enough mine (capacity - held mine - f) c)

-- what a press is told by its own calls and the free counts alone, from its own contours on
unfoldable pub alone : Bool → ℕ → List Seen → List Entry → List ℕ
alone enough p [] mine = []
alone enough p (s ∷ h) mine =
    let r = told_free enough mine s.free s.call in
    r ∷ alone enough p h (unless r (done p s.call mine) mine)

-- the contours that a press has by its own calls and the free counts alone: those of a set of its own
unfoldable pub own_set : Bool → ℕ → List Seen → List Entry → List Entry
own_set enough p [] mine = mine
own_set enough p (s ∷ h) mine =
    let r = told_free enough mine s.free s.call in
    own_set enough p h (unless r (done p s.call mine) mine)
