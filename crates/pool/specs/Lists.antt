-- A pool as a plain list of contours, the oldest first.
use Rattle.std.specs.Prelude.{◌≡◌, Bool, true, false, not, ◌||◌, List, [], ◌∷◌, ◌++◌, ℕ, ◌+◌, ◌-◌, ◌*◌, ◌≤◌, max, eqb, length, ℤ}
use Rattle.grid.specs.Domain.{count}

-- a contour in the pool: its numbers, the tool that cuts it, and its press, 0 or 1
pub record Entry : Type 0 where
  pub contour : List ℤ
  pub tool : ℕ
  pub press : ℕ

-- a press's contour
abbrev pub entry : ℕ → ℕ → List ℤ → Entry
entry press tool contour = record { contour = contour; tool = tool; press = press }

-- the points that the pool can hold
abbrev pub capacity : ℕ
capacity = 65536

-- those that are kept for each press
abbrev pub reserve : ℕ
reserve = 16384

-- how many points a contour of n holds: an empty one counts as one
abbrev pub holding : ℕ → ℕ
holding n = max 1 n

-- the points that contours hold
unfoldable pub held : List Entry → ℕ
held [] = 0
held (e ∷ l) = holding (count e.contour) + held l

-- a contour is a press's
abbrev pub mine : ℕ → Entry → Bool
mine p e = eqb p e.press

-- one in front of others, if this holds
abbrev pub if_so : {A : Type 0} → Bool → A → List A → List A
if_so true a l = a ∷ l
if_so false a l = l

-- the contours of a press, read in order
unfoldable pub own : ℕ → List Entry → List Entry
own p [] = []
own p (e ∷ l) = if_so (mine p e) e (own p l)

-- the other press
abbrev pub other : ℕ → ℕ
other p = 1 - p

-- the free count: the pool less all held
abbrev pub free : List Entry → ℕ
free l = capacity - held l

-- one contour more, the newest
abbrev pub added : Entry → List Entry → List Entry
added e l = l ++ e ∷ []

-- some contour is a press's
unfoldable pub has : ℕ → List Entry → Bool
has p [] = false
has p (e ∷ l) = mine p e || has p l

-- the list without the newest contour of a press: one stays if the press has a later one, or if it is the other's
unfoldable pub removed : ℕ → List Entry → List Entry
removed p [] = []
removed p (e ∷ l) = if_so (has p l || not (mine p e)) e (removed p l)

-- this holds of every contour
abbrev pub Every : (Entry → Type 0) → List Entry → Type 0
Every P [] = Unit {0}
Every P (e ∷ l) = P e × Every P l

-- its press is one of two
abbrev pub Pressed : Entry → Type 0
Pressed e = e.press ≤ 1

-- its tool is one of 256
abbrev pub Tooled : Entry → Type 0
Tooled e = e.tool ≤ 255

-- it has an even count of numbers
abbrev pub Even : Entry → Type 0
Even e = length e.contour ≡ 2 * count e.contour

-- neither press has passed what the other leaves it
pub record Fair (l : List Entry) : Type 0 where
  pub pressed : Every Pressed l
  pub first : held (own 0 l) + max (held (own 1 l)) reserve ≤ capacity
  pub second : held (own 1 l) + max (held (own 0 l)) reserve ≤ capacity
