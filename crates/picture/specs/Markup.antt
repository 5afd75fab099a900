-- Elements as text, and what it means that a text is well formed.
use Rattle.std.specs.Prelude.{◌≡◌, Bool, true, false, not, ◌&&◌, ◌||◌, List, [], ◌∷◌, ◌++◌, ℕ, eqb, leb}
use Rattle.report.specs.Text.{space, line_end}

-- an attribute: its name and its value
pub record Attribute : Type 0 where
  pub name : List ℕ
  pub value : List ℕ

abbrev pub attribute : List ℕ → List ℕ → Attribute
attribute name value = record { name = name; value = value }

-- attributes, each behind a space: the name, =, and the value in quotes
abbrev pub attributes : List Attribute → List ℕ
attributes [] = []
attributes (a ∷ l) = (space ++ a.name ++ 61 ∷ 34 ∷ a.value ++ 34 ∷ []) ++ attributes l

-- an element: <, its name and attributes, >, what stands in it, </, its name, >
abbrev pub element : List ℕ → List Attribute → List ℕ → List ℕ
element name l inner = 60 ∷ name ++ attributes l ++ 62 ∷ inner ++ 60 ∷ 47 ∷ name ++ 62 ∷ []

-- an element in which nothing stands: <, its name and attributes, />
abbrev pub lone : List ℕ → List Attribute → List ℕ
lone name l = 60 ∷ name ++ attributes l ++ 47 ∷ 62 ∷ []

-- each of a list passes a test
abbrev pub all : (ℕ → Bool) → List ℕ → Bool
all p [] = true
all p (k ∷ l) = p k && all p l

-- a character from one to another
abbrev pub from_to : ℕ → ℕ → ℕ → Bool
from_to a b k = leb a k && leb k b

-- a letter
abbrev pub letter : ℕ → Bool
letter k = from_to 65 90 k || from_to 97 122 k

-- a character of a name: a letter or a hyphen
abbrev pub in_name : ℕ → Bool
in_name k = letter k || eqb k 45

-- a character of a text: printable ASCII or the end of a line, and neither & nor <
abbrev pub in_text : ℕ → Bool
in_text k = (from_to 32 126 k || eqb k 10) && (not (eqb k 38) && not (eqb k 60))

-- a character of a value: one of a text, and no quote
abbrev pub in_value : ℕ → Bool
in_value k = in_text k && not (eqb k 34)

-- a name begins with a letter
abbrev pub Name : List ℕ → Type 0
Name [] = ⊥
Name (k ∷ l) = (letter k ≡ true) × (all in_name l ≡ true)

-- two lists of characters are the same
abbrev pub same_name : List ℕ → List ℕ → Bool
same_name [] [] = true
same_name [] (b ∷ m) = false
same_name (a ∷ l) [] = false
same_name (a ∷ l) (b ∷ m) = eqb a b && same_name l m

-- no attribute has this name
abbrev pub unnamed : List ℕ → List Attribute → Bool
unnamed name [] = true
unnamed name (a ∷ l) = not (same_name name a.name) && unnamed name l

-- attributes of an element: names and values, and no name twice
abbrev pub Sound : List Attribute → Type 0
Sound [] = Unit {0}
Sound (a ∷ l) = Name a.name × (all in_value a.value ≡ true) × (unnamed a.name l ≡ true) × Sound l

-- what may stand in an element: text, and elements
pub data Content : List ℕ → Type 0 where
  nothing : Content []
  words : (w : List ℕ) {rest : List ℕ} → all in_text w ≡ true → Content rest → Content (w ++ rest)
  alone : (name : List ℕ) (l : List Attribute) {rest : List ℕ} → Name name → Sound l → Content rest → Content (lone name l ++ rest)
  holding : (name : List ℕ) (l : List Attribute) {inner rest : List ℕ} → Name name → Sound l → Content inner → Content rest → Content (element name l inner ++ rest)

-- a document: one element, in which all else stands, and the end of the line
pub record WellFormed (t : List ℕ) : Type 0 where
  pub name : List ℕ
  pub attrs : List Attribute
  pub inner : List ℕ
  pub is : t ≡ element name attrs inner ++ line_end
  pub named : Name name
  pub sound : Sound attrs
  pub content : Content inner
