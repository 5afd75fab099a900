-- A text, read character by character: the set that it carries, or what is wrong with it.
use Rattle.std.specs.Prelude.{Bool, true, false, not, ◌&&◌, ◌||◌, List, [], ◌∷◌, ◌++◌, ℕ, ◌+◌, ◌-◌, ◌/◌, ◌%◌, eqb, ltb, leb, get_or, take, ℤ, pos, neg_ℤ}
use Rattle.setfile.specs.Writing.{most_contours}
use Rattle.jobtext.specs.Text.{word}
use Rattle.replies.specs.declared.refusal.Refusal.TheVariants.{TooMany, OffGrid, CantCarry}
use Rattle.jobread.specs.declared.Place.{Place}
use Rattle.jobread.specs.declared.Place.TheVariants.{Head, Start, Word, Space, Dash, Number, NoHead, NoLine, Refused}
use Rattle.jobread.specs.declared.Reader.{Reader}
use Rattle.jobread.specs.Places.{digit, after_head, after_space, after_dash, after_digit, largest}

-- the most numbers of a set
abbrev pub most_numbers : ℕ
most_numbers = 131072

-- a reader, with the ranges of the contours and of the shapes that came
pub record Lines : Type 0 where
  pub reader : Reader
  pub contours : List (List ℕ)
  pub shapes : List (List ℕ)

-- and the numbers that came
pub record State : Type 0 where
  pub points : List ℤ
  pub lines : Lines

-- a reader elsewhere
abbrev pub moved : Reader → Place → Reader
moved r p = record { place = p; begins = r.begins; start = r.start; numbers = r.numbers; contours = r.contours; shapes = r.shapes; first = r.first }

abbrev pub lines_at : Lines → Place → Lines
lines_at l p = record { reader = moved l.reader p; contours = l.contours; shapes = l.shapes }

abbrev pub state_at : State → Place → State
state_at s p = record { points = s.points; lines = lines_at s.lines p }

-- behind the first letter of a line
abbrev pub opened : Reader → Bool → Reader
opened r begins = record { place = Word begins 1; begins = begins; start = r.start; numbers = r.numbers; contours = r.contours; shapes = r.shapes; first = r.first }

-- in front of a line: s or h is due
unfoldable pub after_start : Reader → ℕ → Reader
after_start r c = elim (eqb c 115) [ true ↦ opened r true | false ↦ elim (eqb c 104) [ true ↦ opened r false | false ↦ moved r NoLine ] ]

-- where the range of the shape of a contour is written: behind the others if it begins a shape, else over the last
abbrev pub slot : Bool → ℕ → ℕ
slot true m = m
slot false m = m - 1

-- which contour begins its shape
abbrev pub opens : Bool → ℕ → ℕ → ℕ
opens true n first = n
opens false n first = first

-- one contour more, and its shape
abbrev pub one_more : Lines → Lines
one_more l =
    let r = l.reader in
    let k = slot r.begins r.shapes in
    let first = opens r.begins r.contours r.first in
    record {
      reader = record { place = Start; begins = r.begins; start = r.numbers / 2; numbers = r.numbers; contours = r.contours + 1; shapes = k + 1; first = first };
      contours = l.contours ++ ((r.start ∷ (r.numbers / 2) ∷ []) ∷ []);
      shapes = take k l.shapes ++ ((first ∷ (r.contours + 1) ∷ []) ∷ []);
    }

-- at a line's end: no line is one of an odd count of numbers, and no hole before any shape; 12 for over 4,095 contours
unfoldable pub ended : Lines → Lines
ended l =
    let r = l.reader in
    elim (eqb (r.numbers % 2) 1 || (not r.begins && eqb r.shapes 0)) [
      | true ↦ lines_at l NoLine
      | false ↦ elim (leb most_contours r.contours || leb most_contours r.shapes) [ true ↦ lines_at l (Refused CantCarry) | false ↦ one_more l ]
    ]

-- behind a word or a number a space or the line's end is due
unfoldable pub behind : Lines → ℕ → Lines
behind l c = elim (eqb c 32) [ true ↦ lines_at l Space | false ↦ elim (eqb c 10) [ true ↦ ended l | false ↦ lines_at l NoLine ] ]

-- behind k letters of a word the next is due
unfoldable pub in_word : Bool → ℕ → Lines → ℕ → Lines
in_word b k l c =
    elim (eqb (get_or (word b) k 0) 0) [
      | true ↦ behind l c
      | false ↦ elim (eqb c (get_or (word b) k 0)) [ true ↦ lines_at l (Word b (k + 1)) | false ↦ lines_at l NoLine ]
    ]

-- a number, by its sign and its size
abbrev pub value : Bool → ℕ → ℤ
value true size = neg_ℤ (pos size)
value false size = pos size

-- one number more
abbrev pub counted : Reader → Reader
counted r = record { place = r.place; begins = r.begins; start = r.start; numbers = r.numbers + 1; contours = r.contours; shapes = r.shapes; first = r.first }

abbrev pub taken : State → ℤ → ℕ → State
taken s z c = record {
  points = s.points ++ (z ∷ []);
  lines = behind (record { reader = counted s.lines.reader; contours = s.lines.contours; shapes = s.lines.shapes }) c;
}

-- behind digits: a digit more, or the number's end; 3 for one that is too large, and 2 for over 65,536 points
unfoldable pub in_number : Bool → ℕ → State → ℕ → State
in_number below size s c =
    elim (ltb (digit c) 10) [
      | true ↦ state_at s (after_digit below size (digit c))
      | false ↦ elim (ltb largest size) [
        | true ↦ state_at s (Refused OffGrid)
        | false ↦ elim (leb most_numbers s.lines.reader.numbers) [ true ↦ state_at s (Refused TooMany) | false ↦ taken s (value below size) c ]
      ]
    ]

-- one character more; what is damaged or refused stays so
abbrev pub step_at : Place → State → ℕ → State
step_at (Head k) s c = state_at s (after_head k c)
step_at Start s c = record { points = s.points; lines = record { reader = after_start s.lines.reader c; contours = s.lines.contours; shapes = s.lines.shapes } }
step_at (Word b k) s c = record { points = s.points; lines = in_word b k s.lines c }
step_at Space s c = state_at s (after_space c)
step_at Dash s c = state_at s (after_dash c)
step_at (Number below size) s c = in_number below size s c
step_at NoHead s c = s
step_at NoLine s c = s
step_at (Refused r) s c = s

unfoldable pub step : State → ℕ → State
step s c = step_at s.lines.reader.place s c

unfoldable pub run : State → List ℕ → State
run s [] = s
run s (c ∷ t) = run (step s c) t

-- in front of a text
abbrev pub before_all : Reader
before_all = record { place = Head 0; begins = false; start = 0; numbers = 0; contours = 0; shapes = 0; first = 0 }

abbrev pub nothing : State
nothing = record { points = []; lines = record { reader = before_all; contours = []; shapes = [] } }
