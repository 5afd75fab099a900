-- A line that is read brings its contour.
use mathlib.Core.Path.{◌≡◌, refl, ◌∙◌, ap}
use mathlib.Core.Bool.{Bool, true, false, not, ◌&&◌}
use mathlib.Core.List.{List, [], ◌∷◌, ◌++◌, append_assoc}
use Prim.Native.Nat.{ℕ, ◌+◌, ◌%◌, ◌≤◌, ◌<◌}
use native.Mathlib.Omega.{arith}
use lib.Dec.{eqb}
use lib.ListN.{length}
use lib.IntN.{ℤ, nat_abs}
use lib.IntN.ℤ.{pos, negsuc}
use borrow.Author.Tests.{le-ltb, lt-leb, ne_eqb}
use Rattle.setfile.specs.Entries.{Entry}
use Rattle.setfile.specs.Writing.{most_contours}
use Rattle.setfile.specs.Promises.{Each}
use Rattle.report.specs.Text.{signed, line_end}
use Rattle.jobtext.specs.Text.{word, numbers, line}
use Rattle.jobread.specs.declared.Place.TheVariants.{Start, Word, Space, Number}
use Rattle.jobread.specs.declared.Reader.{Reader}
use Rattle.jobread.specs.Places.{digit, largest}
use Rattle.jobread.specs.Reading.{Lines, State, most_numbers, state_at, opened, after_start, one_more, ended, behind, in_word, value, counted, taken, in_number, step, run}
use Rattle.jobread.proofs.RunLaws.{run-append}
use Rattle.jobpack.proofs.DigitRun.{is_below, run_signed}

value_back : (z : ℤ) → value (is_below z) (nat_abs z) ≡ z
value_back (pos n) = refl
value_back (negsuc n) = refl

-- one number more, and some
abbrev pub push : State → ℤ → State
push s z = record {
  points = s.points ++ (z ∷ []);
  lines = record { reader = counted s.lines.reader; contours = s.lines.contours; shapes = s.lines.shapes };
}

unfoldable pub push_all : State → List ℤ → State
push_all s [] = s
push_all s (z ∷ c) = push_all (push s z) c

-- a line that ends well
pub record Endable (r : Reader) : Type 0 where
  pub even : r.numbers % 2 ≡ 0
  pub held : r.begins ≡ false → 0 < r.shapes
  pub contours_few : r.contours < most_contours
  pub shapes_few : r.shapes < most_contours

abbrev pub finish : State → State
finish s = record { points = s.points; lines = one_more s.lines }

holed : (b : Bool) (m : ℕ) → (b ≡ false → 0 < m) → (not b && eqb m 0) ≡ false
holed true m h = refl
holed false m h = ne_eqb m 0 (λ z. omega (arith, h refl))

ended_well : (l : Lines) → Endable l.reader → ended l ≡ one_more l
unfolding ended
ended_well l x =
    let r = l.reader in
    rw (
      ne_eqb (r.numbers % 2) 1 (λ z. omega (arith, x.even)),
      holed r.begins r.shapes x.held,
      lt-leb most_contours r.contours x.contours_few,
      lt-leb most_contours r.shapes x.shapes_few,
      ended,
    )

-- a number that ends, where it is not too large and has room
number_taken : (below : Bool) (n : ℕ) (s : State) (c : ℕ) → 10 ≤ digit c → n ≤ largest → s.lines.reader.numbers < most_numbers → in_number below n s c ≡ taken s (value below n) c
unfolding in_number
number_taken below n s c h l m =
    rw (le-ltb (digit c) 10 h, le-ltb largest n l, lt-leb most_numbers s.lines.reader.numbers m, in_number)

-- behind it a space, or the line's end
no_digit_32 : 10 ≤ digit 32
unfolding digit
no_digit_32 = omega arith

no_digit_10 : 10 ≤ digit 10
unfolding digit
no_digit_10 = omega arith

module _ (s : State) (z : ℤ) (small : nat_abs z ≤ largest) (roomy : s.lines.reader.numbers < most_numbers) where
  then_space : step (state_at s (Number (is_below z) (nat_abs z))) 32 ≡ state_at (push s z) Space
  unfolding step behind
  then_space =
      number_taken (is_below z) (nat_abs z) (state_at s (Number (is_below z) (nat_abs z))) 32 no_digit_32 small roomy
      ∙ ap (λ (y : ℤ). state_at (push s y) Space) (value_back z)

  then_end : Endable (counted s.lines.reader) → step (state_at s (Number (is_below z) (nat_abs z))) 10 ≡ finish (push s z)
  unfolding step behind
  then_end x =
      number_taken (is_below z) (nat_abs z) (state_at s (Number (is_below z) (nat_abs z))) 10 no_digit_10 small roomy
      ∙ ap (λ (l : Lines). record { points = s.points ++ (value (is_below z) (nat_abs z) ∷ []); lines = l })
      (ended_well (record { reader = counted (state_at s (Number (is_below z) (nat_abs z))).lines.reader; contours = s.lines.contours; shapes = s.lines.shapes })
      (record { even = x.even; held = x.held; contours_few = x.contours_few; shapes_few = x.shapes_few }))
      ∙ ap (λ (y : ℤ). finish (push s y)) (value_back z)

-- numbers that a text can have
abbrev pub Small : List ℤ → Type 0
Small = Each (λ (z : ℤ). nat_abs z ≤ largest)

-- behind the first number of a line
numbers_run : (s : State) (z : ℤ) (c : List ℤ) → Small (z ∷ c) → s.lines.reader.numbers + length (z ∷ c) ≤ most_numbers → Endable (push_all s (z ∷ c)).lines.reader
    → run (state_at s (Number (is_below z) (nat_abs z))) (numbers c ++ line_end) ≡ finish (push_all s (z ∷ c))
unfolding run numbers push_all
numbers_run s z [] h n x = then_end s z h.0 (omega arith) x
numbers_run s z (y ∷ c) h n x =
    ap (run (state_at s (Number (is_below z) (nat_abs z)))) (ap (λ (l : List ℕ). 32 ∷ l) (append_assoc (signed y) (numbers c) line_end))
    ∙ ap (λ (t : State). run t (signed y ++ (numbers c ++ line_end))) (then_space s z h.0 (omega arith))
    ∙ run-append (state_at (push s z) Space) (signed y) (numbers c ++ line_end)
    ∙ ap (λ (t : State). run t (numbers c ++ line_end)) (run_signed (push s z) y h.1.0)
    ∙ numbers_run (push s z) y c h.1 (omega arith) x

-- with this word in front
abbrev pub worded : State → Bool → State
worded s b = record {
  points = s.points;
  lines = record { reader = opened s.lines.reader b; contours = s.lines.contours; shapes = s.lines.shapes };
}

word_run : (s : State) (b : Bool) → run (state_at s Start) (word b) ≡ state_at (worded s b) (Word b (length (word b)))
unfolding run step after_start in_word
word_run s true = refl
word_run s false = refl

word_end : (s : State) (b : Bool) → Endable s.lines.reader → step (state_at s (Word b (length (word b)))) 10 ≡ finish s
unfolding step in_word behind
word_end s true x = ap (λ (l : Lines). record { points = s.points; lines = l })
    (ended_well (state_at s (Word true 5)).lines (record { even = x.even; held = x.held; contours_few = x.contours_few; shapes_few = x.shapes_few }))
word_end s false x = ap (λ (l : Lines). record { points = s.points; lines = l })
    (ended_well (state_at s (Word false 4)).lines (record { even = x.even; held = x.held; contours_few = x.contours_few; shapes_few = x.shapes_few }))

word_space : (s : State) (b : Bool) → step (state_at s (Word b (length (word b)))) 32 ≡ state_at s Space
unfolding step in_word behind
word_space s true = refl
word_space s false = refl

behind_word : (s : State) (b : Bool) (c : List ℤ) → Small c → s.lines.reader.numbers + length c ≤ most_numbers → Endable (push_all s c).lines.reader
    → run (state_at s (Word b (length (word b)))) (numbers c ++ line_end) ≡ finish (push_all s c)
unfolding run numbers push_all
behind_word s b [] h n x = word_end s b x
behind_word s b (z ∷ c) h n x =
    ap (run (state_at s (Word b (length (word b))))) (ap (λ (l : List ℕ). 32 ∷ l) (append_assoc (signed z) (numbers c) line_end))
    ∙ ap (λ (t : State). run t (signed z ++ (numbers c ++ line_end))) (word_space s b)
    ∙ run-append (state_at s Space) (signed z) (numbers c ++ line_end)
    ∙ ap (λ (t : State). run t (numbers c ++ line_end)) (run_signed s z h.0)
    ∙ numbers_run s z c h n x

pub line_run : (s : State) (e : Entry) → Small e.points → s.lines.reader.numbers + length e.points ≤ most_numbers → Endable (push_all (worded s e.begins) e.points).lines.reader
    → run (state_at s Start) (line e) ≡ finish (push_all (worded s e.begins) e.points)
line_run s e h n x =
    ap (run (state_at s Start)) (append_assoc (word e.begins) (numbers e.points) line_end)
    ∙ run-append (state_at s Start) (word e.begins) (numbers e.points ++ line_end)
    ∙ ap (λ (t : State). run t (numbers e.points ++ line_end)) (word_run s e.begins)
    ∙ behind_word (worded s e.begins) e.begins e.points h n x
