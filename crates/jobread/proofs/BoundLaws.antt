-- The counts of a reader never pass the most.
use mathlib.Core.Path.{◌≡◌, refl, ap}
use mathlib.Core.Bool.{Bool, true, false, not, ◌&&◌, ◌||◌}
use mathlib.Core.List.{List, [], ◌∷◌}
use Prim.Native.Nat.{ℕ, ◌+◌, ◌%◌, ◌≤◌}
use native.Mathlib.Omega.{arith}
use lib.Dec.{eqb, ltb, leb}
use lib.ListN.{get_or}
use lib.IntN.{ℤ}
use borrow.Author.Tests.{leb-false}
use Rattle.integers.proofs.Logic.{or_left, or_right}
use Rattle.setfile.specs.Writing.{most_contours}
use Rattle.jobtext.specs.Text.{word}
use Rattle.replies.specs.declared.refusal.Refusal.TheVariants.{TooMany, OffGrid, CantCarry}
use Rattle.jobread.specs.declared.Place.{Place}
use Rattle.jobread.specs.declared.Place.TheVariants.{Head, Start, Word, Space, Dash, Number, NoHead, NoLine, Refused}
use Rattle.jobread.specs.declared.Reader.{Reader}
use Rattle.jobread.specs.Places.{digit, largest, after_digit}
use Rattle.jobread.specs.Reading.{Lines, State, most_numbers, moved, lines_at, state_at, opened, after_start, one_more, ended, behind, in_word, value, counted, taken, in_number, step_at, step, run, nothing}
use Rattle.jobread.specs.inside.Rows.{state_of, Rooms, Bounded}
use Rattle.jobread.proofs.RowLaws.{slot_low}

-- within the most
pub record Few (r : Reader) : Type 0 where
  pub numbers : r.numbers ≤ most_numbers
  pub contours : r.contours ≤ most_contours
  pub shapes : r.shapes ≤ most_contours

started_few : (r : Reader) (c : ℕ) → Few r → Few (after_start r c)
unfolding after_start
started_few r c x = go (eqb c 115) (eqb c 104)
  where
    next : Bool → Bool → Reader
    next a b = elim a [ true ↦ opened r true | false ↦ elim b [ true ↦ opened r false | false ↦ moved r NoLine ] ]

    go : (a b : Bool) → Few (next a b)
    go true b = record { numbers = x.numbers; contours = x.contours; shapes = x.shapes }
    go false true = record { numbers = x.numbers; contours = x.contours; shapes = x.shapes }
    go false false = record { numbers = x.numbers; contours = x.contours; shapes = x.shapes }

ended_few : (l : Lines) → Few l.reader → Few (ended l).reader
unfolding ended
ended_few l x = go (eqb (r.numbers % 2) 1 || (not r.begins && eqb r.shapes 0)) (leb most_contours r.contours || leb most_contours r.shapes) refl
  where
    r : Reader
    r = l.reader

    next : Bool → Bool → Lines
    next a b = elim a [ true ↦ lines_at l NoLine | false ↦ elim b [ true ↦ lines_at l (Refused CantCarry) | false ↦ one_more l ] ]

    go : (a b : Bool) → (leb most_contours r.contours || leb most_contours r.shapes) ≡ b → Few (next a b).reader
    go true b e = record { numbers = x.numbers; contours = x.contours; shapes = x.shapes }
    go false true e = record { numbers = x.numbers; contours = x.contours; shapes = x.shapes }
    go false false e = record {
      numbers = x.numbers;
      contours = omega (arith, leb-false most_contours r.contours (or_left (leb most_contours r.contours) (leb most_contours r.shapes) e));
      shapes = omega (arith, slot_low r.begins r.shapes, leb-false most_contours r.shapes (or_right (leb most_contours r.contours) (leb most_contours r.shapes) e));
    }

behind_few : (l : Lines) (c : ℕ) → Few l.reader → Few (behind l c).reader
unfolding behind
behind_few l c x = go (eqb c 32) (eqb c 10)
  where
    next : Bool → Bool → Lines
    next a b = elim a [ true ↦ lines_at l Space | false ↦ elim b [ true ↦ ended l | false ↦ lines_at l NoLine ] ]

    go : (a b : Bool) → Few (next a b).reader
    go true b = record { numbers = x.numbers; contours = x.contours; shapes = x.shapes }
    go false true = ended_few l x
    go false false = record { numbers = x.numbers; contours = x.contours; shapes = x.shapes }

word_few : (w : Bool) (k : ℕ) (l : Lines) (c : ℕ) → Few l.reader → Few (in_word w k l c).reader
unfolding in_word
word_few w k l c x = go (eqb (get_or (word w) k 0) 0) (eqb c (get_or (word w) k 0))
  where
    next : Bool → Bool → Lines
    next a b = elim a [ true ↦ behind l c | false ↦ elim b [ true ↦ lines_at l (Word w (k + 1)) | false ↦ lines_at l NoLine ] ]

    go : (a b : Bool) → Few (next a b).reader
    go true b = behind_few l c x
    go false true = record { numbers = x.numbers; contours = x.contours; shapes = x.shapes }
    go false false = record { numbers = x.numbers; contours = x.contours; shapes = x.shapes }

number_few : (below : Bool) (size : ℕ) (s : State) (c : ℕ) → Few s.lines.reader → Few (in_number below size s c).lines.reader
unfolding in_number
number_few below size s c x = go (ltb (digit c) 10) (ltb largest size) (leb most_numbers s.lines.reader.numbers) refl
  where
    next : Bool → Bool → Bool → State
    next a b d =
        elim a [
          | true ↦ state_at s (after_digit below size (digit c))
          | false ↦ elim b [ true ↦ state_at s (Refused OffGrid) | false ↦ elim d [ true ↦ state_at s (Refused TooMany) | false ↦ taken s (value below size) c ] ]
        ]

    go : (a b d : Bool) → leb most_numbers s.lines.reader.numbers ≡ d → Few (next a b d).lines.reader
    go true b d e = record { numbers = x.numbers; contours = x.contours; shapes = x.shapes }
    go false true d e = record { numbers = x.numbers; contours = x.contours; shapes = x.shapes }
    go false false true e = record { numbers = x.numbers; contours = x.contours; shapes = x.shapes }
    go false false false e =
        behind_few (record { reader = counted s.lines.reader; contours = s.lines.contours; shapes = s.lines.shapes }) c
        (record { numbers = omega (arith, leb-false most_numbers s.lines.reader.numbers e); contours = x.contours; shapes = x.shapes })

step_few : (s : State) (c : ℕ) → Few s.lines.reader → Few (step s c).lines.reader
unfolding step
step_few s c x = go s.lines.reader.place
  where
    same : (p : Place) → Few (moved s.lines.reader p)
    same p = record { numbers = x.numbers; contours = x.contours; shapes = x.shapes }

    go : (p : Place) → Few (step_at p s c).lines.reader
    go (Head k) = same _
    go Start = started_few s.lines.reader c x
    go (Word b k) = word_few b k s.lines c x
    go Space = same _
    go Dash = same _
    go (Number below size) = number_few below size s c x
    go NoHead = x
    go NoLine = x
    go (Refused r) = x

run_few : (s : State) (t : List ℕ) → Few s.lines.reader → Few (run s t).lines.reader
unfolding run
run_few s [] x = x
run_few s (c ∷ t) x = run_few (step s c) t (step_few s c x)

-- what is read of a text lies within the rows
pub read_bounded : (r : Reader) (points : List ℤ) (contours shapes : List (List ℕ)) (t : List ℕ) → Rooms points contours shapes
    → state_of r points contours shapes ≡ run nothing t → Bounded r points contours shapes
read_bounded r points contours shapes t h e =
    let x = run_few nothing t (record { numbers = omega arith; contours = omega arith; shapes = omega arith }) in
    let q : r ≡ (run nothing t).lines.reader = ap (λ (s : State). s.lines.reader) e in
    let y : Few r = rw q x in
    record {
      in_points = omega (arith, y.numbers, h.in_points);
      in_contours = omega (arith, y.contours, h.ranges.in_contours);
      in_shapes = omega (arith, y.shapes, h.ranges.in_shapes);
      few = y.contours;
    }
