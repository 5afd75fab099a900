-- The lines of a job that are read bring its set.
use mathlib.Core.Path.{◌≡◌, refl, sym, ◌∙◌, ap, ap₂, subst}
use mathlib.Core.Bool.{Bool, true, false}
use mathlib.Core.List.{List, [], ◌∷◌, ◌++◌, map, append_assoc, append-nil}
use Prim.Native.Nat.{ℕ, suc, ◌+◌, ◌-◌, ◌*◌, ◌/◌, ◌≤◌, ◌<◌}
use native.Mathlib.Omega.{arith}
use native.Mathlib.Nat.{add-zero}
use lib.Dec.{T}
use lib.ListN.{length, take, length-append}
use lib.Seq.{take_at, take-length}
use lib.IntN.{ℤ}
use Rattle.grid.specs.Domain.{count}
use Rattle.buffer.specs.Spans.{rows, laid}
use Rattle.buffer.specs.Sets.{joined, contour_spans, shape_spans, Even}
use Rattle.setfile.specs.Entries.{Entry, entry, contours_of, Gathered, gathered, shapes_of}
use Rattle.setfile.specs.Writing.{most_contours}
use Rattle.setfile.specs.Promises.{Each, Started}
use Rattle.jobtext.specs.Text.{line, lines}
use Rattle.jobread.specs.declared.Place.TheVariants.{Start}
use Rattle.jobread.specs.declared.Reader.{Reader}
use Rattle.jobread.specs.Reading.{State, most_numbers, state_at, run, nothing}
use Rattle.jobread.proofs.RunLaws.{run-append}
use Rattle.jobpack.proofs.LineRun.{push, push_all, Endable, finish, Small, worded, line_run}

-- so many numbers more
abbrev plus : Reader → ℕ → Reader
plus r k = record { place = r.place; begins = r.begins; start = r.start; numbers = r.numbers + k; contours = r.contours; shapes = r.shapes; first = r.first }

abbrev grown_by : State → List ℤ → ℕ → State
grown_by s p k = record { points = p; lines = record { reader = plus s.lines.reader k; contours = s.lines.contours; shapes = s.lines.shapes } }

abbrev grown : State → List ℤ → State
grown s c = grown_by s (s.points ++ c) (length c)

grown_is : (s : State) (c : List ℤ) → push_all s c ≡ grown s c
unfolding push_all
grown_is s [] =
    ap₂ (λ (p : List ℤ) (n : ℕ). record {
      points = p;
      lines = record {
        reader = record { place = s.lines.reader.place; begins = s.lines.reader.begins; start = s.lines.reader.start; numbers = n; contours = s.lines.reader.contours; shapes = s.lines.reader.shapes; first = s.lines.reader.first };
        contours = s.lines.contours;
        shapes = s.lines.shapes;
      };
    }) (sym (append-nil s.points)) (sym (add-zero s.lines.reader.numbers))
grown_is s (z ∷ c) =
    let n : s.lines.reader.numbers + 1 + length c ≡ s.lines.reader.numbers + length (z ∷ c) = omega arith in
    grown_is (push s z) c
    ∙ ap₂ (λ (p : List ℤ) (n : ℕ). record {
      points = p;
      lines = record {
        reader = record { place = s.lines.reader.place; begins = s.lines.reader.begins; start = s.lines.reader.start; numbers = n; contours = s.lines.reader.contours; shapes = s.lines.reader.shapes; first = s.lines.reader.first };
        contours = s.lines.contours;
        shapes = s.lines.shapes;
      };
    }) (append_assoc s.points (z ∷ []) c) n

true_false : true ≡ false → ⊥
true_false e = subst T e tt

-- behind a line
abbrev after_line : State → Bool → List ℤ → State
after_line s b c = finish (grown (worded s b) c)

-- contours that have room behind what was read
record Good (s : State) (l : List Entry) : Type 0 where
  few : s.lines.reader.contours + length l ≤ most_contours
  short : s.lines.reader.numbers + length (joined (contours_of l)) ≤ most_numbers
  even : Even (contours_of l)
  small : Each Small (contours_of l)

-- the line of a contour, behind lines that are counted so
one_line : (s : State) (b : Bool) (c : List ℤ) (l : List Entry) → Good s (entry b c ∷ l) → s.lines.reader.numbers ≡ 2 * s.lines.reader.start
    → (b ≡ false → 0 < s.lines.reader.shapes) → s.lines.reader.shapes ≤ s.lines.reader.contours
    → run (state_at s Start) (lines (entry b c ∷ l)) ≡ run (state_at (after_line s b c) Start) (lines l)
unfolding lines joined
one_line s b c l g e h m =
    let n = length-append c (joined (contours_of l)) in
    let x : Endable (grown (worded s b) c).lines.reader =
    record { even = omega (arith, g.even.0); held = h; contours_few = omega (arith, g.few); shapes_few = omega (arith, g.few) } in
    run-append (state_at s Start) (line (entry b c)) (lines l)
    ∙ ap (λ (t : State). run t (lines l))
    (line_run s (entry b c) g.small.0 (omega (arith, g.short)) (subst (λ (t : State). Endable t.lines.reader) (sym (grown_is (worded s b) c)) x)
    ∙ ap finish (grown_is (worded s b) c))

good_rest : (s : State) (b : Bool) (c : List ℤ) (l : List Entry) → Good s (entry b c ∷ l) → Good (after_line s b c) l
unfolding joined
good_rest s b c l g = record {
  few = omega (arith, g.few);
  short = omega (arith, g.short, length-append c (joined (contours_of l)));
  even = g.even.1;
  small = g.small.1;
}

-- a last shape is there, which began with contour number first
record Open (s : State) (done : List (List ℕ)) : Type 0 where
  even : s.lines.reader.numbers ≡ 2 * s.lines.reader.start
  last : s.lines.shapes ≡ done ++ ((s.lines.reader.first ∷ s.lines.reader.contours ∷ []) ∷ [])
  number : s.lines.reader.shapes ≡ length done + 1
  fewer : s.lines.reader.shapes ≤ s.lines.reader.contours

-- the ranges of the last shape, which has so many contours more, and of those behind it
abbrev ranges : ℕ → ℕ → Gathered → List (List ℕ)
ranges first n g = rows (record { start = first; end = n + length g.loose } ∷ laid (n + length g.loose) (map length g.shapes))

-- what is read of lines
record Brought (s : State) (done : List (List ℕ)) (l : List Entry) (t : State) : Type 0 where
  place : t.lines.reader.place ≡ Start
  points : t.points ≡ s.points ++ joined (contours_of l)
  contours : t.lines.contours ≡ s.lines.contours ++ rows (laid s.lines.reader.start (map count (contours_of l)))
  shapes : t.lines.shapes ≡ done ++ ranges s.lines.reader.first s.lines.reader.contours (gathered l)

open_hole : (s : State) (done : List (List ℕ)) (c : List ℤ) → Open s done → length c ≡ 2 * count c → Open (after_line s false c) done
open_hole s done c o e = record {
  even = omega (arith, o.even);
  last = ap (λ (p : List (List ℕ)). p ++ ((s.lines.reader.first ∷ (s.lines.reader.contours + 1) ∷ []) ∷ []))
      (ap (take (s.lines.reader.shapes - 1)) o.last ∙ take_at done _ (s.lines.reader.shapes - 1) (omega (arith, o.number)));
  number = omega (arith, o.number);
  fewer = omega (arith, o.fewer, o.number);
}

open_shape : (s : State) (done : List (List ℕ)) (c : List ℤ) → Open s done → length c ≡ 2 * count c → Open (after_line s true c) s.lines.shapes
open_shape s done c o e =
    let n : length s.lines.shapes ≡ s.lines.reader.shapes = ap length o.last ∙ length-append done _ ∙ sym o.number in
    record {
      even = omega (arith, o.even);
      last = ap (λ (p : List (List ℕ)). p ++ ((s.lines.reader.contours ∷ (s.lines.reader.contours + 1) ∷ []) ∷ []))
          (ap (λ (k : ℕ). take k s.lines.shapes) (sym n) ∙ take-length s.lines.shapes);
      number = omega (arith, n);
      fewer = omega (arith, o.fewer);
    }

-- of one line and the others
module _ (s : State) (c : List ℤ) (l : List Entry) (e : s.lines.reader.numbers ≡ 2 * s.lines.reader.start) (even : length c ≡ 2 * count c) where
  next_start : (s.lines.reader.numbers + length c) / 2 ≡ s.lines.reader.start + count c
  next_start = omega arith

  points_more : (p : List ℤ) → p ≡ (s.points ++ c) ++ joined (contours_of l) → p ≡ s.points ++ (c ++ joined (contours_of l))
  points_more p h = h ∙ append_assoc s.points c (joined (contours_of l))

  contours_more : (q : List (List ℕ)) → q ≡ (s.lines.contours ++ ((s.lines.reader.start ∷ ((s.lines.reader.numbers + length c) / 2) ∷ []) ∷ [])) ++ rows (laid ((s.lines.reader.numbers + length c) / 2) (map count (contours_of l)))
      → q ≡ s.lines.contours ++ rows (laid s.lines.reader.start (count c ∷ map count (contours_of l)))
  unfolding laid
  contours_more q h =
      h ∙ append_assoc s.lines.contours _ _
      ∙ ap (λ (k : ℕ). s.lines.contours ++ ((s.lines.reader.start ∷ k ∷ []) ∷ rows (laid k (map count (contours_of l))))) next_start

open_run : (s : State) (done : List (List ℕ)) (l : List Entry) → Open s done → Good s l → Brought s done l (run (state_at s Start) (lines l))
unfolding run lines joined laid gathered
open_run s done [] o g = record {
  place = refl;
  points = sym (append-nil s.points);
  contours = sym (append-nil s.lines.contours);
  shapes = o.last ∙ ap (λ (n : ℕ). done ++ ((s.lines.reader.first ∷ n ∷ []) ∷ [])) (sym (add-zero s.lines.reader.contours));
}
open_run s done (a ∷ l) o g = go (λ t d x y. open_run t d l x y) a.begins a.points g
  where
    r : Reader
    r = s.lines.reader

    go : ((t : State) (d : List (List ℕ)) → Open t d → Good t l → Brought t d l (run (state_at t Start) (lines l)))
        → (b : Bool) (c : List ℤ) → Good s (entry b c ∷ l) → Brought s done (entry b c ∷ l) (run (state_at s Start) (lines (entry b c ∷ l)))
    go others false c h =
        let x = others (after_line s false c) done (open_hole s done c o h.even.0) (good_rest s false c l h) in
        let n : r.contours + 1 + length (gathered l).loose ≡ r.contours + suc (length (gathered l).loose) = omega arith in
        subst (λ (t : State). Brought s done (entry false c ∷ l) t) (sym (one_line s false c l h o.even (λ z. omega (arith, o.number)) o.fewer))
        (record {
          place = x.place;
          points = points_more s c l o.even h.even.0 _ x.points;
          contours = contours_more s c l o.even h.even.0 _ x.contours;
          shapes = x.shapes ∙ ap (λ (k : ℕ). done ++ rows (record { start = r.first; end = k } ∷ laid k (map length (gathered l).shapes))) n;
        })
    go others true c h =
        let x = others (after_line s true c) s.lines.shapes (open_shape s done c o h.even.0) (good_rest s true c l h) in
        let k : ℕ = length (gathered l).loose in
        let z : r.contours ≡ r.contours + 0 = sym (add-zero r.contours) in
        let n : r.contours + 1 + k ≡ r.contours + 0 + suc k = omega arith in
        subst (λ (t : State). Brought s done (entry true c ∷ l) t) (sym (one_line s true c l h o.even (λ w. absurd (true_false w)) o.fewer))
        (record {
          place = x.place;
          points = points_more s c l o.even h.even.0 _ x.points;
          contours = contours_more s c l o.even h.even.0 _ x.contours;
          shapes = x.shapes ∙ ap (λ (p : List (List ℕ)). p ++ ranges r.contours (r.contours + 1) (gathered l)) o.last ∙ append_assoc done _ _
              ∙ ap₂ (λ (i j : ℕ). done ++ ((r.first ∷ i ∷ []) ∷ (i ∷ j ∷ []) ∷ rows (laid j (map length (gathered l).shapes)))) z n;
        })

-- the set of contours, in the state that all of their lines leave
pub record Set (l : List Entry) (t : State) : Type 0 where
  pub place : t.lines.reader.place ≡ Start
  pub points : t.points ≡ joined (contours_of l)
  pub contours : t.lines.contours ≡ rows (contour_spans (contours_of l))
  pub shapes : t.lines.shapes ≡ rows (shape_spans (shapes_of l))

pub all_run : (l : List Entry) → Started l → length l ≤ most_contours → length (joined (contours_of l)) ≤ most_numbers → Even (contours_of l) → Each Small (contours_of l)
    → Set l (run (state_at nothing Start) (lines l))
unfolding run lines joined laid gathered
all_run [] h few short even small = record { place = refl; points = refl; contours = refl; shapes = refl }
all_run (a ∷ l) h few short even small =
    go a.begins a.points h (record { few = omega arith; short = omega arith; even = even; small = small })
  where
    go : (b : Bool) (c : List ℤ) → b ≡ true → Good nothing (entry b c ∷ l) → Set (entry b c ∷ l) (run (state_at nothing Start) (lines (entry b c ∷ l)))
    go false c w g = absurd (true_false (sym w))
    go true c w g =
        let s : State = after_line nothing true c in
        let o : Open s [] = record { even = omega (arith, g.even.0); last = refl; number = omega arith; fewer = omega arith } in
        let x = open_run s [] l o (good_rest nothing true c l g) in
        let n : 1 + length (gathered l).loose ≡ 0 + suc (length (gathered l).loose) = omega arith in
        subst (λ (t : State). Set (entry true c ∷ l) t) (sym (one_line nothing true c l g (omega arith) (λ z. absurd (true_false z)) (omega arith)))
        (record {
          place = x.place;
          points = x.points;
          contours = contours_more nothing c l (omega arith) g.even.0 _ x.contours;
          shapes = x.shapes ∙ ap (λ (k : ℕ). (0 ∷ k ∷ []) ∷ rows (laid k (map length (gathered l).shapes))) n;
        })
