-- The row of shape ranges, filled contour by contour.
use Rattle.std.proofs.Common.{◌≡◌, ℕ, suc, ◌+◌, ◌-◌, ◌<◌, ◌≤◌, Bool, true, false, List, [], ◌∷◌, map, length, set, ℤ, sym, refl, ap, ◌∙◌, subst, ap₂, arith}
use lib.ListN.{length-map}
use Rattle.rows.specs.Rows.{front}
use Rattle.buffer.specs.Spans.{row, rows, laid}
use Rattle.buffer.specs.Sets.{shape_spans}
use Rattle.setfile.specs.declared.inner.filling.Open.{Open}
use Rattle.setfile.specs.Entries.{Entry, entry, shapes_of, gathered}
use Rattle.setfile.specs.declared.inner.headers.Header.{Header}
use Rattle.setfile.specs.inside.Reading.{contained, from_bit, header_in, size_of, front_points, Readable, next_open, closed}
use Rattle.setfile.proofs.ContourLaws.{size_is, front_is}
use Rattle.setfile.proofs.RestLaws.{Rest, Next, next, done, rest_all}
use Rattle.setfile.proofs.AheadLaws.{Ahead, ahead_one, ahead_none}
use Rattle.buffer.proofs.SetLaws.{laid-length}
use Rattle.setfile.proofs.FillLaws.{Filling, ahead_front, coming, to_come, filled}

-- the shape ranges, the first of which starts at contour from and is met up to contour i
abbrev pub shapes_made : ℕ → ℕ → List Entry → List (List ℕ)
shapes_made from i l = rows (laid from ((i - from + length (gathered l).loose) ∷ map length (shapes_of l)))

-- the shape that is met ends where the next begins, or goes on
shape_ends : (from i : ℕ) (c : List ℤ) (l : List Entry) → from ≤ i → shapes_made from i (entry true c ∷ l) ≡ (from ∷ i ∷ []) ∷ shapes_made i (i + 1) l
unfolding laid gathered
shape_ends from i c l h =
    let a : from + (i - from + 0) ≡ i = omega arith in
    let b : suc (length (gathered l).loose) ≡ i + 1 - i + length (gathered l).loose = omega arith in
    ap₂ (λ (e k : ℕ). (from ∷ e ∷ []) ∷ rows (laid e (k ∷ map length (shapes_of l)))) a b

shape_goes_on : (from i : ℕ) (c : List ℤ) (l : List Entry) → from ≤ i → shapes_made from i (entry false c ∷ l) ≡ shapes_made from (i + 1) l
unfolding gathered
shape_goes_on from i c l h =
    let a : i - from + suc (length (gathered l).loose) ≡ i + 1 - from + length (gathered l).loose = omega arith in
    ap (λ (k : ℕ). rows (laid from (k ∷ map length (shapes_of l)))) a

last_shape : (from i : ℕ) → from ≤ i → shapes_made from i [] ≡ (from ∷ i ∷ []) ∷ []
unfolding laid gathered
last_shape from i h =
    let a : from + (i - from + 0) ≡ i = omega arith in
    ap (λ (e : ℕ). (from ∷ e ∷ []) ∷ []) a

first_shape : (c : List ℤ) (l : List Entry) → rows (shape_spans (shapes_of (entry true c ∷ l))) ≡ shapes_made 0 1 l
unfolding gathered
first_shape c l =
    let a : suc (length (gathered l).loose) ≡ 1 - 0 + length (gathered l).loose = omega arith in
    ap (λ (k : ℕ). rows (laid 0 (k ∷ map length (shapes_of l)))) a

-- one contour more
module _ {second : Bool} {f : List ℕ} {n i at : ℕ} (s : Open) {row₀ wanted now : List (List ℕ)} (x : Filling second f n row₀ wanted (shapes_made s.from i) i at s.number now) (h : s.from ≤ i) where
  pub shapes_room : s.number < length now
  unfolding laid
  shapes_room = omega (arith, x.ahead.room)

  -- the row from the shape's number on, by what is to be written there
  abbrev From_here : List (List ℕ) → Type 0
  From_here l = Ahead row₀ wanted s.number l now

  -- as a contour that begins a shape or not leaves it
  abbrev Met : Open → ℕ → List (List ℕ) → Type 0
  Met t z new = Filling second f n row₀ wanted (shapes_made t.from (i + 1)) (i + 1) (at + z) t.number new

  module _ (l : i < n) (k : Header) (q : k ≡ header_in second (from_bit f at)) (z : ℕ) (g : z ≡ size_of second k) where
    shapes_more : Met (next_open k.begins s i) z (closed k.begins s i now)
    shapes_more = go k.begins (subst (λ (e : Entry). From_here (shapes_made s.from i (e ∷ rest))) (front_is second (from_bit f at) ∙ ap (λ (b : Bool). entry b c) (sym (ap (λ (k : Header). k.begins) q))) (to_come x l))
      where
        c : List ℤ
        c = front_points second (from_bit f at)

        rest : List Entry
        rest = (coming x l).rest

        go : (b : Bool) → From_here (shapes_made s.from i (entry b c ∷ rest)) → Met (next_open b s i) z (closed b s i now)
        go true a =
            let d : From_here ((s.from ∷ i ∷ []) ∷ shapes_made i (i + 1) rest) = subst From_here (shape_ends s.from i c rest h) a in
            filled x l (shapes_made i (i + 1)) (s.number + 1) _ (ahead_one (s.from ∷ i ∷ []) (s.from ∷ i ∷ []) (shapes_made i (i + 1) rest) (s.number + 1) refl refl d) k q z g
        go false a = filled x l (shapes_made s.from (i + 1)) s.number now (subst From_here (shape_goes_on s.from i c rest h) a) k q z g

    -- the same, as the code leaves it
    pub shapes_next : (t : Open) (new : List (List ℕ)) → t ≡ next_open k.begins s i → new ≡ closed k.begins s i now
        → (t.from ≤ i + 1) × Filling second f n row₀ wanted (shapes_made t.from (i + 1)) (i + 1) (at + z) t.number new
    shapes_next t new u v =
        subst (λ (t : Open). (t.from ≤ i + 1) × Met t z new) (sym u) (from_there k.begins, subst (Met (next_open k.begins s i) z) (sym v) shapes_more)
      where
        from_there : (b : Bool) → (next_open b s i).from ≤ i + 1
        from_there true = omega arith
        from_there false = omega arith

  pub shapes_done : i ≡ n → set now s.number (s.from ∷ n ∷ []) ≡ wanted
  shapes_done e =
      let a : From_here (shapes_made s.from i []) = subst (λ (l : List Entry). From_here (shapes_made s.from i l)) (done x.due e) x.ahead in
      ahead_none (ahead_one (s.from ∷ n ∷ []) (s.from ∷ i ∷ []) [] (s.number + 1) (ap (λ (k : ℕ). s.from ∷ k ∷ []) (sym e)) refl (subst From_here (last_shape s.from i h) a))

pub shapes_laid : (l : List Entry) → length (shape_spans (shapes_of l)) ≡ length (shapes_of l)
shapes_laid l = laid-length 0 (map length (shapes_of l)) ∙ length-map (shapes_of l) length

-- behind the first contour
pub shapes_first : (s : Bool) (f : List ℕ) (n : ℕ) (row₀ : List (List ℕ)) → Readable s f n → 0 < n → length (shapes_of (contained f)) ≤ length row₀ → (k : Header) → k ≡ header_in s (from_bit f 16) → (z : ℕ) → z ≡ size_of s k
    → Filling s f n row₀ (front (rows (shape_spans (shapes_of (contained f)))) row₀) (shapes_made 0 1) 1 (16 + z) 0 row₀
shapes_first s f n row₀ r h room k q z g =
    let x : Next s f n 0 16 (contained f) = next (rest_all r) h in
    let c : List ℤ = front_points s (from_bit f 16) in
    let all : List (List ℕ) = rows (shape_spans (shapes_of (contained f))) in
    let e : contained f ≡ entry true c ∷ x.rest = x.is ∙ ap (λ (e : Entry). e ∷ x.rest) (front_is s (from_bit f 16) ∙ ap (λ (b : Bool). entry b c) (x.begun refl)) in
    let d : all ≡ shapes_made 0 1 x.rest = ap (λ (l : List Entry). rows (shape_spans (shapes_of l))) e ∙ first_shape c x.rest in
    let m : length all ≡ length (shapes_of (contained f)) = length-map (shape_spans (shapes_of (contained f))) row ∙ shapes_laid (contained f) in
    record {
      rest = x.rest;
      due = subst (λ (y : ℕ). Rest s f n 1 (16 + y) x.rest) (size_is s (from_bit f 16) ∙ ap (size_of s) (sym q) ∙ sym g) x.due;
      ahead = subst (λ (l : List (List ℕ)). Ahead row₀ (front all row₀) 0 l row₀) d (ahead_front row₀ all (omega arith));
    }

-- no contours
pub no_shapes : {s : Bool} {f : List ℕ} (row : List (List ℕ)) → Readable s f 0 → row ≡ front (rows (shape_spans (shapes_of (contained f)))) row
unfolding gathered laid
no_shapes row r = sym (ap (λ (l : List Entry). front (rows (shape_spans (shapes_of l))) row) (done (rest_all r) refl))
