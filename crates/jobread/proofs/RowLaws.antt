-- What stands in front of the rows once a number, a contour and its shape are written there.
use mathlib.Core.Path.{◌≡◌, refl, sym, ◌∙◌, ap, ap₂}
use mathlib.Core.Bool.{Bool, true, false, not, ◌&&◌, ◌||◌}
use mathlib.Core.List.{List, [], ◌∷◌, ◌++◌}
use Prim.Native.Nat.{ℕ, zero, suc, ◌+◌, ◌/◌, ◌%◌, ◌≤◌, ◌<◌}
use native.Mathlib.Omega.{arith}
use native.Mathlib.Numerals.{add-one}
use lib.Dec.{eqb, leb}
use lib.ListN.{length, get_or, take, set}
use lib.Seq.{take-suc-set, take-take}
use lib.IntN.{ℤ, pos, neg_ℤ, ◌-ℤ◌, +ℤ_idl}
use mir.Syntax.{w32}
use mir.Val.{SFits, to_z, of_z}
use mir.Facts.{to_z_pos, to_z-of_z}
use Rattle.setfile.specs.Writing.{most_contours}
use Rattle.jobtext.specs.Text.{word}
use Rattle.replies.specs.declared.refusal.Refusal.TheVariants.{CantCarry}
use Rattle.jobread.specs.declared.Place.TheVariants.{Start, Space, Word, NoLine, Refused}
use Rattle.jobread.specs.declared.Reader.{Reader}
use Rattle.jobread.specs.Reading.{Lines, moved, lines_at, opened, after_start, slot, opens, one_more, ended, behind, in_word, counted, taken}
use Rattle.jobread.specs.inside.Rows.{lines_of, state_of}

-- the number below zero of a size
below_same : (size : ℕ) → size ≤ 2147483647 → pos 0 -ℤ to_z w32 size ≡ neg_ℤ (pos size)
below_same zero h = refl
below_same (suc n) h = ap (λ (z : ℤ). pos 0 -ℤ z) (to_z_pos w32 {n = suc n} (omega arith)) ∙ +ℤ_idl (neg_ℤ (pos (suc n)))

fits_below : (size : ℕ) → size ≤ 2147483647 → SFits w32 (neg_ℤ (pos size))
fits_below zero h = record { sfits = omega arith }
fits_below (suc n) h = record { sfits = omega arith }

pub below_fits : (size : ℕ) → size ≤ 2147483647 → SFits w32 (pos 0 -ℤ to_z w32 size)
below_fits size h = rw (below_same size h) (fits_below size h)

pub below_is : (size : ℕ) → size ≤ 2147483647 → to_z w32 (of_z w32 (pos 0 -ℤ to_z w32 size)) ≡ neg_ℤ (pos size)
below_is size h = to_z-of_z (below_fits size h) ∙ below_same size h

pub slot_low : (b : Bool) (m : ℕ) → slot b m ≤ m
slot_low true m = omega arith
slot_low false m = omega arith

-- one entry more stands in front
front-set : {A : Type 0} (l : List A) (n : ℕ) (a : A) → n < length l → take (n + 1) (set l n a) ≡ take n l ++ (a ∷ [])
front-set l n a h = rw (add-one n) (take-suc-set l n a h)

pub one_more_rows : (r : Reader) (contours shapes : List (List ℕ)) (k first : ℕ) → k ≡ slot r.begins r.shapes → first ≡ opens r.begins r.contours r.first
    → r.contours < length contours → r.shapes < length shapes
    → lines_of (record { place = Start; begins = r.begins; start = r.numbers / 2; numbers = r.numbers; contours = r.contours + 1; shapes = k + 1; first = first })
    (set contours r.contours (r.start ∷ (r.numbers / 2) ∷ [])) (set shapes k (first ∷ (r.contours + 1) ∷ []))
    ≡ one_more (lines_of r contours shapes)
one_more_rows r contours shapes k first e f h g =
    let low = slot_low r.begins r.shapes in
    let its : List ℕ = opens r.begins r.contours r.first ∷ (r.contours + 1) ∷ [] in
    rw (e, f)
    (ap₂ (λ (cs ss : List (List ℕ)). record {
      reader = record { place = Start; begins = r.begins; start = r.numbers / 2; numbers = r.numbers; contours = r.contours + 1; shapes = slot r.begins r.shapes + 1; first = opens r.begins r.contours r.first };
      contours = cs;
      shapes = ss;
    })
    (front-set contours r.contours _ h)
    (front-set shapes (slot r.begins r.shapes) its (omega arith) ∙ ap (λ (l : List (List ℕ)). l ++ (its ∷ [])) (sym (take-take (slot r.begins r.shapes) r.shapes shapes low))))

-- no number comes or goes
ended_numbers : (l : Lines) → (ended l).reader.numbers ≡ l.reader.numbers
unfolding ended
ended_numbers l = go (eqb (l.reader.numbers % 2) 1 || (not l.reader.begins && eqb l.reader.shapes 0)) (leb most_contours l.reader.contours || leb most_contours l.reader.shapes)
  where
    next : Bool → Bool → Lines
    next a b = elim a [ true ↦ lines_at l NoLine | false ↦ elim b [ true ↦ lines_at l (Refused CantCarry) | false ↦ one_more l ] ]

    go : (a b : Bool) → (next a b).reader.numbers ≡ l.reader.numbers
    go true b = refl
    go false true = refl
    go false false = refl

behind_numbers : (l : Lines) (c : ℕ) → (behind l c).reader.numbers ≡ l.reader.numbers
unfolding behind
behind_numbers l c = go (eqb c 32) (eqb c 10)
  where
    next : Bool → Bool → Lines
    next a b = elim a [ true ↦ lines_at l Space | false ↦ elim b [ true ↦ ended l | false ↦ lines_at l NoLine ] ]

    go : (a b : Bool) → (next a b).reader.numbers ≡ l.reader.numbers
    go true b = refl
    go false true = ended_numbers l
    go false false = refl

pub word_numbers : (w : Bool) (k : ℕ) (l : Lines) (c : ℕ) → (in_word w k l c).reader.numbers ≡ l.reader.numbers
unfolding in_word
word_numbers w k l c = go (eqb (get_or (word w) k 0) 0) (eqb c (get_or (word w) k 0))
  where
    next : Bool → Bool → Lines
    next a b = elim a [ true ↦ behind l c | false ↦ elim b [ true ↦ lines_at l (Word w (k + 1)) | false ↦ lines_at l NoLine ] ]

    go : (a b : Bool) → (next a b).reader.numbers ≡ l.reader.numbers
    go true b = behind_numbers l c
    go false true = refl
    go false false = refl

-- rows of which only the ranges were written to
pub same_points : (r q : Reader) (points : List ℤ) (contours shapes : List (List ℕ)) (l : Lines) → lines_of q contours shapes ≡ l → l.reader.numbers ≡ r.numbers
    → state_of q points contours shapes ≡ record { points = take r.numbers points; lines = l }
same_points r q points contours shapes l e n =
    ap₂ (λ (k : ℕ) (m : Lines). record { points = take k points; lines = m }) (ap (λ (m : Lines). m.reader.numbers) e ∙ n) e

-- one number more
pub taken_rows : (r q : Reader) (points : List ℤ) (contours shapes new others : List (List ℕ)) (y z : ℤ) (c : ℕ) → y ≡ z → r.numbers < length points
    → lines_of q new others ≡ behind (lines_of (counted r) contours shapes) c
    → state_of q (set points r.numbers y) new others ≡ taken (state_of r points contours shapes) z c
taken_rows r q points contours shapes new others y z c s h e =
    same_points (counted r) q (set points r.numbers y) new others _ e (behind_numbers (lines_of (counted r) contours shapes) c)
    ∙ ap (λ (p : List ℤ). record { points = p; lines = behind (lines_of (counted r) contours shapes) c }) (front-set points r.numbers y h ∙ ap (λ (w : ℤ). take r.numbers points ++ (w ∷ [])) s)

-- in front of a line nothing is written
pub started : (r : Reader) (c : ℕ) (points : List ℤ) (contours shapes : List (List ℕ))
    → state_of (after_start r c) points contours shapes
    ≡ record { points = take r.numbers points; lines = record { reader = after_start r c; contours = take r.contours contours; shapes = take r.shapes shapes } }
unfolding after_start
started r c points contours shapes = go (eqb c 115) (eqb c 104)
  where
    next : Bool → Bool → Reader
    next a b = elim a [ true ↦ opened r true | false ↦ elim b [ true ↦ opened r false | false ↦ moved r NoLine ] ]

    go : (a b : Bool) → state_of (next a b) points contours shapes
        ≡ record { points = take r.numbers points; lines = record { reader = next a b; contours = take r.contours contours; shapes = take r.shapes shapes } }
    go true b = refl
    go false true = refl
    go false false = refl
