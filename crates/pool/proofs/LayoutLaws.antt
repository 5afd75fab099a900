-- Pools laid out in rows, with one contour more or less.
use mathlib.Core.Path.{◌≡◌, refl, sym, ◌∙◌, ap, ap₂, subst}
use mathlib.Core.Bool.{true, false}
use mathlib.Core.List.{List, [], ◌∷◌, ◌++◌, map, append_assoc, append-nil, map-append}
use Prim.Native.Nat.{ℕ, zero, suc, ◌+◌, ◌*◌, ◌-◌, ◌≤◌, ◌<◌}
use native.Mathlib.Omega.{arith}
use native.Mathlib.Numerals.{add-one}
use lib.ListN.{length, get_or, set, take, drop, length-append, length-map, length-drop, get_or-append}
use lib.Seq.{split_at, get_or-drop, length-take-le, take-add, take-suc}
use lib.IntN.{ℤ}
use borrow.Author.Tests.{eq-eqb, ne_eqb}
use Rattle.rows.specs.Rows.{front, placed}
use Rattle.rows.proofs.RowLaws.{placed_next}
use Rattle.rows.proofs.PlacedLaws.{set_placed}
use Rattle.grid.specs.Domain.{count}
use Rattle.buffer.specs.Sets.{joined}
use Rattle.std.proofs.lemmas.List.{get_or-map, map-set, take-map, drop-map}
use Rattle.buffer.proofs.SetLaws.{joined-append}
use Rattle.pool.specs.Lists.{Entry, entry, mine, has, added, removed, Every, Even}
use Rattle.pool.specs.Rows.{Slot, slot, slots, Lent, lent, slot_at, slots_from, numbers, laid_out}
use Rattle.pool.specs.inside.Records.{total, press_at, Lies, lowered, Gap}
use Rattle.pool.proofs.ListLaws.{total-append, every_split, has_in, removed_is}
use Rattle.pool.proofs.RowLaws.{map_placed, placed_over, part_behind}

pub lent_is : {p q : List ℤ} {r s : List Slot} {n m : ℕ} → p ≡ q → r ≡ s → n ≡ m
    → ◌≡◌ {A = Lent} (record { points = p; records = r; contours = n }) (record { points = q; records = s; contours = m })
lent_is {q = q} {r = r} {n = n} a b c =
    ap (λ (x : List ℤ). record { points = x; records = r; contours = n }) a
    ∙ ap₂ (λ (y : List Slot) (z : ℕ). record { points = q; records = y; contours = z }) b c

-- contours behind contours
numbers-append : (a b : List Entry) → numbers (a ++ b) ≡ numbers a ++ numbers b
numbers-append a b = ap joined (map-append (λ e. e.contour) a b) ∙ joined-append (map (λ e. e.contour) a) (map (λ e. e.contour) b)

pub slots-append : (p : ℕ) (a b : List Entry) → slots_from p (a ++ b) ≡ slots_from p a ++ slots_from (p + total a) b
unfolding slots_from
slots-append p [] b = ap (λ (q : ℕ). slots_from q b) (omega arith)
slots-append p (e ∷ a) b =
    let q : p + count e.contour + total a ≡ p + (count e.contour + total a) = omega arith in
    ap (λ (k : List Slot). slot_at p e ∷ k) (slots-append (p + count e.contour) a b ∙ ap (λ (n : ℕ). slots_from (p + count e.contour) a ++ slots_from n b) q)

pub slots_length : (p : ℕ) (l : List Entry) → length (slots_from p l) ≡ length l
unfolding slots_from
slots_length p [] = refl
slots_length p (e ∷ l) = ap suc (slots_length (p + count e.contour) l)

pub numbers-length : (l : List Entry) → Every Even l → length (numbers l) ≡ 2 * total l
unfolding joined
numbers-length [] h = refl
numbers-length (e ∷ l) h = omega (arith, length-append e.contour (numbers l), h.0, numbers-length l h.1)

-- rows in which a pool lies
module _ (l : List Entry) (points : List ℤ) (records : List (List ℕ)) (n : ℕ) (h : Lies l (lent points records n)) where
  pub points_are : points ≡ front (numbers l) points
  points_are = ap (λ (s : Lent). s.points) h.is

  pub records_are : slots records ≡ front (slots_from 0 l) (slots records)
  records_are = ap (λ (s : Lent). s.records) h.is

  pub contours_are : n ≡ length l
  contours_are = ap (λ (s : Lent). s.contours) h.is

  pub records_long : n ≤ length records
  records_long =
      omega (arith, length-map records slot, ap length records_are, length-append (slots_from 0 l) (drop (length (slots_from 0 l)) (slots records)), slots_length 0 l, contours_are)

  pub points_long : 2 * total l ≤ length points
  points_long = omega (arith, ap length points_are, length-append (numbers l) (drop (length (numbers l)) points), numbers-length l h.even)

  pub slot_is : (j : ℕ) → j < n → slot (get_or records j []) ≡ get_or (slots_from 0 l) j (slot [])
  slot_is j k =
      let m : j < length (slots_from 0 l) = omega (arith, slots_length 0 l, contours_are) in
      sym (get_or-map slot records j [] (slot []) (omega (arith, records_long)))
      ∙ ap (λ (r : List Slot). get_or r j (slot [])) records_are
      ∙ get_or-append (slots_from 0 l) _ (slot []) j m

  -- one contour more
  pub appended : (e : Entry) (at : ℕ) (p : List ℤ) (r : List (List ℕ)) → at ≡ total l → n < length records
      → p ≡ placed (2 * at) e.contour points → r ≡ set records n (at ∷ (at + count e.contour) ∷ e.tool ∷ e.press ∷ [])
      → lent p r (n + 1) ≡ laid_out (added e l) (lent points records n)
  unfolding joined slots_from
  appended e at p r a m f g =
      let k : 2 * at ≡ length (numbers l) = omega (arith, numbers-length l h.even) in
      let j : n ≡ length (slots_from 0 l) = omega (arith, slots_length 0 l, contours_are) in
      let w : n < length (slots records) = omega (arith, length-map records slot) in
      let z : total l ≡ 0 + total l = omega arith in
      lent_is
      (f ∙ ap (placed (2 * at) e.contour) points_are ∙ placed_next points (numbers l) e.contour (2 * at) k
      ∙ ap (λ (x : List ℤ). front x points) (sym (numbers-append l (e ∷ []) ∙ ap (λ (x : List ℤ). numbers l ++ x) (append-nil e.contour))))
      (ap slots g ∙ map-set slot records n _
      ∙ set_placed (slots records) n _ w
      ∙ ap (placed n _) records_are
      ∙ placed_next (slots records) (slots_from 0 l) _ n j
      ∙ ap (λ (x : List Slot). front x (slots records))
      (ap (λ (q : ℕ). slots_from 0 l ++ slot_at q e ∷ []) (a ∙ z) ∙ sym (slots-append 0 l (e ∷ []))))
      (omega (arith, length-append l (e ∷ []), contours_are))

-- a record whose contour moves down by d points
abbrev lower : ℕ → Slot → Slot
lower d s = record { start = s.start - d; end = s.end - d; tool = s.tool; press = s.press }

lowered_slots : (d : ℕ) (l : List (List ℕ)) → slots (map (lowered d) l) ≡ map (lower d) (slots l)
lowered_slots d [] = refl
lowered_slots d (r ∷ l) = ap (λ (k : List Slot). lower d (slot r) ∷ k) (lowered_slots d l)

slots_lower : (d p : ℕ) (l : List Entry) → map (lower d) (slots_from (p + d) l) ≡ slots_from p l
unfolding slots_from
slots_lower d p [] = refl
slots_lower d p (e ∷ l) =
    let a : p + d - d ≡ p = omega arith in
    let b : p + d + count e.contour - d ≡ p + count e.contour = omega arith in
    let q : p + d + count e.contour ≡ p + count e.contour + d = omega arith in
    ap₂ (λ (s : Slot) (k : List Slot). s ∷ k)
    (ap₂ (λ (x y : ℕ). record { start = x; end = y; tool = e.tool; press = e.press }) a b)
    (ap (λ (x : ℕ). map (lower d) (slots_from x l)) q ∙ slots_lower d (p + count e.contour) l)

none_has : (p : ℕ) (d : Entry) (l : List Entry) → ((j : ℕ) → j < length l → (get_or l j d).press ≡ p → ⊥) → has p l ≡ false
unfolding has
none_has p d [] f = refl
none_has p d (e ∷ l) f =
    rw (ne_eqb p e.press (λ h. f 0 (omega arith) (sym h))) (none_has p d l (λ j k h. f (suc j) (omega arith) h))

-- and the rows without it
module _ (press : ℕ) (a : List Entry) (e : Entry) (b : List Entry) (points : List ℤ) (records : List (List ℕ)) (n : ℕ)
    (h : Lies (a ++ e ∷ b) (lent points records n)) (m : mine press e ≡ true) (o : has press b ≡ false) where
  points_split : points ≡ numbers a ++ (e.contour ++ (numbers b ++ drop (length (numbers (a ++ e ∷ b))) points))
  unfolding joined
  points_split =
      let rest = drop (length (numbers (a ++ e ∷ b))) points in
      points_are (a ++ e ∷ b) points records n h
      ∙ ap (λ (x : List ℤ). x ++ rest) (numbers-append a (e ∷ b))
      ∙ append_assoc (numbers a) (e.contour ++ numbers b) rest
      ∙ ap (λ (x : List ℤ). numbers a ++ x) (append_assoc e.contour (numbers b) rest)

  abbrev behind : ℕ
  behind = 0 + total a + count e.contour

  records_split : slots records ≡ slots_from 0 a ++ ((slot_at (0 + total a) e ∷ []) ++ (slots_from behind b ++ drop (length (slots_from 0 (a ++ e ∷ b))) (slots records)))
  unfolding slots_from
  records_split =
      let rest = drop (length (slots_from 0 (a ++ e ∷ b))) (slots records) in
      records_are (a ++ e ∷ b) points records n h
      ∙ ap (λ (x : List Slot). x ++ rest) (slots-append 0 a (e ∷ b))
      ∙ append_assoc (slots_from 0 a) (slot_at (0 + total a) e ∷ slots_from behind b) rest

  pub taken_out : (p : List ℤ) (r : List (List ℕ))
      → p ≡ placed (2 * total a) (take (2 * total b) (drop (2 * total a + 2 * count e.contour) points)) points
      → r ≡ placed (length a) (map (lowered (count e.contour)) (take (length b) (drop (length a + 1) records))) records
      → lent p r (n - 1) ≡ laid_out (removed press (a ++ e ∷ b)) (lent points records n)
  taken_out p r f g =
      let ev = every_split Even a (e ∷ b) h.even in
      let d = count e.contour in
      let u : length (numbers a) + length e.contour ≡ 2 * total a + 2 * d = omega (arith, numbers-length a ev.0, ev.1.0) in
      let v : length (slots_from 0 a) + 1 ≡ length a + 1 = omega (arith, slots_length 0 a) in
      (lent_is
      (f ∙ ap (λ (x : List ℤ). placed (2 * total a) x points) (part_behind points (numbers a) e.contour (numbers b) _ _ _ points_split u (numbers-length b ev.1.1))
      ∙ placed_over points (numbers a) _ (numbers b) (2 * total a) points_split (numbers-length a ev.0)
      ∙ ap (λ (x : List ℤ). front x points) (sym (numbers-append a b)))
      (ap slots g ∙ map_placed slot (length a) _ records
      ∙ ap (λ (x : List Slot). placed (length a) x (slots records))
      (lowered_slots d (take (length b) (drop (length a + 1) records))
      ∙ ap (map (lower d)) (sym (take-map slot (length b) (drop (length a + 1) records)) ∙ ap (take (length b)) (sym (drop-map slot (length a + 1) records))
      ∙ part_behind (slots records) (slots_from 0 a) (slot_at (0 + total a) e ∷ []) (slots_from behind b) _ _ _ records_split v (slots_length behind b))
      ∙ slots_lower d (0 + total a) b)
      ∙ placed_over (slots records) (slots_from 0 a) _ (slots_from (0 + total a) b) (length a) records_split (slots_length 0 a)
      ∙ ap (λ (x : List Slot). front x (slots records)) (sym (slots-append 0 a b)))
      (omega (arith, contours_are (a ++ e ∷ b) points records n h, length-append a (e ∷ b), length-append a b)))
      ∙ ap (λ (k : List Entry). laid_out k (lent points records n)) (sym (removed_is press a e b m o))

-- what the record of a contour says of those before it
pub slot_at_is : (p : ℕ) (l : List Entry) (k : ℕ) (d : Slot) (e : Entry) → k < length l → get_or (slots_from p l) k d ≡ slot_at (p + total (take k l)) (get_or l k e)
unfolding slots_from
slot_at_is p [] k d e h = absurd (omega arith)
slot_at_is p (x ∷ l) zero d e h = ap (λ (q : ℕ). slot_at q x) (omega arith)
slot_at_is p (x ∷ l) (suc k) d e h =
    let q : p + count x.contour + total (take k l) ≡ p + (count x.contour + total (take k l)) = omega arith in
    slot_at_is (p + count x.contour) l k d e (omega arith) ∙ ap (λ (n : ℕ). slot_at n (get_or l k e)) q

abbrev nobody : Entry
nobody = entry 0 0 []

-- the records of a pool that lies in rows
module _ (l : List Entry) (points : List ℤ) (records : List (List ℕ)) (n : ℕ) (h : Lies l (lent points records n)) where
  record_is : (k : ℕ) → k < n → slot (get_or records k []) ≡ slot_at (0 + total (take k l)) (get_or l k nobody)
  record_is k b = slot_is l points records n h k b ∙ slot_at_is 0 l k (slot []) nobody (omega (arith, contours_are l points records n h))

  start_is : (k : ℕ) → k < n → get_or (get_or records k []) 0 0 ≡ total (take k l)
  start_is k b = ap (λ (s : Slot). s.start) (record_is k b) ∙ omega arith

  end_is : (k : ℕ) → k < n → get_or (get_or records k []) 1 0 ≡ total (take k l) + count (get_or l k nobody).contour
  end_is k b = ap (λ (s : Slot). s.end) (record_is k b) ∙ omega arith

  pub press_is : (k : ℕ) → k < n → press_at records k ≡ (get_or l k nobody).press
  press_is k b = ap (λ (s : Slot). s.press) (record_is k b)

  -- contour number k, those before it and those behind it
  module _ (k : ℕ) (b : k < n) where
    abbrev this : Entry
    this = get_or l k nobody

    split : l ≡ take k l ++ this ∷ drop (suc k) l
    split = split_at l k nobody (omega (arith, contours_are l points records n h))

    total_is : total l ≡ total (take k l) + (count this.contour + total (drop (suc k) l))
    total_is = ap total split ∙ total-append (take k l) (this ∷ drop (suc k) l)

    later : (j : ℕ) → total (take (k + 1 + j) l) ≡ total (take k l) + count this.contour + total (take j (drop (k + 1) l))
    later j =
        ap total (take-add (k + 1) j l) ∙ total-append (take (k + 1) l) (take j (drop (k + 1) l))
        ∙ ap (λ (x : ℕ). x + total (take j (drop (k + 1) l)))
        (ap (λ (i : ℕ). total (take i l)) (add-one k) ∙ ap total (take-suc l k nobody (omega (arith, contours_are l points records n h)))
        ∙ total-append (take k l) (this ∷ []) ∙ omega arith)

    pub gap : (t : ℕ) → t ≡ total l → Gap points records n t k
    gap t q = record {
      there = omega (arith, records_long l points records n h);
      forward = omega (arith, start_is k b, end_is k b);
      ends = omega (arith, end_is k b, total_is);
      long = omega (arith, points_long l points records n h);
      behind = record {
        there = omega (arith, records_long l points records n h);
        starts = λ j m. omega (arith, start_is k b, end_is k b, start_is (k + 1 + j) (omega arith), later j);
        ends = λ j m. omega (arith, start_is k b, end_is k b, end_is (k + 1 + j) (omega arith), later j);
      };
    }

    pub gone : (press t : ℕ) → t ≡ total l → press_at records k ≡ press
        → ((j : ℕ) → k < j → j < n → press_at records j ≡ press → ⊥)
        → (p : List ℤ) (r : List (List ℕ)) (start end : ℕ) → start ≡ get_or (get_or records k []) 0 0 → end ≡ get_or (get_or records k []) 1 0
        → p ≡ placed (2 * start) (take (2 * (t - end)) (drop (2 * start + 2 * (end - start)) points)) points
        → r ≡ placed k (map (lowered (end - start)) (take (n - (k + 1)) (drop (k + 1) records))) records
        → lent p r (n - 1) ≡ laid_out (removed press l) (lent points records n)
    gone press t q m f p r start end u v x y =
        let c = count this.contour in
        let a1 : start ≡ total (take k l) = omega (arith, start_is k b) in
        let a2 : t - end ≡ total (drop (suc k) l) = omega (arith, end_is k b, total_is) in
        let a3 : end - start ≡ c = omega (arith, start_is k b, end_is k b) in
        let a4 : 2 * (end - start) ≡ 2 * c = omega arith in
        let a5 : length (take k l) ≡ k = length-take-le k l (omega (arith, contours_are l points records n h)) in
        let a6 : n - (k + 1) ≡ length (drop (suc k) l) = omega (arith, length-drop (suc k) l, contours_are l points records n h) in
        let mine-is : mine press this ≡ true = eq-eqb press this.press (sym m ∙ press_is k b) in
        let none_is : has press (drop (suc k) l) ≡ false = none_has press nobody (drop (suc k) l) none in
        taken_out press (take k l) this (drop (suc k) l) points records n (subst (λ (z : List Entry). Lies z (lent points records n)) split h) mine-is none_is p r
        (x ∙ ap₂ (λ (i j : ℕ). placed (2 * i) (take (2 * j) (drop (2 * i + 2 * (end - start)) points)) points) a1 a2
        ∙ ap (λ (i : ℕ). placed (2 * total (take k l)) (take (2 * total (drop (suc k) l)) (drop (2 * total (take k l) + i) points)) points) a4)
        (y ∙ ap₂ (λ (i j : ℕ). placed k (map (lowered i) (take j (drop (k + 1) records))) records) a3 a6
        ∙ ap (λ (i : ℕ). placed i (map (lowered c) (take (length (drop (suc k) l)) (drop (i + 1) records))) records) (sym a5))
        ∙ ap (λ (z : List Entry). laid_out (removed press z) (lent points records n)) (sym split)
      where
        none : (j : ℕ) → j < length (drop (suc k) l) → (get_or (drop (suc k) l) j nobody).press ≡ press → ⊥
        none j i e =
            let w : suc k + j < n = omega (arith, length-drop (suc k) l, contours_are l points records n h) in
            f (suc k + j) (omega arith) w (press_is (suc k + j) w ∙ ap (λ (z : Entry). z.press) (sym (get_or-drop (suc k) l j nobody)) ∙ e)

  pub some_newest : (press k : ℕ) → k < n → press_at records k ≡ press → has press l ≡ true
  some_newest press k b e =
      ap (has press) (split k b) ∙ has_in press (take k l) (get_or l k nobody) (drop (suc k) l) (eq-eqb press (get_or l k nobody).press (sym e ∙ press_is k b))

  pub none_newest : (press : ℕ) → ((j : ℕ) → j < n → press_at records j ≡ press → ⊥) → has press l ≡ false
  none_newest press f =
      none_has press nobody l (λ j i e. let w : j < n = omega (arith, contours_are l points records n h) in f j w (press_is j w ∙ e))
