-- Sound rows hold the pool that their records name.
use mathlib.Core.Path.{◌≡◌, refl, sym, ◌∙◌, ap, ap₂}
use mathlib.Core.Bool.{Bool, true, false, ◌&&◌, true≢false}
use mathlib.Core.List.{List, [], ◌∷◌, ◌++◌, map, append_assoc}
use Prim.Native.Nat.{ℕ, ◌+◌, ◌*◌, ◌-◌, ◌≤◌, ◌<◌}
use native.Mathlib.Omega.{arith}
use lib.Dec.{eqb, leb}
use lib.ListN.{length, take, drop, length-map, length-drop, take-append-drop}
use lib.Seq.{drop-drop, length-take-le}
use lib.IntN.{ℤ}
use borrow.Author.Tests.{leb-true, lt-leb, le-leb}
use Rattle.integers.proofs.Logic.{and_left, and_right}
use Rattle.grid.specs.Domain.{count}
use Rattle.buffer.specs.Sets.{joined}
use Rattle.pool.specs.Lists.{Entry, capacity, reserve, holding, held, if_so, own, Every, Pressed, Tooled, Even, Fair}
use Rattle.pool.specs.Rows.{Slot, slot, slots, Lent, lent, used, slots_from, numbers, named, contents, chained, if_mine, held_by, fair, sound}
use Rattle.pool.specs.Outcome.{own_slots}
use Rattle.pool.specs.inside.Records.{end_of, total, Lies}
use Rattle.pool.specs.inside.Surveys.{Surveyed}
use Rattle.pool.specs.declared.inner.survey.Survey.{Survey}
use Rattle.pool.proofs.RecordLaws.{Next, next, rises, Surveying, surveyed_chain, surveyed_end, surveyed_first, surveyed_second}
use Rattle.pool.proofs.RowLaws.{front_self}
use Rattle.pool.proofs.LayoutLaws.{lent_is}

module _ (points : List ℤ) (places : ℕ) (long : 2 * places ≤ length points) where
  -- a contour that ends within the points
  named-length : (s : Slot) → s.start ≤ s.end → s.end ≤ places → length (named points s).contour ≡ 2 * (s.end - s.start)
  named-length s f e = length-take-le (2 * s.end - 2 * s.start) (drop (2 * s.start) points) (omega (arith, length-drop (2 * s.start) points)) ∙ omega arith

  module _ (p : ℕ) (s : Slot) (l : List Slot) (j : Next places p s l) where
    size_is : count (named points s).contour ≡ s.end - s.start
    size_is = omega (arith, named-length s j.forward (rises places s.end l j.rest))

    end_is : p + count (named points s).contour ≡ s.end
    end_is = omega (arith, size_is, j.starts, j.forward)

  pub read_slots : (p : ℕ) (l : List Slot) → chained places p l ≡ true → slots_from p (map (named points) l) ≡ l
  unfolding slots_from
  read_slots p [] e = refl
  read_slots p (s ∷ l) e =
      let j = next places p s l e in
      ap₂ (λ (t : Slot) (k : List Slot). t ∷ k)
      (ap₂ (λ (x y : ℕ). record { start = x; end = y; tool = s.tool; press = s.press }) j.starts (end_is p s l j))
      (ap (λ (q : ℕ). slots_from q (map (named points) l)) (end_is p s l j) ∙ read_slots s.end l j.rest)

  pub read_numbers : (p : ℕ) (l : List Slot) → chained places p l ≡ true → drop (2 * p) points ≡ numbers (map (named points) l) ++ drop (2 * end_of p l) points
  unfolding joined end_of
  read_numbers p [] e = refl
  read_numbers p (s ∷ l) e =
      let j = next places p s l e in
      let n = 2 * s.end - 2 * s.start in
      let q : 2 * s.start + n ≡ 2 * s.end = omega (arith, j.forward) in
      ap (λ (k : ℕ). drop (2 * k) points) j.starts
      ∙ sym (take-append-drop n (drop (2 * s.start) points))
      ∙ ap (λ (x : List ℤ). (named points s).contour ++ x)
      (drop-drop n (2 * s.start) points ∙ ap (λ (k : ℕ). drop k points) q ∙ read_numbers s.end l j.rest)
      ∙ sym (append_assoc (named points s).contour (numbers (map (named points) l)) (drop (2 * end_of s.end l) points))

  pub read_total : (p : ℕ) (l : List Slot) → chained places p l ≡ true → p + total (map (named points) l) ≡ end_of p l
  unfolding end_of
  read_total p [] e = omega arith
  read_total p (s ∷ l) e =
      let j = next places p s l e in
      omega (arith, end_is p s l j, read_total s.end l j.rest)

  pub read_held : (p : ℕ) (l : List Slot) (press : ℕ) → chained places p l ≡ true → held (own press (map (named points) l)) ≡ held_by press l
  unfolding held_by own held
  read_held p [] press e = refl
  read_held p (s ∷ l) press e =
      let j = next places p s l e in
      counted (eqb press s.press) (named points s) _ _ _ (ap holding (size_is p s l j)) (read_held s.end l press j.rest)
    where
      counted : (t : Bool) (x : Entry) (k : List Entry) (n m : ℕ) → holding (count x.contour) ≡ n → held k ≡ m → held (if_so t x k) ≡ if_mine t n + m
      counted true x k n m a b = ap₂ (λ (u v : ℕ). u + v) a b
      counted false x k n m a b = omega arith

  pub read_every : (P : Entry → Type 0) → ((p : ℕ) (s : Slot) (l : List Slot) → Next places p s l → P (named points s))
      → (p : ℕ) (l : List Slot) → chained places p l ≡ true → Every P (map (named points) l)
  read_every P f p [] e = tt
  read_every P f p (s ∷ l) e = let j = next places p s l e in (f p s l j, read_every P f s.end l j.rest)

-- a press's contours are those that its records name
pub read_own : (points : List ℤ) (press : ℕ) (l : List Slot) → own press (map (named points) l) ≡ map (named points) (own_slots press l)
unfolding own own_slots
read_own points press [] = refl
read_own points press (s ∷ l) = either (eqb press s.press) (read_own points press l)
  where
    either : (t : Bool) → own press (map (named points) l) ≡ map (named points) (own_slots press l)
        → if_so t (named points s) (own press (map (named points) l)) ≡ map (named points) (if_so t s (own_slots press l))
    either true h = ap (λ (k : List Entry). named points s ∷ k) h
    either false h = h

-- of rows that are sound
module _ (s : Lent) (e : sound s ≡ true) where
  abbrev places : ℕ
  places = count s.points

  abbrev there_and_chained : Bool
  there_and_chained = leb s.contours (length s.records) && chained places 0 (used s)

  pub there : s.contours ≤ length s.records
  unfolding sound
  there = leb-true _ _ (and_left (leb s.contours (length s.records)) _ (and_left there_and_chained _ e))

  pub chain : chained places 0 (used s) ≡ true
  unfolding sound
  chain = and_right (leb s.contours (length s.records)) _ (and_left there_and_chained _ e)

  shares : fair (held_by 0 (used s)) (held_by 1 (used s)) ≡ true
  unfolding sound
  shares = and_right there_and_chained _ e

  long : 2 * places ≤ length s.points
  long = omega arith

  sound_every : (P : Entry → Type 0) → ((p : ℕ) (x : Slot) (l : List Slot) → Next places p x l → P (named s.points x)) → Every P (contents s)
  sound_every P f = read_every s.points places long P f 0 (used s) chain

  pub sound_tooled : Every Tooled (contents s)
  sound_tooled = sound_every Tooled (λ p x l j. j.tool)

  pub sound_lies : Lies (contents s) s
  sound_lies = record {
    even = sound_every Even (λ p x l j. omega (arith, named-length s.points places long x j.forward (rises places x.end l j.rest)));
    is = lent_is
        (front_self s.points (numbers (contents s)) _ (read_numbers s.points places long 0 (used s) chain))
        (front_self s.records (slots_from 0 (contents s)) (drop s.contours s.records) (sym (take-append-drop s.contours s.records) ∙ ap (λ (k : List Slot). k ++ drop s.contours s.records) (sym (read_slots s.points places long 0 (used s) chain))))
        (sym (length-map (used s) (named s.points) ∙ length-take-le s.contours s.records there));
  }

  pub sound_held : (press : ℕ) → held (own press (contents s)) ≡ held_by press (used s)
  sound_held press = read_held s.points places long 0 (used s) press chain

  pub sound_total : total (contents s) ≡ end_of 0 (used s)
  sound_total = omega (arith, read_total s.points places long 0 (used s) chain)

  pub sound_fair : Fair (contents s)
  sound_fair =
      let a = and_left (leb (held_by 0 (used s)) (capacity - reserve) && leb (held_by 1 (used s)) (capacity - reserve)) _ shares in
      let f : held_by 0 (used s) ≤ capacity - reserve = leb-true _ _ (and_left (leb (held_by 0 (used s)) (capacity - reserve)) _ a) in
      let g : held_by 1 (used s) ≤ capacity - reserve = leb-true _ _ (and_right (leb (held_by 0 (used s)) (capacity - reserve)) _ a) in
      let b : held_by 0 (used s) + held_by 1 (used s) ≤ capacity = leb-true _ _ (and_right (leb (held_by 0 (used s)) (capacity - reserve) && leb (held_by 1 (used s)) (capacity - reserve)) _ shares) in
      record {
        pressed = sound_every Pressed (λ p x l j. j.press);
        first = omega (arith, sound_held 0, sound_held 1);
        second = omega (arith, sound_held 0, sound_held 1);
      }

-- what a survey finds
module _ (points : List ℤ) (records : List (List ℕ)) (n : ℕ) where
  abbrev rows : Lent
  rows = lent points records n

  pub not_sound : (f : Survey) → f.sound ≡ false → sound rows ≡ false → Surveyed rows f
  not_sound f h e = record {
    sound_is = h ∙ sym e;
    points_are = λ w. absurd (true≢false (sym w ∙ h));
    first_holds = λ w. absurd (true≢false (sym w ∙ h));
    second_holds = λ w. absurd (true≢false (sym w ∙ h));
  }

  pub too_few : length records < n → sound rows ≡ false
  unfolding sound
  too_few h = rw (lt-leb n (length (slots records)) (omega (arith, length-map records slot)))

  pub broken : chained (count points) 0 (take n (slots records)) ≡ false → sound rows ≡ false
  unfolding sound
  broken e = rw e (no_more (leb n (length (slots records))) _)
    where
      no_more : (a b : Bool) → ((a && false) && b) ≡ false
      no_more true b = refl
      no_more false b = refl

  pub found : {at all second i : ℕ} (whether : Bool) → n ≤ length records → Surveying records n (count points) at all second i → n ≤ i
      → whether ≡ fair (all - second) second → Surveyed rows (record { sound = whether; points = at; first = all - second; second = second })
  unfolding sound
  found whether fit s d h =
      record {
        sound_is = is;
        points_are = λ w. surveyed_end fit s d ∙ sym (sound_total rows (sym is ∙ w));
        first_holds = λ w. surveyed_first fit s d ∙ sym (sound_held rows (sym is ∙ w) 0);
        second_holds = λ w. surveyed_second fit s d ∙ sym (sound_held rows (sym is ∙ w) 1);
      }
    where
      whole_test : sound rows ≡ fair (held_by 0 (take n (slots records))) (held_by 1 (take n (slots records)))
      whole_test = rw (surveyed_chain fit s d, le-leb n (length (slots records)) (omega (arith, length-map records slot)))

      is : whether ≡ sound rows
      is = h ∙ ap₂ fair (surveyed_first fit s d) (surveyed_second fit s d) ∙ sym whole_test
