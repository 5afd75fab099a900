-- Rows that are filled contour by contour.
use Rattle.std.proofs.Common.{◌≡◌, ℕ, ◌+◌, ◌*◌, ◌<◌, ◌≤◌, Bool, List, [], ◌∷◌, ◌++◌, map, length, set, ℤ, sym, refl, ap, ◌∙◌, subst, arith, length-append}
use lib.ListN.{length-map}
use Rattle.grid.specs.Domain.{count}
use Rattle.rows.specs.Rows.{front, placed}
use Rattle.buffer.specs.Spans.{row, rows, laid}
use Rattle.buffer.specs.Sets.{joined}
use Rattle.rows.proofs.RowLaws.{placed_front}
use Rattle.setfile.specs.declared.inner.headers.Header.{Header}
use Rattle.setfile.specs.Entries.{Entry, contours_of}
use Rattle.setfile.specs.Editions.{layout}
use Rattle.setfile.specs.Format.{points_in}
use Rattle.setfile.specs.inside.Reading.{contained, from_bit, header_in, size_of, front_points, Whole, Readable}
use Rattle.buffer.proofs.SetLaws.{laid-length}
use Rattle.setfile.proofs.ContourLaws.{size_is, front_length, front_count}
use Rattle.setfile.proofs.RestLaws.{Rest, Next, next, done, rest_all}
use Rattle.setfile.proofs.AheadLaws.{Ahead, ahead_all, ahead_more, ahead_one, ahead_none}

pub ahead_front : {A : Type 0} (row₀ l : List A) → length l ≤ length row₀ → Ahead row₀ (front l row₀) 0 l row₀
ahead_front {A} row₀ l h = subst (λ (w : List A). Ahead row₀ w 0 l row₀) (placed_front row₀ l) (ahead_all row₀ l 0 (omega arith))

-- a row that is filled: the rest of the file makes what is still to be written
pub record Filling {A : Type 0} (s : Bool) (f : List ℕ) (n : ℕ) (row₀ wanted : List A) (made : List Entry → List A) (i at to : ℕ) (row : List A) : Type 0 where
  pub rest : List Entry
  pub due : Rest s f n i at rest
  pub ahead : Ahead row₀ wanted to (made rest) row

module _ {A : Type 0} (made : List Entry → List A) where
  pub filling_all : (s : Bool) (f : List ℕ) (n : ℕ) (row₀ : List A) → Readable s f n → length (made (contained f)) ≤ length row₀
      → Filling s f n row₀ (front (made (contained f)) row₀) made 0 16 0 row₀
  filling_all s f n row₀ r h = record { rest = contained f; due = rest_all r; ahead = ahead_front row₀ (made (contained f)) h }

  pub filling_done : {s : Bool} {f : List ℕ} {n i at to : ℕ} {row₀ wanted row : List A} → Filling s f n row₀ wanted made i at to row → i ≡ n → made [] ≡ [] → row ≡ wanted
  filling_done {s} {f} {n} {i} {at} {to} {row₀} {wanted} {row} x e m =
      ahead_none (subst (λ (l : List A). Ahead row₀ wanted to l row) (ap made (done x.due e) ∙ m) x.ahead)

-- one contour more
module _ {A : Type 0} {s : Bool} {f : List ℕ} {n i at to : ℕ} {row₀ wanted : List A} {made : List Entry → List A} {row : List A} (x : Filling s f n row₀ wanted made i at to row) (l : i < n) where
  pub coming : Next s f n i at x.rest
  coming = next x.due l

  pub contour_there : Whole s f at
  contour_there = coming.all_there

  -- it has no more points than bits
  pub contour_counted : (h : Header) → h ≡ header_in s (from_bit f at) → (z : ℕ) → z ≡ size_of s h → h.count ≤ z
  contour_counted h e z q = omega (arith, coming.counted, ap (λ (h : Header). h.count) e, size_is s (from_bit f at) ∙ ap (size_of s) (sym e) ∙ sym q)

  -- what is to be written starts with it
  pub to_come : Ahead row₀ wanted to (made ((layout s).read (from_bit f at) ∷ coming.rest)) row
  to_come = subst (λ (l : List Entry). Ahead row₀ wanted to (made l) row) coming.is x.ahead

  pub filled : (later : List Entry → List A) (k : ℕ) (new : List A) → Ahead row₀ wanted k (later coming.rest) new → (h : Header) → h ≡ header_in s (from_bit f at) → (z : ℕ) → z ≡ size_of s h
      → Filling s f n row₀ wanted later (i + 1) (at + z) k new
  filled later k new a h e z q = record {
    rest = coming.rest;
    due = subst (λ (y : ℕ). Rest s f n (i + 1) (at + y) coming.rest) (size_is s (from_bit f at) ∙ ap (size_of s) (sym e) ∙ sym q) coming.due;
    ahead = a;
  }

-- the points
abbrev pub points_made : List Entry → List ℤ
points_made l = joined (contours_of l)

module _ {s : Bool} {f : List ℕ} {n i at to : ℕ} {row₀ wanted row : List ℤ} (x : Filling s f n row₀ wanted points_made i at to row) (l : i < n) where
  abbrev next_points : List ℤ
  next_points = front_points s (from_bit f at)

  points_rest : List Entry
  points_rest = (coming x l).rest

  points_to_come : Ahead row₀ wanted to (next_points ++ points_made points_rest) row
  unfolding joined points_rest
  points_to_come = to_come x l

  pub points_room : to + 2 * points_in (from_bit f at) ≤ length row
  points_room = omega (arith, points_to_come.room, length-append next_points (points_made points_rest), front_length s (from_bit f at))

  pub points_more : (h : Header) → h ≡ header_in s (from_bit f at) → (z : ℕ) → z ≡ size_of s h → (new : List ℤ) → new ≡ placed to next_points row
      → Filling s f n row₀ wanted points_made (i + 1) (at + z) (to + 2 * h.count) new
  unfolding points_rest
  points_more h e z q new g =
      let k : h.count ≡ points_in (from_bit f at) = ap (λ (h : Header). h.count) e in
      let a : to + 2 * h.count ≡ to + length next_points = omega (arith, front_length s (from_bit f at)) in
      filled x l points_made (to + 2 * h.count) new
      (subst (Ahead row₀ wanted (to + 2 * h.count) (points_made points_rest)) (sym g) (ahead_more next_points (points_made points_rest) (to + 2 * h.count) a points_to_come)) h e z q

-- the contour ranges, the first of which starts at this point
abbrev pub contours_made : ℕ → List Entry → List (List ℕ)
contours_made start l = rows (laid start (map count (contours_of l)))

pub contours_laid : (p : ℕ) (l : List Entry) → length (laid p (map count (contours_of l))) ≡ length l
contours_laid p l = laid-length p (map count (contours_of l)) ∙ length-map (contours_of l) count ∙ length-map l (λ (e : Entry). e.points)

pub contours_made_length : (p : ℕ) (l : List Entry) → length (contours_made p l) ≡ length l
contours_made_length p l = length-map (laid p (map count (contours_of l))) row ∙ contours_laid p l

module _ {s : Bool} {f : List ℕ} {n i at : ℕ} (start : ℕ) {row₀ wanted now : List (List ℕ)} (x : Filling s f n row₀ wanted (contours_made start) i at i now) (l : i < n) where
  contours_rest : List Entry
  contours_rest = (coming x l).rest

  contours_to_come : (k : ℕ) → k ≡ points_in (from_bit f at) → Ahead row₀ wanted i ((start ∷ (start + k) ∷ []) ∷ contours_made (start + k) contours_rest) now
  unfolding laid contours_rest
  contours_to_come k e =
      subst (λ (k : ℕ). Ahead row₀ wanted i ((start ∷ (start + k) ∷ []) ∷ contours_made (start + k) contours_rest) now) (front_count s (from_bit f at) ∙ sym e) (to_come x l)

  pub contours_room : i < length now
  contours_room = omega (arith, (contours_to_come (points_in (from_bit f at)) refl).room)

  pub contours_more : (h : Header) → h ≡ header_in s (from_bit f at) → (z : ℕ) → z ≡ size_of s h
      → Filling s f n row₀ wanted (contours_made (start + h.count)) (i + 1) (at + z) (i + 1) (set now i (start ∷ (start + h.count) ∷ []))
  unfolding contours_rest
  contours_more h e z q =
      filled x l (contours_made (start + h.count)) (i + 1) _
      (ahead_one (start ∷ (start + h.count) ∷ []) _ (contours_made (start + h.count) contours_rest) (i + 1) refl refl (contours_to_come h.count (ap (λ (h : Header). h.count) e))) h e z q
