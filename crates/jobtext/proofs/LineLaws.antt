-- The numbers of a line, and the lines of a file's contours, one behind the other.
use mathlib.Core.Path.{◌≡◌, sym, ◌∙◌, ap, subst}
use mathlib.Core.Bool.{Bool, true}
use mathlib.Core.List.{List, [], ◌∷◌, ◌++◌, append-nil, append_assoc}
use Prim.Native.Nat.{ℕ, ◌+◌, ◌≤◌, ◌<◌}
use native.Mathlib.Omega.{arith}
use native.Mathlib.Numerals.{add-one}
use lib.ListN.{length, get_or, drop, drop_of_length-le}
use lib.Seq.{drop-cons}
use lib.IntN.{ℤ}
use lib.IntN.ℤ.{pos}
use Rattle.grid.specs.Limits.{all_on_grid}
use Rattle.buffer.specs.Sets.{joined}
use Rattle.setfile.specs.declared.inner.headers.Header.{Header}
use Rattle.setfile.specs.Entries.{Entry, entry}
use Rattle.setfile.specs.Editions.{bound}
use Rattle.setfile.specs.inside.Reading.{contained, from_bit, header_in, size_of, Whole, Readable}
use Rattle.setfile.proofs.ContourLaws.{size_is, front_is}
use Rattle.setfile.proofs.RestLaws.{Rest, Next, next, done, rest_all}
use Rattle.report.specs.inside.Lines.{Put}
use Rattle.report.proofs.PutLaws.{Going, going_none, going_room, going_more, going_all, going_same}
use Rattle.report.proofs.LinesLaws.{contour_at}
use Rattle.jobtext.specs.Text.{spaced, numbers, line, lines}

-- from number i on, the numbers of a contour are to be put
pub record Spelling (at : ℕ) (c : List ℤ) (text₀ : List ℕ) (behind : ℕ) (text : List ℕ) (i : ℕ) : Type 0 where
  pub going : Going at (numbers c) text₀ behind text (numbers (drop i c) ∷ [])

pub spelling_none : (at : ℕ) (c : List ℤ) (text : List ℕ) → at + length (numbers c) ≤ length text → Spelling at c text at text 0
unfolding joined
spelling_none at c text h = record { going = going_none at text (numbers c ∷ []) (sym (append-nil (numbers c))) h }

module _ {at : ℕ} {c : List ℤ} {text₀ : List ℕ} {behind : ℕ} {text : List ℕ} {i : ℕ} (x : Spelling at c text₀ behind text i) where
  module _ (z : ℤ) (e : z ≡ get_or c i (pos 0)) (h : i < length c) where
    spelling_next : Going at (numbers c) text₀ behind text (spaced z ∷ numbers (drop (i + 1) c) ∷ [])
    unfolding joined numbers
    spelling_next = going_same _ (rw (drop-cons c i (pos 0) h, add-one i, e) (simp append_assoc)) x.going

    pub spelling_room : behind + length (spaced z) ≤ length text
    spelling_room = going_room spelling_next

    pub spelling_more : {r : ℕ} {exit : List ℕ} → Put behind (spaced z) text r exit → Spelling at c text₀ r exit (i + 1)
    spelling_more p = record { going = going_more spelling_next p }

  pub spelling_all : length c ≤ i → Put at (numbers c) text₀ behind text
  unfolding joined numbers
  spelling_all h = going_all (going_same [] (rw (drop_of_length-le c {i = i} h)) x.going)

-- behind i of a file's n contours, from bit at on, the lines of the rest are due
pub record Lining (s : Bool) (f : List ℕ) (n from : ℕ) (text₀ : List ℕ) (behind : ℕ) (text : List ℕ) (i at : ℕ) : Type 0 where
  pub high : i ≤ n
  pub rest : List Entry
  pub due : Rest s f n i at rest
  pub going : Going from (lines (contained f)) text₀ behind text (lines rest ∷ [])

pub lining_none : (s : Bool) (f : List ℕ) (n from : ℕ) (text : List ℕ) → Readable s f n → from + length (lines (contained f)) ≤ length text → Lining s f n from text from text 0 16
unfolding joined
lining_none s f n from text x h = record {
  high = omega arith;
  rest = contained f;
  due = rest_all x;
  going = going_none from text _ (sym (append-nil _)) h;
}

module _ {s : Bool} {f : List ℕ} {n from : ℕ} {text₀ : List ℕ} {behind : ℕ} {text : List ℕ} {i at : ℕ} (x : Lining s f n from text₀ behind text i at) where
  module _ (h : i < n) where
    coming : Next s f n i at x.rest
    coming = next x.due h

    -- the contour that is met is all there, and on the grid
    pub lining_there : Whole s f at
    lining_there = coming.all_there

    pub lining_on : all_on_grid (bound s) (contour_at s f at) ≡ true
    lining_on = coming.on

    module _ (head : Header) (e : head ≡ header_in s (from_bit f at)) where
      lining_next : Going from (lines (contained f)) text₀ behind text (line (entry head.begins (contour_at s f at)) ∷ lines coming.rest ∷ [])
      unfolding joined lines
      lining_next =
          going_same _
          (append-nil (lines x.rest) ∙ ap lines (coming.is ∙ ap (λ (a : Entry). a ∷ coming.rest) (front_is s (from_bit f at) ∙ ap (λ (b : Header). entry b.begins (contour_at s f at)) (sym e)))
          ∙ ap (λ (l : List ℕ). line (entry head.begins (contour_at s f at)) ++ l) (sym (append-nil (lines coming.rest))))
          x.going

      pub lining_room : behind + length (line (entry head.begins (contour_at s f at))) ≤ length text
      lining_room = going_room lining_next

      pub lining_more : {r : ℕ} {exit : List ℕ} → Put behind (line (entry head.begins (contour_at s f at))) text r exit → (z : ℕ) → z ≡ size_of s head
          → Lining s f n from text₀ r exit (i + 1) (at + z)
      lining_more q z g = record {
        high = omega arith;
        rest = coming.rest;
        due = subst (λ (y : ℕ). Rest s f n (i + 1) (at + y) coming.rest) (size_is s (from_bit f at) ∙ ap (size_of s) (sym e) ∙ sym g) coming.due;
        going = going_more lining_next q;
      }

  pub lining_all : n ≤ i → Put from (lines (contained f)) text₀ behind text
  unfolding joined lines
  lining_all h =
      let e : x.rest ≡ [] = done x.due (omega (arith, x.high)) in
      going_all (going_same [] (rw e) x.going)
