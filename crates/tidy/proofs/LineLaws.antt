-- The lines of the contours that went: their words, how long they are, and how they are put one behind the other.
use mathlib.Core.Path.{◌≡◌, sym, ◌∙◌, ap}
use mathlib.Core.Bool.{Bool, true, false}
use mathlib.Core.List.{List, [], ◌∷◌, ◌++◌, append_assoc, append-nil}
use Prim.Native.Nat.{ℕ, suc, ◌+◌, ◌*◌, ◌^◌, ◌≤◌, ◌<◌}
use native.Mathlib.Omega.{arith}
use native.Mathlib.Numerals.{add-one}
use lib.Dec.{eqb}
use lib.ListN.{length, get_or, drop, length-append, drop_of_length-le}
use lib.Seq.{drop-cons}
use lib.IntN.{ℤ}
use mir.Facts.{sfits_to_z, to_z-of_z}
use mir.Syntax.{w64}
use mir.Val.{SFits, to_z, of_z}
use borrow.Author.Tests.{eq-eqb, ne_eqb}
use Rattle.integers.proofs.Modulo.{mod64_lt}
use Rattle.grid.specs.Points.{points}
use Rattle.grid.specs.Area.{exact, wrapped, reported}
use Rattle.grid.specs.Domain.{count}
use Rattle.rows.proofs.PlacedLaws.{placed_none}
use Rattle.buffer.specs.Spans.{span, spans}
use Rattle.buffer.specs.Sets.{joined, contour as contour_at, contours}
use Rattle.sets.proofs.PartLaws.{next_part}
use Rattle.report.specs.Text.{decimal, signed, line_end}
use Rattle.report.specs.inside.Lines.{Put}
use Rattle.report.proofs.PutLaws.{Going, going_none, going_room, going_more, going_all, going_same, two_words}
use Rattle.report.proofs.TextLaws.{decimal-length, signed-length}
use Rattle.tidy.specs.Words.{contour, dropped_as, has_collapsed, stands_behind, no_area, doubled_area, why, area, line, lines}

-- why a contour went, by its fate
module _ (fate : ℕ) where
  pub why_collapsed : fate ≡ 1 → why fate ≡ has_collapsed
  unfolding why
  why_collapsed e = rw (eq-eqb fate 1 e, why)

  pub why_behind : (fate ≡ 1 → ⊥) → why fate ≡ stands_behind
  unfolding why
  why_behind n = rw (ne_eqb fate 1 n, why)

  why-length : length (why fate) ≤ 26
  unfolding why
  why-length = go (eqb fate 1)
    where
      go : (b : Bool) → length {A = ℕ} (elim b [ true ↦ has_collapsed | false ↦ stands_behind ]) ≤ 26
      go true = omega arith
      go false = omega arith

-- the area of a contour as text
module _ (c : List ℤ) where
  pub area_none : count c ≡ 0 → area c ≡ no_area
  unfolding area
  area_none e = rw (eq-eqb (count c) 0 e, area)

  area_told : (count c ≡ 0 → ⊥) → area c ≡ doubled_area ++ signed (reported (points c))
  unfolding area
  area_told n = rw (ne_eqb (count c) 0 n, area)

  -- the words that are put, where the area was told
  pub area_begun : (count c ≡ 0 → ⊥) → (r : ℤ) → SFits w64 r → r ≡ reported (points c) → (at : ℕ) (text : List ℕ) → at + length (area c) ≤ length text
      → Going at (area c) text at text (doubled_area ∷ signed (to_z w64 (of_z w64 r)) ∷ [])
  area_begun n r f e at text h =
      going_none at text (doubled_area ∷ signed (to_z w64 (of_z w64 r)) ∷ [])
      (area_told n ∙ ap (λ (z : ℤ). doubled_area ++ signed z) (sym (to_z-of_z f ∙ e)) ∙ two_words doubled_area (signed (to_z w64 (of_z w64 r)))) h

  reported_fits : SFits w64 (reported (points c))
  unfolding wrapped
  reported_fits = sfits_to_z (record { fits = mod64_lt (exact (points c)) })

  area-length : length (area c) ≤ 35
  unfolding area
  area-length = go (eqb (count c) 0)
    where
      go : (b : Bool) → length {A = ℕ} (elim b [ true ↦ no_area | false ↦ doubled_area ++ signed (reported (points c)) ]) ≤ 35
      go true = omega arith
      go false = simp length-append (omega (arith, signed-length (reported (points c)) reported_fits))

four_words : (a b c d : List ℕ) → a ++ b ++ c ++ d ≡ joined (a ∷ b ∷ c ∷ d ∷ [])
unfolding joined
four_words a b c d = simp (append_assoc, append-nil)

-- the words of a line
abbrev pub words : ℕ → ℕ → List ℤ → List (List ℕ)
words k fate c = (contour ++ decimal k ++ dropped_as) ∷ why fate ∷ area c ∷ line_end ∷ []

-- a line, by whether the contour is kept
module _ (k fate : ℕ) (c : List ℤ) where
  line_none : fate ≡ 0 → line k fate c ≡ []
  unfolding line
  line_none e = rw (eq-eqb fate 0 e, line)

  pub line_words : (fate ≡ 0 → ⊥) → line k fate c ≡ joined (words k fate c)
  unfolding line
  line_words n = rw (ne_eqb fate 0 n, line) (four_words (contour ++ decimal k ++ dropped_as) (why fate) (area c) line_end)

  -- all are to be put
  pub line_begun : (fate ≡ 0 → ⊥) → (at : ℕ) (text : List ℕ) → at + length (line k fate c) ≤ length text → Going at (line k fate c) text at text (words k fate c)
  line_begun n at text h = going_none at text (words k fate c) (line_words n) h

  -- nothing is put where it is
  pub none_put : fate ≡ 0 → (at : ℕ) (text : List ℕ) → Put at (line k fate c) text at text
  none_put e at text = rw (line_none e) (record { behind = omega arith; is = sym (placed_none text at) })

  line-length : k < 10 ^ 4 → length (line k fate c) ≤ 84
  unfolding line
  line-length h = go (eqb fate 0)
    where
      go : (b : Bool) → length {A = ℕ} (elim b [ true ↦ [] | false ↦ contour ++ decimal k ++ dropped_as ++ why fate ++ area c ++ line_end ]) ≤ 84
      go true = omega arith
      go false = simp length-append (omega (arith, decimal-length k 4 (omega arith) (omega arith) h, why-length fate, area-length c))

pub lines-length : (k : ℕ) (fs : List ℕ) (l : List (List ℤ)) → k + length l ≤ 4096 → length (lines k fs l) ≤ 84 * length l
unfolding lines
lines-length k [] l h = omega arith
lines-length k (fate ∷ fs) [] h = omega arith
lines-length k (fate ∷ fs) (c ∷ l) h =
    omega (arith, length-append (line k fate c) (lines (suc k) fs l), line-length k fate c (omega arith), lines-length (suc k) fs l (omega arith))

-- the lines of the contours from number i on are left
pub record Telling (p : List ℤ) (ranges : List (List ℕ)) (fs text₀ : List ℕ) (behind : ℕ) (text : List ℕ) (i : ℕ) : Type 0 where
  pub high : i ≤ length ranges
  pub going : Going 0 (lines 1 fs (contours p (spans ranges))) text₀ behind text (lines (i + 1) (drop i fs) (drop i (contours p (spans ranges))) ∷ [])

pub telling_none : (p : List ℤ) (ranges : List (List ℕ)) (fs text : List ℕ) → length (lines 1 fs (contours p (spans ranges))) ≤ length text → Telling p ranges fs text 0 text 0
unfolding joined
telling_none p ranges fs text h = record { high = omega arith; going = going_none 0 text _ (sym (append-nil _)) (omega arith) }

module _ {p : List ℤ} {ranges : List (List ℕ)} {fs text₀ : List ℕ} {behind : ℕ} {text : List ℕ} {i : ℕ} (x : Telling p ranges fs text₀ behind text i) (long : length fs ≡ length ranges) where
  module _ (h : i < length ranges) where
    abbrev next : List ℕ
    next = line (i + 1) (get_or fs i 0) (contour_at p (span (get_or ranges i [])))

    telling_next : Going 0 (lines 1 fs (contours p (spans ranges))) text₀ behind text (next ∷ lines (i + 1 + 1) (drop (i + 1) fs) (drop (i + 1) (contours p (spans ranges))) ∷ [])
    unfolding joined lines
    telling_next =
        going_same _
        (rw (drop-cons fs i 0 (omega arith), next_part p ranges i h, add-one (i + 1), add-one i) (simp append_assoc))
        x.going

    pub telling_room : behind + length next ≤ length text
    telling_room = going_room telling_next

    pub telling_more : {r : ℕ} {exit : List ℕ} → Put behind next text r exit → Telling p ranges fs text₀ r exit (i + 1)
    telling_more q = record { high = omega arith; going = going_more telling_next q }

  pub telling_all : length ranges ≤ i → Put 0 (lines 1 fs (contours p (spans ranges))) text₀ behind text
  unfolding joined lines
  telling_all h =
      let e : drop i fs ≡ [] = drop_of_length-le fs {i = i} (omega arith) in
      going_all (going_same [] (rw e) x.going)
