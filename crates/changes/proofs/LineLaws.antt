-- The lines of what changed: their words, how long they are, and how they are put one behind the other.
use mathlib.Core.Path.{◌≡◌, sym, ◌∙◌, ap}
use mathlib.Core.Bool.{Bool, true, false}
use mathlib.Core.List.{List, [], ◌∷◌, ◌++◌, append_assoc, append-nil}
use Prim.Native.Nat.{ℕ, suc, ◌+◌, ◌*◌, ◌^◌, ◌≤◌, ◌<◌}
use native.Mathlib.Omega.{arith}
use native.Mathlib.Numerals.{add-one}
use lib.Dec.{eqb}
use lib.ListN.{length, get_or, drop, length-append}
use lib.Seq.{drop-cons, drop-length}
use borrow.Author.Tests.{eq-eqb, ne_eqb}
use Rattle.rows.proofs.PlacedLaws.{placed_none}
use Rattle.buffer.specs.Sets.{joined}
use Rattle.report.specs.Text.{decimal, line_end}
use Rattle.report.specs.inside.Lines.{Put}
use Rattle.report.proofs.PutLaws.{Going, going_none, going_room, going_more, going_all, going_same}
use Rattle.report.proofs.TextLaws.{decimal-length}
use Rattle.changes.specs.Words.{contour, starts_elsewhere, of_the_second, differs_from, and_on, in_the_first, in_the_second, change, line, lines}
use Rattle.changes.specs.inside.Lines.{Places}

-- what became of a contour, by its kind
module _ (kind place : ℕ) where
  pub change_elsewhere : kind ≡ 1 → change kind place ≡ starts_elsewhere ++ decimal (place + 1) ++ of_the_second
  unfolding change
  change_elsewhere e = rw (eq-eqb kind 1 e, change)

  module _ (not-1 : kind ≡ 1 → ⊥) where
    pub change_different : kind ≡ 2 → change kind place ≡ differs_from ++ decimal (place + 1) ++ and_on
    unfolding change
    change_different e = rw (ne_eqb kind 1 not-1, eq-eqb kind 2 e, change)

    module _ (not-2 : kind ≡ 2 → ⊥) where
      pub change_first : kind ≡ 3 → change kind place ≡ in_the_first
      unfolding change
      change_first e = rw (ne_eqb kind 1 not-1, ne_eqb kind 2 not-2, eq-eqb kind 3 e, change)

      pub change_second : (kind ≡ 3 → ⊥) → change kind place ≡ in_the_second
      unfolding change
      change_second n = rw (ne_eqb kind 1 not-1, ne_eqb kind 2 not-2, ne_eqb kind 3 n, change)

-- the words of a line
abbrev pub words : ℕ → ℕ → ℕ → List (List ℕ)
words k kind place = contour ∷ decimal k ∷ change kind place ∷ line_end ∷ []

-- a line, by whether the contour is the same
module _ (k kind place : ℕ) where
  line_none : kind ≡ 0 → line k kind place ≡ []
  unfolding line
  line_none e = rw (eq-eqb kind 0 e, line)

  pub line_words : (kind ≡ 0 → ⊥) → line k kind place ≡ joined (words k kind place)
  unfolding line joined
  line_words n = rw (ne_eqb kind 0 n, line) (simp (append_assoc, append-nil))

  -- nothing is put where it is
  pub none_put : kind ≡ 0 → (at : ℕ) (text : List ℕ) → Put at (line k kind place) text at text
  none_put e at text = rw (line_none e) (record { behind = omega arith; is = sym (placed_none text at) })

change-length : (kind place : ℕ) → place ≤ 65536 → length (change kind place) ≤ 63
unfolding change
change-length kind place h = go (eqb kind 1) (eqb kind 2) (eqb kind 3)
  where
    digits : length (decimal (place + 1)) ≤ 5
    digits = decimal-length (place + 1) 5 (omega arith) (omega arith) (omega arith)

    go : (a b c : Bool)
        → length {A = ℕ} (elim a [
          | true ↦ starts_elsewhere ++ decimal (place + 1) ++ of_the_second
          | false ↦ elim b [ true ↦ differs_from ++ decimal (place + 1) ++ and_on | false ↦ elim c [ true ↦ in_the_first | false ↦ in_the_second ] ]
        ]) ≤ 63
    go true b c = simp length-append (omega (arith, digits))
    go false true c = simp length-append (omega (arith, digits))
    go false false true = omega arith
    go false false false = omega arith

line-length : (k kind place : ℕ) → k < 10 ^ 4 → place ≤ 65536 → length (line k kind place) ≤ 76
unfolding line
line-length k kind place h p = go (eqb kind 0)
  where
    go : (b : Bool) → length {A = ℕ} (elim b [ true ↦ [] | false ↦ contour ++ decimal k ++ change kind place ++ line_end ]) ≤ 76
    go true = omega arith
    go false = simp length-append (omega (arith, decimal-length k 4 (omega arith) (omega arith) h, change-length kind place p))

pub lines-length : (k : ℕ) (listing : List (List ℕ)) → Places listing → k + length listing ≤ 4096 → length (lines k listing) ≤ 76 * length listing
unfolding lines
lines-length k [] p h = omega arith
lines-length k (row ∷ listing) p h =
    omega (
      arith,
      length-append (line k (get_or row 0 0) (get_or row 1 0)) (lines (suc k) listing),
      line-length k (get_or row 0 0) (get_or row 1 0) (omega arith) (p 0 (omega arith)),
      lines-length (suc k) listing (λ i l. p (suc i) (omega arith)) (omega arith),
    )

-- the lines from number i of the listing on are left
pub record Telling (listing : List (List ℕ)) (text₀ : List ℕ) (behind : ℕ) (text : List ℕ) (i : ℕ) : Type 0 where
  pub high : i ≤ length listing
  pub going : Going 0 (lines 1 listing) text₀ behind text (lines (i + 1) (drop i listing) ∷ [])

pub telling_none : (listing : List (List ℕ)) (text : List ℕ) → length (lines 1 listing) ≤ length text → Telling listing text 0 text 0
unfolding joined
telling_none listing text h = record { high = omega arith; going = going_none 0 text _ (sym (append-nil _)) (omega arith) }

module _ {listing : List (List ℕ)} {text₀ : List ℕ} {behind : ℕ} {text : List ℕ} {i : ℕ} (x : Telling listing text₀ behind text i) where
  module _ (h : i < length listing) where
    abbrev next : List ℕ
    next = line (i + 1) (get_or (get_or listing i []) 0 0) (get_or (get_or listing i []) 1 0)

    telling_next : Going 0 (lines 1 listing) text₀ behind text (next ∷ lines (i + 1 + 1) (drop (i + 1) listing) ∷ [])
    unfolding joined lines
    telling_next =
        going_same _
        (rw (drop-cons listing i [] h, add-one (i + 1), add-one i) (simp append_assoc))
        x.going

    pub telling_room : behind + length next ≤ length text
    telling_room = going_room telling_next

    pub telling_more : {r : ℕ} {exit : List ℕ} → Put behind next text r exit → Telling listing text₀ r exit (i + 1)
    telling_more q = record { high = omega arith; going = going_more telling_next q }

  pub telling_all : length listing ≤ i → Put 0 (lines 1 listing) text₀ behind text
  unfolding joined lines
  telling_all h =
      let n : i ≡ length listing = omega (arith, x.high) in
      let e : drop i listing ≡ [] = ap (λ (k : ℕ). drop k listing) n ∙ drop-length listing in
      going_all (going_same [] (rw e) x.going)
