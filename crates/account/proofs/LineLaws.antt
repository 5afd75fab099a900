-- The lines of an account: their words, how long they are, and how they are put one behind the other.
use mathlib.Core.Path.{◌≡◌, sym, ◌∙◌, ap}
use mathlib.Core.Bool.{Bool, true, false}
use mathlib.Core.List.{List, [], ◌∷◌, append_assoc, append-nil}
use Prim.Native.Nat.{ℕ, zero, suc, ◌+◌, ◌*◌, ◌^◌, ◌≤◌, ◌<◌}
use native.Mathlib.Omega.{arith}
use native.Mathlib.Numerals.{add-one}
use lib.Dec.{eqb}
use lib.ListN.{length, get_or, drop, length-append}
use lib.Seq.{drop-cons, drop-length}
use borrow.Author.Tests.{eq-eqb, ne_eqb}
use Rattle.buffer.specs.Sets.{joined}
use Rattle.salvage.specs.Fates.{dropped}
use Rattle.report.specs.Text.{decimal, line_end}
use Rattle.report.specs.inside.Lines.{Put}
use Rattle.report.proofs.PutLaws.{Going, going_none, going_room, going_more, going_all, going_same}
use Rattle.report.proofs.TextLaws.{decimal-length}
use Rattle.account.specs.Words.{contour, dropped_as, off_the_grid, no_shape, why, line, lines}
use Rattle.account.specs.inside.Lines.{Numbers}

pub why_off : (r : ℕ) → r ≡ 3 → why r ≡ off_the_grid
unfolding why
why_off r e = ap (λ (b : Bool). elim b [ true ↦ off_the_grid | false ↦ no_shape ]) (eq-eqb r 3 e)

pub why_none : (r : ℕ) → (r ≡ 3 → ⊥) → why r ≡ no_shape
unfolding why
why_none r n = ap (λ (b : Bool). elim b [ true ↦ off_the_grid | false ↦ no_shape ]) (ne_eqb r 3 n)

-- the words of a line
abbrev pub words : ℕ → ℕ → List (List ℕ)
words k r = contour ∷ decimal k ∷ dropped_as ∷ why r ∷ line_end ∷ []

line_words : (k r : ℕ) → line k r ≡ joined (words k r)
unfolding line joined
line_words k r = simp (append_assoc, append-nil)

-- all are to be put
pub line_begun : (at k r : ℕ) (text : List ℕ) → at + length (line k r) ≤ length text → Going at (line k r) text at text (words k r)
line_begun at k r text h = going_none at text (words k r) (line_words k r) h

why-length : (r : ℕ) → length (why r) ≤ 12
unfolding why
why-length r = go (eqb r 3)
  where
    go : (b : Bool) → length {A = ℕ} (elim b [ true ↦ off_the_grid | false ↦ no_shape ]) ≤ 12
    go true = omega arith
    go false = omega arith

line-length : (k r : ℕ) → k < 10 ^ 4 → length (line k r) ≤ 35
unfolding line
line-length k r h = simp length-append (omega (arith, decimal-length k 4 (omega arith) (omega arith) h, why-length r))

-- the list of a file's contours, of which the first has number k
pub lines-length : (k : ℕ) (fs : List ℕ) → k + length fs ≤ 4095 → length (lines (dropped k fs)) ≤ 35 * length fs
unfolding lines dropped
lines-length k [] h = omega arith
lines-length k (zero ∷ fs) h = omega (arith, lines-length (suc k) fs (omega arith))
lines-length k (suc r ∷ fs) h =
    omega (arith, length-append (line (k + 1) (suc r)) (lines (dropped (suc k) fs)), line-length (k + 1) (suc r) (omega arith), lines-length (suc k) fs (omega arith))

pub numbers : (k : ℕ) (fs : List ℕ) → k + length fs ≤ 4095 → Numbers (dropped k fs)
unfolding dropped
numbers k [] h i l = absurd (omega arith)
numbers k (zero ∷ fs) h i l = numbers (suc k) fs (omega arith) i l
numbers k (suc r ∷ fs) h zero l = omega arith
numbers k (suc r ∷ fs) h (suc i) l = numbers (suc k) fs (omega arith) i (omega arith)

-- the lines from number i of the list on are left
pub record Telling (list : List (List ℕ)) (text₀ : List ℕ) (behind : ℕ) (text : List ℕ) (i : ℕ) : Type 0 where
  pub high : i ≤ length list
  pub going : Going 0 (lines list) text₀ behind text (lines (drop i list) ∷ [])

pub telling_none : (list : List (List ℕ)) (text : List ℕ) → length (lines list) ≤ length text → Telling list text 0 text 0
unfolding joined
telling_none list text h = record { high = omega arith; going = going_none 0 text _ (sym (append-nil _)) (omega arith) }

module _ {list : List (List ℕ)} {text₀ : List ℕ} {behind : ℕ} {text : List ℕ} {i : ℕ} (x : Telling list text₀ behind text i) where
  module _ (h : i < length list) where
    abbrev next : List ℕ
    next = line (get_or (get_or list i []) 0 0 + 1) (get_or (get_or list i []) 1 0)

    telling_next : Going 0 (lines list) text₀ behind text (next ∷ lines (drop (i + 1) list) ∷ [])
    unfolding joined lines
    telling_next = going_same _ (rw (add-one i, drop-cons list i [] h) (simp append_assoc)) x.going

    pub telling_room : behind + length next ≤ length text
    telling_room = going_room telling_next

    pub telling_more : {r : ℕ} {exit : List ℕ} → Put behind next text r exit → Telling list text₀ r exit (i + 1)
    telling_more q = record { high = omega arith; going = going_more telling_next q }

  pub telling_all : length list ≤ i → Put 0 (lines list) text₀ behind text
  unfolding joined lines
  telling_all h =
      let n : i ≡ length list = omega (arith, x.high) in
      let e : drop i list ≡ [] = ap (λ (k : ℕ). drop k list) n ∙ drop-length list in
      going_all (going_same [] (rw e) x.going)
