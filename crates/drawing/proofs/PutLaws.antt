-- Rows that kinds and floats are written to.
use mathlib.Core.Path.{◌≡◌, refl, sym, ap, ap₂, ◌∙◌}
use mathlib.Core.List.{List, [], ◌∷◌, ◌++◌, map, map-append, append-nil}
use Prim.Native.Nat.{ℕ, zero, suc, ◌+◌, ◌-◌, ◌*◌, ◌≤◌, ◌<◌}
use native.Mathlib.Omega.{arith}
use native.Mathlib.Numerals.{add-one}
use lib.Dec.{ltb}
use lib.ListN.{length, get_or, take, drop, set, replicate, length-append, length-drop, length-map, length-replicate, take-append-drop}
use lib.Seq.{take-suc, take-add, length-take-le, get_or-take, get_or-drop}
use lib.IntN.{ℤ, pos}
use lib.Ieee.{Float}
use mathlib.Core.Bool.{Bool, true, false}
use Rattle.std.specs.List.{sum_by}
use Rattle.std.specs.Int.{from_bool}
use Rattle.std.proofs.lemmas.List.Sums.{sum_by-cons}
use Rattle.std.proofs.lemmas.List.Recursion.{is_sum_by}
use borrow.Author.Tests.{lt-ltb, le-ltb}
use Rattle.rows.specs.Rows.{front, placed}
use Rattle.buffer.specs.declared.ranges.Span.{Span}
use Rattle.buffer.specs.Spans.{span, spans, size, total}
use Rattle.buffer.specs.Sets.{joined}
use Rattle.rows.proofs.RowLaws.{placed_next}
use Rattle.buffer.proofs.RowLaws.{spans-length}
use Rattle.buffer.proofs.ListLaws.{map_at}
use Rattle.rows.proofs.PlacedLaws.{placed_long, placed_behind, set_placed}
use Rattle.buffer.proofs.SetLaws.{joined-append}
use Rattle.millimetres.specs.Scale.{millimetres}
use Rattle.drawing.specs.inside.Rows.{one, contour_kinds, set_kinds, filled}

-- the floats of some points, from number `from` on
module _ (points : List ℤ) (from n : ℕ) (h : 2 * (from + n) ≤ length points) where
  abbrev pub some_floats : List Float
  some_floats = map millimetres (take (2 * n) (drop (2 * from) points))

  pub some-length : length some_floats ≡ 2 * n
  some-length =
      length-map (take (2 * n) (drop (2 * from) points)) millimetres
      ∙ length-take-le (2 * n) (drop (2 * from) points) (omega (arith, length-drop (2 * from) points))

  pub some_at : (j k : ℕ) (d : Float) → j < 2 * n → k ≡ 2 * from + j → get_or some_floats j d ≡ millimetres (get_or points k (pos 0))
  some_at j k d l e =
      map_at millimetres (take (2 * n) (drop (2 * from) points)) j d (pos 0) (omega (arith, length-take-le (2 * n) (drop (2 * from) points) (omega (arith, length-drop (2 * from) points))))
      ∙ ap millimetres (get_or-take (2 * n) (drop (2 * from) points) j (pos 0) l ∙ get_or-drop (2 * from) points j (pos 0) ∙ ap (λ (i : ℕ). get_or points i (pos 0)) (sym e))

-- floats behind floats
pub floats_more : (points : List ℤ) (row₀ row : List Float) (a b c : ℕ) → a + b ≤ length points → c ≡ a + b → row ≡ front (map millimetres (take a points)) row₀
    → placed a (map millimetres (take b (drop a points))) row ≡ front (map millimetres (take c points)) row₀
floats_more points row₀ row a b c h q e =
    let n : a ≡ length (map millimetres (take a points)) = sym (length-map (take a points) millimetres ∙ length-take-le a points (omega arith)) in
    ap (placed a (map millimetres (take b (drop a points)))) e
    ∙ placed_next row₀ (map millimetres (take a points)) (map millimetres (take b (drop a points))) a n
    ∙ ap (λ (l : List Float). front l row₀)
    (sym (map-append millimetres (take a points) (take b (drop a points))) ∙ ap (map millimetres) (sym (take-add a b points) ∙ ap (λ (k : ℕ). take k points) (sym q)))

-- a range has points or none
abbrev pub filled_one : List ℕ → Bool
filled_one r = ltb (get_or r 0 0) (get_or r 1 0)

filled_one_is : (a b : ℕ) → one (b - a) ≡ from_bool (ltb a b)
filled_one_is a b = go (b - a) refl
  where
    go : (n : ℕ) → b - a ≡ n → one n ≡ from_bool (ltb a b)
    go zero e = rw (le-ltb a b (omega arith)) refl
    go (suc n) e = rw (lt-ltb a b (omega arith)) refl

-- how many contours have points is a sum of ones
pub filled_summed : (ranges : List (List ℕ)) → filled (spans ranges) ≡ sum_by (λ r. from_bool (filled_one r)) ranges
unfolding filled
filled_summed = is_sum_by (λ (l : List (List ℕ)). filled (spans l)) (λ r. from_bool (filled_one r)) refl
    (λ r l. ap (λ (n : ℕ). n + filled (spans l)) (filled_one_is (get_or r 0 0) (get_or r 1 0)))

-- and no more than there are
pub filled_few : (ranges : List (List ℕ)) → sum_by (λ r. from_bool (filled_one r)) ranges ≤ length ranges
filled_few [] = omega arith
filled_few (r ∷ l) = omega (arith, sum_by-cons (λ r. from_bool (filled_one r)) r l, at_most_one (filled_one r), filled_few l)
  where
    at_most_one : (b : Bool) → from_bool b ≤ 1
    at_most_one true = omega arith
    at_most_one false = omega arith

-- n Lines
abbrev pub ones : ℕ → List ℕ
ones n = replicate n 1

pub ones-length : (n : ℕ) → length (ones n) ≡ n
ones-length n = length-replicate n 1

-- a contour of n points has a kind for each, and one more unless it is empty
pub contour-length : (n : ℕ) → length (contour_kinds n) ≡ n + one n
unfolding contour_kinds
contour-length zero = refl
contour-length (suc n) = omega (arith, length-append (ones n) (2 ∷ []), ones-length n)

pub one_some : (n : ℕ) → (n ≡ 0 → ⊥) → one n ≡ 1
one_some zero h = absurd (h refl)
one_some (suc n) h = refl

pub set-length : (l : List Span) → length (set_kinds l) ≡ total (map size l) + filled l
unfolding filled joined
set-length [] = refl
set-length (s ∷ l) = length-append (contour_kinds (size s)) (set_kinds l) ∙ omega (arith, contour-length (size s), set-length l)

-- the kinds of a contour that has points are written one behind the other
module _ (row : List ℕ) (at n : ℕ) (some : n ≡ 0 → ⊥) (h : at + length (contour_kinds n) ≤ length row) where
  pub contour_room : at + n + 1 ≤ length row
  contour_room = go n some h
    where
      go : (m : ℕ) → (m ≡ 0 → ⊥) → at + length (contour_kinds m) ≤ length row → at + m + 1 ≤ length row
      go zero z l = absurd (z refl)
      go (suc m) z l = omega (arith, contour-length (suc m))

  pub contour_put : (lined : List ℕ) → lined ≡ placed (at + 1) (ones (n - 1)) (set row at 0) → set lined (at + n) 2 ≡ placed at (contour_kinds n) row
  unfolding contour_kinds
  contour_put lined e = go n some contour_room e
    where
      go : (m : ℕ) → (m ≡ 0 → ⊥) → at + m + 1 ≤ length row → lined ≡ placed (at + 1) (ones (m - 1)) (set row at 0) → set lined (at + m) 2 ≡ placed at (contour_kinds m) row
      go zero z l i = absurd (z refl)
      go (suc m) z l i =
          let less : suc m - 1 ≡ m = omega arith in
          let k : length {A = ℕ} (0 ∷ ones m) ≡ suc m = ap suc (ones-length m) in
          let is : lined ≡ placed at (0 ∷ ones m) row =
          i ∙ ap₂ (λ (j : ℕ) (r : List ℕ). placed (at + 1) (ones j) r) less (set_placed row at 0 (omega arith))
          ∙ placed_behind row at (0 ∷ []) (ones m) (at + 1) (omega arith) refl in
          let long : length {A = ℕ} (placed at (0 ∷ ones m) row) ≡ length row = placed_long row at (0 ∷ ones m) (omega arith) in
          ap (λ (r : List ℕ). set r (at + suc m) 2) is
          ∙ set_placed (placed at (0 ∷ ones m) row) (at + suc m) 2 (omega arith)
          ∙ placed_behind row at (0 ∷ ones m) (2 ∷ []) (at + suc m) (omega arith) (omega arith)

-- the kinds of the contours before number i, and of that one
module _ (ranges : List (List ℕ)) (i : ℕ) (h : i < length ranges) where
  abbrev before : List ℕ
  before = set_kinds (take i (spans ranges))

  abbrev here_size : ℕ
  here_size = size (span (get_or ranges i []))

  pub kinds_more : set_kinds (take (i + 1) (spans ranges)) ≡ before ++ contour_kinds here_size
  unfolding joined
  kinds_more =
      let l = spans ranges in
      let n : i < length l = omega (arith, spans-length ranges) in
      ap (λ (k : ℕ). set_kinds (take k l)) (add-one i)
      ∙ ap set_kinds (take-suc l i (span []) n ∙ ap (λ (s : Span). take i l ++ s ∷ []) (map_at span ranges i (span []) [] h))
      ∙ ap joined (map-append (λ (s : Span). contour_kinds (size s)) (take i l) (span (get_or ranges i []) ∷ []))
      ∙ joined-append (map (λ (s : Span). contour_kinds (size s)) (take i l)) (contour_kinds here_size ∷ [])
      ∙ ap (λ (k : List ℕ). before ++ k) (append-nil (contour_kinds here_size))

  pub kinds_within : length before + length (contour_kinds here_size) ≤ length (set_kinds (spans ranges))
  kinds_within =
      let l = spans ranges in
      let all : set_kinds l ≡ set_kinds (take (i + 1) l) ++ set_kinds (drop (i + 1) l) =
      ap set_kinds (sym (take-append-drop (i + 1) l)) ∙ ap joined (map-append (λ (s : Span). contour_kinds (size s)) (take (i + 1) l) (drop (i + 1) l))
      ∙ joined-append (map (λ (s : Span). contour_kinds (size s)) (take (i + 1) l)) (map (λ (s : Span). contour_kinds (size s)) (drop (i + 1) l)) in
      omega (
        arith,
        ap length all,
        length-append (set_kinds (take (i + 1) l)) (set_kinds (drop (i + 1) l)),
        ap length kinds_more,
        length-append before (contour_kinds here_size),
      )

  pub kinds_put : (row₀ row : List ℕ) (p : ℕ) → row ≡ front before row₀ → p ≡ length before → placed p (contour_kinds here_size) row ≡ front (set_kinds (take (i + 1) (spans ranges))) row₀
  kinds_put row₀ row p e q =
      ap (placed p (contour_kinds here_size)) e ∙ placed_next row₀ before (contour_kinds here_size) p q ∙ ap (λ (l : List ℕ). front l row₀) (sym kinds_more)
