-- The listing of two sets, line by line.
use mathlib.Core.Path.{◌≡◌, refl, sym, ◌∙◌, ap, ap₂}
use mathlib.Core.Bool.{Bool, true, ◌&&◌}
use mathlib.Core.List.{List, [], ◌∷◌}
use Prim.Native.Nat.{ℕ, zero, suc, ◌<◌, ◌≤◌, max}
use native.Mathlib.Omega.{arith}
use lib.Dec.{leb}
use lib.ListN.{length, get_or, length-map}
use lib.IntN.{ℤ}
use borrow.Author.Tests.{le-leb}
use Rattle.integers.proofs.Logic.{and_both}
use Rattle.grid.specs.Domain.{count, Contour}
use Rattle.rows.specs.Parts.{Part}
use Rattle.buffer.specs.Spans.{span, spans}
use Rattle.buffer.specs.Sets.{contour, contours}
use Rattle.buffer.proofs.SpanLaws.{range_within}
use Rattle.buffer.proofs.PartLaws.{names_of, part_contour, contours_at}
use Rattle.difference.specs.Walking.{if_there, handed}
use Rattle.difference.specs.Lines.{only_first, only_second, compared, listed, lines_of, same, row, written}
use Rattle.difference.specs.inside.Sets.{Sound}

pub listed-length : (l m : List (List ℤ)) → length (listed l m) ≡ max (length l) (length m)
unfolding listed
listed-length [] m = length-map m (λ b. only_second) ∙ omega arith
listed-length (a ∷ l) [] = ap suc (listed-length l []) ∙ omega arith
listed-length (a ∷ l) (b ∷ m) = ap suc (listed-length l m) ∙ omega arith

-- the line of contours that both sets have, or only one of them
pub at_both : (l m : List (List ℤ)) (k : ℕ) → k < length l → k < length m → get_or (listed l m) k same ≡ compared (get_or l k []) (get_or m k [])
unfolding listed
at_both [] m k h g = absurd (omega arith)
at_both (a ∷ l) [] k h g = absurd (omega arith)
at_both (a ∷ l) (b ∷ m) zero h g = refl
at_both (a ∷ l) (b ∷ m) (suc k) h g = at_both l m k (omega arith) (omega arith)

pub at_first : (l m : List (List ℤ)) (k : ℕ) → k < length l → length m ≤ k → get_or (listed l m) k same ≡ only_first
unfolding listed
at_first [] m k h g = absurd (omega arith)
at_first (a ∷ l) [] zero h g = refl
at_first (a ∷ l) [] (suc k) h g = at_first l [] k (omega arith) (omega arith)
at_first (a ∷ l) (b ∷ m) zero h g = absurd (omega arith)
at_first (a ∷ l) (b ∷ m) (suc k) h g = at_first l m k (omega arith) (omega arith)

pub at_second : (l m : List (List ℤ)) (k : ℕ) → length l ≤ k → k < length m → get_or (listed l m) k same ≡ only_second
unfolding listed
at_second [] [] k h g = absurd (omega arith)
at_second [] (b ∷ m) zero h g = refl
at_second [] (b ∷ m) (suc k) h g = at_second [] m k (omega arith) (omega arith)
at_second (a ∷ l) [] k h g = absurd (omega arith)
at_second (a ∷ l) (b ∷ m) zero h g = absurd (omega arith)
at_second (a ∷ l) (b ∷ m) (suc k) h g = at_second l m k (omega arith) (omega arith)

-- the contours of a flat set are as many as its ranges
pub many : (p : List ℤ) (rs : List (List ℕ)) → length (contours p (spans rs)) ≡ length rs
many p rs = length-map (spans rs) (contour p) ∙ length-map rs span

-- of two flat sets
module _ (p : List ℤ) (rs : List (List ℕ)) (q : List ℤ) (ss : List (List ℕ)) where
  pub lines-length : length (lines_of p rs q ss) ≡ max (length rs) (length ss)
  lines-length = listed-length (contours p (spans rs)) (contours q (spans ss)) ∙ ap₂ max (many p rs) (many q ss)

  pub written-length : length (written (lines_of p rs q ss)) ≡ max (length rs) (length ss)
  written-length = length-map (lines_of p rs q ss) row ∙ lines-length

  module _ (k : ℕ) where
    pub told_second : length rs ≤ k → k < max (length rs) (length ss) → only_second ≡ get_or (lines_of p rs q ss) k same
    told_second h g = sym (at_second _ _ k (omega (arith, many p rs)) (omega (arith, many q ss)))

    pub told_first : k < length rs → length ss ≤ k → only_first ≡ get_or (lines_of p rs q ss) k same
    told_first h g = sym (at_first _ _ k (omega (arith, many p rs)) (omega (arith, many q ss)))

    pub told_both : k < length rs → k < length ss → compared (get_or (contours p (spans rs)) k []) (get_or (contours q (spans ss)) k []) ≡ get_or (lines_of p rs q ss) k same
    told_both h g = sym (at_both _ _ k (omega (arith, many p rs)) (omega (arith, many q ss)))

-- what a walker hands out of a sound set is a contour of it
module _ (p : Part) (rs : List (List ℕ)) (s : Sound p.numbers rs) (k : ℕ) (h : k < length rs) where
  there : (leb (get_or (get_or rs k []) 0 0) (get_or (get_or rs k []) 1 0) && leb (get_or (get_or rs k []) 1 0) (count p.numbers)) ≡ true
  there = let w = range_within rs (count p.numbers) k s.tied h in and_both _ _ (le-leb _ _ w.forward) (le-leb _ _ w.ends)

  pub handed_is : (handed p (get_or (get_or rs k []) 0 0) (get_or (get_or rs k []) 1 0)).numbers ≡ get_or (contours p.numbers (spans rs)) k []
  handed_is =
      ap (λ (b : Bool). (if_there b p (get_or (get_or rs k []) 0 0) (get_or (get_or rs k []) 1 0)).numbers) there
      ∙ sym (contours_at p.numbers rs k h)

-- and a contour of the domain
pub in_domain : (p : List ℤ) (rs : List (List ℕ)) → Sound p rs → (k : ℕ) → k < length rs → {row : List ℤ} → row ≡ get_or (contours p (spans rs)) k [] → Contour row (count row)
in_domain p rs s k h {row} e = rw (e ∙ contours_at p rs k h) (part_contour p rs k s.domain (names_of p rs k s.domain.even s.tied h))
