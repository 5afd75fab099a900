-- A row that is filled with a number for each contour of a shape.
use mathlib.Core.Path.{◌≡◌, refl, sym, ◌∙◌, ap}
use mathlib.Core.List.{List, [], ◌∷◌, ◌++◌, map, append_assoc}
use Prim.Native.Nat.{ℕ, ◌+◌, ◌<◌, ◌≤◌}
use native.Mathlib.Omega.{arith}
use native.Mathlib.Numerals.{add-one}
use lib.IntN.{ℤ}
use lib.ListN.{length, get_or, take, drop, set, length-set}
use lib.Seq.{take-suc-set}
use Rattle.grid.specs.Domain.{count}
use Rattle.ring.specs.declared.Rule.{Rule}
use Rattle.buffer.specs.Spans.{span, spans}
use Rattle.buffer.specs.Sets.{contour, contours}
use Rattle.sets.specs.Fates.{fate}
use Rattle.sets.specs.inside.Contour.{Scratch}
use Rattle.sets.specs.inside.Shape.{Named}
use Rattle.buffer.proofs.PartLaws.{part_long}
use Rattle.sets.proofs.BehindLaws.{named_contour}
use Rattle.sets.proofs.PartLaws.{next_part}
use Rattle.fates.specs.Fates.{told, later, shape_fates}
use Rattle.fates.specs.inside.Telling.{Walkable}

-- the contours of the ranges from number i on are left, of those that f says a number of
pub record Filled (f : List ℤ → ℕ) (p : List ℤ) (ranges : List (List ℕ)) (row₀ row : List ℕ) (i : ℕ) : Type 0 where
  pub high : i ≤ length ranges
  pub long : length row ≡ length row₀
  pub is : take i row ++ map f (drop i (contours p (spans ranges))) ≡ take 1 row₀ ++ map f (drop 1 (contours p (spans ranges)))

pub filled_one : (f : List ℤ → ℕ) (p : List ℤ) (ranges : List (List ℕ)) (row : List ℕ) → 1 ≤ length ranges → Filled f p ranges row row 1
filled_one f p ranges row h = record { high = h; long = refl; is = refl }

module _ {f : List ℤ → ℕ} {p : List ℤ} {ranges : List (List ℕ)} {row₀ row : List ℕ} {i : ℕ} (x : Filled f p ranges row₀ row i) (long : length row₀ ≡ length ranges) where
  pub filled_more : i < length ranges → (v : ℕ) → v ≡ f (contour p (span (get_or ranges i []))) → Filled f p ranges row₀ (set row i v) (i + 1)
  filled_more h v e = record {
    high = omega arith;
    long = length-set row i v ∙ x.long;
    is =
        ap (λ (n : ℕ). take n (set row i v) ++ rest) (add-one i)
        ∙ ap (λ (l : List ℕ). l ++ rest) (take-suc-set row i v (omega (arith, x.long)))
        ∙ append_assoc (take i row) (v ∷ []) rest
        ∙ ap (λ (n : ℕ). take i row ++ n ∷ rest) e
        ∙ ap (λ (l : List (List ℤ)). take i row ++ map f l) (sym (next_part p ranges i h))
        ∙ x.is;
  }
    where
      rest : List ℕ
      rest = map f (drop (i + 1) (contours p (spans ranges)))

-- a contour that a range names can be walked with scratch for all points
pub named_walkable : (p : List ℤ) (ranges : List (List ℕ)) (k : ℕ) → Named p ranges → k < length ranges → (c : List ℤ) → c ≡ contour p (span (get_or ranges k []))
    → (next prev mark : List ℕ) → Scratch (count p) next prev mark → Walkable c next prev mark
named_walkable p ranges k n h c e next prev mark s =
    let own = n.names k h in
    let few : count (contour p (span (get_or ranges k []))) ≤ count p = omega (arith, part_long p ranges k n.domain own, own.fits, n.domain.even) in
    rw e (record {
      contour = named_contour p ranges n k h;
      scratch = record { in_next = omega (arith, s.in_next); in_prev = omega (arith, s.in_prev); in_mark = omega (arith, s.in_mark) };
    })

-- a shape without contours
pub none_told : (rule : Rule) (p : List ℤ) (ranges : List (List ℕ)) (row : List ℕ) → length row ≡ length ranges → length ranges ≡ 0 → row ≡ shape_fates rule (contours p (spans ranges))
unfolding shape_fates
none_told rule p [] [] e z = refl
none_told rule p [] (v ∷ row) e z = absurd (omega arith)
none_told rule p (r ∷ ranges) row e z = absurd (omega arith)

-- its outline, and those behind it
pub shape_told : (rule : Rule) (p : List ℤ) (ranges : List (List ℕ)) (row : List ℕ) → length row ≡ length ranges → (length ranges ≡ 0 → ⊥)
    → (v : ℕ) → v ≡ told (fate rule (contour p (span (get_or ranges 0 [])))) → (exit : List ℕ) → exit ≡ take 1 (set row 0 v) ++ map (later rule v) (drop 1 (contours p (spans ranges)))
    → exit ≡ shape_fates rule (contours p (spans ranges))
unfolding shape_fates
shape_told rule p [] row e n v f exit g = absurd (n refl)
shape_told rule p (r ∷ ranges) row e n v f exit g =
    g ∙ ap (λ (l : List ℕ). l ++ map (later rule v) (contours p (spans ranges))) (take-suc-set row 0 v (omega arith)) ∙ rw f
