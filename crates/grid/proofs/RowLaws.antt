-- A row of coordinates as a list of points, read from its front.
use Rattle.std.proofs.Common.{◌≡◌, ℕ, zero, suc, ◌+◌, ◌*◌, ◌<◌, List, [], ◌∷◌, length, get_or, drop, ℤ, sym, refl, ap, ◌∙◌, add-one, arith, drop-cons}
use lib.Seq.{drop-length}
use Rattle.grid.specs.Points.{at, origin, points}
use Rattle.grid.specs.Domain.{count, Contour}

pub points_count : (row : List ℤ) → length (points row) ≡ count row
unfolding points
points_count [] = refl
points_count (x ∷ []) = refl
points_count (x ∷ y ∷ row) = omega (arith, points_count row)

at_more : (x y : ℤ) (row : List ℤ) (i : ℕ) → at (x ∷ y ∷ row) (suc i) ≡ at row i
at_more x y row i =
    let e : 2 * suc i ≡ suc (suc (2 * i)) = omega arith in
    let f : 2 * suc i + 1 ≡ suc (suc (2 * i + 1)) = omega arith in
    rw (f, e)

pub points_at : (row : List ℤ) (i : ℕ) → i < count row → get_or (points row) i origin ≡ at row i
unfolding points
points_at [] i h = absurd (omega arith)
points_at (x ∷ []) i h = absurd (omega arith)
points_at (x ∷ y ∷ row) zero h = refl
points_at (x ∷ y ∷ row) (suc i) h = points_at row i (omega arith) ∙ sym (at_more x y row i)

module _ {row : List ℤ} {n : ℕ} (c : Contour row n) where
  pub points-length : length (points row) ≡ n
  points-length = omega (arith, points_count row, c.even)

  pub points_here : (i : ℕ) → i < n → get_or (points row) i origin ≡ at row i
  points_here i h = points_at row i (omega (arith, c.even))

  pub points_more : (i : ℕ) → i < n → drop i (points row) ≡ at row i ∷ drop (i + 1) (points row)
  points_more i h =
      let l : i < length (points row) = omega (arith, points-length) in
      drop-cons (points row) i origin l ∙ rw (points_here i h, add-one i)

  pub points_done : (i : ℕ) → i ≡ n → drop i (points row) ≡ []
  points_done i e = ap (λ (k : ℕ). drop k (points row)) (e ∙ sym points-length) ∙ drop-length (points row)
