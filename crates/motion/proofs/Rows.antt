-- Rows whose points are shifted, reversed, or started elsewhere.
use mathlib.Core.Path.{◌≡◌, refl, sym, ◌∙◌, ap, ap₂}
use mathlib.Core.Bool.{Bool, ◌&&◌, and_comm}
use mathlib.Core.List.{List, [], ◌∷◌, ◌++◌, map, reverse, reverse-cons}
use Prim.Native.Nat.{ℕ, zero, suc, ◌+◌, ◌*◌, ◌<◌}
use native.Mathlib.Omega.{arith}
use lib.ListN.{length, get_or, take, drop, length-append, length-drop, take-append-drop}
use lib.IntN.{ℤ, pos, ◌+ℤ◌}
use Rattle.grid.specs.declared.Point.{Point}
use Rattle.grid.specs.declared.Edge.{Edge}
use Rattle.grid.specs.Limits.{all_on_grid}
use Rattle.grid.specs.Points.{at, points}
use Rattle.grid.specs.Domain.{count}
use Rattle.grid.proofs.LimitLaws.{on_joined}
use Rattle.turned.specs.Starts.{started_at}
use Rattle.motion.specs.Moves.{shift, shifted, reversed}

-- two numbers more
two_more : (n : ℕ) → 2 * suc n ≡ suc (suc (2 * n))
two_more n = omega arith

-- an even row, with another behind it
pub points_joined : (a b : List ℤ) → length a ≡ 2 * count a → points (a ++ b) ≡ points a ++ points b
unfolding points
points_joined [] b h = refl
points_joined (x ∷ []) b h = absurd (omega arith)
points_joined (x ∷ y ∷ a) b h = ap (λ (l : List Point). record { x = x; y = y } ∷ l) (points_joined a b (omega arith))

-- its first k points, and those behind them
points_taken : (k : ℕ) (row : List ℤ) → points (take (2 * k) row) ≡ take k (points row)
unfolding points
points_taken zero row = refl
points_taken (suc k) [] = rw (two_more k)
points_taken (suc k) (x ∷ []) = rw (two_more k)
points_taken (suc k) (x ∷ y ∷ row) = rw (two_more k) (ap (λ (l : List Point). record { x = x; y = y } ∷ l) (points_taken k row))

points_dropped : (k : ℕ) (row : List ℤ) → points (drop (2 * k) row) ≡ drop k (points row)
unfolding points
points_dropped zero row = refl
points_dropped (suc k) [] = rw (two_more k)
points_dropped (suc k) (x ∷ []) = rw (two_more k)
points_dropped (suc k) (x ∷ y ∷ row) = rw (two_more k) (points_dropped k row)

module _ (d : Edge) where
  pub shifted-length : (row : List ℤ) → length (shifted d row) ≡ length row
  unfolding shifted
  shifted-length [] = refl
  shifted-length (x ∷ []) = refl
  shifted-length (x ∷ y ∷ row) = ap (λ (n : ℕ). suc (suc n)) (shifted-length row)

  pub shifted_points : (row : List ℤ) → points (shifted d row) ≡ map (shift d) (points row)
  unfolding shifted points
  shifted_points [] = refl
  shifted_points (x ∷ []) = refl
  shifted_points (x ∷ y ∷ row) = ap (λ (l : List Point). shift d (record { x = x; y = y }) ∷ l) (shifted_points row)

  pub shifted_x : (row : List ℤ) (i : ℕ) → i < count row → get_or (shifted d row) (2 * i) (pos 0) ≡ get_or row (2 * i) (pos 0) +ℤ d.dx
  unfolding shifted
  shifted_x [] i h = absurd (omega arith)
  shifted_x (x ∷ []) i h = absurd (omega arith)
  shifted_x (x ∷ y ∷ row) zero h = refl
  shifted_x (x ∷ y ∷ row) (suc i) h = rw (two_more i) (shifted_x row i (omega arith))

  pub shifted_y : (row : List ℤ) (i : ℕ) → i < count row → get_or (shifted d row) (2 * i + 1) (pos 0) ≡ get_or row (2 * i + 1) (pos 0) +ℤ d.dy
  unfolding shifted
  shifted_y [] i h = absurd (omega arith)
  shifted_y (x ∷ []) i h = absurd (omega arith)
  shifted_y (x ∷ y ∷ row) zero h = refl
  shifted_y (x ∷ y ∷ row) (suc i) h = let e : 2 * suc i + 1 ≡ suc (suc (2 * i + 1)) = omega arith in rw e (shifted_y row i (omega arith))

  pub shifted_at : (row : List ℤ) (i : ℕ) → i < count row → at (shifted d row) i ≡ shift d (at row i)
  shifted_at row i h = ap₂ {C = Point} (λ (u v : ℤ). record { x = u; y = v }) (shifted_x row i h) (shifted_y row i h)

  -- a shifted part, cut off behind whole points
  pub shifted_taken : (n : ℕ) (row : List ℤ) → take (2 * n) (shifted d row) ≡ shifted d (take (2 * n) row)
  unfolding shifted
  shifted_taken zero row = refl
  shifted_taken (suc n) [] = rw (two_more n)
  shifted_taken (suc n) (x ∷ []) = rw (two_more n)
  shifted_taken (suc n) (x ∷ y ∷ row) = rw (two_more n) (ap (λ (l : List ℤ). (x +ℤ d.dx) ∷ (y +ℤ d.dy) ∷ l) (shifted_taken n row))

  pub shifted_dropped : (n : ℕ) (row : List ℤ) → drop (2 * n) (shifted d row) ≡ shifted d (drop (2 * n) row)
  unfolding shifted
  shifted_dropped zero row = refl
  shifted_dropped (suc n) [] = rw (two_more n)
  shifted_dropped (suc n) (x ∷ []) = rw (two_more n)
  shifted_dropped (suc n) (x ∷ y ∷ row) = rw (two_more n) (shifted_dropped n row)

  pub shifted_joined : (a b : List ℤ) → length a ≡ 2 * count a → shifted d (a ++ b) ≡ shifted d a ++ shifted d b
  unfolding shifted
  shifted_joined [] b h = refl
  shifted_joined (x ∷ []) b h = absurd (omega arith)
  shifted_joined (x ∷ y ∷ a) b h = ap (λ (l : List ℤ). (x +ℤ d.dx) ∷ (y +ℤ d.dy) ∷ l) (shifted_joined a b (omega arith))

pub reversed-length : (row : List ℤ) → length (reversed row) ≡ length row
unfolding reversed
reversed-length [] = refl
reversed-length (x ∷ []) = refl
reversed-length (x ∷ y ∷ row) = length-append (reversed row) (x ∷ y ∷ []) ∙ omega (arith, reversed-length row)

pub reversed_on : (bound : ℕ) (row : List ℤ) → all_on_grid bound (reversed row) ≡ all_on_grid bound row
unfolding reversed
reversed_on bound [] = refl
reversed_on bound (x ∷ []) = refl
reversed_on bound (x ∷ y ∷ row) =
    on_joined bound (reversed row) (x ∷ y ∷ [])
    ∙ ap (λ (t : Bool). t && all_on_grid bound (x ∷ y ∷ [])) (reversed_on bound row)
    ∙ and_comm (all_on_grid bound row) (all_on_grid bound (x ∷ y ∷ []))
    ∙ sym (on_joined bound (x ∷ y ∷ []) row)

pub reversed_points : (row : List ℤ) → length row ≡ 2 * count row → points (reversed row) ≡ reverse (points row)
unfolding reversed points
reversed_points [] h = refl
reversed_points (x ∷ []) h = absurd (omega arith)
reversed_points (x ∷ y ∷ row) h =
    points_joined (reversed row) (x ∷ y ∷ []) (omega (arith, reversed-length row))
    ∙ ap (λ (l : List Point). l ++ record { x = x; y = y } ∷ []) (reversed_points row (omega arith))
    ∙ sym (reverse-cons (record { x = x; y = y }) (points row))

module _ (k : ℕ) (row : List ℤ) where
  pub started_on : (bound : ℕ) → all_on_grid bound (started_at k row) ≡ all_on_grid bound row
  started_on bound =
      on_joined bound (drop (2 * k) row) (take (2 * k) row)
      ∙ and_comm (all_on_grid bound (drop (2 * k) row)) (all_on_grid bound (take (2 * k) row))
      ∙ sym (on_joined bound (take (2 * k) row) (drop (2 * k) row))
      ∙ ap (all_on_grid bound) (take-append-drop (2 * k) row)

  pub started_points : length row ≡ 2 * count row → points (started_at k row) ≡ drop k (points row) ++ take k (points row)
  started_points h =
      points_joined (drop (2 * k) row) (take (2 * k) row) (omega (arith, length-drop (2 * k) row))
      ∙ ap₂ ◌++◌ (points_dropped k row) (points_taken k row)
