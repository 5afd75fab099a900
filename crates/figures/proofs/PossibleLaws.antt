-- Figures that sets can have, test by test.
use mathlib.Core.Path.{◌≡◌}
use mathlib.Core.Bool.{Bool, true, false, ◌&&◌}
use Prim.Native.Nat.{ℕ, ◌+◌, ◌-◌, ◌<◌, ◌≤◌}
use native.Mathlib.Omega.{arith}
use lib.Dec.{leb}
use lib.IntN.{ℤ, pos, negsuc, neg_ℤ}
use lib.Signed.{le_z}
use borrow.Author.Tests.{le-leb, lt-leb, leb-true}
use Rattle.integers.specs.Bound.{In}
use Rattle.integers.proofs.Logic.{and_left, and_right}
use Rattle.figures.specs.declared.answer.Figures.{Figures}
use Rattle.figures.specs.Joining.{most_counted, most_points, most_decisions, most_high, in_all, possible, fits}

module _ (f : Figures) where
  -- the last two tests
  abbrev pub high_tests : Bool
  high_tests = le_z (neg_ℤ (pos most_high)) f.high && le_z f.high (pos (most_high - 1))

  pub not_before : most_points < f.before → false ≡ possible f
  unfolding possible
  not_before h = rw (lt-leb f.before most_points h)

  module _ (p : f.before ≤ most_points) where
    pub not_after : most_points < f.after → false ≡ possible f
    unfolding possible
    not_after h = rw (le-leb f.before most_points p, lt-leb f.after most_points h)

    module _ (q : f.after ≤ most_points) where
      pub not_decisions : most_decisions < f.decisions → false ≡ possible f
      unfolding possible
      not_decisions h = rw (le-leb f.before most_points p, le-leb f.after most_points q, lt-leb f.decisions most_decisions h)

      pub by_high : f.decisions ≤ most_decisions → possible f ≡ high_tests
      unfolding possible
      by_high r = rw (le-leb f.before most_points p, le-leb f.after most_points q, le-leb f.decisions most_decisions r)

high_in : (z : ℤ) → le_z (neg_ℤ (pos most_high)) z ≡ true → le_z z (pos (most_high - 1)) ≡ true → In most_high z
high_in (pos n) l h = record { abs = omega (arith, leb-true n (most_high - 1) h) }
high_in (negsuc n) l h = record { abs = omega (arith, leb-true n (most_high - 1) l) }

-- what they have then
pub record Possible (f : Figures) : Type 0 where
  pub before : f.before ≤ most_points
  pub after : f.after ≤ most_points
  pub decisions : f.decisions ≤ most_decisions
  pub high : In most_high f.high

pub possible_means : (f : Figures) → possible f ≡ true → Possible f
unfolding possible
possible_means f e =
    let b = leb f.before most_points in
    let a = leb f.after most_points in
    let d = leb f.decisions most_decisions in
    let l = le_z (neg_ℤ (pos most_high)) f.high in
    let h = le_z f.high (pos (most_high - 1)) in
    let e₁ = and_right b (a && (d && (l && h))) e in
    let e₂ = and_right a (d && (l && h)) e₁ in
    let e₃ = and_right d (l && h) e₂ in
    record {
      before = leb-true _ _ (and_left b (a && (d && (l && h))) e);
      after = leb-true _ _ (and_left a (d && (l && h)) e₁);
      decisions = leb-true _ _ (and_left d (l && h) e₂);
      high = high_in f.high (and_left l h e₃) (and_right l h e₃);
    }

-- what fits
module _ (f : Figures) (more : ℕ) where
  pub fits_not : most_counted < in_all f + more → false ≡ fits f more
  unfolding fits
  fits_not h = rw (lt-leb (in_all f + more) most_counted h)

  pub fits_is : in_all f + more ≤ most_counted → possible f ≡ fits f more
  unfolding fits
  fits_is h = rw (le-leb (in_all f + more) most_counted h)

  pub fits_means : fits f more ≡ true → (in_all f + more ≤ most_counted) × (possible f ≡ true)
  unfolding fits
  fits_means e = (leb-true _ _ (and_left (leb (in_all f + more) most_counted) (possible f) e), and_right (leb (in_all f + more) most_counted) (possible f) e)
