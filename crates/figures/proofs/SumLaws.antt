-- How figures are added up, and joined.
use mathlib.Core.Path.{◌≡◌, refl, sym, ◌∙◌, ap, ap₂}
use mathlib.Core.Bool.{Bool, true, false, ◌&&◌}
use mathlib.Core.List.{List, [], ◌∷◌}
use Prim.Native.Nat.{ℕ, ◌+◌, ◌*◌, ◌/◌, ◌%◌, ◌<◌, ◌^◌}
use native.Mathlib.Omega.{arith}
use lib.IntN.{ℤ, pos, negsuc, ◌+ℤ◌, ◌*ℤ◌}
use mir.Syntax.{w64}
use mir.Val.{SFits, to_z, of_z}
use mir.Facts.{to_z_pos}
use Rattle.integers.specs.Bound.{In}
use Rattle.integers.proofs.Bound.{in_add, in_pos, in_eq, in_fits, back, back_in}
use Rattle.integers.specs.Polynomial.{#, num, ◌:+◌, ◌:*◌}
use Rattle.integers.proofs.Polynomial.{ring_by}
use Rattle.replies.specs.Ladder.{first_of}
use Rattle.figures.specs.declared.answer.Figures.{Figures}
use Rattle.figures.specs.Halves.{high, low, whole}
use Rattle.figures.specs.Joining.{most_high, added_up, in_all, area_sum, sum, possible, fits, over, added, answered, joined_figures}
use Rattle.figures.specs.inside.Adding.{Joinable}
use Rattle.figures.proofs.HalvesLaws.{split_only}
use Rattle.figures.proofs.PossibleLaws.{fits_means}

-- what the two lows carry goes onto the two highs
carried : (a b : ℤ) (x y c r : ℕ) → c * 2 ^ 32 + r ≡ x + y → whole a x +ℤ whole b y ≡ whole (a +ℤ b +ℤ pos c) r
carried a b x y c r e =
    let h : pos c *ℤ pos (2 ^ 32) +ℤ pos r ≡ pos x +ℤ pos y = ap pos e in
    ring_by (# 0 :* # 1 :+ # 2 :+ (# 3 :* # 1 :+ # 4)) ((# 0 :+ # 3 :+ # 5) :* # 1 :+ # 6) (num (negsuc 0)) (# 5 :* # 1 :+ # 6) (# 2 :+ # 4)
    (a ∷ pos (2 ^ 32) ∷ pos x ∷ b ∷ pos y ∷ pos c ∷ pos r ∷ []) h refl

module _ (f g : Figures) where
  abbrev lows : ℕ
  lows = f.low + g.low

  split-sum : (high (area_sum f +ℤ area_sum g) ≡ f.high +ℤ g.high +ℤ pos (lows / 2 ^ 32)) × (low (area_sum f +ℤ area_sum g) ≡ lows % 2 ^ 32)
  split-sum =
      split_only (area_sum f +ℤ area_sum g) (f.high +ℤ g.high +ℤ pos (lows / 2 ^ 32)) (lows % 2 ^ 32)
      (carried f.high g.high f.low g.low (lows / 2 ^ 32) (lows % 2 ^ 32) (omega arith)) (omega arith)

  -- so the sum is made of these
  pub sum_is : (t : List ℕ) (h : ℤ) → t ≡ added_up f.totals g.totals → h ≡ f.high +ℤ g.high +ℤ pos (lows / 2 ^ 32)
      → record { totals = t; before = f.before + g.before; after = f.after + g.after; decisions = f.decisions + g.decisions; high = h; low = lows % 2 ^ 32 } ≡ sum f g
  unfolding sum
  sum_is t h e k = rw (e, k, split-sum.0, split-sum.1)

-- an i64 as a local holds it
abbrev held : ℤ → ℤ
held z = to_z w64 (of_z w64 z)

module _ {a b : ℤ} {n : ℕ} (ha : In most_high a) (hb : In most_high b) (small : n < 2 ^ 34) where
  both_in : In (most_high + most_high) (held a +ℤ held b)
  both_in = in_add (back_in w64 ha tt) (back_in w64 hb tt)

  carry_in : In (2 ^ 34) (to_z w64 n)
  carry_in = in_eq (to_z_pos w64 {n = n} (omega arith)) (in_pos (omega arith))

  pub carry_fits : SFits w64 (held (held a +ℤ held b) +ℤ to_z w64 n)
  carry_fits = in_fits (in_add (back_in w64 both_in tt) carry_in) tt

  pub carry_is : held (held (held a +ℤ held b) +ℤ to_z w64 n) ≡ a +ℤ b +ℤ pos n
  carry_is =
      back w64 (in_add (back_in w64 both_in tt) carry_in) tt
      ∙ ap₂ ◌+ℤ◌ (back w64 both_in tt ∙ ap₂ ◌+ℤ◌ (back w64 ha tt) (back w64 hb tt)) (to_z_pos w64 {n = n} (omega arith))

pub highs_fit : {a b : ℤ} → In most_high a → In most_high b → SFits w64 (held a +ℤ held b)
highs_fit ha hb = in_fits (in_add (back_in w64 ha tt) (back_in w64 hb tt)) tt

-- whether 21 is told
pub over_not : (b : Bool) → b ≡ true → first_of (over b) ≡ 0
unfolding first_of
over_not b e = rw e

pub over_is : (b : Bool) → b ≡ false → first_of (over b) ≡ 21
unfolding first_of
over_is b e = rw e

-- by that, the figures are others, or as they were
module _ (b : Bool) (f : Figures) where
  pub answered_over : (others : Figures) → b ≡ false → added 21 f ≡ answered (first_of (over b)) f others
  answered_over others e = sym (ap (λ (k : ℕ). answered k f others) (over_is b e))

  pub answered_done : (s others : Figures) → b ≡ true → s ≡ others → added 0 s ≡ answered (first_of (over b)) f others
  answered_done s others e i = ap (added 0) i ∙ sym (ap (λ (k : ℕ). answered k f others) (over_not b e))

-- how figures are joined, by the two tests
module _ (f g : Figures) where
  pub joined_full : fits f (in_all g) ≡ false → added 21 f ≡ joined_figures f g
  unfolding joined_figures
  joined_full e = answered_over (fits f (in_all g) && possible g) f (sum f g) (rw e)

  module _ (t : fits f (in_all g) ≡ true) where
    pub joined_never : possible g ≡ false → added 21 f ≡ joined_figures f g
    unfolding joined_figures
    joined_never e = answered_over (fits f (in_all g) && possible g) f (sum f g) (rw (t, e))

    pub joined_done : (s : Figures) → possible g ≡ true → s ≡ sum f g → added 0 s ≡ joined_figures f g
    unfolding joined_figures
    joined_done s e i = answered_done (fits f (in_all g) && possible g) f s (sum f g) (rw (t, e)) i

    pub joinable : possible g ≡ true → Joinable f g
    joinable e = record { few = (fits_means f (in_all g) t).0; first = (fits_means f (in_all g) t).1; second = e }
