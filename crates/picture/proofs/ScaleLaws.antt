-- The bar of the scale, and its label.
use mathlib.Core.Path.{◌≡◌, refl, ◌∙◌, ap}
use mathlib.Core.Bool.{Bool, true, false}
use mathlib.Core.List.{List}
use Prim.Native.Nat.{ℕ, zero, suc, ◌*◌, ◌-◌, ◌/◌, ◌≤◌, ◌<◌}
use native.Mathlib.Omega.{arith}
use lib.Dec.{leb}
use borrow.Author.Tests.{lt-ltb, le-ltb, le-leb, lt-leb}
use Rattle.report.specs.Text.{decimal}
use Rattle.picture.specs.Names.{tenth, hundredth, thousandth}
use Rattle.picture.specs.Frame.{bar_from, label}

module _ (long width : ℕ) where
  pub bar_long : (k : ℕ) → 0 < k → 125 * width < 1280 * long → bar_from k long width ≡ long
  unfolding bar_from
  bar_long zero p h = absurd (omega arith)
  bar_long (suc k) p h = ap (λ (t : Bool). elim t [ true ↦ long | false ↦ bar_from k (long * 10) width ]) (lt-ltb _ _ h)

  pub bar_longer : (k : ℕ) → 0 < k → 1280 * long ≤ 125 * width → bar_from k long width ≡ bar_from (k - 1) (long * 10) width
  unfolding bar_from
  bar_longer zero p h = absurd (omega arith)
  bar_longer (suc k) p h =
      let e : suc k - 1 ≡ k = omega arith in
      rw e (ap (λ (t : Bool). elim t [ true ↦ long | false ↦ bar_from k (long * 10) width ]) (le-ltb _ _ h))

  pub bar_longest : (k : ℕ) → k ≤ 0 → bar_from k long width ≡ long
  unfolding bar_from
  bar_longest zero p = refl
  bar_longest (suc k) p = absurd (omega arith)

-- the label, by how long the bar is
labels : Bool → Bool → Bool → ℕ → List ℕ
labels a b c long = elim a [ true ↦ decimal (long / 1000) | false ↦ elim b [ true ↦ tenth | false ↦ elim c [ true ↦ hundredth | false ↦ thousandth ] ] ]

module _ (long : ℕ) where
  pub label_whole : 1000 ≤ long → label long ≡ decimal (long / 1000)
  unfolding label labels
  label_whole h = ap (λ (t : Bool). labels t (leb 100 long) (leb 10 long) long) (le-leb _ _ h)

  module _ (u : long < 1000) where
    smaller : label long ≡ labels false (leb 100 long) (leb 10 long) long
    unfolding label labels
    smaller = ap (λ (t : Bool). labels t (leb 100 long) (leb 10 long) long) (lt-leb _ _ u)

    pub label_tenth : 100 ≤ long → label long ≡ tenth
    unfolding labels
    label_tenth h = smaller ∙ ap (λ (t : Bool). labels false t (leb 10 long) long) (le-leb _ _ h)

    pub label_hundredth : long < 100 → 10 ≤ long → label long ≡ hundredth
    unfolding labels
    label_hundredth h g =
        smaller ∙ ap (λ (t : Bool). labels false t (leb 10 long) long) (lt-leb _ _ h) ∙ ap (λ (t : Bool). labels false false t long) (le-leb _ _ g)

    pub label_thousandth : long < 100 → long < 10 → label long ≡ thousandth
    unfolding labels
    label_thousandth h g =
        smaller ∙ ap (λ (t : Bool). labels false t (leb 10 long) long) (lt-leb _ _ h) ∙ ap (λ (t : Bool). labels false false t long) (lt-leb _ _ g)
