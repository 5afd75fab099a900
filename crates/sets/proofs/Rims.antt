-- A point on a rim, and one on none.
use borrow.Author.Tests.{not-true}
use Rattle.std.proofs.Common.{◌≡◌, ℕ, Bool, true, false, not, ◌&&◌, eqb, List, [], ◌∷◌, ℤ, refl, ap, ◌∙◌, ap₂}
use Rattle.integers.proofs.Logic.{and_left, and_right}
use Rattle.grid.specs.declared.Point.{Point}
use Rattle.grid.specs.Points.{points}
use Rattle.path.specs.Contains.{contained}
use Rattle.path.specs.Locate.{on_boundary, location}
use Rattle.path.proofs.LocateLaws.{place_by}
use Rattle.sets.specs.Verdicts.{every}
use Rattle.sets.specs.Contains.{outside, inside, inside_none, has}

module _ (p : Point) (c : List ℤ) where
  module _ (on : on_boundary p (points c) ≡ true) where
    on_is : location p (points c) ≡ 1
    unfolding location
    on_is = ap (λ (met : Bool). place_by met (contained p (points c))) on

    pub a_shape_has_its_outline's_rim_but_for_what_lies_inside_a_later_contour : (later : List (List ℤ)) → has p (c ∷ later) ≡ inside_none p later
    unfolding has
    a_shape_has_its_outline's_rim_but_for_what_lies_inside_a_later_contour later = rw on_is

    pub a_hole_takes_nothing_of_its_rim : (outline : List ℤ) (later : List (List ℤ)) → has p (outline ∷ c ∷ later) ≡ has p (outline ∷ later)
    unfolding has every
    a_hole_takes_nothing_of_its_rim outline later = rw on_is

  module _ (off : on_boundary p (points c) ≡ false) where
    off_is : location p (points c) ≡ place_by false (contained p (points c))
    unfolding location
    off_is = ap (λ (met : Bool). place_by met (contained p (points c))) off

    inside_is : inside p c ≡ contained p (points c)
    inside_is = ap (λ (k : ℕ). eqb k 2) off_is ∙ go (contained p (points c))
      where
        go : (b : Bool) → eqb (place_by false b) 2 ≡ b
        go true = refl
        go false = refl

    not_outside_is : not (outside p c) ≡ contained p (points c)
    not_outside_is = ap (λ (k : ℕ). not (eqb k 0)) off_is ∙ go (contained p (points c))
      where
        go : (b : Bool) → not (eqb (place_by false b) 0) ≡ b
        go true = refl
        go false = refl

-- every contour leaves p off its boundary; and none contains it
abbrev off_all : Point → List (List ℤ) → Bool
off_all p set = every (λ (c : List ℤ). not (on_boundary p (points c))) set

abbrev contained_in_none : Point → List (List ℤ) → Bool
contained_in_none p set = every (λ (c : List ℤ). not (contained p (points c))) set

none_is : (p : Point) (set : List (List ℤ)) → off_all p set ≡ true → inside_none p set ≡ contained_in_none p set
unfolding every
none_is p [] off = refl
none_is p (c ∷ set) off =
    ap₂ (λ (a b : Bool). not a && b) (inside_is p c (not-true _ (and_left (not (on_boundary p (points c))) _ off))) (none_is p set (and_right (not (on_boundary p (points c))) _ off))

pub off_every_rim_a_shape_has_what_its_first_contour_contains_and_no_later_one : (p : Point) (c : List ℤ) (later : List (List ℤ))
    → off_all p (c ∷ later) ≡ true → has p (c ∷ later) ≡ (contained p (points c) && contained_in_none p later)
unfolding has every
off_every_rim_a_shape_has_what_its_first_contour_contains_and_no_later_one p c later off =
    ap₂ (λ (a b : Bool). a && b) (not_outside_is p c (not-true _ (and_left (not (on_boundary p (points c))) _ off))) (none_is p later (and_right (not (on_boundary p (points c))) _ off))
