-- Around a contour from corner to corner: what a test of the corners has shown so far.
use Rattle.std.proofs.Common.{◌≡◌, Bool, true, false, ◌||◌, List, [], ◌∷◌, sym, ap, ◌∙◌}
use mathlib.Core.Bool.{or-false, or_assoc}
use Rattle.grid.specs.declared.Point.{Point}
use Rattle.grid.specs.Corners.{Corner, corners_from, corners, some}

abbrev pub corner : Point → Point → Point → Corner
corner a b c = record { before = a; vertex = b; after = c }

-- of the corners of l some pass the test t: one that was met, or one from b on
pub record Tally (t : Corner → Bool) (met : Bool) (l : List Point) (o a b : Point) (unmet : List Point) : Type 0 where
  pub is : some t (corners l) ≡ (met || some t (corners_from o a b unmet))

module _ {t : Corner → Bool} {met : Bool} {l : List Point} {o a b : Point} where
  pub tally_more : {c : Point} {unmet : List Point} → Tally t met l o a b (c ∷ unmet) → Tally t (met || t (corner a b c)) l o b c unmet
  unfolding corners_from some
  tally_more {c} {unmet} x = record { is = x.is ∙ sym (or_assoc met (t (corner a b c)) (some t (corners_from o b c unmet))) }

  pub tally_met : {unmet : List Point} → Tally t met l o a b unmet → met ≡ true → some t (corners l) ≡ true
  tally_met {unmet} x e = x.is ∙ ap (λ (u : Bool). u || some t (corners_from o a b unmet)) e

  -- a corner that passes no test
  pub tally_past : {c : Point} {unmet : List Point} → Tally t met l o a b (c ∷ unmet) → t (corner a b c) ≡ false → Tally t met l o b c unmet
  tally_past x e = rw (e, or-false met) at (tally_more x)

  pub tally_all : Tally t met l o a b [] → some t (corners l) ≡ (met || t (corner a b o))
  unfolding corners_from some
  tally_all x = x.is ∙ ap (λ (u : Bool). met || u) (or-false (t (corner a b o)))
