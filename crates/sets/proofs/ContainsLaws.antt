-- A point and the contours of a shape.
use Rattle.std.proofs.Common.{◌≡◌, ℕ, ◌<◌, ◌≤◌, Bool, true, false, not, List, [], length, get_or, drop, ℤ, sym, ap, ◌∙◌, arith, eq-eqb, ne_eqb}
use Rattle.grid.specs.Limits.{limit}
use Rattle.grid.specs.declared.Point.{Point}
use Rattle.grid.specs.Points.{on, points}
use Rattle.replies.specs.Ladder.{first_of}
use Rattle.replies.proofs.LadderLaws.{first_is, onward, stopped}
use Rattle.replies.proofs.LadderLaws.First.{here, past, foot}
use Rattle.replies.proofs.VerdictLaws.{verdict_refused, verdict_given}
use Rattle.path.specs.Locate.{location}
use Rattle.buffer.specs.Spans.{span, spans}
use Rattle.buffer.specs.Sets.{contour, contours}
use Rattle.buffer.specs.Contours.{refusals}
use Rattle.sets.specs.Contains.{inside_none, has, shape_refusals, in_shape}
use Rattle.sets.proofs.PartLaws.{next_part, no_part}

module _ (a : Point) (p : List ℤ) (cs : List (List ℕ)) where
  -- no contour, or a point outside the first: it is not in the shape
  pub nothing_there : length cs ≤ 0 → false ≡ has a (contours p (spans cs))
  unfolding has
  nothing_there h = sym (ap (has a) (no_part p cs 0 h))

  module _ (h : 0 < length cs) where
    abbrev first : List ℤ
    first = contour p (span (get_or cs 0 []))

    pub outside_first : location a (points first) ≡ 0 → false ≡ has a (contours p (spans cs))
    unfolding has
    outside_first e = sym (ap (has a) (next_part p cs 0 h) ∙ rw (eq-eqb (location a (points first)) 0 e))

    -- a point inside the first contour or on it: the later ones decide
    pub later_decide : (location a (points first) ≡ 0 → ⊥) → inside_none a (drop 1 (contours p (spans cs))) ≡ has a (contours p (spans cs))
    unfolding has
    later_decide n = sym (ap (has a) (next_part p cs 0 h) ∙ rw (ne_eqb (location a (points first)) 0 n))

-- the answers
module _ (p : List ℤ) (cs : List (List ℕ)) (x y : ℤ) where
  abbrev asked : Point
  asked = record { x = x; y = y }

  pub shape_refused : (k : ℕ) → k ≡ first_of (refusals p cs) → (k ≡ 0 → ⊥) → record { reply = k; yes = false } ≡ in_shape p cs x y
  unfolding in_shape
  shape_refused k e n = verdict_refused _ _ k (first_is (shape_refusals asked p cs) k (stopped (refusals p cs) _ k e n)) n

  module _ (z : first_of (refusals p cs) ≡ 0) where
    pub asked_off : on limit asked ≡ false → record { reply = 3; yes = false } ≡ in_shape p cs x y
    unfolding in_shape
    asked_off g = verdict_refused _ _ 3 (first_is (shape_refusals asked p cs) 3 (onward (refusals p cs) _ 3 tt z (here (ap not g)))) (λ e. absurd (omega arith))

    pub shape_given : on limit asked ≡ true → (b : Bool) → b ≡ has asked (contours p (spans cs)) → record { reply = 0; yes = b } ≡ in_shape p cs x y
    unfolding in_shape
    shape_given g b e = verdict_given _ _ b (sym (first_is (shape_refusals asked p cs) 0 (onward (refusals p cs) _ 0 tt z (past (ap not g) foot)))) e
