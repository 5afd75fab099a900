-- The places that are told: each is that of a point of the second contour, or one past its last.
use mathlib.Core.Path.{◌≡◌, refl}
use mathlib.Core.Bool.{Bool, true, false}
use mathlib.Core.List.{List, [], ◌∷◌}
use Prim.Native.Nat.{ℕ, zero, suc, ◌≤◌, min}
use native.Mathlib.Omega.{arith}
use lib.Dec.{eqb, ltb}
use lib.IntN.{ℤ}
use borrow.Author.Tests.{ltb-true}
use Rattle.grid.specs.Limits.{most}
use Rattle.grid.specs.Domain.{count}
use Rattle.turned.specs.Starts.{smallest_start}
use Rattle.difference.specs.declared.inner.lines.Line.{Line}
use Rattle.difference.specs.Lines.{elsewhere, different, judged, by_count, compared, listed, written, place}
use Rattle.difference.proofs.LineLaws.{other_within}
use Rattle.report.specs.inside.Lines.{Contours}
use Rattle.changes.specs.inside.Lines.{Places}

judged_within : (n s d : ℕ) → d ≤ n → place (judged n s d) ≤ n
judged_within n zero d h = omega arith
judged_within n (suc s) d h = go (ltb (suc s) n) refl
  where
    go : (b : Bool) → ltb (suc s) n ≡ b → let l : Line = elim b [ true ↦ elsewhere (suc s) | false ↦ different d ] in place l ≤ n
    go true e = omega (arith, ltb-true (suc s) n e)
    go false e = h

pub place_within : (first second : List ℤ) → place (compared first second) ≤ count second
unfolding compared
place_within first second = go (eqb (count first) (count second))
  where
    go : (b : Bool) → place (by_count b first second) ≤ count second
    go true = judged_within (count second) (smallest_start first second (count second)) _ (other_within first second (count second))
    go false = omega (arith, other_within first second (min (count first) (count second)))

pub places : (firsts seconds : List (List ℤ)) → Contours seconds → Places (written (listed firsts seconds))
unfolding listed most
places [] [] h i l = absurd (omega arith)
places [] (b ∷ seconds) h zero l = omega arith
places [] (b ∷ seconds) h (suc i) l = places [] seconds h.1 i (omega arith)
places (a ∷ firsts) [] h zero l = omega arith
places (a ∷ firsts) [] h (suc i) l = places firsts [] h i (omega arith)
places (a ∷ firsts) (b ∷ seconds) h zero l = omega (arith, place_within a b, h.0.few)
places (a ∷ firsts) (b ∷ seconds) h (suc i) l = places firsts seconds h.1 i (omega arith)
