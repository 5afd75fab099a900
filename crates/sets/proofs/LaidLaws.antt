-- Lists laid end to end, and the ranges that are written for them.
use Rattle.std.proofs.Common.{◌≡◌, ℕ, ◌+◌, ◌*◌, List, [], ◌∷◌, ◌++◌, length, ℤ, ap, ◌∙◌, arith}
use lib.ListN.{length-map}
use Rattle.grid.specs.Domain.{count}
use Rattle.buffer.specs.declared.ranges.Span.{Span}
use Rattle.buffer.specs.Spans.{row, rows, total, laid}
use Rattle.buffer.specs.Sets.{joined, Even}
use Rattle.buffer.proofs.RowLaws.{rows_append}
use Rattle.buffer.proofs.SetLaws.{laid-length}
use Rattle.buffer.proofs.Theorems.{points_total}

pub even-append : (a b : List (List ℤ)) → Even a → Even b → Even (a ++ b)
even-append [] b h k = k
even-append (c ∷ a) b h k = (h.0, even-append a b h.1 k)

pub points_even : (t : List (List ℤ)) → Even t → length (joined t) ≡ 2 * count (joined t)
points_even t h = omega (arith, points_total t h)

laid-append : (p q : ℕ) (a b : List ℕ) → q ≡ p + total a → laid p (a ++ b) ≡ laid p a ++ laid q b
unfolding laid
laid-append p q [] b e = let z : p ≡ q = omega arith in ap (λ (k : ℕ). laid k b) z
laid-append p q (n ∷ a) b e = ap (λ (l : List Span). record { start = p; end = p + n } ∷ l) (laid-append (p + n) q a b (omega arith))

pub rows_long : (p : ℕ) (sizes : List ℕ) → length (rows (laid p sizes)) ≡ length sizes
rows_long p sizes = length-map (laid p sizes) row ∙ laid-length p sizes

pub rows_laid : (p q : ℕ) (a b : List ℕ) → q ≡ p + total a → rows (laid p (a ++ b)) ≡ rows (laid p a) ++ rows (laid q b)
rows_laid p q a b e = ap rows (laid-append p q a b e) ∙ rows_append (laid p a) (laid q b)
