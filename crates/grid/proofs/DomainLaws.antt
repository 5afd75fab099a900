-- A row that no call refuses is a contour of the domain.
use Rattle.std.proofs.Common.{◌≡◌, ℕ, ◌%◌, not, List, length, ℤ, sym, ap, arith, ltb-false, le-ltb, ne_eqb}
use borrow.Author.Tests.{eqb-false, not-false}
use Rattle.grid.specs.Limits.{limit, all_on_grid, most}
use Rattle.replies.specs.Ladder.{first_of}
use Rattle.grid.specs.Domain.{count, domain, Contour}
use Rattle.replies.proofs.LadderLaws.{clear, first_is}
use Rattle.replies.proofs.LadderLaws.First.{past, foot}

pub in_domain : (row : List ℤ) → first_of (domain limit row) ≡ 0 → Contour row (count row)
in_domain row e =
    let c = clear (domain limit row) tt e in
    record {
      even = omega (arith, eqb-false (length row % 2) 1 c.0);
      few = ltb-false _ _ c.1.0;
      on = not-false (all_on_grid limit row) c.1.1.0;
    }

-- and a contour of the domain is not refused
pub contour_clear : (row : List ℤ) {n : ℕ} → Contour row n → first_of (domain limit row) ≡ 0
contour_clear row {n} x =
    sym
    (first_is _ 0
    (past (ne_eqb (length row % 2) 1 (λ h. omega (arith, x.even)))
    (past (le-ltb most (count row) (omega (arith, x.even, x.few)))
    (past (ap not x.on) foot))))
