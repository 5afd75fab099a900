-- `grid::inner::bounds::beyond` meets its contract: the sum wraps as the law's.
use Rattle.std.proofs.Common.{ℕ, ◌+◌, ◌%◌, ◌^◌, ap, ◌∙◌, ap₂, to_z-of_z, w32, to_z, rules}
use borrow.Author.Rules.{sfits_of}
use lib.Signed.{lt_z}
use Rattle.grid.specs.Limits.{limit}
use Rattle.grid.specs.inside.Rows.{raised}
use Rattle.grid.proofs.LimitLaws.{set_off_beyond}
use Rattle.grid.proofs.inner.bounds.beyond.Goals as goal

pub overflow_add-set_off : goal.overflow_add-set_off
unfolding limit
overflow_add-set_off c = search rules

pub overflow_mul-bound : goal.overflow_mul-bound
unfolding limit
overflow_mul-bound c = search rules

pub overflow_add-bound : goal.overflow_add-bound
unfolding limit
overflow_add-bound c = search rules

pub returns : goal.returns
unfolding raised
returns c =
    let bound = c.args.bound in
    let bits = rw (to_z-of_z c.ranges.x) at c.cast_unsigned.ensures in
    let off = c.cast_signed-2.ensures ∙ ap (λ (n : ℕ). to_z w32 ((n + (2147483648 + bound)) % 2 ^ 32)) bits in
    ap₂ lt_z (to_z-of_z {w = w32} (sfits_of c.cast_signed.type_inv) ∙ c.cast_signed.ensures) (to_z-of_z {w = w32} (sfits_of c.cast_signed-2.type_inv) ∙ off)
    ∙ set_off_beyond bound c.args.x c.requires c.ranges.x
