-- `buffer::inner::joining::both_numbers` meets its contract.
use mathlib.Core.Path.{refl, ◌∙◌, ap}
use lib.ListN.{length}
use Rattle.rows.specs.Rows.{placed}
use Rattle.rows.proofs.RowLaws.{placed_front, placed_next}
use Rattle.buffer.proofs.inner.joining.both_numbers.Goals as goal

pub returns : goal.returns
returns c =
    let s = c.args in
    c.copy-2.ensures ∙ ap (placed (length s.one.now) s.two.now) (c.copy.ensures ∙ placed_front s.out.now s.one.now)
    ∙ placed_next s.out.now s.one.now s.two.now _ refl
