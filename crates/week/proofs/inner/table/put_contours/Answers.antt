-- `week::inner::table::put_contours` meets its contract: line by line.
use mathlib.Core.Path.{refl, sym, subst}
use Prim.Native.Nat.{ℕ, ◌+◌, ◌≤◌}
use lib.ListN.{length}
use Rattle.buffer.specs.Sets.{joined}
use Rattle.report.specs.inside.Lines.{Put}
use Rattle.report.proofs.PutLaws.{Going, going_none, going_room, going_more, going_all}
use Rattle.week.specs.Table.{line, contour_lines}
use Rattle.week.specs.Words.{kept}
use Rattle.week.proofs.inner.table.put_contours.Goals as goal
use Rattle.week.proofs.inner.table.put_contours.Goals.{Start}

-- all of it is to be put
begun : (c : Start) → let s = c.args in
    Going s.at (joined (contour_lines s.totals.now)) s.text.now s.at s.text.now (contour_lines s.totals.now)
begun c = let s = c.args in going_none s.at s.text.now (contour_lines s.totals.now) refl c.requires.totals_in_bounds

pub put_line-second-requires : goal.put_line-second-requires
put_line-second-requires c =
    let s = c.args in
    subst (λ (n : ℕ). s.at + length (line kept n) ≤ length s.text.now) (sym c.from.ensures) (going_room (begun (goal.at.put_line-second-requires c).Start))

pub put_told-requires : goal.put_told-requires
put_told-requires c =
    let s = c.args in
    record {
      in_bounds = c.requires.in_bounds;
      text_in_bounds =
          going_room
          (going_more (begun (goal.at.put_told-requires c).Start)
          (subst (λ (n : ℕ). Put s.at (line kept n) s.text.now c.put_line-second.result c.put_line-second.new.text) c.from.ensures c.put_line-second.ensures));
    }

pub returns : goal.returns
returns c =
    let s = c.args in
    going_all
    (going_more
    (going_more (begun (goal.at.returns c).Start)
    (subst (λ (n : ℕ). Put s.at (line kept n) s.text.now c.put_line-second.result c.put_line-second.new.text) c.from.ensures c.put_line-second.ensures))
    c.put_told.ensures)
