-- `clean::inner::look::none_reverses` meets its contract: the way begins at the first point that differs from the last.
use Prim.Native.Nat.{◌<◌}
use native.Mathlib.Omega.{arith}
use Rattle.grid.proofs.AlongLaws.{none_distinct}
use Rattle.clean.proofs.LookLaws.{too_few, onward_start}
use Rattle.clean.proofs.inner.look.none_reverses.Goals as goal

-- some point differs from the last
inside : (c : goal.After-edge_at-closing) → c.first_other-first.result < c.args.n
inside c = omega (arith, c.first_other-first.ensures.within, c.if-first-n.false)

pub returns-then-first-n : goal.returns-then-first-n
returns-then-first-n c =
    let row = c.args.points.now in
    let none = none_distinct row c.requires.0 (rw c.if-first-n.true at c.first_other-first.ensures) (omega (arith, c.requires.1)) in
    too_few row (rw none (omega arith))

pub onward-requires : goal.onward-requires
onward-requires c =
    (c.requires.0, onward_start c.args.points.now c.requires.0 _ c.first_other-first.ensures (inside c) _ c.edge_at-closing.ensures)
