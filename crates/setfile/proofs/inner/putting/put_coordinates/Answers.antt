-- `setfile::inner::putting::put_coordinates` meets its contract: what is left is written behind what is written.
use Rattle.std.proofs.Common.{rules, arith, ◌∙◌}
use Rattle.bits.proofs.WordLaws.{spelled-length}
use Rattle.setfile.proofs.WriteLaws.{none_written, part_room, part_written, all_written}
use Rattle.setfile.proofs.CodedLaws.{next_coordinate, no_coordinate}
use Rattle.setfile.proofs.inner.putting.put_coordinates.Goals as goal

pub loop-x-init : goal.loop-x-init
loop-x-init c = none_written _ _ _ c.requires

pub spell-requires : goal.spell-requires
spell-requires c =
    let next = next_coordinate c.args.contour.now c.loop-x.x-index (c.from.ensures ∙ c.cast_unsigned.ensures) (search rules) c.loop-x-test.true in
    omega (arith, part_room c.loop-x.invariant next, spelled-length 4 c.from.result)

pub loop-x-preserved : goal.loop-x-preserved
loop-x-preserved c =
    let next = next_coordinate c.args.contour.now c.loop-x.x-index (c.from.ensures ∙ c.cast_unsigned.ensures) (search rules) c.loop-x-test.true in
    part_written c.loop-x.invariant next (record { is = c.spell.ensures; behind = omega (arith, spelled-length 4 c.from.result) })

pub returns : goal.returns
returns c = all_written c.loop-x.invariant (no_coordinate c.args.contour.now c.loop-x.x-index (omega arith))
