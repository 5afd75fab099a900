-- `steps::inner::writing::put_first` meets its contract.
use borrow.Author.Rules.{rules}
use native.Mathlib.Omega.{arith}
use mathlib.Core.Path.{◌≡◌}
use lib.ListN.{get_or}
use lib.IntN.{pos}
use mir.Val.{to_z, of_z}
use mir.Syntax.{w32}
use Rattle.bits.proofs.BitLaws.{field-length}
use Rattle.bits.proofs.PenLaws.{wrote_both}
use Rattle.steps.proofs.WriteLaws.{first_fields}
use Rattle.steps.proofs.inner.writing.put_first.Goals as goal

pub put_whole-requires : goal.put_whole-requires
put_whole-requires c =
    let f = c.put_whole-between.ensures in
    (record { small = f.0.small; few = f.1 }, omega (arith, rw field-length at f.0.behind, f.0.long, c.requires.2))

pub returns : goal.returns
returns c =
    let l = c.args.contour.now in
    let a : to_z w32 (of_z w32 (get_or l 0 (pos 0))) ≡ get_or l 0 (pos 0) = search rules in
    let b : to_z w32 (of_z w32 (get_or l 1 (pos 0))) ≡ get_or l 1 (pos 0) = search rules in
    let x = rw a at c.put_whole-between.ensures.0 in
    let y = rw b at c.put_whole.ensures.0 in
    (rw (← first_fields l c.requires.1) (wrote_both x y), c.put_whole.ensures.1)
