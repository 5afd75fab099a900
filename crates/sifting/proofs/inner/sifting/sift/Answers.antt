-- `sifting::inner::sifting::sift` meets its contract.
use mathlib.Core.Path.{sym, ◌∙◌}
use lib.Seq.{length-take-le}
use Rattle.clean.proofs.LookLaws.{failing_goes}
use Rattle.sifting.specs.inside.Sifting.{lying}
use Rattle.sifting.proofs.SiftingLaws.{sifted_few, sifted_left}
use Rattle.sifting.proofs.inner.sifting.sift.Goals as goal

pub returns-then-n-lt3 : goal.returns-then-n-lt3
returns-then-n-lt3 c =
    let a = c.args in
    sifted_few a.rule a.row.now a.start a.end a.to c.requires.lies c.if-n-lt3.true _ c.gone.ensures

pub returns-then-look : goal.returns-then-look
returns-then-look c =
    let a = c.args in
    sifted_left a.rule a.row.now a.start a.end a.to c.requires.lies (sym c.look_over-look.ensures.verdict ∙ c.if-look.true) _ c.numbers.ensures c.requires.down

pub slice_bounds-walk_down-end-2 : goal.slice_bounds-walk_down-end-2
slice_bounds-walk_down-end-2 c = sym (length-take-le _ _ c.requires.in_next)

pub slice_bounds-walk_down-end-4 : goal.slice_bounds-walk_down-end-4
slice_bounds-walk_down-end-4 c = sym (length-take-le _ _ c.requires.in_prev)

pub slice_bounds-walk_down-end-6 : goal.slice_bounds-walk_down-end-6
slice_bounds-walk_down-end-6 c = sym (length-take-le _ _ c.requires.in_mark)

pub walk_down-requires : goal.walk_down-requires
walk_down-requires c =
    let a = c.args in
    let own = lying a.row.now a.start a.end in
    let over = c.look_over-look.ensures in
    let many = c.if-n-lt3.false in
    let fails = c.if-look.false in
    let long = length-take-le _ a.mark.now c.requires.in_mark in record {
      in_place = (c.requires.lies, record { many = rw long many; mark_long = long; next_long = length-take-le _ _ c.requires.in_next ∙ sym long; prev_long = length-take-le _ _ c.requires.in_prev ∙ sym long });
      standing_in_bounds = (rw long (failing_goes own c.requires.lies.contour a.rule many _ over fails), rw long over.standing.stand);
      to_le_start = (c.requires.down, sym over.verdict ∙ fails);
    }
