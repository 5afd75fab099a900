-- `difference::compare` meets its contract, one law for each way out.
use mathlib.Core.Path.{refl}
use Rattle.replies.proofs.RefusalLaws.{refusals_have_numbers}
use Rattle.difference.proofs.OutcomeLaws.{is_sound, first_refused, second_refused, no_room, listed_all}
use Rattle.difference.proofs.compare.Goals as goal

pub returns-in-Err : goal.returns-in-Err
returns-in-Err c =
    let s = c.args in
    first_refused s.points.now s.ranges.now s.others.now s.other_ranges.now _ c.in-Err.ensures (refusals_have_numbers _) refl

pub returns-in-Err-check : goal.returns-in-Err-check
returns-in-Err-check c =
    let s = c.args in
    second_refused s.points.now s.ranges.now s.others.now s.other_ranges.now _
    c.in_default.ensures refl c.in-Err-check.ensures (refusals_have_numbers _) refl

pub returns-then-listing-n : goal.returns-then-listing-n
returns-then-listing-n c =
    let s = c.args in
    no_room s.points.now s.ranges.now s.others.now s.other_ranges.now _
    c.in_default.ensures refl c.in_default-check.ensures refl c.max-n.ensures c.if-listing-n.true refl

pub fill-requires : goal.fill-requires
fill-requires c =
    let s = c.args in (
      is_sound s.points.now s.ranges.now c.in_default.ensures refl,
      is_sound s.others.now s.other_ranges.now c.in_default-check.ensures refl,
      record { larger = c.max-n.ensures; room = c.if-listing-n.false },
    )

pub returns : goal.returns
returns c =
    let s = c.args in
    listed_all s.points.now s.ranges.now s.others.now s.other_ranges.now _
    c.in_default.ensures refl c.in_default-check.ensures refl c.max-n.ensures c.if-listing-n.false
    c.fill.ensures
