-- `buffer::refusal::of_both` meets its contract, refusal by refusal.
use Rattle.std.proofs.lemmas.Result.{err_from_is_err_and}
use Rattle.std.proofs.Common.{not, ap, rules}
use Rattle.grid.specs.Limits.{limit, most}
use Rattle.replies.proofs.RefusalLaws.{refused_so_far, asked_further}
use Rattle.buffer.proofs.RefusalLaws.{unsound_held, unsound_past, both_odd, more_odd, both_over, both_further}
use Rattle.buffer.proofs.refusal.of_both.Goals as goal

pub returns-then-points-eq1 : goal.returns-then-points-eq1
returns-then-points-eq1 c = both_odd _ _ _ c.if-points-eq1.true

pub returns-then-more-eq1 : goal.returns-then-more-eq1
returns-then-more-eq1 c = more_odd _ _ _ c.if-points-eq1.false c.if-more-eq1.true

pub returns-then-points-more-gt-MOST : goal.returns-then-points-more-gt-MOST
unfolding most
returns-then-points-more-gt-MOST c = both_over _ _ _ c.if-points-eq1.false c.if-more-eq1.false c.if-points-more-gt-MOST.true

pub returns-then-not-sound : goal.returns-then-not-sound
unfolding most
returns-then-not-sound c =
    both_further _ _ _ c.if-points-eq1.false c.if-more-eq1.false c.if-points-more-gt-MOST.false (unsound_held _ _ (ap not c.if-not-sound.true))

pub within-requires : goal.within-requires
unfolding limit
within-requires c = search rules

pub returns-in_err-within : goal.returns-in_err-within
unfolding most limit
returns-in_err-within c =
    let p = err_from_is_err_and c.from_residual.result c.from_residual.ensures.1 in
    rw (p.1, p.2) (both_further _ _ _ c.if-points-eq1.false c.if-more-eq1.false c.if-points-more-gt-MOST.false
    (unsound_past _ _ (ap not c.if-not-sound.false) (refused_so_far _ _ _ c.in_err-within.ensures)))

pub within-requires-2 : goal.within-requires-2
unfolding limit
within-requires-2 c = search rules

pub returns : goal.returns
unfolding most limit
returns c =
    both_further _ _ _ c.if-points-eq1.false c.if-more-eq1.false c.if-points-more-gt-MOST.false
    (unsound_past _ _ (ap not c.if-not-sound.false) (asked_further _ _ tt c.in_ok-within.ensures c.within-2.ensures))
