-- `ring::inner::unmark_about` meets its contract: the rows hold the neighbours of p, and three marks are taken off one after the other.
use mathlib.Core.Path.{sym, ◌∙◌, subst}
use Rattle.ring.specs.Walk.{Survivor}
use Rattle.ring.proofs.Links.{here, unmarked_survives, unmarked_about}
use Rattle.ring.proofs.inner.unmark_about.Goals as goal

pub unmark-second-requires : goal.unmark-second-requires
unmark-second-requires c =
    let h = here c.requires.1 _ c.requires.0 in
    unmarked_survives _ c.unmark-first.ensures (subst (Survivor c.args.mark.now) (sym (c.wide-after.ensures ∙ h.next_is)) h.successor_lives)

pub unmark-third-requires : goal.unmark-third-requires
unmark-third-requires c =
    let h = here c.requires.1 _ c.requires.0 in
    unmarked_survives _ c.unmark-second.ensures
    (unmarked_survives _ c.unmark-first.ensures (subst (Survivor c.args.mark.now) (sym (c.wide-before.ensures ∙ h.prev_is)) h.predecessor_lives))

pub returns : goal.returns
returns c =
    let h = here c.requires.1 _ c.requires.0 in
    unmarked_about c.unmark-first.ensures c.unmark-second.ensures c.unmark-third.ensures
    (c.wide-after.ensures ∙ h.next_is) (c.wide-before.ensures ∙ h.prev_is)
