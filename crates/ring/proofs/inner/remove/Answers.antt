-- `ring::inner::remove` meets its contract: what is unlinked is unmarked about.
use Rattle.ring.proofs.Links.{unlinked_before, removed_now}
use Rattle.ring.proofs.inner.remove.Goals as goal

pub unmark_about-requires : goal.unmark_about-requires
unmark_about-requires c =
    unlinked_before c.requires c.unlink-before.ensures

pub returns : goal.returns
returns c =
    removed_now c.requires c.unlink-before.ensures c.unmark_about.ensures
