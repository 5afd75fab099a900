-- `ring::inner::unlink` meets its contract: the rows hold the neighbours of c, and two stores join them.
use native.Mathlib.Omega.{arith}
use Rattle.ring.proofs.Links.{here, unlinked}
use Rattle.ring.proofs.inner.unlink.Goals as goal

pub offset_bounds-next-c : goal.offset_bounds-next-c
offset_bounds-next-c c = let h = here c.requires.linked c.args.c (omega (arith, c.requires.due)) in omega (arith, c.requires.linked.next_long, c.requires.linked.prev_long)

pub bounds-next-c : goal.bounds-next-c
bounds-next-c c = let h = here c.requires.linked c.args.c (omega (arith, c.requires.due)) in omega (arith, c.requires.linked.next_long, c.requires.linked.prev_long)

pub offset_bounds-prev-c : goal.offset_bounds-prev-c
offset_bounds-prev-c c = let h = here c.requires.linked c.args.c (omega (arith, c.requires.due)) in omega (arith, c.requires.linked.next_long, c.requires.linked.prev_long)

pub bounds-prev-c : goal.bounds-prev-c
bounds-prev-c c = let h = here c.requires.linked c.args.c (omega (arith, c.requires.due)) in omega (arith, c.requires.linked.next_long, c.requires.linked.prev_long)

pub offset_bounds-next-wide : goal.offset_bounds-next-wide
offset_bounds-next-wide c = let h = here c.requires.linked c.args.c (omega (arith, c.requires.due)) in omega (arith, c.requires.linked.next_long, c.requires.linked.prev_long)

pub bounds-next-wide : goal.bounds-next-wide
bounds-next-wide c = let h = here c.requires.linked c.args.c (omega (arith, c.requires.due)) in omega (arith, c.requires.linked.next_long, c.requires.linked.prev_long)

pub offset_bounds-prev-wide : goal.offset_bounds-prev-wide
offset_bounds-prev-wide c = let h = here c.requires.linked c.args.c (omega (arith, c.requires.due)) in omega (arith, c.requires.linked.next_long, c.requires.linked.prev_long)

pub bounds-prev-wide : goal.bounds-prev-wide
bounds-prev-wide c = let h = here c.requires.linked c.args.c (omega (arith, c.requires.due)) in omega (arith, c.requires.linked.next_long, c.requires.linked.prev_long)

pub bounds-mark-c : goal.bounds-mark-c
bounds-mark-c c = let h = here c.requires.linked c.args.c (omega (arith, c.requires.due)) in omega (arith, c.requires.linked.next_long, c.requires.linked.prev_long)

pub returns : goal.returns
returns c = unlinked _ _ _ c.requires c.wide.ensures c.wide-2.ensures c.wide-3.ensures
