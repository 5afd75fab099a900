-- `fates::inner::contour::alone` meets its contract: too few points, passing, or walked.
use mathlib.Core.Path.{sym}
use native.Mathlib.Omega.{arith}
use mathlib.Core.List.{List}
use Prim.Native.Nat.{ℕ}
use lib.IntN.{ℤ}
use lib.ListN.{take}
use lib.Seq.{length-take-le}
use Rattle.grid.specs.Domain.{count}
use Rattle.clean.specs.inside.Settling.{Ready}
use Rattle.clean.proofs.LookLaws.{failing_goes}
use Rattle.sets.proofs.BehindLaws.{ready}
use Rattle.fates.specs.inside.Telling.{Walkable}
use Rattle.fates.proofs.ToldLaws.{few_collapse, passing_is_kept, walked_is_kept, walked_collapses}
use Rattle.fates.proofs.inner.contour.alone.Goals as goal

-- the scratch that the walk is lent; it needs no room
lent_parts : {contour : List ℤ} {next prev mark : List ℕ} → Walkable contour next prev mark
    → Ready contour (take (count contour) next) (take (count contour) prev) (take (count contour) mark) contour
lent_parts w = ready _ _ _ _ _ (record { contour = w.contour; scratch = w.scratch; room = omega arith })

pub returns-then-n-lt3 : goal.returns-then-n-lt3
returns-then-n-lt3 c = few_collapse c.args.rule _ c.requires.contour c.if-n-lt3.true

pub returns-then-look : goal.returns-then-look
returns-then-look c = passing_is_kept _ _ _ c.look_over-look.ensures.verdict c.if-look.true

pub slice_bounds-walk-end-2 : goal.slice_bounds-walk-end-2
slice_bounds-walk-end-2 c = sym (length-take-le _ _ c.requires.scratch.in_next)

pub slice_bounds-walk-end-4 : goal.slice_bounds-walk-end-4
slice_bounds-walk-end-4 c = sym (length-take-le _ _ c.requires.scratch.in_prev)

pub slice_bounds-walk-end-6 : goal.slice_bounds-walk-end-6
slice_bounds-walk-end-6 c = sym (length-take-le _ _ c.requires.scratch.in_mark)

pub walk-ending-requires : goal.walk-ending-requires
walk-ending-requires c =
    let long = length-take-le _ c.args.mark.now c.requires.scratch.in_mark in
    let many = c.if-n-lt3.false in
    let over = c.look_over-look.ensures in
    let own = lent_parts c.requires in
    record {
      contour = (own.contour, rw long many);
      next_len = (own.next_long, own.prev_long);
      k_in_bounds = (rw long (failing_goes c.args.contour.now c.requires.contour c.args.rule many _ over c.if-look.false), rw long over.standing.stand);
    }

pub returns-then-ending : goal.returns-then-ending
returns-then-ending c =
    walked_is_kept _ _ _ c.look_over-look.ensures.verdict c.if-look.false (lent_parts c.requires).contour c.walk-ending.result _ _ c.walk-ending.ensures c.if-ending.true

pub returns-else-ending : goal.returns-else-ending
returns-else-ending c =
    walked_collapses _ _ _ c.look_over-look.ensures.verdict c.if-look.false (lent_parts c.requires).contour c.walk-ending.result _ _ c.walk-ending.ensures c.if-ending.false
