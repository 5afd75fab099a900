-- `steps::inner::writing::put` meets its contract: the differences stand behind the first point.
use mathlib.Core.Path.{sym, ◌∙◌}
use Rattle.std.proofs.Common.{eqb-true}
use Rattle.bits.proofs.PenLaws.{wrote_none}
use Rattle.steps.proofs.WriteLaws.{body_none, writable_some, first_room, steps_fitting, body_wrote}
use Rattle.steps.proofs.inner.writing.put.Goals as goal

pub returns-then-is_empty : goal.returns-then-is_empty
returns-then-is_empty c =
    let none = eqb-true _ 0 (sym c.is_empty.ensures ∙ c.if-is_empty.true) in
    (rw (body_none c.args.contour.now none) (wrote_none c.args.pen c.args.bytes.now c.requires.ready.small), c.requires.ready.few)

pub put_first-first-requires : goal.put_first-first-requires
put_first-first-requires c =
    let pre = c.requires in
    let some = writable_some pre (sym c.is_empty.ensures ∙ c.if-is_empty.false) in
    (pre.ready, some, first_room pre some)

pub put_following-requires : goal.put_following-requires
put_following-requires c =
    let some = writable_some c.requires (sym c.is_empty.ensures ∙ c.if-is_empty.false) in
    steps_fitting c.requires some c.put_first-first.ensures.0 c.put_first-first.ensures.1

pub returns : goal.returns
returns c =
    let some = writable_some c.requires (sym c.is_empty.ensures ∙ c.if-is_empty.false) in
    (body_wrote c.requires some c.put_first-first.ensures.0 c.put_following.ensures.0, c.put_following.ensures.1)
