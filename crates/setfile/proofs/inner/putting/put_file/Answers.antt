-- `setfile::inner::putting::put_file` meets its contract: the shapes stand behind the head, and the pen is lifted.
use Rattle.std.proofs.Common.{ap, ◌∙◌}
use Rattle.setfile.specs.Editions.{number}
use Rattle.setfile.proofs.PutLaws.{head_room, shapes_penned, all_reached, file_front, file_ends}
use Rattle.setfile.proofs.inner.putting.put_file.Goals as goal

pub put_pair-behind-requires : goal.put_pair-behind-requires
put_pair-behind-requires c =
    rw (c.number-edition.ensures ∙ ap number c.is_some.ensures) (head_room c.requires.0)

pub put_shapes-done-requires : goal.put_shapes-done-requires
put_shapes-done-requires c =
    let head = rw (c.number-edition.ensures ∙ ap number c.is_some.ensures) at c.put_pair-behind.ensures in
    (c.requires.0.named, c.requires.0.grouped, c.requires.1, shapes_penned c.requires.0 head)

pub lift-requires : goal.lift-requires
lift-requires c =
    let head = rw (c.number-edition.ensures ∙ ap number c.is_some.ensures) at c.put_pair-behind.ensures in
    all_reached c.requires.0 head c.put_shapes-done.ensures

pub returns : goal.returns
returns c =
    let head = rw (c.number-edition.ensures ∙ ap number c.is_some.ensures) at c.put_pair-behind.ensures in
    (file_front c.requires.0 head c.put_shapes-done.ensures c.lift.ensures (λ i. (c.type_inv.bytes i).fits), file_ends c.requires.0 head c.put_shapes-done.ensures c.lift.ensures (λ i. (c.type_inv.bytes i).fits))
