-- `setfile::inner::putting::put_contour_1` meets its contract: the coordinates stand behind the head.
use Rattle.setfile.specs.Entries.{entry}
use Rattle.setfile.proofs.CodedLaws.{header_room, coordinates_room, contour_put}
use Rattle.bits.proofs.BitLaws.{byte_digit}
use Rattle.setfile.proofs.inner.putting.put_contour_1.Goals as goal

pub put_pair-behind-requires : goal.put_pair-behind-requires
put_pair-behind-requires c =
    rw (c.from.ensures, byte_digit c.args.begins) (header_room (entry c.args.begins c.args.contour.now) c.args.at c.args.bytes.now c.requires.0 c.requires.1)

pub put_coordinates-requires : goal.put_coordinates-requires
put_coordinates-requires c =
    coordinates_room (entry c.args.begins c.args.contour.now) c.args.at c.args.bytes.now c.requires.0 c.requires.1 (rw (c.from.ensures, byte_digit c.args.begins) at c.put_pair-behind.ensures)

pub returns : goal.returns
returns c =
    contour_put (entry c.args.begins c.args.contour.now) c.args.at c.args.bytes.now c.requires.0 c.requires.1 (rw (c.from.ensures, byte_digit c.args.begins) at c.put_pair-behind.ensures) c.put_coordinates.ensures
