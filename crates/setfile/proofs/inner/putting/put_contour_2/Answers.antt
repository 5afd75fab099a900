-- `setfile::inner::putting::put_contour_2` meets its contract: the points stand behind the header.
use Rattle.std.proofs.Common.{◌≡◌, ℕ, ◌≤◌, List, ℤ, arith}
use mir.Facts.{Fits-of_lt}
use Rattle.steps.specs.Steps.{differences}
use Rattle.steps.specs.Bodies.{contour_width}
use Rattle.steps.proofs.BodyLaws.{width_within_32}
use Rattle.bits.proofs.BitLaws.{byte_digit, byte_below}
use Rattle.setfile.specs.Entries.{entry}
use Rattle.setfile.proofs.PutLaws.{header_ready, body_ready, body_inked}
use Rattle.setfile.proofs.inner.putting.put_contour_2.Goals as goal

narrow : {w : ℕ} (l : List ℤ) → w ≡ contour_width l → w ≤ 32
narrow {w} l e = rw e (width_within_32 (differences l))

pub overflow_add-head : goal.overflow_add-head
overflow_add-head c = Fits-of_lt (omega (arith, narrow c.args.contour.now c.requires.1))

pub overflow_add-head-2 : goal.overflow_add-head-2
overflow_add-head-2 c = Fits-of_lt (omega (arith, narrow c.args.contour.now c.requires.1, c.from.ensures, byte_below c.args.begins))

pub write-headed-requires : goal.write-headed-requires
write-headed-requires c =
    rw (c.from.ensures, byte_digit c.args.begins) (header_ready (entry c.args.begins c.args.contour.now) c.args.pen c.args.bytes.now c.requires.0 c.requires.2 c.requires.1)

pub put-requires : goal.put-requires
put-requires c =
    body_ready (entry c.args.begins c.args.contour.now) c.args.pen c.args.bytes.now c.requires.0 c.requires.2 c.requires.1 (rw (c.from.ensures, byte_digit c.args.begins) at c.write-headed.ensures)

pub returns : goal.returns
returns c =
    body_inked (entry c.args.begins c.args.contour.now) c.args.pen c.args.bytes.now c.requires.0 c.requires.2 c.requires.1 (rw (c.from.ensures, byte_digit c.args.begins) at c.write-headed.ensures) c.put.ensures
