-- `jobtext::inner::job::put` meets its contract: the line of the edition, and the lines behind it.
use mathlib.Core.Path.{◌∙◌}
use native.Mathlib.Omega.{arith}
use Rattle.setfile.specs.inside.Reading.{contained}
use Rattle.report.proofs.PutLaws.{going_two, going_room, going_more, going_all}
use Rattle.jobtext.specs.Text.{head, lines}
use Rattle.jobtext.proofs.inner.job.put.Goals as goal

pub put_line-behind-requires : goal.put_line-behind-requires
put_line-behind-requires c =
    let s = c.args in
    let due = going_two 0 s.text.now (head s.second) (lines (contained s.bytes.now)) (omega (arith, c.requires.bytes_in_bounds)) in
    rw (c.from.ensures ∙ c.number.ensures) (going_room due)

pub put-requires : goal.put-requires
put-requires c =
    let s = c.args in
    let due = going_two 0 s.text.now (head s.second) (lines (contained s.bytes.now)) (omega (arith, c.requires.bytes_in_bounds)) in
    record {
      dumpable = record { readable = c.requires.readable; roomy = omega arith };
      bytes_in_bounds = going_room (going_more due (rw (c.from.ensures ∙ c.number.ensures) at c.put_line-behind.ensures));
    }

pub returns : goal.returns
returns c =
    let s = c.args in
    let due = going_two 0 s.text.now (head s.second) (lines (contained s.bytes.now)) (omega (arith, c.requires.bytes_in_bounds)) in
    going_all (going_more (going_more due (rw (c.from.ensures ∙ c.number.ensures) at c.put_line-behind.ensures)) c.put.ensures)
