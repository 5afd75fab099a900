-- `buffer::ranges::all_sound` meets its contract: what was read so far and what is left make up the whole.
use Rattle.std.proofs.Common.{◌∙◌, sym}
use Rattle.buffer.proofs.SpanLaws.{sound_more, sound_done}
use Rattle.buffer.proofs.ranges.all_sound.Goals as goal

pub loop-range-preserved : goal.loop-range-preserved
loop-range-preserved g c =
    c.loop-range.invariant
    ∙ sound_more g.R.Range.read c.args.ranges.now _ _ _ _ _ c.span-s.result c.loop-range-test.true c.range-item.is c.span-s.ensures

pub returns : goal.returns
returns g c =
    sym (c.loop-range.invariant ∙ sound_done g.R.Range.read c.args.ranges.now _ _ _ _ c.loop-range-test.false)
