use Rattle.std.proofs.Common.{◌≡◌, ◌&&◌, map, drop}
use Rattle.buffer.specs.Spans.{sound, sound_from}
use Rattle.buffer.proofs.ranges.all_sound.Given as goal

abbrev pub invariant-loop-range : goal.invariant-loop-range
invariant-loop-range g l =
    sound (map g.R.Range.read l.ranges) l.count ≡ (l.all && sound_from l.at (map g.R.Range.read (drop l.range-index l.ranges)) l.count)
