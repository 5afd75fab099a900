use Rattle.std.proofs.Common.{◌≡◌, take}
use Rattle.std.specs.List.{fold}
use Rattle.setfile.specs.inside.Bytes.{raised}
use Rattle.setfile.proofs.inner.fields.raised_bits.Given as goal

abbrev pub invariant-loop-word : goal.invariant-loop-word
invariant-loop-word l = l.any ≡ fold raised 0 (take l.word-index l.words)
