use Rattle.std.proofs.Common.{◌≡◌, ℕ, List, take}
use Rattle.std.specs.List.{list_all}
use Rattle.grid.specs.Limits.{narrow, on_grid}
use Rattle.setfile.specs.inside.Bytes.{coordinate}
use Rattle.setfile.proofs.inner.fields.each_on.Given as goal

abbrev pub invariant-loop-word : goal.invariant-loop-word
invariant-loop-word l = l.all ≡ list_all (λ (w : List ℕ). on_grid narrow (coordinate w)) (take l.word-index l.words)
