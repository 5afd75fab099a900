-- `setfile::inner::headers::size` meets its contract.
use Rattle.std.proofs.Common.{Bool, sym, ap, ◌∙◌}
use Rattle.setfile.specs.inside.Reading.{size_of}
use Rattle.setfile.proofs.inner.headers.size.Goals as goal

pub returns-then-second : goal.returns-then-second
returns-then-second c = let s = c.args in c.second_size.ensures ∙ ap (λ (b : Bool). size_of b s.h) (sym c.if-second.true)

pub returns : goal.returns
returns c = let s = c.args in ap (λ (b : Bool). size_of b s.h) (sym c.if-second.false)
