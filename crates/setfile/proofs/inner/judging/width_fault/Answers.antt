-- `setfile::inner::judging::width_fault` meets its contract.
use Rattle.std.proofs.Common.{Bool, not, [], ◌∷◌, sym, ap, ◌∙◌}
use Rattle.replies.specs.Ladder.{first_of}
use Rattle.setfile.proofs.inner.judging.width_fault.Goals as goal

pub returns-then-smallest : goal.returns-then-smallest
unfolding first_of
returns-then-smallest c = ap (λ (b : Bool). first_of ((not b, 15) ∷ [])) (sym c.if-smallest.true ∙ c.smallest.ensures)

pub returns : goal.returns
unfolding first_of
returns c = ap (λ (b : Bool). first_of ((not b, 15) ∷ [])) (sym c.if-smallest.false ∙ c.smallest.ensures)
