-- `salvage::inner::sifting::contours` meets its contract: from where the pass has come to it leaves what it is to leave.
use mathlib.Core.Path.{sym, ◌∙◌}
use Rattle.salvage.proofs.SiftLaws.{sifting_more, stopped, finished}
use Rattle.salvage.proofs.inner.sifting.contours.Goals as goal

pub returns-then-not-complete : goal.returns-then-not-complete
returns-then-not-complete c =
    stopped c.loop-i.invariant c.loop-i-test.true (sym c.if-not-complete.true ∙ c.complete.ensures)

pub loop-i-preserved : goal.loop-i-preserved
loop-i-preserved c =
    sifting_more c.loop-i.invariant c.requires c.loop-i-test.true (sym c.if-not-complete.false ∙ c.complete.ensures)
    (λ i h. (c.type_inv.bytes i).fits) c.sift-s.ensures

pub returns : goal.returns
returns c = finished c.loop-i.invariant c.loop-i-test.false
