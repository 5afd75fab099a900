-- `ring::inner::link` meets its contract: each position is linked to the one behind it, and the last to the first.
use Rattle.std.proofs.Common.{◌≡◌, ◌∙◌, length, arith, rules}
use Rattle.ring.specs.Walk.{fresh}
use Rattle.ring.proofs.Filling.{linked_fresh}
use Rattle.ring.proofs.inner.link.Goals as goal

pub returns : goal.returns
returns c =
    let p = c.requires in
    let marks : c.fill.new.self ≡ fresh (length c.args.mark.now) = search rules in
    linked_fresh _ _ (c.loop-i.auto.next ∙ p.next_long) (c.loop-i.auto.prev ∙ p.prev_long) p.some marks c.narrow-2.ensures (λ k h. c.loop-i.invariant k (omega (arith, c.loop-i-test.false)))
