-- `steps::inner::reading::some_needs` meets its contract.
use Rattle.std.proofs.Common.{◌≡◌, ◌+◌, ◌-◌, ◌*◌, true, false, not, arith, rules}
use borrow.Author.Tests.{tests}
use Rattle.std.proofs.lemmas.Iterator.{cases_from_any, YieldsList-from_range}
use Rattle.bits.specs.Signs.{fits}
use Rattle.steps.proofs.ReadLaws.{difference, unfit_told}
use Rattle.steps.proofs.inner.reading.some_needs.Goals as goal

pub returns : goal.returns
returns c =
    let s = c.args in
    let f = s.bytes.now in
    let w = s.width in
    let run = cases_from_any _ _ c.any.result (λ i. not (fits (w - 1) (difference f (s.at + w * i) w)) ≡ true) (λ i. not (fits (w - 1) (difference f (s.at + w * i) w)) ≡ false) c.any.ensures.ran (YieldsList-from_range 0 s.k s.k (cc) (omega arith)) (λ x q h. search (rules, tests)) (λ x q h. search (rules, tests)) in
    unfit_told f s.at w s.k (w - 1) c.any.result run
