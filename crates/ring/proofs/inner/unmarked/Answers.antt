-- `ring::inner::unmarked` meets its contract: the unmarked positions are counted one by one.
use Rattle.std.proofs.Common.{◌≡◌, ◌^◌, ◌<◌, ◌∙◌, ℕ, eqb, rules}
use Rattle.std.specs.List.{sum_by}
use Rattle.std.specs.Int.{from_bool}
use Rattle.ring.proofs.Marks.{count-sum}
use Rattle.ring.proofs.inner.unmarked.Goals as goal

pub sum-found-requires-clause-fits : goal.sum-found-requires-clause-fits
sum-found-requires-clause-fits c =
    let few : sum_by (λ (y : ℕ). from_bool (eqb y 0)) c.args.mark.now < 2 ^ 16 = rw (count-sum 0 c.args.mark.now) c.requires in
    search rules

pub returns : goal.returns
returns c =
    let all : c.sum-found.result ≡ sum_by (λ (y : ℕ). from_bool (eqb y 0)) c.args.mark.now = search rules in
    c.from.ensures ∙ all ∙ count-sum 0 c.args.mark.now
