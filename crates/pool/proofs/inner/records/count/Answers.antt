-- `pool::inner::records::count` meets its contract.
use Rattle.std.proofs.Common.{◌≡◌, ◌∙◌, sym, ap, length, get_or, take, eqb, count_by, rules}
use Rattle.pool.specs.Rows.{slot}
use Rattle.pool.specs.Outcome.{own_slots}
use Rattle.std.proofs.lemmas.List.{take-map}
use Rattle.pool.proofs.RecordLaws.{own_counted}
use Rattle.pool.proofs.inner.records.count.Goals as goal

pub returns : goal.returns
returns c =
    let s = c.args in
    let e : c.count.result ≡ count_by (λ r. eqb (get_or r 3 0) s.press) (take s.n s.records.now) = search rules in
    e ∙ sym (own_counted s.press (take s.n s.records.now)) ∙ ap (λ l. length (own_slots s.press l)) (sym (take-map slot s.n s.records.now))
