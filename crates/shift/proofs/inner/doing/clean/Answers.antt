-- `shift::inner::doing::clean` meets its contract.
use Rattle.pool.specs.Rows.{lent}
use Rattle.shift.proofs.DoingLaws.{lies, fair, did_clean, second_within}
use Rattle.shift.proofs.inner.doing.clean.Goals as goal

pub clean-cleaned-requires : goal.clean-cleaned-requires
clean-cleaned-requires c =
    let a = c.args in
    let rows = lent a.points.now a.records.now a.n in
    record { lies = lies rows a.found c.requires.0; fair = fair rows a.found c.requires.0; in_domain = c.requires.0.in_domain; scratch = c.requires.1 }

pub overflow_sub-result : goal.overflow_sub-result
overflow_sub-result c = let r = c.clean-cleaned.ensures in second_within _ _ _ r.held_is r.second_is

pub returns : goal.returns
returns c =
    let a = c.args in
    let r = c.clean-cleaned.ensures in
    did_clean (lent a.points.now a.records.now a.n) a.found c.requires.0 a.rule _ _ _ _ _ _ r.rows_are r.points_are r.held_is r.second_is r.decisions_are r.few
