-- `pool::inner::survey::surveyed` meets its contract.
use Rattle.std.proofs.Common.{◌≡◌, sym, ◌∙◌, ap, ◌<◌, [], get_or, take, arith}
use lib.Seq.{get_or-take, length-take-le}
use Rattle.pool.specs.declared.inner.survey.Survey.{Survey}
use Rattle.pool.proofs.RecordLaws.{surveying_broken, surveying_more}
use Rattle.pool.proofs.SoundLaws.{not_sound, too_few, broken, found}
use Rattle.pool.proofs.inner.survey.surveyed.Goals as goal
use Rattle.pool.proofs.inner.survey.surveyed.Goals.{In-loop-record}

-- the record that is looked at
here : (c : In-loop-record) → (c.loop-record.record-index < c.args.n)
    × (get_or (take c.args.n c.args.records.now) c.loop-record.record-index [] ≡ get_or c.args.records.now c.loop-record.record-index [])
here c =
    let s = c.args in
    let h : c.loop-record.record-index < s.n = omega (arith, length-take-le s.n s.records.now c.if-records-n.false, c.loop-record-test.true) in
    (h, get_or-take s.n s.records.now c.loop-record.record-index [] h)

pub returns-then-records-n : goal.returns-then-records-n
returns-then-records-n c =
    let s = c.args in
    not_sound s.points.now s.records.now s.n _ (ap (λ (f : Survey). f.sound) c.unsound.ensures) (too_few s.points.now s.records.now s.n c.if-records-n.true)

pub loop-record-preserved : goal.loop-record-preserved
loop-record-preserved c =
    let h = here (goal.at.loop-record-preserved c).In-loop-record in
    rw h.1 (surveying_more c.if-records-n.false c.loop-record.invariant h.0 (rw h.1 at (sym c.follows.ensures ∙ c.if-not-follows.false)) _ (rw h.1 at c.holding-size.ensures))

pub returns-then-not-follows : goal.returns-then-not-follows
returns-then-not-follows c =
    let s = c.args in
    let h = here (goal.at.returns-then-not-follows c).In-loop-record in
    not_sound s.points.now s.records.now s.n _ (ap (λ (f : Survey). f.sound) c.unsound-then-not-follows.ensures)
    (broken s.points.now s.records.now s.n
    (surveying_broken c.if-records-n.false c.loop-record.invariant h.0 (rw h.1 at (sym c.follows.ensures ∙ c.if-not-follows.true))))

pub returns : goal.returns
returns c =
    let s = c.args in
    found s.points.now s.records.now s.n _ c.if-records-n.false c.loop-record.invariant
    (omega (arith, length-take-le s.n s.records.now c.if-records-n.false, c.loop-record-test.false)) c.fair.ensures
