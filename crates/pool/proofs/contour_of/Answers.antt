-- `pool::contour_of` meets its contract.
use borrow.Author.Tests.{not-true, not-false}
use Rattle.std.proofs.Common.{◌∙◌, ap, ℕ, ◌<◌, length, arith, rules}
use Rattle.rows.specs.Parts.{part}
use Rattle.pool.specs.Outcome.{number, contour_of}
use Rattle.pool.proofs.CallLaws.{records_there}
use Rattle.pool.proofs.ReadLaws.{part_unsound, part_absent, part_lain, part_there}
use Rattle.pool.proofs.contour_of.Goals as goal
use Rattle.pool.proofs.contour_of.Goals.{In-Some}

pub returns-then-not-found : goal.returns-then-not-found
returns-then-not-found c =
    let s = c.args in
    part_unsound (part s.points) s.records.now s.contours _ c.surveyed-found.ensures (number s.second) s.k (not-true _ c.if-not-found.true)

pub find-requires : goal.find-requires
find-requires c =
    let s = c.args in
    records_there s.points.now s.records.now s.contours _ c.surveyed-found.ensures (not-false _ c.if-not-found.false)

pub returns-in_default : goal.returns-in_default
returns-in_default c =
    let s = c.args in
    part_absent (part s.points) s.records.now s.contours _ c.surveyed-found.ensures _ s.k (not-false _ c.if-not-found.false)
    (c.in_default.ensures {u = tt})
    ∙ ap (λ (p : ℕ). contour_of (part s.points) s.records.now s.contours p s.k) c.number.ensures

there : (c : In-Some) → c.in-Some.at < length c.args.records.now
there c =
    let s = c.args in
    omega (arith, (c.in-Some.ensures {u = tt}).within, records_there s.points.now s.records.now s.contours _ c.surveyed-found.ensures (not-false _ c.if-not-found.false))

pub offset_bounds-records-at : goal.offset_bounds-records-at
offset_bounds-records-at c =
    let h = there (goal.at.offset_bounds-records-at c).In-Some in
    search rules

pub bounds-records-at : goal.bounds-records-at
bounds-records-at c = there (goal.at.bounds-records-at c).In-Some

pub bounds-records-at-in-Some : goal.bounds-records-at-in-Some
bounds-records-at-in-Some c = there (goal.at.bounds-records-at-in-Some c).In-Some

pub between-requires : goal.between-requires
between-requires c =
    let s = c.args in
    let l = part_lain (part s.points) s.records.now s.contours _ c.surveyed-found.ensures _ s.k (not-false _ c.if-not-found.false) c.in-Some.at (c.in-Some.ensures {u = tt}) in
    (l.forward, omega (arith, l.ends))

pub returns : goal.returns
returns c =
    let s = c.args in
    c.between.ensures
    ∙ part_there (part s.points) s.records.now s.contours _ c.surveyed-found.ensures _ s.k (not-false _ c.if-not-found.false) c.in-Some.at (c.in-Some.ensures {u = tt})
    ∙ ap (λ (p : ℕ). contour_of (part s.points) s.records.now s.contours p s.k) c.number.ensures
