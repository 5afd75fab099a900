-- `changes::inner::lines::put_change` meets its contract: the kind says which words are put.
use mathlib.Core.Path.{ap}
use native.Mathlib.Omega.{arith}
use lib.ListN.{length}
use Rattle.changes.proofs.LineLaws.{change_elsewhere, change_different, change_first, change_second}
use Rattle.changes.proofs.inner.lines.put_change.Goals as goal

pub put_between-requires : goal.put_between-requires
put_between-requires c =
    omega (arith, c.requires.1, ap length (change_elsewhere c.args.kind c.args.place c.if-kind-eq-ELSEWHERE.true))

pub returns-then-kind-eq-ELSEWHERE : goal.returns-then-kind-eq-ELSEWHERE
returns-then-kind-eq-ELSEWHERE c = rw (change_elsewhere c.args.kind c.args.place c.if-kind-eq-ELSEWHERE.true) c.put_between.ensures

pub put_between-requires-then-kind-eq-DIFFERENT : goal.put_between-requires-then-kind-eq-DIFFERENT
put_between-requires-then-kind-eq-DIFFERENT c =
    let e = change_different c.args.kind c.args.place c.if-kind-eq-ELSEWHERE.false c.if-kind-eq-DIFFERENT.true in
    omega (arith, c.requires.1, ap length e)

pub returns-then-kind-eq-DIFFERENT : goal.returns-then-kind-eq-DIFFERENT
returns-then-kind-eq-DIFFERENT c =
    let e = change_different c.args.kind c.args.place c.if-kind-eq-ELSEWHERE.false c.if-kind-eq-DIFFERENT.true in
    rw e c.put_between-then-kind-eq-DIFFERENT.ensures

pub put-requires : goal.put-requires
put-requires c =
    let e = change_first c.args.kind c.args.place c.if-kind-eq-ELSEWHERE.false c.if-kind-eq-DIFFERENT.false c.if-kind-eq-ONLY_FIRST.true in
    omega (arith, c.requires.1, ap length e)

pub returns-then-kind-eq-ONLY_FIRST : goal.returns-then-kind-eq-ONLY_FIRST
returns-then-kind-eq-ONLY_FIRST c =
    let e = change_first c.args.kind c.args.place c.if-kind-eq-ELSEWHERE.false c.if-kind-eq-DIFFERENT.false c.if-kind-eq-ONLY_FIRST.true in
    rw e c.put.ensures

pub put-requires-2 : goal.put-requires-2
put-requires-2 c =
    let e = change_second c.args.kind c.args.place c.if-kind-eq-ELSEWHERE.false c.if-kind-eq-DIFFERENT.false c.if-kind-eq-ONLY_FIRST.false in
    omega (arith, c.requires.1, ap length e)

pub returns : goal.returns
returns c =
    let e = change_second c.args.kind c.args.place c.if-kind-eq-ELSEWHERE.false c.if-kind-eq-DIFFERENT.false c.if-kind-eq-ONLY_FIRST.false in
    rw e c.put-2.ensures
