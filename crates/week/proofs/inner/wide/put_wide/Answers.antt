-- `week::inner::wide::put_wide` meets its contract: what stands before the last eight digits, and those.
use mathlib.Core.Path.{sym}
use mathlib.Core.List.{◌++◌}
use Prim.Native.Nat.{◌+◌, ◌%◌, ◌≤◌}
use native.Mathlib.Omega.{arith}
use lib.ListN.{length, length-append}
use Rattle.io.specs.Digits.{last_digits}
use Rattle.report.specs.Text.{decimal}
use Rattle.report.proofs.PutLaws.{room_behind, both_put}
use Rattle.report.proofs.TextLaws.{digits-length}
use Rattle.week.proofs.AreaLaws.{front, rest, wide_short, wide_long}
use Rattle.week.proofs.inner.wide.put_wide.Goals as goal
use Rattle.week.proofs.inner.wide.put_wide.Goals.{Else-front-eq0}

pub put_number-requires : goal.put_number-requires
put_number-requires c =
    let s = c.args in
    rw (sym (wide_short s.high c.from.result c.if-front-eq0.true)) (rw (← c.from.ensures) at c.requires.low_in_bounds)

pub returns-then-front-eq0 : goal.returns-then-front-eq0
returns-then-front-eq0 c =
    let s = c.args in
    rw (← c.from.ensures, wide_short s.high c.from.result c.if-front-eq0.true) c.put_number.ensures

-- room for both
roomy : (c : Else-front-eq0) →
    let s = c.args in
    s.at + length (decimal (front s.high c.from.result) ++ last_digits 10 8 (rest s.high c.from.result % 100000000)) ≤ length s.text.now
roomy c =
    let s = c.args in
    rw (sym (wide_long s.high c.from.result c.if-front-eq0.false)) (rw (← c.from.ensures) at c.requires.low_in_bounds)

pub put_number-behind-requires : goal.put_number-behind-requires
put_number-behind-requires c =
    let s = c.args in
    omega (arith, roomy (goal.at.put_number-behind-requires c).Else-front-eq0, length-append (decimal (front s.high c.from.result)) (last_digits 10 8 (rest s.high c.from.result % 100000000)))

pub put_eight-requires : goal.put_eight-requires
put_eight-requires c =
    let s = c.args in
    let d = last_digits 10 8 (rest s.high c.from.result % 100000000) in
    (omega arith, omega (arith, room_behind c.put_number-behind.ensures d (roomy (goal.at.put_eight-requires c).Else-front-eq0), digits-length 8 (rest s.high c.from.result % 100000000)))

pub returns : goal.returns
returns c =
    let s = c.args in
    rw (← c.from.ensures, wide_long s.high c.from.result c.if-front-eq0.false)
    (both_put c.put_number-behind.ensures (last_digits 10 8 (rest s.high c.from.result % 100000000)) (roomy (goal.at.returns c).Else-front-eq0) c.put_eight.ensures)
