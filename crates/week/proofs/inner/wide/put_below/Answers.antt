-- `week::inner::wide::put_below` meets its contract: a dash, and the size of the number.
use mathlib.Core.Path.{sym}
use Prim.Native.Nat.{◌-◌, ◌*◌, ◌^◌}
use native.Mathlib.Omega.{arith}
use lib.ListN.{length-append}
use Rattle.report.specs.Text.{dash}
use Rattle.report.proofs.PutLaws.{room_behind, both_put}
use Rattle.week.specs.Table.{long_decimal}
use Rattle.week.proofs.AreaLaws.{none_lacking, some_lacking}
use Rattle.week.proofs.inner.wide.put_below.Goals as goal

pub put-behind-requires : goal.put-behind-requires
put-behind-requires c =
    let s = c.args in
    omega (arith, c.requires.low_in_bounds, length-append dash (long_decimal (s.high * 2 ^ 32 - s.low)))

pub put_wide-requires : goal.put_wide-requires
put_wide-requires c =
    let s = c.args in
    let e = none_lacking s.high s.low c.if-low-eq0.true in
    record { high_bound = c.requires.high_nonzero.1; low_in_bounds = rw e (room_behind c.put-behind.ensures (long_decimal (s.high * 2 ^ 32 - s.low)) c.requires.low_in_bounds) }

pub returns-then-low-eq0 : goal.returns-then-low-eq0
returns-then-low-eq0 c =
    let s = c.args in
    let e = none_lacking s.high s.low c.if-low-eq0.true in
    both_put c.put-behind.ensures (long_decimal (s.high * 2 ^ 32 - s.low)) c.requires.low_in_bounds (rw (sym e) c.put_wide.ensures)

pub put_wide-requires-2 : goal.put_wide-requires-2
put_wide-requires-2 c =
    let s = c.args in
    record { high_bound = omega (arith, c.requires.high_nonzero); low_in_bounds = rw (some_lacking s.high s.low _ c.requires.high_nonzero.0 c.if-low-eq0.false c.ranges.low.fits c.wrapping_neg.type_inv c.wrapping_neg.ensures) (room_behind c.put-behind.ensures (long_decimal (s.high * 2 ^ 32 - s.low)) c.requires.low_in_bounds) }

pub returns : goal.returns
returns c =
    let s = c.args in
    both_put c.put-behind.ensures (long_decimal (s.high * 2 ^ 32 - s.low)) c.requires.low_in_bounds (rw (sym (some_lacking s.high s.low _ c.requires.high_nonzero.0 c.if-low-eq0.false c.ranges.low.fits c.wrapping_neg.type_inv c.wrapping_neg.ensures)) c.put_wide-2.ensures)
