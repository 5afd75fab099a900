-- `report::inner::text::put_short` meets its contract: as many digits are put as hold the number.
use mathlib.Core.Path.{sym}
use Prim.Native.Nat.{ℕ, ◌+◌, ◌<◌, ◌≤◌}
use lib.ListN.{length}
use native.Mathlib.Omega.{arith}
use Rattle.io.specs.Digits.{IsDigitCount}
use Rattle.report.proofs.TextLaws.{decimal_is}
use Rattle.report.proofs.DigitLaws.{decimal_long, one_digit, digits_room, digits_put}
use Rattle.report.proofs.inner.text.put_short.Goals as goal

-- so many digits hold it, by the tests that it passed
module _ (n : ℕ) where
  two : 10 ≤ n → n < 100 → IsDigitCount 10 1 n 2
  two l h = (omega arith, h, λ q. l)

  three : 100 ≤ n → n < 1000 → IsDigitCount 10 1 n 3
  three l h = (omega arith, h, λ q. l)

  four : 1000 ≤ n → n < 10000 → IsDigitCount 10 1 n 4
  four l h = (omega arith, h, λ q. l)

pub put_one-requires : goal.put_one-requires
put_one-requires c =
    let n = c.args.n in
    (c.if-n-lt10.true, omega (arith, c.requires.1, decimal_long 1 n (omega (arith, c.requires.0)) (one_digit n c.if-n-lt10.true)))

pub returns-then-n-lt10 : goal.returns-then-n-lt10
returns-then-n-lt10 c =
    let n = c.args.n in
    rw (sym (decimal_is n 1 (omega (arith, c.requires.0)) (one_digit n c.if-n-lt10.true))) c.put_one.ensures

pub put_two-requires : goal.put_two-requires
put_two-requires c =
    let n = c.args.n in
    (c.if-n-lt100.true, omega (arith, c.requires.1, decimal_long 2 n (omega (arith, c.requires.0)) (two n c.if-n-lt10.false c.if-n-lt100.true)))

pub returns-then-n-lt100 : goal.returns-then-n-lt100
returns-then-n-lt100 c =
    let n = c.args.n in
    rw (sym (decimal_is n 2 (omega (arith, c.requires.0)) (two n c.if-n-lt10.false c.if-n-lt100.true))) c.put_two.ensures

-- room for three digits
three_room : (c : goal.After-put_one-arg-then-n-lt1000-1) → c.args.at + 3 ≤ length c.args.text.now
three_room c =
    let n = c.args.n in
    omega (arith, c.requires.1, decimal_long 3 n (omega (arith, c.requires.0)) (three n c.if-n-lt100.false c.if-n-lt1000.true))

-- room for three digits
three_room_2 : (c : goal.After-put_two-arg-then-n-lt1000-1) → c.args.at + 3 ≤ length c.args.text.now
three_room_2 c =
    let n = c.args.n in
    omega (arith, c.requires.1, decimal_long 3 n (omega (arith, c.requires.0)) (three n c.if-n-lt100.false c.if-n-lt1000.true))

-- room for three digits
three_room_3 : (c : goal.After-slice_known-then-n-lt1000-2-1) → c.args.at + 3 ≤ length c.args.text.now
three_room_3 c =
    let n = c.args.n in
    omega (arith, c.requires.1, decimal_long 3 n (omega (arith, c.requires.0)) (three n c.if-n-lt100.false c.if-n-lt1000.true))

pub put_one-behind-requires : goal.put_one-behind-requires
put_one-behind-requires c = (omega (arith, c.if-n-lt1000.true), omega (arith, three_room c))

pub put_two-requires-then-n-lt1000 : goal.put_two-requires-then-n-lt1000
put_two-requires-then-n-lt1000 c =
    (omega arith, digits_room 1 2 c.args.n (three_room_2 c) c.put_one-behind.ensures)

pub returns-then-n-lt1000 : goal.returns-then-n-lt1000
returns-then-n-lt1000 c =
    let n = c.args.n in
    rw (sym (decimal_is n 3 (omega (arith, c.requires.0)) (three n c.if-n-lt100.false c.if-n-lt1000.true)))
    (digits_put 1 2 n (three_room_3 c) c.put_one-behind.ensures c.put_two-then-n-lt1000.ensures)

pub put_four-requires : goal.put_four-requires
put_four-requires c =
    let n = c.args.n in
    (c.requires.0, omega (arith, c.requires.1, decimal_long 4 n (omega (arith, c.requires.0)) (four n c.if-n-lt1000.false c.requires.0)))

pub returns : goal.returns
returns c =
    let n = c.args.n in
    rw (sym (decimal_is n 4 (omega (arith, c.requires.0)) (four n c.if-n-lt1000.false c.requires.0))) c.put_four.ensures
