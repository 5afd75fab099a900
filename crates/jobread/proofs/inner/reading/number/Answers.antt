-- `jobread::inner::reading::number` meets its contract.
use mir.Syntax.{w32}
use borrow.Author.Rules.{sfits_of}
use mathlib.Core.Path.{◌∙◌, ap}
use Prim.Native.Nat.{ℕ}
use native.Mathlib.Omega.{arith}
use borrow.Author.Tests.{lt-ltb, le-ltb, le-leb, lt-leb}
use Rattle.jobread.specs.declared.Reader.{Reader}
use Rattle.jobread.specs.Places.{digit, largest, after_digit}
use Rattle.jobread.specs.Reading.{most_numbers, moved, in_number}
use Rattle.jobread.specs.inside.Rows.{state_of}
use mir.Facts.{to_z-of_z}
use Rattle.jobread.specs.Reading.{behind}
use Rattle.jobread.specs.inside.Rows.{lines_of}
use Rattle.jobread.proofs.RowLaws.{taken_rows}
use Rattle.jobread.proofs.inner.reading.number.Goals as goal

pub returns-in-Some : goal.returns-in-Some
unfolding in_number
returns-in-Some c =
    let d = c.in-Some.ensures in
    let s = c.args in
    rw (lt-ltb (digit s.c) 10 (omega (arith, d.value, d.small)), in_number)
    (ap (λ (r : Reader). state_of r s.points.now s.contours.now s.shapes.now)
    (c.moved.ensures ∙ ap (moved s.reader) (c.number.ensures ∙ ap (λ (k : ℕ). after_digit s.below s.size k) d.value)))

pub returns-then-size-gt-LARGEST : goal.returns-then-size-gt-LARGEST
unfolding in_number
returns-then-size-gt-LARGEST c =
    let s = c.args in
    rw (le-ltb (digit s.c) 10 (omega (arith, c.in_default.ensures.value)), lt-ltb largest s.size c.if-size-gt-LARGEST.true, in_number)
    (ap (λ (r : Reader). state_of r s.points.now s.contours.now s.shapes.now) c.moved-then-size-gt-LARGEST.ensures)

pub returns-then-points-n : goal.returns-then-points-n
unfolding in_number
returns-then-points-n c =
    let s = c.args in
    rw (
      le-ltb (digit s.c) 10 (omega (arith, c.in_default.ensures.value)),
      le-ltb largest s.size c.if-size-gt-LARGEST.false,
      le-leb most_numbers s.reader.numbers (omega (arith, c.if-points-n.true, c.requires.in_points)),
      in_number,
    )
    (ap (λ (r : Reader). state_of r s.points.now s.contours.now s.shapes.now) c.moved-then-points-n.ensures)

pub returns : goal.returns
unfolding in_number
returns c =
    let s = c.args in
    rw (
      le-ltb (digit s.c) 10 (omega (arith, c.in_default.ensures.value)),
      le-ltb largest s.size c.if-size-gt-LARGEST.false,
      lt-leb most_numbers s.reader.numbers (omega (arith, c.if-points-n.false, c.requires.in_points)),
      in_number,
    )
    (taken_rows s.reader c.behind.result s.points.now s.contours.now s.shapes.now _ _ _ _ s.c (to_z-of_z {w = w32} (sfits_of c.value.type_inv) ∙ c.value.ensures) c.if-points-n.false
    (c.behind.ensures ∙ ap (λ (r : Reader). behind (lines_of r s.contours.now s.shapes.now) s.c) c.counted.ensures))
