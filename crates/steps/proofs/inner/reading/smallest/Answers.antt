-- `steps::inner::reading::smallest` meets its contract.
use borrow.Author.Tests.{eq-eqb}
use mathlib.Core.Path.{◌≡◌, sym, ◌∙◌, ap}
use mathlib.Core.List.{List}
use Prim.Native.Nat.{◌+◌, ◌-◌, ◌*◌}
use native.Mathlib.Omega.{arith}
use lib.Dec.{eqb}
use lib.ListN.{drop}
use lib.IntN.{ℤ}
use Rattle.bits.specs.Bits.{bits}
use Rattle.bits.specs.Signs.{numbers}
use Rattle.bits.specs.Widths.{width_of}
use Rattle.bits.proofs.WidthLaws.{width_at_most}
use Rattle.steps.proofs.BodyLaws.{width_some}
use Rattle.steps.proofs.ReadLaws.{all_there}
use Rattle.steps.proofs.StandLaws.{no_steps, some_steps, tested_there}
use Rattle.steps.proofs.SmallestLaws.{width_of_none, no_width, smallest_if}
use Rattle.steps.proofs.inner.reading.smallest.Goals as goal

pub returns-then-n-lt2 : goal.returns-then-n-lt2
returns-then-n-lt2 c =
    let s = c.args in
    ap (eqb s.width) (sym (ap width_of (no_steps s.n s.width (drop s.at (bits s.bytes.now)) c.if-n-lt2.true) ∙ width_of_none))

pub returns-then-width : goal.returns-then-width
returns-then-width c = let s = c.args in sym (no_width _ s.width c.if-width.true)

pub returns-then-width-eq1 : goal.returns-then-width-eq1
returns-then-width-eq1 c =
    let s = c.args in
    let w = s.width in
    let l : List ℤ = numbers w (2 * (s.n - 1)) (drop (s.at + 64) (bits s.bytes.now)) in
    let t = tested_there c.requires.0 (omega (arith, c.if-n-lt2.false)) c.if-width.false in
    let e : w ≡ width_of l = omega (arith, c.if-width-eq1.true, width_some l, width_at_most l w (omega (arith, c.if-width-eq1.true)) (all_there t)) in
    sym (ap (λ (l : List ℤ). eqb w (width_of l)) (some_steps (bits s.bytes.now) s.at w s.n (omega (arith, c.if-n-lt2.false))) ∙ eq-eqb w (width_of l) e)

pub returns : goal.returns
returns c =
    let s = c.args in
    let w = s.width in
    let l : List ℤ = numbers w (2 * (s.n - 1)) (drop (s.at + 64) (bits s.bytes.now)) in
    let t = tested_there c.requires.0 (omega (arith, c.if-n-lt2.false)) c.if-width.false in
    c.some_needs.ensures
    ∙ smallest_if l w (omega (arith, t.width.some, c.if-width-eq1.false)) t.width.few (all_there t)
    ∙ sym (ap (λ (l : List ℤ). eqb w (width_of l)) (some_steps (bits s.bytes.now) s.at w s.n (omega (arith, c.if-n-lt2.false))))
