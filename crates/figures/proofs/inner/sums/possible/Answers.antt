-- `figures::inner::sums::possible` meets its contract, test by test.
use mathlib.Core.Path.{sym, ◌∙◌, ap}
use mathlib.Core.Bool.{Bool, ◌&&◌}
use Prim.Native.Nat.{◌-◌}
use lib.IntN.{ℤ, pos, neg_ℤ}
use lib.Signed.{le_z}
use mir.Syntax.{w64}
use mir.Facts.{to_z-of_z}
use borrow.Author.Rules.{sfits_of}
use Rattle.figures.specs.Joining.{most_high}
use Rattle.figures.proofs.PossibleLaws.{not_before, not_after, not_decisions, by_high}
use Rattle.figures.proofs.inner.sums.possible.Goals as goal

pub returns-then-f-gt4294901760 : goal.returns-then-f-gt4294901760
returns-then-f-gt4294901760 c = not_before c.args.f c.if-f-gt4294901760.true

pub returns-then-f-gt4294901760-2 : goal.returns-then-f-gt4294901760-2
returns-then-f-gt4294901760-2 c = not_after c.args.f c.if-f-gt4294901760.false c.if-f-gt4294901760-2.true

pub returns-then-f-gt17179017225 : goal.returns-then-f-gt17179017225
returns-then-f-gt17179017225 c = not_decisions c.args.f c.if-f-gt4294901760.false c.if-f-gt4294901760-2.false c.if-f-gt17179017225.true

pub returns-then-f-geminus140735340871680 : goal.returns-then-f-geminus140735340871680
returns-then-f-geminus140735340871680 c =
    let h = c.args.f.high in
    let e = to_z-of_z {w = w64} {z = h} (sfits_of c.struct_told-then-f-geminus140735340871680-1.given.1.1.1.1.0.1) in
    ap (λ (z : ℤ). le_z z (pos (most_high - 1))) e
    ∙ sym (by_high c.args.f c.if-f-gt4294901760.false c.if-f-gt4294901760-2.false c.if-f-gt17179017225.false ∙ ap (λ (b : Bool). b && le_z h (pos (most_high - 1))) (ap (le_z (neg_ℤ (pos most_high))) (sym e) ∙ c.if-f-geminus140735340871680.true))

pub returns-else-f-geminus140735340871680 : goal.returns-else-f-geminus140735340871680
returns-else-f-geminus140735340871680 c =
    let h = c.args.f.high in
    let e = to_z-of_z {w = w64} {z = h} (sfits_of c.struct_told-1.given.1.1.1.1.0.1) in
    c.if-f-geminus140735340871680.false
    ∙ sym (by_high c.args.f c.if-f-gt4294901760.false c.if-f-gt4294901760-2.false c.if-f-gt17179017225.false ∙ ap (λ (b : Bool). b && le_z h (pos (most_high - 1))) (ap (le_z (neg_ℤ (pos most_high))) (sym e) ∙ c.if-f-geminus140735340871680.false))
