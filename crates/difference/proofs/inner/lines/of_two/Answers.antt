-- `difference::inner::lines::of_two` meets its contract, one law for each way out.
use mathlib.Core.Path.{◌≡◌, sym, ◌∙◌, ap}
use mathlib.Core.List.{List}
use Prim.Native.Nat.{ℕ, ◌<◌, min}
use native.Mathlib.Omega.{arith}
use lib.IntN.{ℤ}
use Rattle.grid.specs.Domain.{count}
use Rattle.difference.specs.Lines.{elsewhere, different, first_other}
use Rattle.difference.proofs.LineLaws.{unequal, same_all, same_elsewhere, same_nowhere, other_within}
use Rattle.difference.proofs.inner.lines.of_two.Goals as goal

-- of equal counts, what is found is the first other position of all
found : (first second : List ℤ) {m d : ℕ} → count first ≡ count second → m ≡ min (count first) (count second) → d ≡ first_other first second m
    → d ≡ first_other first second (count second)
found first second {m} e k f = let z : m ≡ count second = omega arith in f ∙ ap (first_other first second) z

-- some of the points differ
differs : (first second : List ℤ) {d : ℕ} → d ≡ first_other first second (count second) → (d ≡ count second → ⊥) → first_other first second (count second) < count second
differs first second e n = omega (arith, other_within first second (count second))

pub returns-then-m-n : goal.returns-then-m-n
returns-then-m-n c =
    let s = c.args in
    ap different (c.first_other-d.ensures ∙ ap (first_other s.first.now s.second.now) c.min.ensures) ∙ sym (unequal _ _ c.if-m-n.true)

pub returns-then-d-n : goal.returns-then-d-n
returns-then-d-n c = sym (same_all _ _ c.if-m-n.false (sym (found _ _ c.if-m-n.false c.min.ensures c.first_other-d.ensures) ∙ c.if-d-n.true))

pub start-s-requires : goal.start-s-requires
start-s-requires c =
    let s = c.args in
    let d = differs s.first.now s.second.now (found _ _ c.if-m-n.false c.min.ensures c.first_other-d.ensures) c.if-d-n.false in
    (rw c.if-m-n.false at c.requires.0, c.requires.1, omega arith)

pub returns-then-s-n : goal.returns-then-s-n
returns-then-s-n c =
    let e = c.start-s.ensures in
    let d = differs _ _ (found _ _ c.if-m-n.false c.min.ensures c.first_other-d.ensures) c.if-d-n.false in
    ap elsewhere e ∙ sym (same_elsewhere _ _ c.if-m-n.false d (omega (arith, e, c.if-s-n.true)))

pub returns : goal.returns
returns c =
    let e = c.start-s.ensures in
    let f = found c.args.first.now c.args.second.now c.if-m-n.false c.min.ensures c.first_other-d.ensures in
    ap different f ∙ sym (same_nowhere _ _ c.if-m-n.false (differs _ _ f c.if-d-n.false) (omega (arith, e, c.if-s-n.false)))
