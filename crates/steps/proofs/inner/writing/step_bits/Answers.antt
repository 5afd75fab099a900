-- `steps::inner::writing::step_bits` meets its contract.
use borrow.Author.Rules.{sfits_of}
use mathlib.Core.Path.{◌∙◌, ap, ap₂}
use Prim.Native.Nat.{ℕ, ◌%◌}
use native.Mathlib.Omega.{arith}
use mir.Syntax.{w32}
use mir.Val.{of_z}
use mir.Facts.{to_z-of_z}
use Rattle.std.proofs.lemmas.Nat.{one_shl}
use Rattle.steps.specs.inside.Asked.{step}
use Rattle.steps.proofs.WriteLaws.{low_word}
use Rattle.steps.proofs.inner.writing.step_bits.Goals as goal

pub returns : goal.returns
returns c =
    let s = c.args in
    let w = c.requires.2 in
    let word = c.from.ensures ∙ c.cast_unsigned.ensures ∙ ap (of_z w32) (to_z-of_z {w = w32} (sfits_of c.difference.type_inv) ∙ c.difference.ensures) in
    ap₂ (λ (m n : ℕ). m % n) word (one_shl s.width 64 (omega (arith, w.few)))
    ∙ low_word s.width w.some w.few (step s.contour.now s.k) c.requires.3
