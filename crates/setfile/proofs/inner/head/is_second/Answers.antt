-- `setfile::inner::head::is_second` meets its contract.
use Rattle.std.proofs.Common.{ℕ, eqb, length, sym, ap, ◌∙◌, arith, eqb-true}
use borrow.Author.Tests.{eqb-false}
use Rattle.setfile.proofs.HeaderLaws.{edition_none, edition_by_byte}
use Rattle.setfile.proofs.inner.head.is_second.Goals as goal

pub returns-then-is_empty : goal.returns-then-is_empty
returns-then-is_empty c = sym (ap (λ (v : ℕ). eqb v 2) (edition_none c.args.bytes.now (eqb-true _ 0 (sym c.is_empty.ensures ∙ c.if-is_empty.true))))

pub returns : goal.returns
returns c =
    let f = c.args.bytes.now in
    ap (λ (v : ℕ). eqb v 2) (edition_by_byte f (λ i. (c.type_inv.bytes i).fits) (omega (arith, eqb-false (length f) 0 (sym c.is_empty.ensures ∙ c.if-is_empty.false))))
