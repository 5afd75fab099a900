-- `setfile::inner::fields::each_on` meets its contract.
use Rattle.std.proofs.Common.{w32, ℕ, Bool, ◌&&◌, List, [], sym, ap, ◌∙◌, ap₂, to_z-of_z, rules}
use borrow.Author.Rules.{sfits_of}
use Rattle.std.proofs.lemmas.List.Folds.{list_all_more}
use Rattle.grid.specs.Limits.{limit, narrow, on_grid}
use Rattle.setfile.specs.inside.Bytes.{coordinate}
use Rattle.setfile.proofs.inner.fields.each_on.Goals as goal

pub on_grid-all-requires : goal.on_grid-all-requires
unfolding limit
on_grid-all-requires c = search rules

pub loop-word-preserved : goal.loop-word-preserved
unfolding narrow
loop-word-preserved c =
    let l = c.args.words.now in
    let i = c.loop-word.word-index in
    ap₂ (λ (a b : Bool). a && b) c.loop-word.invariant
    (c.on_grid-all.ensures ∙ ap (on_grid narrow) (to_z-of_z {w = w32} (sfits_of c.from_be_bytes.type_inv) ∙ c.from_be_bytes.ensures))
    ∙ sym (list_all_more (λ (w : List ℕ). on_grid narrow (coordinate w)) l i [] c.loop-word-test.true)
