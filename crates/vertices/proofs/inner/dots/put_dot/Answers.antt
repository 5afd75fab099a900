-- `vertices::inner::dots::put_dot` meets its contract: word after word.
use mathlib.Core.Path.{◌≡◌, ◌∙◌}
use borrow.Author.Rules.{sfits_of}
use mir.Syntax.{w64}
use mir.Val.{to_z, of_z}
use mir.Facts.{to_z-of_z}
use Rattle.grid.specs.Limits.{limit}
use Rattle.grid.proofs.LimitLaws.{on_grid_back}
use Rattle.grid.proofs.PointLaws.{x_on, y_on}
use Rattle.report.proofs.PutLaws.{going_none, going_more, going_all}
use Rattle.vertices.proofs.DotLaws.{dot_words}
use Rattle.vertices.proofs.inner.dots.put_dot.Goals as goal

pub returns : goal.returns
returns c =
    let a = c.args in
    let x : to_z w64 (of_z w64 c.from.result) ≡ a.p.x = to_z-of_z {w = w64} (sfits_of c.from.type_inv) ∙ c.from.ensures ∙ on_grid_back _ (x_on limit _ c.requires.0) in
    let y : to_z w64 (of_z w64 c.from-2.result) ≡ a.p.y = to_z-of_z {w = w64} (sfits_of c.from-2.type_inv) ∙ c.from-2.ensures ∙ on_grid_back _ (y_on limit _ c.requires.0) in
    let start = going_none a.at a.text.now _ (dot_words a.p) c.requires.1 in
    going_all (going_more (going_more (going_more (going_more (going_more start c.put-second.ensures) (rw x at c.put_signed-third.ensures)) c.put-fourth.ensures) (rw y at c.put_signed-fifth.ensures)) c.put.ensures)
