-- `fates::inner::shape::shape` meets its contract: no contour, or the outline and those behind it.
use mathlib.Core.Path.{sym, ◌∙◌, ap}
use Rattle.std.proofs.lemmas.Bool.{eqb-true, eqb-false}
use mathlib.Core.List.{List}
use native.Mathlib.Omega.{arith}
use lib.IntN.{ℤ}
use lib.ListN.{length}
use Rattle.buffer.proofs.PartLaws.{same_numbers}
use Rattle.sets.specs.Fates.{fate}
use Rattle.fates.specs.Fates.{told as told_as}
use Rattle.fates.proofs.FilledLaws.{named_walkable, none_told, shape_told}
use Rattle.fates.proofs.inner.shape.shape.Goals as goal

pub returns-then-is_empty : goal.returns-then-is_empty
returns-then-is_empty c = none_told _ c.args.points.now c.args.ranges.now _ c.requires.long (eqb-true (length c.args.ranges.now) 0 (sym c.is_empty.ensures ∙ c.if-is_empty.true))

pub alone-outline-requires : goal.alone-outline-requires
alone-outline-requires c =
    named_walkable _ _ _ c.requires.named (omega (arith, eqb-false (length c.args.ranges.now) 0 (sym c.is_empty.ensures ∙ c.if-is_empty.false))) _ (same_numbers c.named-own.ensures) _ _ _ c.requires.scratch

pub returns : goal.returns
returns c =
    shape_told _ c.args.points.now c.args.ranges.now c.args.fates.now c.requires.long (eqb-false (length c.args.ranges.now) 0 (sym c.is_empty.ensures ∙ c.if-is_empty.false)) _ (c.alone-outline.ensures ∙ ap (λ (row : List ℤ). told_as (fate c.args.rule row)) (same_numbers c.named-own.ensures)) _ c.others.ensures
