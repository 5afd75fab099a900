-- `figures::inner::entries::of_entry` meets its contract.
use mathlib.Core.Path.{◌∙◌, ap}
use mir.Syntax.{w64}
use mir.Facts.{to_z-of_z}
use borrow.Author.Rules.{rules}
use Rattle.figures.specs.Halves.{high, low}
use Rattle.figures.proofs.EntryLaws.{one_figures}
use Rattle.figures.proofs.inner.entries.of_entry.Goals as goal

pub returns : goal.returns
returns c =
    let a = to_z-of_z {w = w64} {z = c.args.area} c.ranges.area in
    one_figures c.args.reply c.args.before c.args.after c.args.decisions c.args.area c.requires _ _
    (to_z-of_z {w = w64} {z = c.split-parts.result.high} (search rules) ∙ c.split-parts.ensures.0 ∙ ap high a)
    (c.split-parts.ensures.1 ∙ ap low a)
