-- `clean::inner::verdicts::passes` meets its contract: a box passes by either rule.
use Rattle.std.proofs.Common.{sym, ◌∙◌}
use Rattle.grid.proofs.DomainLaws.{in_domain}
use Rattle.clean.proofs.LookLaws.{box_passes}
use Rattle.clean.proofs.inner.verdicts.passes.Goals as goal

pub is_box-requires : goal.is_box-requires
is_box-requires c = in_domain _ c.requires

pub returns-then-is_box : goal.returns-then-is_box
returns-then-is_box c = box_passes _ (in_domain _ c.requires) c.args.rule (sym c.is_box.ensures ∙ c.if-is_box.true)
