-- `difference::inner::lines::first_other` meets its contract: where keys differ, points do.
use Rattle.difference.proofs.LineLaws.{other_is}
use Rattle.difference.proofs.inner.lines.first_other.Goals as goal

pub returns : goal.returns
returns c =
    other_is c.args.first.now c.args.second.now c.args.n _ c.requires.0.on c.requires.1.on c.level.ensures
