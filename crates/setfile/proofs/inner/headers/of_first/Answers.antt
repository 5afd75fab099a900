-- `setfile::inner::headers::of_first` meets its contract.
use Rattle.setfile.proofs.HeaderLaws.{first_header}
use Rattle.setfile.proofs.inner.headers.of_first.Goals as goal

pub returns : goal.returns
returns c =
    first_header c.args.bytes.now c.args.at c.requires.0 c.requires.1 _ c.pair-pair.ensures
