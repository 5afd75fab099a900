-- `file_answers::files::listing_of` is safe: no listing is longer than the text.
use Rattle.report.proofs.Theorems.{no_listing_is_longer}
use Rattle.file_answers.proofs.files.listing_of.Goals as goal

pub list-length-requires : goal.list-length-requires
list-length-requires c = no_listing_is_longer _
