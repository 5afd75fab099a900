-- `setfile::inner::head::check_where` meets its contract.
use Rattle.std.proofs.Common.{ℕ, ◌/◌, ap, ◌∙◌}
use Rattle.setfile.proofs.ByteLaws.{edition_by_pair}
use Rattle.setfile.proofs.FaultLaws.{over_long, head_short, head_edition, head_right}
use Rattle.setfile.proofs.inner.head.check_where.Goals as goal

pub returns-then-bytes-gt-MOST_BYTES : goal.returns-then-bytes-gt-MOST_BYTES
returns-then-bytes-gt-MOST_BYTES c = over_long c.args.either c.args.bytes.now c.if-bytes-gt-MOST_BYTES.true

pub returns-then-bytes-lt2 : goal.returns-then-bytes-lt2
returns-then-bytes-lt2 c = head_short c.args.either c.args.bytes.now c.if-bytes-gt-MOST_BYTES.false c.if-bytes-lt2.true

pub returns-then-edition-either : goal.returns-then-edition-either
returns-then-edition-either c =
    head_edition c.args.either c.args.bytes.now c.if-bytes-gt-MOST_BYTES.false c.if-bytes-lt2.false _
    (ap (λ (n : ℕ). n / 4096) c.pair-edition.ensures ∙ edition_by_pair c.args.bytes.now c.if-bytes-lt2.false) c.if-edition-either.true

pub returns : goal.returns
returns c =
    head_right c.args.either c.args.bytes.now c.if-bytes-gt-MOST_BYTES.false c.if-bytes-lt2.false _
    (ap (λ (n : ℕ). n / 4096) c.pair-edition.ensures ∙ edition_by_pair c.args.bytes.now c.if-bytes-lt2.false) c.if-edition-either.false
