-- `setfile::inner::headers::header_at` meets its contract.
use Rattle.std.proofs.Common.{◌+◌, ◌*◌, ◌≤◌, Bool, length, sym, ap, ◌∙◌, subst}
use Rattle.setfile.specs.inside.Reading.{from_bit, header_size, header_in}
use Rattle.setfile.proofs.inner.headers.header_at.Goals as goal

pub of_second-requires : goal.of_second-requires
of_second-requires c =
    let at = c.args.at in
    let f = c.args.bytes.now in
    (c.requires.0.short, subst (λ (b : Bool). at + header_size b ≤ 8 * length f) c.if-second.true c.requires.1)

pub returns-then-second : goal.returns-then-second
returns-then-second c =
    let s = c.args in
    c.of_second.ensures ∙ ap (λ (b : Bool). header_in b (from_bit s.bytes.now s.at)) (sym c.if-second.true)

pub of_first-requires : goal.of_first-requires
of_first-requires c =
    let at = c.args.at in
    let f = c.args.bytes.now in
    (c.requires.0.whole c.if-second.false, subst (λ (b : Bool). at + header_size b ≤ 8 * length f) c.if-second.false c.requires.1)

pub returns : goal.returns
returns c =
    let s = c.args in
    c.of_first.ensures ∙ ap (λ (b : Bool). header_in b (from_bit s.bytes.now s.at)) (sym c.if-second.false)
