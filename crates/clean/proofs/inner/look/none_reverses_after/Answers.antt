-- `clean::inner::look::none_reverses_after` meets its contract: the way goes on behind the vertices that stand.
use Rattle.clean.proofs.LookLaws.{stands_onward}
use Rattle.clean.proofs.inner.look.none_reverses_after.Goals as goal

pub onward-requires : goal.onward-requires
onward-requires c =
    let p = c.requires in
    (p.contour.0, stands_onward c.args.points.now p.contour.0 c.args.k c.if-k-eq0.false p.k_lt_n.0 p.k_lt_n.1 c.edge_at-to.ensures)
