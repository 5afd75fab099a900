-- `figures::inner::entries::of_contour` meets its contract: kept or collapsed, by the walk.
use Rattle.std.proofs.Common.{ap}
use Rattle.clean.specs.Outcome.{ended_with}
use Rattle.figures.proofs.EntryLaws.{area_asked}
use Rattle.figures.proofs.inner.entries.of_contour.Goals as goal

pub doubled_area-area-requires : goal.doubled_area-area-requires
doubled_area-area-requires c =
    let r = c.settle-cleaned.result in
    area_asked c.args.rule c.args.contour.now c.args.out.now _ _ c.settle-cleaned.ensures (ap (λ k. (ended_with k r.decisions r.turns).reply) c.in-Some.is) c.requires.contour
