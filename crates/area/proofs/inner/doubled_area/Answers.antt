-- `area::inner::doubled_area` meets its contract: what is not refused is a contour with a point.
use Rattle.area.proofs.AnswerLaws.{filled_contour}
use Rattle.area.proofs.inner.doubled_area.Goals as goal

pub total-requires : goal.total-requires
total-requires c = filled_contour c.args.points.now c.requires
