-- `report::inner::line::put_area` meets its contract: an area, or a dash.
use Rattle.report.proofs.LineLaws.{area_clear}
use Rattle.report.proofs.inner.line.put_area.Goals as goal

pub doubled_area-area-requires : goal.doubled_area-area-requires
doubled_area-area-requires c =
    area_clear c.args.contour.now c.if-contour-eq0.false c.requires.contour
