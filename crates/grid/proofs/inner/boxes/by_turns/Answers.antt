-- `grid::inner::boxes::by_turns` meets its contract: its six tests tell.
use Rattle.grid.proofs.BoxLaws.{six_tests}
use Rattle.grid.proofs.inner.boxes.by_turns.Goals as goal

pub returns : goal.returns
returns c =
    rw (c.along_x.ensures, c.along_y.ensures, c.along_x-2.ensures, c.along_y-2.ensures, c.along_y-3.ensures, c.along_x-3.ensures)
    (six_tests c.args.u c.args.v c.args.w c.args.z c.requires)
