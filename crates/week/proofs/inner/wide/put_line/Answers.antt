-- `week::inner::wide::put_line` meets its contract: a word, an area and the end of the line.
use mathlib.Core.Path.{sym, ◌∙◌, ap, subst}
use mathlib.Core.List.{[], ◌∷◌, ◌++◌}
use lib.IntN.{ℤ}
use mir.Syntax.{w64}
use mir.Val.{to_z, of_z}
use mir.Facts.{to_z-of_z}
use Rattle.integers.specs.Bound.{In}
use Rattle.report.specs.Text.{line_end}
use Rattle.report.proofs.PutLaws.{Going, going_none, going_room, going_more, going_all, three_words}
use Rattle.figures.specs.Halves.{whole}
use Rattle.week.specs.Words.{area_kept}
use Rattle.week.specs.Table.{long_signed}
use Rattle.week.proofs.inner.wide.put_line.Goals as goal
use Rattle.week.proofs.inner.wide.put_line.Goals.{Start}

-- all of it is to be put
begun : (c : Start) → let s = c.args in
    Going s.at (area_kept ++ long_signed (whole s.high s.low) ++ line_end) s.text.now s.at s.text.now (area_kept ∷ long_signed (whole (to_z w64 (of_z w64 s.high)) s.low) ∷ line_end ∷ [])
begun c = let s = c.args in going_none s.at s.text.now (area_kept ∷ long_signed (whole (to_z w64 (of_z w64 s.high)) s.low) ∷ line_end ∷ []) (ap (λ (z : ℤ). area_kept ++ long_signed (whole z s.low) ++ line_end) (sym (to_z-of_z c.ranges.high)) ∙ three_words area_kept (long_signed (whole (to_z w64 (of_z w64 s.high)) s.low)) line_end) c.requires.line_end_in_bounds

pub put-second-requires : goal.put-second-requires
put-second-requires c =
    going_room (begun (goal.at.put-second-requires c).Start)

pub put_area-third-requires : goal.put_area-third-requires
put_area-third-requires c =
    record { fact = subst (In 140735340871680) (sym (to_z-of_z c.ranges.high)) c.requires.fact; low_in_bounds = going_room (going_more (begun (goal.at.put_area-third-requires c).Start) c.put-second.ensures) }

pub put-requires : goal.put-requires
put-requires c =
    going_room (going_more (going_more (begun (goal.at.put-requires c).Start) c.put-second.ensures) c.put_area-third.ensures)

pub returns : goal.returns
returns c =
    going_all (going_more (going_more (going_more (begun (goal.at.returns c).Start) c.put-second.ensures) c.put_area-third.ensures) c.put.ensures)
