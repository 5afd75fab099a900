-- `week::inner::table::put_sums` meets its contract: three numbers and an area.
use mathlib.Core.Path.{sym, ap, subst}
use mathlib.Core.List.{[], ◌∷◌, ◌++◌}
use lib.IntN.{ℤ}
use mir.Syntax.{w64}
use mir.Val.{to_z, of_z}
use mir.Facts.{to_z-of_z}
use Rattle.integers.specs.Bound.{In}
use Rattle.integers.proofs.Bound.{in_fits}
use Rattle.buffer.specs.Sets.{joined}
use Rattle.report.specs.Text.{line_end}
use Rattle.report.proofs.PutLaws.{Going, going_none, going_room, going_more, going_all}
use Rattle.figures.specs.Halves.{whole}
use Rattle.figures.proofs.PossibleLaws.{possible_means}
use Rattle.week.specs.Words.{points_before, points_after, decisions_made, area_kept}
use Rattle.week.specs.Table.{long_signed, line, sum_lines}
use Rattle.week.proofs.inner.table.put_sums.Goals as goal
use Rattle.week.proofs.inner.table.put_sums.Goals.{Start}

-- all of it is to be put
begun : (c : Start) → let s = c.args in
    Going s.at (joined (sum_lines s.f)) s.text.now s.at s.text.now (line points_before s.f.before ∷ line points_after s.f.after ∷ line decisions_made s.f.decisions ∷ (area_kept ++ long_signed (whole (to_z w64 (of_z w64 s.f.high)) s.f.low) ++ line_end) ∷ [])
begun c = let s = c.args in going_none s.at s.text.now (line points_before s.f.before ∷ line points_after s.f.after ∷ line decisions_made s.f.decisions ∷ (area_kept ++ long_signed (whole (to_z w64 (of_z w64 s.f.high)) s.f.low) ++ line_end) ∷ []) (ap (λ (z : ℤ). joined (line points_before s.f.before ∷ line points_after s.f.after ∷ line decisions_made s.f.decisions ∷ (area_kept ++ long_signed (whole z s.f.low) ++ line_end) ∷ [])) (sym (to_z-of_z (in_fits {w = w64} (possible_means s.f c.requires.f_value).high tt)))) c.requires.f_in_bounds

pub put_line-second-requires : goal.put_line-second-requires
put_line-second-requires c =
    going_room (begun (goal.at.put_line-second-requires c).Start)

pub put_line-third-requires : goal.put_line-third-requires
put_line-third-requires c =
    going_room (going_more (begun (goal.at.put_line-third-requires c).Start) c.put_line-second.ensures)

pub put_line-fourth-requires : goal.put_line-fourth-requires
put_line-fourth-requires c =
    going_room (going_more (going_more (begun (goal.at.put_line-fourth-requires c).Start) c.put_line-second.ensures) c.put_line-third.ensures)

pub put_line-requires : goal.put_line-requires
put_line-requires c =
    let h = (possible_means c.args.f c.requires.f_value).high in
    record { fact = subst (In 140735340871680) (sym (to_z-of_z (in_fits {w = w64} h tt))) h; line_end_in_bounds = going_room (going_more (going_more (going_more (begun (goal.at.put_line-requires c).Start) c.put_line-second.ensures) c.put_line-third.ensures) c.put_line-fourth.ensures) }

pub returns : goal.returns
returns c =
    going_all (going_more (going_more (going_more (going_more (begun (goal.at.returns c).Start) c.put_line-second.ensures) c.put_line-third.ensures) c.put_line-fourth.ensures) c.put_line.ensures)
