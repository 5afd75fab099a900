-- `picture::inner::spots::put_marked` meets its contract: the dots of the removed vertices, and those of the kept ones.
use mathlib.Core.Bool.{true, false}
use mathlib.Core.List.{List, [], ◌∷◌}
use Prim.Native.Nat.{ℕ, ◌+◌, ◌≤◌}
use lib.ListN.{length}
use lib.IntN.{ℤ}
use Rattle.grid.specs.Points.{points}
use Rattle.report.proofs.PutLaws.{Going, going_none, going_room, going_more, going_all}
use Rattle.vertices.specs.Vertices.{vertices, dots}
use Rattle.vertices.specs.inside.Marks.{survive}
use Rattle.picture.specs.Names.{path, class, removed, kept, d}
use Rattle.picture.specs.Picture.{all_spots}
use Rattle.picture.specs.inside.Parts.{before_removed, before_kept, left}
use Rattle.picture.proofs.PartLaws.{spot_words}
use Rattle.picture.proofs.inner.spots.put_marked.Goals as goal

-- the words are to be put
going : (mark : List ℕ) (row : List ℤ) (at : ℕ) (text : List ℕ) → let v = vertices (survive mark) (points row) in
    at + length (all_spots v) ≤ length text → Going at (all_spots v) text at text (before_removed ∷ dots false v ∷ before_kept ∷ dots true v ∷ left ∷ [])
going mark row at text h = going_none at text _ (spot_words (vertices (survive mark) (points row))) h

pub put-second-requires : goal.put-second-requires
unfolding path class removed d
put-second-requires c = going_room (going c.args.mark.now c.args.points.now c.args.at c.args.text.now c.requires.points_in_bounds)

pub put-third-requires-clause-points_in_bounds : goal.put-third-requires-clause-points_in_bounds
unfolding path class removed d
put-third-requires-clause-points_in_bounds c =
    going_room (going_more (going c.args.mark.now c.args.points.now c.args.at c.args.text.now c.requires.points_in_bounds) c.put-second.ensures)

pub put-fourth-requires : goal.put-fourth-requires
unfolding path class removed d kept
put-fourth-requires c =
    going_room (going_more (going_more (going c.args.mark.now c.args.points.now c.args.at c.args.text.now c.requires.points_in_bounds) c.put-second.ensures) c.put-third.ensures)

pub put-fifth-requires-clause-points_in_bounds : goal.put-fifth-requires-clause-points_in_bounds
unfolding path class removed d kept
put-fifth-requires-clause-points_in_bounds c =
    going_room (going_more (going_more (going_more (going c.args.mark.now c.args.points.now c.args.at c.args.text.now c.requires.points_in_bounds) c.put-second.ensures) c.put-third.ensures) c.put-fourth.ensures)

pub put-requires : goal.put-requires
unfolding path class removed d kept
put-requires c =
    going_room (going_more (going_more (going_more (going_more (going c.args.mark.now c.args.points.now c.args.at c.args.text.now c.requires.points_in_bounds) c.put-second.ensures) c.put-third.ensures) c.put-fourth.ensures) c.put-fifth.ensures)

pub returns : goal.returns
unfolding path class removed d kept
returns c =
    going_all (going_more (going_more (going_more (going_more (going_more (going c.args.mark.now c.args.points.now c.args.at c.args.text.now c.requires.points_in_bounds) c.put-second.ensures) c.put-third.ensures) c.put-fourth.ensures) c.put-fifth.ensures) c.put.ensures)
