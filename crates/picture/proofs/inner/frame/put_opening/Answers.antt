-- `picture::inner::frame::put_opening` meets its contract: word after word.
use mathlib.Core.List.{List, [], ◌∷◌, ◌++◌}
use Prim.Native.Nat.{ℕ, ◌+◌, ◌*◌, ◌≤◌}
use lib.ListN.{length}
use native.Mathlib.Omega.{arith}
use Rattle.report.specs.Text.{decimal, space}
use Rattle.report.proofs.PutLaws.{Going, going_none, going_room, going_more, going_all}
use Rattle.picture.specs.declared.inner.frame.Extent.{Extent}
use Rattle.picture.specs.declared.inner.frame.Sizes.{Sizes}
use Rattle.picture.specs.Names.{svg, style, g, xmlns, view_box, transform, namespace, from_zero, translate, flipped, closed, look}
use Rattle.picture.specs.inside.Parts.{opening, offset, before_view, before_placing, ended}
use Rattle.picture.proofs.PartLaws.{opening_words}
use Rattle.picture.proofs.inner.frame.put_opening.Goals as goal

-- the words are to be put
going : (e : Extent) (s : Sizes) (text : List ℕ) → length (opening e s) ≤ length text → Going 0 (opening e s) text 0 text
    (((before_view ++ decimal (s.width + 6 * s.letter)) ++ (space ++ decimal (s.height + 8 * s.letter)))
    ∷ ((before_placing ++ decimal (3 * s.letter)) ++ (space ++ decimal (3 * s.letter)))
    ∷ flipped ∷ offset e ∷ (closed ++ ended) ∷ [])
going e s text h = going_none 0 text _ (opening_words e s) (omega arith)

pub put_two-second-requires : goal.put_two-second-requires
unfolding svg xmlns namespace view_box from_zero
put_two-second-requires c = going_room (going c.args.e c.args.s c.args.text.now c.requires.2)

pub put_two-third-requires : goal.put_two-third-requires
unfolding svg xmlns namespace view_box from_zero style look g transform translate
put_two-third-requires c =
    going_room (going_more (going c.args.e c.args.s c.args.text.now c.requires.2) c.put_two-second.ensures)

pub put-fourth-requires : goal.put-fourth-requires
unfolding svg xmlns namespace view_box from_zero style look g transform translate flipped
put-fourth-requires c =
    going_room (going_more (going_more (going c.args.e c.args.s c.args.text.now c.requires.2) c.put_two-second.ensures) c.put_two-third.ensures)

pub put_offset-fifth-requires : goal.put_offset-fifth-requires
unfolding svg xmlns namespace view_box from_zero style look g transform translate flipped
put_offset-fifth-requires c = (
  c.requires.0,
  going_room (going_more (going_more (going_more (going c.args.e c.args.s c.args.text.now c.requires.2) c.put_two-second.ensures) c.put_two-third.ensures) c.put-fourth.ensures),
)

pub put-requires : goal.put-requires
unfolding svg xmlns namespace view_box from_zero style look g transform translate flipped closed
put-requires c =
    going_room
    (going_more
    (going_more (going_more (going_more (going c.args.e c.args.s c.args.text.now c.requires.2) c.put_two-second.ensures) c.put_two-third.ensures) c.put-fourth.ensures)
    c.put_offset-fifth.ensures)

pub returns : goal.returns
unfolding svg xmlns namespace view_box from_zero style look g transform translate flipped closed
returns c =
    going_all
    (going_more
    (going_more
    (going_more (going_more (going_more (going c.args.e c.args.s c.args.text.now c.requires.2) c.put_two-second.ensures) c.put_two-third.ensures) c.put-fourth.ensures)
    c.put_offset-fifth.ensures)
    c.put.ensures)
