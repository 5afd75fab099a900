-- `picture::inner::scale::put_closing` meets its contract: word after word.
use mathlib.Core.Path.{◌≡◌}
use mathlib.Core.List.{List, [], ◌∷◌, ◌++◌}
use Prim.Native.Nat.{ℕ, ◌+◌, ◌*◌, ◌≤◌}
use lib.ListN.{length}
use Rattle.report.specs.Text.{decimal, space}
use Rattle.report.proofs.PutLaws.{Going, going_none, going_room, going_more, going_all}
use Rattle.picture.specs.declared.inner.frame.Sizes.{Sizes}
use Rattle.picture.specs.Names.{g, transform, translate, in_micrometres, font_size, path, class, scale, d, from_here, text, y, below, mm, svg}
use Rattle.picture.specs.Frame.{bar, label}
use Rattle.picture.specs.inside.Parts.{closing, before_scaling, before_letters, before_bar, before_label, behind_label}
use Rattle.picture.proofs.PartLaws.{closing_words}
use Rattle.picture.proofs.inner.scale.put_closing.Goals as goal

-- the words are to be put
going : (s : Sizes) (at : ℕ) (text : List ℕ) (long : ℕ) → long ≡ bar s.width → at + length (closing s) ≤ length text → Going at (closing s) text at text
    (((before_scaling ++ decimal s.letter) ++ (space ++ decimal (s.height + 5 * s.letter)))
    ∷ ((before_letters ++ decimal s.letter) ++ (before_bar ++ decimal long))
    ∷ before_label ∷ label long ∷ behind_label ∷ [])
going s at text long e h = rw e (going_none at text _ (closing_words s) h)

pub put_two-third-requires : goal.put_two-third-requires
unfolding g transform translate in_micrometres font_size path class scale d from_here
put_two-third-requires c =
    going_room (going_more (going c.args.s c.args.at c.args.text.now _ c.bar-long.ensures c.requires.1) c.put_two-second.ensures)

pub put-fourth-requires : goal.put-fourth-requires
unfolding g transform translate in_micrometres font_size path class scale d from_here text y below
put-fourth-requires c =
    going_room (going_more (going_more (going c.args.s c.args.at c.args.text.now _ c.bar-long.ensures c.requires.1) c.put_two-second.ensures) c.put_two-third.ensures)

pub put_label-fifth-requires : goal.put_label-fifth-requires
unfolding g transform translate in_micrometres font_size path class scale d from_here text y below
put_label-fifth-requires c =
    going_room (going_more (going_more (going_more (going c.args.s c.args.at c.args.text.now _ c.bar-long.ensures c.requires.1) c.put_two-second.ensures) c.put_two-third.ensures) c.put-fourth.ensures)

pub put-requires : goal.put-requires
unfolding g transform translate in_micrometres font_size path class scale d from_here text y below mm svg
put-requires c =
    going_room (going_more (going_more (going_more (going_more (going c.args.s c.args.at c.args.text.now _ c.bar-long.ensures c.requires.1) c.put_two-second.ensures) c.put_two-third.ensures) c.put-fourth.ensures) c.put_label-fifth.ensures)

pub returns : goal.returns
unfolding g transform translate in_micrometres font_size path class scale d from_here text y below mm svg
returns c =
    going_all (going_more (going_more (going_more (going_more (going_more (going c.args.s c.args.at c.args.text.now _ c.bar-long.ensures c.requires.1) c.put_two-second.ensures) c.put_two-third.ensures) c.put-fourth.ensures) c.put_label-fifth.ensures) c.put.ensures)
