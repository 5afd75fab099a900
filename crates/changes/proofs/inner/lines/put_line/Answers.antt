-- `changes::inner::lines::put_line` meets its contract: nothing of a contour that is the same, and else word after word.
use mathlib.Core.Path.{◌≡◌}
use mathlib.Core.List.{List}
use Prim.Native.Nat.{ℕ, ◌+◌, ◌≤◌}
use lib.ListN.{length}
use Rattle.report.proofs.PutLaws.{Going, going_none, going_room, going_more, going_all}
use Rattle.changes.specs.Words.{line}
use Rattle.changes.proofs.LineLaws.{words, line_words, none_put}
use Rattle.changes.proofs.inner.lines.put_line.Goals as goal

-- all words are due where the contour is not the same
going : (k kind place at : ℕ) (text : List ℕ) → (kind ≡ 0 → ⊥) → at + length (line k kind place) ≤ length text
    → Going at (line k kind place) text at text (words k kind place)
going k kind place at text n h = going_none at text (words k kind place) (line_words k kind place n) h

pub returns-then-kind-eq-SAME : goal.returns-then-kind-eq-SAME
returns-then-kind-eq-SAME c = let s = c.args in none_put s.k s.kind s.place c.if-kind-eq-SAME.true s.at s.text.now

pub put-second-requires : goal.put-second-requires
put-second-requires c =
    let due = going c.args.k c.args.kind c.args.place c.args.at c.args.text.now c.if-kind-eq-SAME.false c.requires.1 in
    going_room due

pub put_number-third-requires : goal.put_number-third-requires
put_number-third-requires c =
    let due = going c.args.k c.args.kind c.args.place c.args.at c.args.text.now c.if-kind-eq-SAME.false c.requires.1 in
    going_room (going_more due c.put-second.ensures)

pub put_change-fourth-requires : goal.put_change-fourth-requires
put_change-fourth-requires c =
    let due = going c.args.k c.args.kind c.args.place c.args.at c.args.text.now c.if-kind-eq-SAME.false c.requires.1 in
    (c.requires.0, going_room (going_more (going_more due c.put-second.ensures) c.put_number-third.ensures))

pub put-requires : goal.put-requires
put-requires c =
    let due = going c.args.k c.args.kind c.args.place c.args.at c.args.text.now c.if-kind-eq-SAME.false c.requires.1 in
    going_room (going_more (going_more (going_more due c.put-second.ensures) c.put_number-third.ensures) c.put_change-fourth.ensures)

pub returns : goal.returns
returns c =
    let due = going c.args.k c.args.kind c.args.place c.args.at c.args.text.now c.if-kind-eq-SAME.false c.requires.1 in
    going_all (going_more (going_more (going_more (going_more due c.put-second.ensures) c.put_number-third.ensures) c.put_change-fourth.ensures) c.put.ensures)
