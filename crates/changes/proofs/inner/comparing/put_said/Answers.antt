-- `changes::inner::comparing::put_said` meets its contract: the listing that was filled is said line by line, and counted.
use mathlib.Core.Path.{◌≡◌, sym, ◌∙◌, ap}
use mathlib.Core.List.{List}
use Prim.Native.Nat.{ℕ}
use native.Mathlib.Omega.{arith}
use lib.ListN.{length, take, length-append}
use lib.Seq.{take_at}
use Rattle.difference.specs.Lines.{lines_of, written}
use Rattle.difference.proofs.ListLaws.{written-length}
use Rattle.report.specs.inside.Lines.{Put}
use Rattle.report.proofs.PutLaws.{room_behind, both_put}
use Rattle.changes.specs.Words.{lines, counts}
use Rattle.changes.proofs.inner.comparing.put_said.Goals as goal
use Rattle.changes.proofs.inner.comparing.put_said.Goals.{After-fill}

-- the listing that is due
abbrev due : After-fill → List (List ℕ)
due c = written (lines_of c.args.points.now c.args.ranges.now c.args.others.now c.args.other_ranges.now)

due_long : (c : After-fill) → length (due c) ≡ c.max-n.result
due_long c =
    let s = c.args in
    written-length s.points.now s.ranges.now s.others.now s.other_ranges.now ∙ sym c.max-n.ensures

-- it stands in front of the rows
listed : (c : After-fill) → take c.max-n.result c.fill.new.listing ≡ due c
listed c = ap (take c.max-n.result) c.fill.ensures ∙ take_at (due c) _ c.max-n.result (due_long c)

pub put-behind-requires : goal.put-behind-requires
put-behind-requires c =
    let f = (goal.at.put-behind-requires c).After-fill in
    record {
      places = rw (listed f) c.requires.comparable.places;
      listing_in_bounds = rw (listed f) (omega (arith, c.requires.other_ranges_in_bounds, length-append (lines 1 (due f)) (counts (due f))));
    }

pub put-requires : goal.put-requires
put-requires c =
    let f = (goal.at.put-requires c).After-fill in
    let first : Put 0 (lines 1 (due f)) c.args.text.now c.put-behind.result c.put-behind.new.text = rw (← listed f) c.put-behind.ensures in
    rw (listed f) (room_behind first (counts (due f)) (omega (arith, c.requires.other_ranges_in_bounds)))

pub returns : goal.returns
returns c =
    let f = (goal.at.returns c).After-fill in
    let first : Put 0 (lines 1 (due f)) c.args.text.now c.put-behind.result c.put-behind.new.text = rw (← listed f) c.put-behind.ensures in
    both_put first (counts (due f)) (omega (arith, c.requires.other_ranges_in_bounds)) (rw (← listed f) c.put.ensures)
