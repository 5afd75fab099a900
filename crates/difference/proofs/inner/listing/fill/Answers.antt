-- `difference::inner::listing::fill` meets its contract: the lines written so far grow by one.
use mathlib.Core.Path.{◌≡◌, sym, ◌∙◌, ap, subst}
use mathlib.Core.List.{[]}
use Prim.Native.Nat.{ℕ, ◌+◌, ◌<◌}
use native.Mathlib.Omega.{arith}
use lib.ListN.{length, get_or, set}
use Rattle.rows.proofs.RowLaws.{Copied, copied_more, copied_all, placed_front}
use Rattle.buffer.proofs.ListLaws.{map_at}
use Rattle.difference.specs.Lines.{same, lines_of, row, written}
use Rattle.difference.proofs.ListLaws.{lines-length, written-length}
use Rattle.difference.proofs.inner.listing.fill.Goals as goal

pub loop-k-preserved : goal.loop-k-preserved
loop-k-preserved c =
    let s = c.args in
    let k = c.loop-k.k in
    let due = lines_of s.points.now s.ranges.now s.others.now s.other_ranges.now in
    let many = lines-length s.points.now s.ranges.now s.others.now s.other_ranges.now in
    let all = written-length s.points.now s.ranges.now s.others.now s.other_ranges.now in
    let h : k < length due = omega (arith, many, c.requires.2.larger, c.loop-k-test.true) in
    let e : c.row.result ≡ get_or (written due) k [] = c.row.ensures ∙ ap row c.line_at-line.ensures ∙ sym (map_at row due k [] same h) in
    let z : 0 + k ≡ k = omega arith in
    subst (λ (i : ℕ). Copied s.listing.now 0 (written due) (set c.loop-k.listing i c.row.result) (k + 1)) z
    (copied_more _ _ _ c.loop-k.invariant [] _ (omega (arith, all, c.requires.2.larger, c.requires.2.room)) (omega (arith, all, c.requires.2.larger, c.loop-k-test.true)) e)

pub returns : goal.returns
returns c =
    let s = c.args in
    let all = written-length s.points.now s.ranges.now s.others.now s.other_ranges.now in
    copied_all _ _ _ c.loop-k.invariant (omega (arith, all, c.requires.2.larger, c.loop-k-test.false))
    ∙ placed_front s.listing.now (written (lines_of s.points.now s.ranges.now s.others.now s.other_ranges.now))
