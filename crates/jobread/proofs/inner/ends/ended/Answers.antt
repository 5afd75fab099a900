use mathlib.Core.Path.{◌≡◌, sym, ◌∙◌, ap, ap₂}
use mathlib.Core.Bool.{Bool, true, false, ◌||◌}
use Prim.Native.Nat.{ℕ, ◌<◌}
use native.Mathlib.Omega.{arith}
use lib.Dec.{leb}
use lib.ListN.{length}
use borrow.Author.Tests.{leb-false}
use Rattle.integers.proofs.Logic.{or_left, or_right}
use Rattle.setfile.specs.Writing.{most_contours}
use Rattle.jobread.specs.declared.Reader.{Reader}
use Rattle.jobread.specs.Reading.{ended}
use Rattle.jobread.specs.inside.Rows.{lines_of}
use Rattle.jobread.proofs.RowLaws.{slot_low, one_more_rows}
use Rattle.jobread.proofs.inner.ends.ended.Goals as goal

-- whether there are the most ranges
full : (c : goal.After-moved-then-contours-n) (b : Bool) →
    let s = c.args in
    (leb (length s.contours.now) s.reader.contours || leb (length s.shapes.now) s.reader.shapes) ≡ b
    → (leb most_contours s.reader.contours || leb most_contours s.reader.shapes) ≡ b
full c b e =
    ap₂ (λ (k l : ℕ). leb k c.args.reader.contours || leb l c.args.reader.shapes) (sym c.requires.in_contours) (sym c.requires.in_shapes) ∙ e

-- whether there are the most ranges
full_2 : (c : goal.After-slot-k) (b : Bool) →
    let s = c.args in
    (leb (length s.contours.now) s.reader.contours || leb (length s.shapes.now) s.reader.shapes) ≡ b
    → (leb most_contours s.reader.contours || leb most_contours s.reader.shapes) ≡ b
full_2 c b e =
    ap₂ (λ (k l : ℕ). leb k c.args.reader.contours || leb l c.args.reader.shapes) (sym c.requires.in_contours) (sym c.requires.in_shapes) ∙ e

-- one more of each has room
room : (c : goal.After-slot-k) → let r = c.args.reader in (r.contours < most_contours) × (r.shapes < most_contours)
room c =
    let r = c.args.reader in
    let e = full_2 c false c.if-contours-n.false in (
      leb-false most_contours r.contours (or_left (leb most_contours r.contours) (leb most_contours r.shapes) e),
      leb-false most_contours r.shapes (or_right (leb most_contours r.contours) (leb most_contours r.shapes) e),
    )

-- and so has the shape's range
within : (c : goal.After-slot-k) → c.slot-k.result < most_contours
within c =
    let r = c.args.reader in
    omega (arith, c.slot-k.ensures, slot_low r.begins r.shapes, (room c).1)

pub returns-then-reader-m : goal.returns-then-reader-m
unfolding ended
returns-then-reader-m c =
    let s = c.args in
    rw (c.if-reader-m.true, ended) (ap (λ (r : Reader). lines_of r s.contours.now s.shapes.now) c.moved.ensures)

pub returns-then-contours-n : goal.returns-then-contours-n
unfolding ended
returns-then-contours-n c =
    let s = c.args in
    rw (c.if-reader-m.false, full c true c.if-contours-n.true, ended) (ap (λ (r : Reader). lines_of r s.contours.now s.shapes.now) c.moved-then-contours-n.ensures)

pub offset_bounds-contours-n : goal.offset_bounds-contours-n
offset_bounds-contours-n c = omega (arith, (room c).0)

pub bounds-contours-n : goal.bounds-contours-n
bounds-contours-n c = omega (arith, (room c).0, c.requires.in_contours)

pub overflow_add-shapes : goal.overflow_add-shapes
overflow_add-shapes c = omega (arith, (room c).0)

pub offset_bounds-shapes-k : goal.offset_bounds-shapes-k
offset_bounds-shapes-k c = omega (arith, within c)

pub bounds-shapes-k : goal.bounds-shapes-k
bounds-shapes-k c = omega (arith, within c, c.requires.in_shapes)

pub overflow_add-result : goal.overflow_add-result
overflow_add-result c = omega (arith, (room c).0)

pub overflow_add-result-2 : goal.overflow_add-result-2
overflow_add-result-2 c = omega (arith, within c)

pub returns : goal.returns
unfolding ended
returns c =
    let s = c.args in
    rw (c.if-reader-m.false, full_2 c false c.if-contours-n.false, ended)
    (one_more_rows s.reader s.contours.now s.shapes.now _ _ c.slot-k.ensures c.opens-first.ensures (omega (arith, (room c).0, c.requires.in_contours)) (omega (arith, (room c).1, c.requires.in_shapes)))
