-- `jobpack::inner::packing::pack` meets its contract: what was read, by where the reader is.
use mathlib.Core.Path.{◌∙◌, ap, ap₂}
use mathlib.Core.Bool.{Bool}
use Prim.Native.Nat.{ℕ}
use lib.Dec.{eqb}
use lib.ListN.{length, replicate, length-replicate}
use lib.IntN.{ℤ, pos}
use borrow.Author.Tests.{lt-ltb, le-ltb}
use Rattle.jobread.specs.Reading.{State}
use Rattle.jobpack.specs.Packing.{longest, packed_at, packed, outcome, packing}
use Rattle.jobread.specs.inside.Rows.{Bounded}
use Rattle.jobread.proofs.BoundLaws.{read_bounded}
use Rattle.jobpack.proofs.inner.packing.pack.Goals as goal

-- what was read lies within the rows
bounded : (c : goal.After-by_place-arg-2-1) → Bounded c.read-reader.result c.read-reader.new.points c.read-reader.new.contours c.read-reader.new.shapes
bounded c =
    read_bounded c.read-reader.result _ _ _ c.args.text.now
    (record {
      in_points = c.read-reader.auto.points ∙ length-replicate {A = ℤ} 131072 (pos 0);
      ranges = record { in_contours = c.read-reader.auto.contours ∙ length-replicate 4095 (replicate {A = ℕ} 2 0); in_shapes = c.read-reader.auto.shapes ∙ length-replicate 4095 (replicate {A = ℕ} 2 0) };
    })
    c.read-reader.ensures

pub returns-then-text-gt-TEXT : goal.returns-then-text-gt-TEXT
unfolding packed packing
returns-then-text-gt-TEXT c =
    rw (lt-ltb longest (length c.args.text.now) c.if-text-gt-TEXT.true, packed) c.refused.ensures

pub by_place-requires : goal.by_place-requires
by_place-requires c = record { bounded = bounded c; in_bounds = c.requires }

pub returns : goal.returns
unfolding packed packing
returns c =
    let s = c.args in
    rw (le-ltb longest (length s.text.now) c.if-text-gt-TEXT.false, packed)
    (c.by_place.ensures
    ∙ ap₂ (λ (b : Bool) (t : State). outcome (packed_at t.lines.reader.place b t) s.out.now s.words.now) (ap (λ (l : ℕ). eqb l 50) c.letter-second.ensures) c.read-reader.ensures)
