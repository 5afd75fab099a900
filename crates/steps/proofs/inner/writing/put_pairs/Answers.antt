-- `steps::inner::writing::put_pairs` meets its contract: the points that are left fit behind those that are written.
use mathlib.Core.Path.{◌≡◌, sym, ◌∙◌, ap, subst}
use mathlib.Core.List.{List}
use Prim.Native.Nat.{ℕ, ◌+◌, ◌-◌, ◌*◌, ◌/◌, ◌^◌, ◌≤◌, ◌<◌}
use native.Mathlib.Omega.{arith}
use mir.Syntax.{w64}
use mir.Val.{to_z, of_z}
use Rattle.integers.specs.Bound.{In}
use Rattle.integers.proofs.Bound.{back}
use Rattle.bits.specs.declared.inner.pens.Pen.{Pen}
use Rattle.bits.specs.Signs.{fields}
use Rattle.grid.specs.Limits.{limit}
use Rattle.steps.specs.Steps.{differences}
use lib.ListN.{length, take, drop, length-drop}
use lib.Seq.{take_all}
use lib.IntN.{ℤ, pos}
use Rattle.bits.specs.inside.Pens.{Wrote}
use Rattle.steps.specs.inside.Asked.{Fitting, Narrow, joined}
use Rattle.steps.proofs.WriteLaws.{pair_below, pair_room, writing_pair, writing_same, rest_fitting, writing_rest}
use Rattle.steps.proofs.PairLaws.{scale_in, joined_in}
use Rattle.steps.proofs.inner.writing.put_pairs.Goals as goal

-- the broad pen has the room of the pen
module _ (row : List ℕ) (l : List ℤ) (w : ℕ) (p : Pen) (fit : Fitting row p l w) (few : w ≤ 15) where
  narrow : Narrow w
  narrow = record { some = fit.width.some; few = few }

  near : (k : ℕ) → In (limit * 32768 + limit) (joined (pos (2 ^ w)) l k)
  near k = joined_in l fit.on (pos (2 ^ w)) (scale_in w narrow) k

fitting : {row : List ℕ} {l : List ℤ} {w : ℕ} {p q : Pen} → q ≡ p → Fitting row p l w → Fitting row q l w
fitting {row} {l} {w} e f = subst (λ (r : Pen). Fitting row r l w) (sym e) f

-- the part from a position on
behind : (c : List ℤ) (k : ℕ) → take (length c - k) (drop k c) ≡ drop k c
behind c k = take_all (length c - k) (drop k c) (omega (arith, length-drop k c))

pub sweep-b-requires : goal.sweep-b-requires
sweep-b-requires c =
    let s = c.args in
    let l = c.loop-i in
    let h : 4 * l.i + 5 < length s.contour.now = omega arith in
    let n = narrow s.bytes.now s.contour.now s.width s.pen c.requires.0 c.requires.1 in (
      l.invariant.1,
      record { some = omega (arith, n.some); within_60 = omega (arith, n.few); room = pair_room l.invariant.0 h n.some (fitting c.broaden-b.ensures.1 c.requires.0).room },
      rw c.four-next.ensures.0 (pair_below l.invariant.0 h n.some),
    )

pub loop-i-preserved : goal.loop-i-preserved
unfolding limit
loop-i-preserved c =
    let s = c.args in
    let l = c.loop-i in
    let h : 4 * l.i + 5 < length s.contour.now = omega arith in
    let e : 4 * l.i + 4 ≡ 4 * (l.i + 1) = omega arith in
    let n = narrow s.bytes.now s.contour.now s.width s.pen c.requires.0 c.requires.1 in
    rw (← e) (
      writing_pair l.invariant.0 h n.some c.four-next.ensures.0 c.sweep-b.ensures.0,
      c.sweep-b.ensures.1,
      ap (λ (z : ℤ). to_z w64 (of_z w64 z)) c.four-next.ensures.1 ∙ back w64 (near s.bytes.now s.contour.now s.width s.pen c.requires.0 c.requires.1 (4 * l.i + 4)) tt,
    )

pub put_steps-requires : goal.put_steps-requires
put_steps-requires c =
    let s = c.args in
    let l = c.loop-i in
    let e : 4 * ((length s.contour.now - 2) / 4) ≡ 4 * l.i = omega arith in
    rw (e, behind s.contour.now (4 * l.i))
    (rest_fitting (writing_same l.invariant.0 c.narrow-p.ensures.0) (fitting c.broaden-b.ensures.1 c.requires.0) (omega arith) (omega arith) c.narrow-p.ensures.1)

pub returns : goal.returns
returns c =
    let s = c.args in
    let l = c.loop-i in
    let e : 4 * ((length s.contour.now - 2) / 4) ≡ 4 * l.i = omega arith in
    let rest = rw (e, behind s.contour.now (4 * l.i)) at c.put_steps.ensures.0 in (
      subst (λ (p : Pen). Wrote p (fields s.width (differences s.contour.now)) s.bytes.now c.put_steps.result c.put_steps.new.bytes) c.broaden-b.ensures.1
          (writing_rest (writing_same l.invariant.0 c.narrow-p.ensures.0) rest),
      c.put_steps.ensures.1,
    )
