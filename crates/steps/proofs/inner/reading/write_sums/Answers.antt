-- `steps::inner::reading::write_sums` meets its contract: those that are still to be written are the rest of all.
use borrow.Author.Rules.{sfits_of}
use mathlib.Core.Path.{◌≡◌, sym, ◌∙◌, ap}
use mathlib.Core.List.{List}
use Prim.Native.Nat.{◌+◌, ◌*◌}
use native.Mathlib.Omega.{arith}
use lib.ListN.{length, get_or}
use lib.IntN.{ℤ, pos, ◌+ℤ◌}
use mir.Syntax.{w32, w64}
use mir.Val.{SFits, to_z, of_z}
use mir.Facts.{to_z-of_z}
use Rattle.integers.specs.Bound.{In}
use Rattle.integers.proofs.Bound.{in_fits, in_eq}
use Rattle.rows.specs.Rows.{placed}
use Rattle.rows.proofs.RowLaws.{copied_none, copied_more, copied_all}
use Rattle.grid.specs.Limits.{limit}
use Rattle.grid.proofs.LimitLaws.{on_grid_in}
use Rattle.steps.specs.Steps.{sums}
use Rattle.steps.proofs.ReadLaws.{difference, step_there, step_near, rest, rest_all, next_is, next_behind, asked, asked_are, asked_long, asked_on}
use Rattle.steps.proofs.inner.reading.write_sums.Goals as goal

-- the next of them
u_is : (c : goal.After-next-u) → let s = c.args in let l = c.loop-i in
    to_z w64 (of_z w64 c.next-u.result) ≡ to_z w32 l.a-bits +ℤ difference s.bytes.now (s.at + s.width * l.i) s.width
u_is c = to_z-of_z {w = w64} (sfits_of c.next-u.type_inv) ∙ c.next-u.ensures

u_asked : (c : goal.After-next-u) → let s = c.args in to_z w64 (of_z w64 c.next-u.result) ≡ get_or (asked s.bytes.now s.at s.width s.k (of_z w32 s.x) (of_z w32 s.y)) c.loop-i.i (pos 0)
u_asked c =
    let s = c.args in
    let l = c.loop-i in
    u_is c ∙ sym (next_is s.bytes.now s.at s.width s.k (to_z w32 l.a-bits) (to_z w32 l.b-bits) l.i c.loop-i-test.true _ l.invariant.1)

u_on : (c : goal.After-next-u) → In limit (to_z w64 (of_z w64 c.next-u.result))
u_on c =
    let s = c.args in
    in_eq (u_asked c) (on_grid_in limit _ (asked_on s.bytes.now s.at s.width s.k c.ranges.x c.ranges.y c.requires.1 c.loop-i.i))

pub loop-i-init : goal.loop-i-init
loop-i-init c =
    let s = c.args in
    (copied_none s.out.now s.to (asked s.bytes.now s.at s.width s.k (of_z w32 s.x) (of_z w32 s.y)), ap (sums (to_z w32 (of_z w32 s.x)) (to_z w32 (of_z w32 s.y))) (sym (rest_all s.bytes.now s.at s.width s.k)))

pub overflow_mul-width : goal.overflow_mul-width
overflow_mul-width c = omega (arith, step_near c.requires.0 c.loop-i-test.true)

pub overflow_add-at : goal.overflow_add-at
overflow_add-at c = omega (arith, step_near c.requires.0 c.loop-i-test.true)

pub next-u-requires : goal.next-u-requires
next-u-requires c = let t = c.requires.0 in (step_there t c.loop-i-test.true, t.width, t.long)

u_fits : (c : goal.After-next-u) → SFits w32 (to_z w64 (of_z w64 c.next-u.result))
unfolding limit
u_fits c = in_fits (u_on c) tt

pub overflow_cast-u : goal.overflow_cast-u
unfolding limit
overflow_cast-u c = in_fits (u_on c) tt

pub overflow_add-u : goal.overflow_add-u
overflow_add-u c = omega (arith, c.requires.2, c.loop-i.invariant.0.long)

pub offset_bounds-out-to : goal.offset_bounds-out-to
offset_bounds-out-to c = omega (arith, c.requires.2, c.loop-i.invariant.0.long)

pub bounds-out-to : goal.bounds-out-to
bounds-out-to c = omega (arith, c.requires.2, c.loop-i.invariant.0.long)

pub loop-i-preserved : goal.loop-i-preserved
loop-i-preserved c =
    let s = c.args in
    let l = c.loop-i in
    let row : List ℤ = asked s.bytes.now s.at s.width s.k (of_z w32 s.x) (of_z w32 s.y) in
    let long : length row ≡ s.k = asked_long s.bytes.now s.at s.width s.k (of_z w32 s.x) (of_z w32 s.y) in
    let back = to_z-of_z (u_fits c) in (
      copied_more s.out.now s.to row l.invariant.0 (pos 0) _ (omega (arith, c.requires.2)) (omega arith) (back ∙ u_asked c),
      next_behind s.bytes.now s.at s.width s.k (to_z w32 l.a-bits) (to_z w32 l.b-bits) l.i c.loop-i-test.true row l.invariant.1
          ∙ ap (λ (z : ℤ). sums (to_z w32 l.b-bits) z (rest s.bytes.now s.at s.width s.k (l.i + 1))) (sym (back ∙ u_is c)),
    )

pub shape_of-out : goal.shape_of-out
shape_of-out c = c.loop-i.invariant.0.long

pub returns : goal.returns
returns c =
    let s = c.args in
    let l = c.loop-i in
    let row : List ℤ = asked s.bytes.now s.at s.width s.k (of_z w32 s.x) (of_z w32 s.y) in
    let long : length row ≡ s.k = asked_long s.bytes.now s.at s.width s.k (of_z w32 s.x) (of_z w32 s.y) in
    copied_all s.out.now s.to row l.invariant.0 (omega (arith, l.invariant.0.within)) ∙ ap (λ (m : List ℤ). placed s.to m s.out.now) (asked_are s.bytes.now s.at s.width s.k c.ranges.x c.ranges.y)
