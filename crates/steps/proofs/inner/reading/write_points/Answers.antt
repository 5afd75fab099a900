-- `steps::inner::reading::write_points` meets its contract: those that are still to be written are the rest of all.
use borrow.Author.Rules.{sfits_of}
use mathlib.Core.Path.{◌≡◌, sym, ◌∙◌, ap, ap₂}
use mathlib.Core.List.{List}
use Prim.Native.Nat.{ℕ, ◌+◌, ◌*◌, ◌%◌, ◌^◌, ◌<◌, ◌≤◌}
use native.Mathlib.Omega.{arith}
use lib.ListN.{length, drop, get_or}
use lib.IntN.{ℤ, pos, ◌+ℤ◌}
use mir.Syntax.{w32}
use mir.Val.{to_z, of_z}
use mir.Facts.{to_z-of_z}
use Rattle.rows.specs.Rows.{placed}
use Rattle.rows.proofs.RowLaws.{copied_more, copied_all}
use Rattle.bits.specs.Signs.{signed}
use Rattle.bits.specs.inside.Words.{leading}
use Rattle.steps.specs.Steps.{sums}
use Rattle.steps.proofs.ReadLaws.{difference, first_leading, second_leading, rest, next_is, next_behind, asked, asked_are, asked_long, asked_on}
use Rattle.steps.proofs.inner.reading.write_points.Goals as goal

-- the next point
module _ (f : List ℕ) (at w n : ℕ) (row : List ℤ) (a b : ℤ) (k : ℕ) (more : k + 1 < 2 * n) (is : drop k row ≡ sums a b (rest f at w (2 * n) k)) where
  abbrev u : ℤ
  u = a +ℤ difference f (at + w * k) w

  abbrev v : ℤ
  v = b +ℤ difference f (at + w * (k + 1)) w

  u_asked : get_or row k (pos 0) ≡ u
  u_asked = next_is f at w (2 * n) a b k (omega (arith, more)) row is

  behind_u : drop (k + 1) row ≡ sums b u (rest f at w (2 * n) (k + 1))
  behind_u = next_behind f at w (2 * n) a b k (omega (arith, more)) row is

  v_asked : get_or row (k + 1) (pos 0) ≡ v
  v_asked = next_is f at w (2 * n) b u (k + 1) more row behind_u

  behind_v : drop (k + 1 + 1) row ≡ sums u v (rest f at w (2 * n) (k + 1 + 1))
  behind_v = next_behind f at w (2 * n) b u (k + 1) more row behind_u

-- the numbers of the point, as they are asked for
u_is : (c : goal.After-ahead-first) → let s = c.args in let l = c.loop-i in
    to_z w32 l.a-bits +ℤ signed s.width (leading c.ahead-first.result s.width) ≡ get_or (asked s.bytes.now s.at s.width (2 * s.n) (of_z w32 s.x) (of_z w32 s.y)) (2 * l.i) (pos 0)
u_is c =
    let s = c.args in
    let l = c.loop-i in
    ap (λ (z : ℤ). to_z w32 l.a-bits +ℤ z) (first_leading s.width c.ahead-first.ensures)
    ∙ sym (u_asked s.bytes.now s.at s.width s.n _ (to_z w32 l.a-bits) (to_z w32 l.b-bits) (2 * l.i) (omega (arith, c.loop-i-test.true)) l.invariant.1)

v_is : (c : goal.After-moved-a) → let s = c.args in let l = c.loop-i in
    to_z w32 l.b-bits +ℤ signed s.width (leading (c.ahead-first.result * 2 ^ s.width % 2 ^ 64) s.width) ≡ get_or (asked s.bytes.now s.at s.width (2 * s.n) (of_z w32 s.x) (of_z w32 s.y)) (2 * l.i + 1) (pos 0)
v_is c =
    let s = c.args in
    let l = c.loop-i in
    ap (λ (z : ℤ). to_z w32 l.b-bits +ℤ z) (second_leading s.at s.width (2 * l.i) c.ahead-first.ensures)
    ∙ sym (v_asked s.bytes.now s.at s.width s.n _ (to_z w32 l.a-bits) (to_z w32 l.b-bits) (2 * l.i) (omega (arith, c.loop-i-test.true)) l.invariant.1)

pub moved-a-requires : goal.moved-a-requires
moved-a-requires c =
    let s = c.args in
    let p = c.requires.0 in
    (p.there.width, rw (u_is c) (asked_on s.bytes.now s.at s.width (2 * s.n) c.ranges.x c.ranges.y p.on (2 * c.loop-i.i)))

pub moved-b-requires : goal.moved-b-requires
moved-b-requires c =
    let s = c.args in
    let p = c.requires.0 in
    (p.there.width, rw (v_is c) (asked_on s.bytes.now s.at s.width (2 * s.n) c.ranges.x c.ranges.y p.on (2 * c.loop-i.i + 1)))

p_is : (c : goal.After-moved-b) → let s = c.args in let l = c.loop-i in
    to_z w32 (of_z w32 c.moved-a.result) ≡ to_z w32 l.a-bits +ℤ difference s.bytes.now (s.at + s.width * (2 * l.i)) s.width
p_is c =
    let l = c.loop-i in
    to_z-of_z {w = w32} (sfits_of c.moved-a.type_inv) ∙ c.moved-a.ensures ∙ ap (λ (z : ℤ). to_z w32 l.a-bits +ℤ z) (first_leading c.args.width c.ahead-first.ensures)

q_is : (c : goal.After-moved-b) → let s = c.args in let l = c.loop-i in
    to_z w32 (of_z w32 c.moved-b.result) ≡ to_z w32 l.b-bits +ℤ difference s.bytes.now (s.at + s.width * (2 * l.i + 1)) s.width
q_is c =
    let l = c.loop-i in
    to_z-of_z {w = w32} (sfits_of c.moved-b.type_inv) ∙ c.moved-b.ensures ∙ ap (λ (z : ℤ). to_z w32 l.b-bits +ℤ z) (second_leading c.args.at c.args.width (2 * l.i) c.ahead-first.ensures)

pub loop-i-preserved : goal.loop-i-preserved
loop-i-preserved c =
    let s = c.args in
    let l = c.loop-i in
    let m : 2 * l.i + 1 < 2 * s.n = omega (arith, c.loop-i-test.true) in
    let row : List ℤ = asked s.bytes.now s.at s.width (2 * s.n) (of_z w32 s.x) (of_z w32 s.y) in
    let e : 2 * (l.i + 1) ≡ 2 * l.i + 1 + 1 = omega arith in
    let long : length row ≡ 2 * s.n = asked_long s.bytes.now s.at s.width (2 * s.n) (of_z w32 s.x) (of_z w32 s.y) in
    let fits : s.to + length row ≤ length s.out.now = omega (arith, c.requires.0.room) in
    let a = to_z w32 l.a-bits in
    let b = to_z w32 l.b-bits in
    let one = copied_more s.out.now s.to row l.invariant.0 (pos 0) _ fits (omega (arith, m)) (p_is c ∙ sym (u_asked s.bytes.now s.at s.width s.n row a b (2 * l.i) m l.invariant.1)) in
    let two = copied_more s.out.now s.to row one (pos 0) _ fits (omega (arith, m)) (q_is c ∙ sym (v_asked s.bytes.now s.at s.width s.n row a b (2 * l.i) m l.invariant.1)) in (
      rw e two,
      rw e (behind_v s.bytes.now s.at s.width s.n row a b (2 * l.i) m l.invariant.1 ∙ ap₂ (λ (x y : ℤ). sums x y (rest s.bytes.now s.at s.width (2 * s.n) (2 * l.i + 1 + 1))) (sym (p_is c)) (sym (q_is c))),
      omega (arith, m),
    )

pub returns : goal.returns
returns c =
    let s = c.args in
    let l = c.loop-i in
    let row : List ℤ = asked s.bytes.now s.at s.width (2 * s.n) (of_z w32 s.x) (of_z w32 s.y) in
    let long : length row ≡ 2 * s.n = asked_long s.bytes.now s.at s.width (2 * s.n) (of_z w32 s.x) (of_z w32 s.y) in
    copied_all s.out.now s.to row l.invariant.0 (omega (arith, l.invariant.2)) ∙ ap (λ (m : List ℤ). placed s.to m s.out.now) (asked_are s.bytes.now s.at s.width (2 * s.n) c.ranges.x c.ranges.y)
