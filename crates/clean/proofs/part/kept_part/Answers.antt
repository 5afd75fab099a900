-- `clean::part::kept_part` meets its contract, case by case.
use borrow.Author.Tests.{eq-eqb, ne_eqb, lt-ltb, le-ltb, le-leb, lt-leb}
use mathlib.Core.Path.{◌≡◌}
use Prim.Native.Nat.{◌*◌, ◌<◌, ◌≤◌}
use native.Mathlib.Omega.{arith}
use lib.ListN.{length}
use Rattle.clean.specs.Part.{kept_part}
use Rattle.clean.proofs.part.kept_part.Goals as goal

pub returns-then-contour-k : goal.returns-then-contour-k
unfolding kept_part
returns-then-contour-k c =
    let a = c.args in
    let n : length a.contour.now ≡ 2 * a.k → ⊥ = λ e. absurd (omega (arith, e, c.if-contour-k.true)) in
    let l : length a.contour.now ≤ 2 * a.k = omega (arith, c.if-contour-k.true) in
    rw (ne_eqb _ _ n, le-ltb _ _ l, kept_part)

pub returns-then-contour-want : goal.returns-then-contour-want
unfolding kept_part
returns-then-contour-want c = rw (eq-eqb _ _ c.if-contour-want.true, kept_part)

pub returns-then-out-want : goal.returns-then-out-want
unfolding kept_part
returns-then-out-want c =
    let a = c.args in
    let l : 2 * a.k < length a.contour.now = omega (arith, c.if-contour-want.false, c.if-contour-k.false) in
    rw (ne_eqb _ _ c.if-contour-want.false, lt-ltb _ _ l, lt-leb _ _ c.if-out-want.true, kept_part)

pub returns : goal.returns
unfolding kept_part
returns c =
    let a = c.args in
    let l : 2 * a.k < length a.contour.now = omega (arith, c.if-contour-want.false, c.if-contour-k.false) in
    rw (ne_eqb _ _ c.if-contour-want.false, lt-ltb _ _ l, le-leb _ _ c.if-out-want.false, kept_part)
