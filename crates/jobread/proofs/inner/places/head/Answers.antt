-- `jobread::inner::places::head` meets its contract.
use mathlib.Core.Path.{◌≡◌, sym, ◌∙◌, ap}
use mathlib.Core.Bool.{Bool, true, false, ◌&&◌, ◌||◌}
use Prim.Native.Nat.{ℕ}
use lib.Dec.{eqb}
use lib.ListN.{get_or}
use borrow.Author.Tests.{lt-ltb, le-ltb}
use Rattle.jobread.specs.Places.{first_head, after_head}
use Rattle.jobread.proofs.inner.places.head.Goals as goal

-- whether the character is due
fits : (c : goal.Then-not-fits) (b : Bool) →
    let s = c.args in
    (eqb s.c c.letter.result || (eqb s.k 8 && eqb s.c 50)) ≡ b → (eqb s.c (get_or first_head s.k 0) || (eqb s.k 8 && eqb s.c 50)) ≡ b
fits c b e =
    let s = c.args in
    ap (λ (l : ℕ). eqb s.c l || (eqb s.k 8 && eqb s.c 50)) (sym c.letter.ensures) ∙ e

-- whether the character is due
fits_2 : (c : goal.Then-k-lt9) (b : Bool) →
    let s = c.args in
    (eqb s.c c.letter.result || (eqb s.k 8 && eqb s.c 50)) ≡ b → (eqb s.c (get_or first_head s.k 0) || (eqb s.k 8 && eqb s.c 50)) ≡ b
fits_2 c b e =
    let s = c.args in
    ap (λ (l : ℕ). eqb s.c l || (eqb s.k 8 && eqb s.c 50)) (sym c.letter.ensures) ∙ e

-- whether the character is due
fits_3 : (c : goal.Else-k-lt9) (b : Bool) →
    let s = c.args in
    (eqb s.c c.letter.result || (eqb s.k 8 && eqb s.c 50)) ≡ b → (eqb s.c (get_or first_head s.k 0) || (eqb s.k 8 && eqb s.c 50)) ≡ b
fits_3 c b e =
    let s = c.args in
    ap (λ (l : ℕ). eqb s.c l || (eqb s.k 8 && eqb s.c 50)) (sym c.letter.ensures) ∙ e

pub returns-then-not-fits : goal.returns-then-not-fits
unfolding after_head
returns-then-not-fits c = rw (fits c false c.if-not-fits.true, after_head)

pub returns-then-k-lt9 : goal.returns-then-k-lt9
unfolding after_head
returns-then-k-lt9 c =
    let s = c.args in
    rw (fits_2 c true c.if-not-fits.false, lt-ltb s.k 9 c.if-k-lt9.true, after_head)

pub returns : goal.returns
unfolding after_head
returns c =
    let s = c.args in
    rw (fits_3 c true c.if-not-fits.false, le-ltb s.k 9 c.if-k-lt9.false, after_head)
