-- `picture::inner::scale::bar` meets its contract: what is left of the definition is that of the length so far.
use mathlib.Core.Path.{◌≡◌, sym, ◌∙◌, ap}
use Prim.Native.Nat.{ℕ, ◌+◌, ◌*◌, ◌-◌}
use native.Mathlib.Omega.{arith}
use Rattle.picture.specs.Frame.{bar_from}
use Rattle.picture.proofs.ScaleLaws.{bar_long, bar_longer, bar_longest}
use Rattle.picture.proofs.inner.scale.bar.Goals as goal

pub returns-then-width-long : goal.returns-then-width-long
returns-then-width-long c =
    let l = c.loop-k in
    sym (bar_long l.long c.args.width (9 - l.k) (omega arith) c.if-width-long.true) ∙ l.invariant.0

pub loop-k-preserved : goal.loop-k-preserved
loop-k-preserved c =
    let l = c.loop-k in
    let less : 9 - (l.k + 1) ≡ 9 - l.k - 1 = omega arith in (
      ap (λ (n : ℕ). bar_from n (l.long * 10) c.args.width) less
          ∙ sym (bar_longer l.long c.args.width (9 - l.k) (omega arith) c.if-width-long.false) ∙ l.invariant.0,
      omega (arith, c.requires, c.if-width-long.false),
    )

pub returns : goal.returns
returns c =
    let l = c.loop-k in
    sym (bar_longest l.long c.args.width (9 - l.k) (omega arith)) ∙ l.invariant.0
