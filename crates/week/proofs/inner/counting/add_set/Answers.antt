-- `week::inner::counting::add_set` meets its contract: the rows have room for the set.
use mathlib.Core.Path.{sym, ◌∙◌, ap}
use mathlib.Core.Bool.{Bool}
use mathlib.Core.List.{List}
use Prim.Native.Nat.{ℕ, ◌≤◌}
use native.Mathlib.Omega.{arith}
use lib.ListN.{replicate, length-replicate}
use lib.IntN.{ℤ, pos}
use Rattle.ring.specs.declared.Rule as R
use Rattle.clean.specs.Outcome.{Lent, lent}
use Rattle.buffer.specs.Spans.{spans}
use Rattle.buffer.specs.Sets.{contours}
use Rattle.figures.specs.Adding.{Outcome}
use Rattle.grid.specs.Domain.{count}
use Rattle.difference.specs.inside.Sets.{Sound}
use Rattle.report.specs.Listing.{rule_of, most_listed}
use Rattle.week.specs.Counting.{taken, with_found}
use Rattle.week.proofs.CountingLaws.{Brought, set_counted}
use Rattle.week.proofs.inner.counting.add_set.Goals as goal

-- the rows that are lent
abbrev rows : Lent
rows = lent (replicate 8192 0) (replicate 8192 0) (replicate 8192 0) (replicate 16384 (pos 0))

-- they have room for a set of so many points
brought : {p : List ℤ} {ranges : List (List ℕ)} → Sound p ranges → count p ≤ most_listed → Brought p ranges rows
brought sound few =
    let n = length-replicate {A = ℕ} 8192 0 in
    record {
      sound = sound;
      in_next = omega (arith, few, n);
      in_prev = omega (arith, few, n);
      in_mark = omega (arith, few, n);
      in_out = omega (arith, few, length-replicate {A = ℤ} 16384 (pos 0));
    }

pub returns-then-second : goal.returns-then-second
returns-then-second c =
    let s = c.args in
    ap (λ (o : Outcome). o.answer) c.add_despiked.ensures
    ∙ set_counted s.points.now s.contours.now rows (brought c.requires.0 c.requires.1) s.f R.Rule.Spike
    ∙ ap (λ (b : Bool). with_found s.f (taken (rule_of b) (contours s.points.now (spans s.contours.now)))) (sym c.if-second.true)

pub returns : goal.returns
returns c =
    let s = c.args in
    ap (λ (o : Outcome). o.answer) c.add_simplified.ensures
    ∙ set_counted s.points.now s.contours.now rows (brought c.requires.0 c.requires.1) s.f R.Rule.Collinear
    ∙ ap (λ (b : Bool). with_found s.f (taken (rule_of b) (contours s.points.now (spans s.contours.now)))) (sym c.if-second.false)
