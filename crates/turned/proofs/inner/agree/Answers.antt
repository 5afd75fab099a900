-- `turned::inner::agree` meets its contract: what agrees grows by a run, or ends in one.
use Rattle.std.proofs.Common.{◌≡◌, ℕ, ◌+◌, ◌-◌, ◌%◌, ◌<◌, ◌≤◌, max, arith}
use native.Mathlib.Nat.{mod-lt}
use Rattle.turned.proofs.RunLaws.{run_agrees, run_differs}
use Rattle.turned.proofs.inner.agree.Goals as goal

-- How far a run goes: from both positions and from what agrees no further than to the end.
record Far (n x y k run : ℕ) : Type 0 where
  first : x + run ≤ n
  second : y + run ≤ n
  all : k + run ≤ n

far : (i j : ℕ) {n k x y a b : ℕ} → k < n → x ≡ (i + k) % n → y ≡ (j + k) % n → a ≡ max x y → b ≡ max a k → Far n ((i + k) % n) ((j + k) % n) k (n - b)
far i j {n = n} {k = k} h ex ey ea eb =
    let h0 : 0 < n = omega arith in
    let p = mod-lt (i + k) h0 in
    let q = mod-lt (j + k) h0 in
    record { first = omega arith; second = omega arith; all = omega arith }

pub returns-then-r-run : goal.returns-then-r-run
returns-then-r-run c =
    let s = c.args in
    let f = far s.i s.j c.loop-k-test.true c.round-x.ensures c.round-y.ensures c.max.ensures c.max-in-loop-k.ensures in
    let ran = rw (c.round-x.ensures, c.round-y.ensures) at c.level-r.ensures in
    record {
      within = omega (arith, f.all, c.if-r-run.true);
      agree = run_agrees s.first.now s.second.now s.n s.i s.j c.loop-k.k _ _ f.first f.second ran c.loop-k.invariant.1;
      differ = λ h. run_differs s.first.now s.second.now s.n s.i s.j c.loop-k.k _ _ f.first f.second ran c.if-r-run.true;
    }

pub loop-k-preserved : goal.loop-k-preserved
loop-k-preserved c =
    let s = c.args in
    let f = far s.i s.j c.loop-k-test.true c.round-x.ensures c.round-y.ensures c.max.ensures c.max-in-loop-k.ensures in
    let ran = rw (c.round-x.ensures, c.round-y.ensures) at c.level-r.ensures in
    (f.all, λ x h. run_agrees s.first.now s.second.now s.n s.i s.j c.loop-k.k _ _ f.first f.second ran c.loop-k.invariant.1 x (omega (arith, c.level-r.ensures.within, c.if-r-run.false)))
