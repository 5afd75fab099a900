-- `week::inner::ending::first_length` meets its contract: of the bytes that a file can have.
use mathlib.Core.Path.{sym, ◌∙◌, ap}
use mathlib.Core.List.{List}
use Prim.Native.Nat.{ℕ, ◌≤◌}
use native.Mathlib.Omega.{arith}
use lib.ListN.{length, take}
use lib.Seq.{take_all, length-take-le}
use Rattle.std.proofs.lemmas.Option.{IfSome_then}
use Rattle.week.specs.Files.{if_any, own_length}
use Rattle.week.proofs.inner.ending.first_length.Goals as goal

pub returns-then-window-le-MOST_BYTES-clause-value : goal.returns-then-window-le-MOST_BYTES-clause-value
returns-then-window-le-MOST_BYTES-clause-value c =
    c.own_length.ensures.value ∙ ap (λ (f : List ℕ). if_any (own_length f)) (sym (take_all 65536 c.args.window.now c.if-window-le-MOST_BYTES.true))

pub slice_bounds-own_length-end : goal.slice_bounds-own_length-end
slice_bounds-own_length-end c = sym (length-take-le 65536 c.args.window.now (omega (arith, c.if-window-le-MOST_BYTES.false)))

pub returns-clause-upper_bound : goal.returns-clause-upper_bound
returns-clause-upper_bound c =
    let w = c.args.window.now in
    let longer : 65536 ≤ length w = omega (arith, c.if-window-le-MOST_BYTES.false) in
    let within : (k : ℕ) → k ≤ length (take 65536 w) → k ≤ length w = λ k h. omega (arith, length-take-le 65536 w longer) in
    IfSome_then _ c.own_length-2.ensures.upper_bound within
