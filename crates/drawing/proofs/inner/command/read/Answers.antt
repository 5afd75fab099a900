-- `drawing::inner::command::read` meets its contract.
use mathlib.Core.Path.{◌≡◌, sym, ap, ◌∙◌}
use Prim.Native.Nat.{ℕ}
use native.Mathlib.Omega.{arith}
use lib.ListN.{drop}
use Rattle.drawing.specs.declared.command.Place.{Place}
use Rattle.drawing.specs.declared.command.Command.TheVariants.{Move, Line}
use Rattle.drawing.specs.Commands.{item}
use Rattle.drawing.specs.Commands.Item.{command}
use Rattle.drawing.proofs.CommandLaws.{brought_two}
use Rattle.drawing.proofs.inner.command.read.Goals as goal

pub place_from-requires : goal.place_from-requires
place_from-requires c = omega (arith, c.requires.1, brought_two c.args.kind (omega arith))

pub place_from-requires-then-kind-eq-LINE : goal.place_from-requires-then-kind-eq-LINE
place_from-requires-then-kind-eq-LINE c = omega (arith, c.requires.1, brought_two c.args.kind (omega arith))

pub returns-then-kind-eq-MOVE : goal.returns-then-kind-eq-MOVE
unfolding item
returns-then-kind-eq-MOVE c =
    let s = c.args in
    ap (λ (p : Place). command (Move p)) c.place_from.ensures
    ∙ ap (λ (k : ℕ). item k (drop s.at s.floats.now)) (sym c.if-kind-eq-MOVE.true)

pub returns-then-kind-eq-LINE : goal.returns-then-kind-eq-LINE
unfolding item
returns-then-kind-eq-LINE c =
    let s = c.args in
    ap (λ (p : Place). command (Line p)) c.place_from-then-kind-eq-LINE.ensures
    ∙ ap (λ (k : ℕ). item k (drop s.at s.floats.now)) (sym c.if-kind-eq-LINE.true)

pub returns-else-kind-eq-LINE : goal.returns-else-kind-eq-LINE
unfolding item
returns-else-kind-eq-LINE c =
    let s = c.args in
    let two : s.kind ≡ 2 = omega (arith, c.requires.0) in
    ap (λ (k : ℕ). item k (drop s.at s.floats.now)) (sym two)
