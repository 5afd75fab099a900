-- `picture::inner::frame::sizes_of` meets its contract.
use mathlib.Core.Path.{sym, ◌∙◌, ap, ap₂, subst}
use Prim.Native.Nat.{ℕ}
use lib.IntN.{nat_abs}
use Rattle.grid.specs.declared.Edge.{Edge}
use Rattle.grid.specs.Limits.{limit}
use Rattle.grid.proofs.PointLaws.{x_on, y_on}
use Rattle.picture.specs.Frame.{sizes_by}
use Rattle.picture.specs.inside.Parts.{Small}
use Rattle.picture.proofs.ExtentLaws.{apart_back, sizes_small}
use Rattle.picture.proofs.inner.frame.sizes_of.Goals as goal

pub returns : goal.returns
returns c =
    let k = c.requires in
    let w =
    c.unsigned_abs-width.ensures.value
    ∙ ap nat_abs (apart_back _ _ _ (x_on limit _ k.0) (x_on limit _ k.1) (ap (λ (u : Edge). u.dx) c.between-across.ensures)) in
    let h =
    c.unsigned_abs-height.ensures.value
    ∙ ap nat_abs (apart_back _ _ _ (y_on limit _ k.0) (y_on limit _ k.1) (ap (λ (u : Edge). u.dy) c.between-across.ensures)) in
    let is =
    ap (λ (l : ℕ). record { width = c.unsigned_abs-width.result; height = c.unsigned_abs-height.result; letter = l }) c.letter.ensures ∙ ap₂ sizes_by w h in
    (is, subst Small (sym is) (sizes_small c.args.e k))
