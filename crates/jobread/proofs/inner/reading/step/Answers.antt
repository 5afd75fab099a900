-- `jobread::inner::reading::step` meets its contract: by where the reader is.
use mathlib.Core.Path.{◌≡◌, sym, ◌∙◌, ap}
use mathlib.Core.Logic.{◌⊎◌, inl, inr}
use Prim.Native.Nat.{ℕ}
use Rattle.replies.specs.declared.refusal.Refusal.{Refusal}
use Rattle.jobread.specs.declared.Place.{Place}
use Rattle.jobread.specs.declared.Reader.{Reader}
use Rattle.jobread.specs.declared.Place.TheVariants.{NoHead, NoLine, Refused}
use Rattle.jobread.specs.Reading.{State, moved, step_at, step}
use Rattle.jobread.specs.inside.Rows.{state_of}
use Rattle.jobread.proofs.RowLaws.{started, same_points, word_numbers}
use Rattle.jobread.proofs.inner.reading.step.Goals as goal

-- what is damaged or refused stays so
stays : (p : Place) (s : State) (c : ℕ) → (p ≡ NoHead) ⊎ ((p ≡ NoLine) ⊎ ((r : Refusal) × p ≡ Refused r)) → s ≡ step_at p s c
stays p s c (inl e) = ap (λ (p : Place). step_at p s c) (sym e)
stays p s c (inr (inl e)) = ap (λ (p : Place). step_at p s c) (sym e)
stays p s c (inr (inr (r, e))) = ap (λ (p : Place). step_at p s c) (sym e)

pub returns-in-Head : goal.returns-in-Head
unfolding step
returns-in-Head c =
    let s = c.args in
    ap (λ (r : Reader). state_of r s.points.now s.contours.now s.shapes.now) (c.moved.ensures ∙ ap (moved s.reader) c.head.ensures)
    ∙ ap (λ (p : Place). step_at p (state_of s.reader s.points.now s.contours.now s.shapes.now) s.c) (sym c.in-Head.is)

pub returns-in-Start : goal.returns-in-Start
unfolding step
returns-in-Start c =
    let s = c.args in
    ap (λ (r : Reader). state_of r s.points.now s.contours.now s.shapes.now) c.start.ensures ∙ started s.reader s.c s.points.now s.contours.now s.shapes.now
    ∙ ap (λ (p : Place). step_at p (state_of s.reader s.points.now s.contours.now s.shapes.now) s.c) (sym c.in-Start.is)

pub returns-in-Word : goal.returns-in-Word
unfolding step
returns-in-Word c =
    let s = c.args in
    same_points s.reader _ s.points.now _ _ _ c.word.ensures (word_numbers _ _ _ s.c)
    ∙ ap (λ (p : Place). step_at p (state_of s.reader s.points.now s.contours.now s.shapes.now) s.c) (sym c.in-Word.is)

pub returns-in-Space : goal.returns-in-Space
unfolding step
returns-in-Space c =
    let s = c.args in
    ap (λ (r : Reader). state_of r s.points.now s.contours.now s.shapes.now) (c.moved-in-Space.ensures ∙ ap (moved s.reader) c.space.ensures)
    ∙ ap (λ (p : Place). step_at p (state_of s.reader s.points.now s.contours.now s.shapes.now) s.c) (sym c.in-Space.is)

pub returns-in-Dash : goal.returns-in-Dash
unfolding step
returns-in-Dash c =
    let s = c.args in
    ap (λ (r : Reader). state_of r s.points.now s.contours.now s.shapes.now) (c.moved-in-Dash.ensures ∙ ap (moved s.reader) c.dash.ensures)
    ∙ ap (λ (p : Place). step_at p (state_of s.reader s.points.now s.contours.now s.shapes.now) s.c) (sym c.in-Dash.is)

pub returns-in-Number : goal.returns-in-Number
unfolding step
returns-in-Number c =
    let s = c.args in
    c.number.ensures ∙ ap (λ (p : Place). step_at p (state_of s.reader s.points.now s.contours.now s.shapes.now) s.c) (sym c.in-Number.is)

pub returns-in-NoHead : goal.returns-in-NoHead
unfolding step
returns-in-NoHead c =
    let s = c.args in
    stays s.reader.place (state_of s.reader s.points.now s.contours.now s.shapes.now) s.c c.in-NoHead.is
