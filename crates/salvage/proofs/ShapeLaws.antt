-- The shapes of what is kept.
use mathlib.Core.Path.{◌≡◌, refl, sym, ◌∙◌, ap, ap₂}
use mathlib.Core.Bool.{Bool, true, false, cond, not, ◌||◌}
use mathlib.Core.List.{List, [], ◌∷◌}
use lib.IntN.{ℤ}
use Rattle.grid.specs.Limits.{narrow, all_on_grid}
use Rattle.replies.specs.Ladder.{first_of}
use Rattle.setfile.specs.Entries.{Entry, Gathered, gather, gathered, shapes_of}
use Rattle.salvage.specs.Fates.{reason, open_behind, fates, keep, kept}
use Rattle.salvage.specs.Promises.{sound_contours, sound_shapes}

-- those that belong to a shape that stands open, where it is kept
abbrev if_kept : Bool → List (List ℤ) → List (List ℤ)
if_kept true l = sound_contours l
if_kept false l = []

abbrev gathered_as : List (List ℤ) → List (List (List ℤ)) → Gathered
gathered_as loose shapes = record { loose = loose; shapes = shapes }

-- what is gathered of the contours that are kept, where a shape stands open that is kept or not
abbrev sound_of : Bool → Gathered → Gathered
sound_of b g = gathered_as (if_kept b g.loose) (sound_shapes g.shapes)

no_contours : (b : Bool) → if_kept b [] ≡ []
unfolding sound_contours
no_contours true = refl
no_contours false = refl

-- one contour more, by whether it is on the grid, begins a shape, and stands under one that is kept
shape_step : (on begins b : Bool) (e : Entry) (l : List Entry) (g : Gathered) → all_on_grid narrow e.points ≡ on → e.begins ≡ begins → gathered l ≡ sound_of (open_behind begins on b) g
    → gathered (keep (first_of ((not on, 3) ∷ (not (begins || b), 11) ∷ [])) e l) ≡ sound_of b (gather begins e.points g)
unfolding first_of gathered sound_contours sound_shapes
shape_step true true b e l g p q h =
    ap₂ (λ (t : Bool) (x : Gathered). gather t e.points x) q h
    ∙ ap₂ gathered_as (sym (no_contours b)) (sym (ap (λ (t : Bool). cond t ((e.points ∷ sound_contours g.loose) ∷ sound_shapes g.shapes) (sound_shapes g.shapes)) p))
shape_step true false true e l g p q h =
    ap₂ (λ (t : Bool) (x : Gathered). gather t e.points x) q h
    ∙ ap (λ (t : Bool). gathered_as (cond t (e.points ∷ sound_contours g.loose) (sound_contours g.loose)) (sound_shapes g.shapes)) (sym p)
shape_step true false false e l g p q h = h
shape_step false true b e l g p q h =
    h ∙ ap₂ gathered_as (sym (no_contours b)) (sym (ap (λ (t : Bool). cond t ((e.points ∷ sound_contours g.loose) ∷ sound_shapes g.shapes) (sound_shapes g.shapes)) p))
shape_step false false true e l g p q h =
    h ∙ ap (λ (t : Bool). gathered_as (cond t (e.points ∷ sound_contours g.loose) (sound_contours g.loose)) (sound_shapes g.shapes)) (sym p)
shape_step false false false e l g p q h = h

kept_gathered : (b : Bool) (l : List Entry) → gathered (kept (fates b l) l) ≡ sound_of b (gathered l)
unfolding gathered fates kept reason sound_shapes
kept_gathered b [] = ap (λ (l : List (List ℤ)). gathered_as l []) (sym (no_contours b))
kept_gathered b (e ∷ l) =
    shape_step (all_on_grid narrow e.points) e.begins b e _ (gathered l) refl refl (kept_gathered (open_behind e.begins (all_on_grid narrow e.points) b) l)

pub kept_shapes : (b : Bool) (l : List Entry) → shapes_of (kept (fates b l) l) ≡ sound_shapes (shapes_of l)
kept_shapes b l = ap (λ (g : Gathered). g.shapes) (kept_gathered b l)
