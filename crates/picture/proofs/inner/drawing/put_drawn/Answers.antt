-- `picture::inner::drawing::put_drawn` meets its contract: its beginning, the shapes, the vertices, and its end.
use mathlib.Core.Path.{◌≡◌, sym, ◌∙◌, ap, ap₂}
use mathlib.Core.List.{List, [], ◌∷◌}
use Prim.Native.Nat.{ℕ, ◌≤◌}
use lib.ListN.{length}
use lib.IntN.{ℤ}
use native.Mathlib.Omega.{arith}
use Rattle.grid.specs.Points.{points}
use Rattle.buffer.specs.Sets.{joined}
use Rattle.report.specs.Listing.{job}
use Rattle.report.proofs.PutLaws.{Going, going_none, going_room, going_more, going_all}
use Rattle.vertices.specs.Vertices.{job_vertices}
use Rattle.picture.specs.declared.inner.frame.Extent.{Extent}
use Rattle.picture.specs.declared.inner.frame.Sizes.{Sizes}
use Rattle.picture.specs.Frame.{extent, sizes}
use Rattle.picture.specs.Picture.{drawn, shapes, job_shapes, all_spots, job_extent, shown}
use Rattle.picture.specs.inside.Parts.{opening, closing}
use Rattle.picture.proofs.PartLaws.{shown_parts}
use Rattle.picture.proofs.inner.drawing.put_drawn.Goals as goal

-- the parts are to be put
going : (f text : List ℕ) (p : List ℤ) (e : Extent) (z : Sizes) → e ≡ extent (points p) → z ≡ sizes e → p ≡ joined (job f)
    → length (drawn (job_extent f) (sizes (job_extent f)) (shown f)) ≤ length text
    → Going 0 (drawn (job_extent f) (sizes (job_extent f)) (shown f)) text 0 text (opening e z ∷ shapes (job_shapes f) ∷ all_spots (job_vertices f) ∷ closing z ∷ [])
going f text p e z e_is z_is p_is h =
    let is : e ≡ job_extent f = e_is ∙ ap (λ (q : List ℤ). extent (points q)) p_is in
    going_none 0 text _
    (ap₂ (λ (e : Extent) (z : Sizes). drawn e z (shown f)) (sym is) (sym (z_is ∙ ap sizes is))
    ∙ shown_parts e z (shapes (job_shapes f)) (all_spots (job_vertices f))) (omega arith)

pub put_opening-second_part-requires : goal.put_opening-second_part-requires
put_opening-second_part-requires c =
    (c.extent_of-extent.ensures.1, c.sizes_of-sizes.ensures.1, omega (arith, going_room (going c.args.bytes.now c.args.text.now _ _ _ c.extent_of-extent.ensures.0 c.sizes_of-sizes.ensures.0 c.requires.dotted.is c.requires.bytes_in_bounds)))

pub put-third_part-requires : goal.put-third_part-requires
put-third_part-requires c =
    (c.requires.dotted.listable.readable, c.requires.dotted.is, going_room (going_more (going c.args.bytes.now c.args.text.now _ _ _ c.extent_of-extent.ensures.0 c.sizes_of-sizes.ensures.0 c.requires.dotted.is c.requires.bytes_in_bounds) c.put_opening-second_part.ensures))

pub put-fourth_part-requires-clause-bytes_in_bounds : goal.put-fourth_part-requires-clause-bytes_in_bounds
put-fourth_part-requires-clause-bytes_in_bounds c =
    going_room (going_more (going_more (going c.args.bytes.now c.args.text.now _ _ _ c.extent_of-extent.ensures.0 c.sizes_of-sizes.ensures.0 c.requires.dotted.is c.requires.bytes_in_bounds) c.put_opening-second_part.ensures) c.put-third_part.ensures)

pub put_closing-requires : goal.put_closing-requires
put_closing-requires c = (
  c.sizes_of-sizes.ensures.1,
  going_room (going_more (going_more (going_more (going c.args.bytes.now c.args.text.now _ _ _ c.extent_of-extent.ensures.0 c.sizes_of-sizes.ensures.0 c.requires.dotted.is c.requires.bytes_in_bounds) c.put_opening-second_part.ensures) c.put-third_part.ensures) c.put-fourth_part.ensures),
)

pub returns : goal.returns
returns c =
    going_all
    (going_more
    (going_more (going_more (going_more (going c.args.bytes.now c.args.text.now _ _ _ c.extent_of-extent.ensures.0 c.sizes_of-sizes.ensures.0 c.requires.dotted.is c.requires.bytes_in_bounds) c.put_opening-second_part.ensures) c.put-third_part.ensures) c.put-fourth_part.ensures)
    c.put_closing.ensures)
