-- What the picture of a file is, by how it was judged.
use mathlib.Core.Path.{◌≡◌, refl, sym}
use mathlib.Core.Bool.{Bool}
use mathlib.Core.List.{List, ◌++◌}
use Prim.Native.Nat.{ℕ, zero, suc, ◌*◌}
use native.Mathlib.Omega.{arith}
use lib.ListN.{length}
use Rattle.grid.specs.Limits.{limit, most}
use Rattle.grid.specs.Domain.{count, Contour}
use Rattle.grid.proofs.LimitLaws.{all_on_wider}
use Rattle.replies.specs.Ladder.{first_of}
use Rattle.buffer.specs.Sets.{joined}
use Rattle.setfile.specs.Editions.{bound}
use Rattle.setfile.proofs.HoldLaws.{bound_within}
use Rattle.report.specs.Text.{decimal, line_end, refused}
use Rattle.report.specs.Listing.{job, listing_refusals}
use Rattle.report.specs.inside.Lines.{Listable}
use Rattle.picture.specs.Frame.{sizes}
use Rattle.picture.specs.Picture.{drawn, job_extent, shown, picture}

-- the picture of a file, by its first refusal
pub picture_refused : (f : List ℕ) (k : ℕ) → k ≡ first_of (listing_refusals f) → (k ≡ 0 → ⊥) → picture f ≡ refused ++ decimal k ++ line_end
unfolding picture
picture_refused f zero e n = absurd (n refl)
picture_refused f (suc k) e n = rw (sym e, picture)

pub picture_drawn : (f : List ℕ) → first_of (listing_refusals f) ≡ 0 → picture f ≡ drawn (job_extent f) (sizes (job_extent f)) (shown f)
unfolding picture
picture_drawn f e = rw (e, picture)

-- the points of a file that is not refused, which are so many, are of the domain
pub job_contour : {s : Bool} {f : List ℕ} {n : ℕ} → Listable s f n → (many : ℕ) → 2 * many ≡ length (joined (job f)) → Contour (joined (job f)) (count (joined (job f)))
unfolding most
job_contour {s} {f} {n} l many e = record {
  even = omega arith;
  few = omega (arith, l.few);
  on = all_on_wider (bound s) limit (joined (job f)) (bound_within s) l.readable.on;
}
