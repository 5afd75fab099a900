-- `picture::inner::drawing::put_job` meets its contract: the points that were read are those of the job.
use mathlib.Core.Path.{◌≡◌, sym, ◌∙◌, ap, subst}
use mathlib.Core.List.{List}
use Prim.Native.Nat.{ℕ, ◌*◌}
use lib.ListN.{length, take}
use lib.Seq.{take_at}
use lib.IntN.{ℤ}
use Rattle.rows.specs.Rows.{front}
use Rattle.grid.specs.Domain.{count, Contour}
use Rattle.picture.proofs.PictureLaws.{job_contour}
use Rattle.picture.proofs.inner.drawing.put_job.Goals as goal

-- the points that stand in front of the row
read : (many : ℕ) (points row : List ℤ) {out : List ℤ} → out ≡ front points row → 2 * many ≡ length points → take (2 * many) out ≡ points
read many points row e long = ap (take (2 * many)) e ∙ take_at points _ (2 * many) (sym long)

pub put_drawn-requires-clause-dotted : goal.put_drawn-requires-clause-dotted
put_drawn-requires-clause-dotted c =
    let a = c.requires.accepted in
    let is = read _ _ _ c.points.ensures a.2 in
    record { own = a.0; listable = a.1; is = is; contour = subst (λ (p : List ℤ). Contour p (count p)) (sym is) (job_contour a.1 _ a.2) }
