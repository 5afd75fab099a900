-- `ring::inner::walk` meets its contract: the rows are linked, marked as far as the vertices stand, and then walked.
use mathlib.Core.Path.{sym, ◌∙◌, ap, subst₂}
use Prim.Native.Nat.{ℕ}
use native.Mathlib.Omega.{arith}
use Rattle.grid.specs.Limits.{most}
use Rattle.ring.specs.declared.Rule.{Rule}
use Rattle.ring.specs.Rule.{goes}
use Rattle.ring.specs.inside.Rows.{first_marked, Begun}
use Rattle.ring.proofs.Loop.{begun_first}
use Rattle.ring.proofs.inner.walk.Goals as goal

pub link-requires : goal.link-requires
unfolding most
link-requires c =
    let p = c.requires in
    record { next_long = p.next_len.0; prev_long = p.next_len.1; some = omega (arith, p.contour.1); few = omega (arith, p.contour.0.few) }

pub round-requires-clause-begun : goal.round-requires-clause-begun
round-requires-clause-begun c =
    let p = c.requires.k_in_bounds in
    subst₂ (λ (n : ℕ) (rule : Rule). Begun (goes rule c.args.points.now) n c.args.k c.mark_first.new.mark c.link.new.next c.link.new.prev)
    (sym (c.mark_first.auto.mark ∙ c.link.auto.mark)) c.in-Collinear.is
    (begun_first c.link.ensures p.0 p.1 (c.mark_first.ensures ∙ ap (λ (n : ℕ). first_marked n c.args.k) c.link.auto.mark))

pub round-requires-in-Spike-clause-begun : goal.round-requires-in-Spike-clause-begun
round-requires-in-Spike-clause-begun c =
    let p = c.requires.k_in_bounds in
    subst₂ (λ (n : ℕ) (rule : Rule). Begun (goes rule c.args.points.now) n c.args.k c.mark_first.new.mark c.link.new.next c.link.new.prev)
    (sym (c.mark_first.auto.mark ∙ c.link.auto.mark)) c.in-Spike.is
    (begun_first c.link.ensures p.0 p.1 (c.mark_first.ensures ∙ ap (λ (n : ℕ). first_marked n c.args.k) c.link.auto.mark))
