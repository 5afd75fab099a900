-- `setfile::inner::judging::contours` meets its contract: what is met so far and what is left make up the judgement of the whole.
use Rattle.std.proofs.lemmas.Result.{err_from_is_err_and}
use Rattle.replies.proofs.RefusalLaws.{refusals_have_numbers}
use Rattle.std.proofs.Common.{◌≡◌, ℕ, ◌+◌, ◌-◌, true, eqb, sym, ap, ◌∙◌, subst, ap₂, arith}
use Rattle.setfile.specs.declared.inner.judging.Met.{Met}
use Rattle.setfile.specs.Entries.{Parsed}
use Rattle.setfile.specs.Layouts.{contours_in}
use Rattle.setfile.specs.Editions.{layout}
use Rattle.setfile.specs.inside.Reading.{from_bit, none_met, Within, summed}
use Rattle.setfile.proofs.ContourLaws.{right, whole}
use Rattle.setfile.proofs.JudgeLaws.{judged_faulty, judged_more, within_more, none_left}
use Rattle.setfile.proofs.inner.judging.contours.Goals as goal

pub loop-i-init : goal.loop-i-init
loop-i-init c =
    let s = c.args in
    let e : s.n ≡ s.n - 0 = omega arith in (
      record { here = c.requires; points_few = omega arith; shapes_few = omega arith },
      ap (λ (k : ℕ). summed s.second none_met 0 (contours_in (layout s.second) k true 0 (from_bit s.bytes.now 16))) e,
    )

pub returns-in_err-contour_fault : goal.returns-in_err-contour_fault
returns-in_err-contour_fault c =
    let l = c.loop-i in
    let s = c.args in
    let p = err_from_is_err_and c.from_residual.result c.from_residual.ensures.1 in
    rw (p.1, p.2) (judged_faulty s.second s.bytes.now s.n l.i l.m (eqb l.i 0) c.loop-i-test.true
    _ c.in_err-contour_fault.ensures (refusals_have_numbers _)
    ∙ sym l.invariant.1)

pub met_more-m-requires : goal.met_more-m-requires
met_more-m-requires c = (c.loop-i.invariant.0, (whole c.loop-i.invariant.0.here (eqb c.loop-i.i 0) c.loop-i.m.points (sym c.in_ok-contour_fault.ensures)))

pub loop-i-preserved : goal.loop-i-preserved
loop-i-preserved c =
    let l = c.loop-i in
    let s = c.args in
    let f = s.bytes.now in
    let b = s.second in
    let r = right b (eqb l.i 0) l.m.points (from_bit f l.m.at) (sym c.in_ok-contour_fault.ensures) in
    subst
    (λ (m : Met).
    Within b f m
    × (summed b none_met 0 (contours_in (layout b) s.n true 0 (from_bit f 16))
    ≡ summed b m (l.i + 1) (contours_in (layout b) (s.n - (l.i + 1)) (eqb (l.i + 1) 0) m.points (from_bit f m.at))))
    (sym c.met_more-m.ensures) (
      within_more b f s.n l.i l.m l.invariant.0 (whole c.loop-i.invariant.0.here (eqb c.loop-i.i 0) c.loop-i.m.points (sym c.in_ok-contour_fault.ensures)) r.counted r.some,
      l.invariant.1 ∙ judged_more b f s.n l.i l.m (eqb l.i 0) c.loop-i-test.true (sym c.in_ok-contour_fault.ensures),
    )

pub returns : goal.returns
returns c =
    let l = c.loop-i in
    let s = c.args in
    let done : s.n ≡ l.i = omega arith in
    c.finished.ensures
    ∙ sym
    (l.invariant.1
    ∙ ap₂ (λ (k : ℕ) (w : Parsed). summed s.second l.m k w) (sym done)
    (none_left s.second (s.n - l.i) (eqb l.i 0) l.m.points (from_bit s.bytes.now l.m.at) (omega arith)))
