-- What is made of a file, by what reading it and writing it answered.
use mathlib.Core.Path.{◌≡◌, refl, sym, ◌∙◌, ap}
use mathlib.Core.Bool.{Bool, true, false}
use mathlib.Core.List.{List}
use Prim.Native.Nat.{ℕ, zero, suc, ◌*◌, ◌≤◌}
use native.Mathlib.Omega.{arith}
use lib.Dec.{eqb}
use lib.ListN.{length, take}
use lib.Seq.{length-take-le}
use lib.IntN.{ℤ}
use Rattle.std.proofs.Common.{Ok, Err}
use Rattle.replies.specs.Ladder.{first_of}
use Rattle.replies.specs.declared.refusal.Refusal.{Refusal}
use Rattle.replies.specs.Refusals.{number as number_of}
use Rattle.replies.proofs.LadderLaws.{front_clear}
use Rattle.replies.proofs.RefusalLaws.{refusals_have_numbers}
use Rattle.bits.specs.Bits.{Bytes}
use Rattle.ring.specs.declared.Rule.{Rule}
use Rattle.buffer.specs.Spans.{spans}
use Rattle.buffer.specs.Sets.{shapes}
use Rattle.setfile.specs.declared.answer.Carried.{Carried}
use Rattle.setfile.specs.Editions.{number, is_second}
use Rattle.setfile.specs.Reading.{refusals, read_as}
use Rattle.setfile.specs.Promises.{points_of, contour_ranges, shape_ranges}
use Rattle.setfile.proofs.Theorems.{the_set_that_is_read_can_be_carried}
use Rattle.report.specs.Listing.{listing_refusals}
use Rattle.report.proofs.ReportLaws.{accepted}
use Rattle.report.proofs.PutLaws.{front_within}
use Rattle.changes.proofs.ReadLaws.{HasRead, reply_is, accepted_file, edition_is, few_points, few_contours, few_shapes, points_in, ranges_in, shapes_in_row, points_are, ranges_are, shapes_are}
use Rattle.jobpack.specs.declared.Lengths.{Lengths}
use Rattle.jobpack.specs.Packing.{refusing, Outcome, leaving}
use Rattle.tidy.specs.Words.{set_tidied, tidied_by, tidied, tidying}
use Rattle.tidy.specs.inside.Sets.{Tidiable}

-- a file whose set was read into the rows
second_is : (s : Bool) (n : ℕ) → n ≡ number s → eqb n 2 ≡ s
second_is true n e = rw e
second_is false n e = rw e

-- that is refused
pub read_refused : {f : List ℕ} {out : List ℤ} {cs ss : List (List ℕ)} {out' : List ℤ} {cs' ss' : List (List ℕ)} (r : Refusal)
    → HasRead f out cs ss (read_as (Err r)) out' cs' ss' → (rule : Rule) → tidied rule f ≡ refusing (number_of r)
unfolding tidied
read_refused {f} r done rule = go (number_of r) (reply_is done) (refusals_have_numbers r)
  where
    go : (k : ℕ) → k ≡ first_of (listing_refusals f) → (k ≡ 0 → ⊥) → tidied_by (first_of (listing_refusals f)) rule f ≡ refusing k
    go zero e n = absurd (n refl)
    go (suc k) e n = ap (λ (r : ℕ). tidied_by r rule f) (sym e)

module _ {f : List ℕ} {out : List ℤ} {cs ss : List (List ℕ)} (r : Carried) {out' : List ℤ} {cs' ss' : List (List ℕ)} (done : HasRead f out cs ss (read_as (Ok r)) out' cs' ss') where
  pub read_tidied : (rule : Rule) → tidied rule f
      ≡ set_tidied rule (eqb r.edition 2) (shapes (take (2 * r.sizes.points) out') (spans (take r.sizes.contours cs')) (spans (take r.sizes.shapes ss')))
  unfolding tidied
  read_tidied rule =
      rw (second_is (is_second f) r.edition (edition_is done refl), points_are done refl, ranges_are done refl, shapes_are done refl)
      (ap (λ (r : ℕ). tidied_by r rule f) (accepted_file done refl))

  pub read_tidiable : Bytes f → Tidiable (take (2 * r.sizes.points) out') (take r.sizes.contours cs') (take r.sizes.shapes ss')
  read_tidiable h =
      let fit = (the_set_that_is_read_can_be_carried f h (front_clear (refusals f) _ (accepted_file done refl))).regular in
      let kl = length-take-le r.sizes.contours cs' (ranges_in done refl) in
      let ml = length-take-le r.sizes.shapes ss' (shapes_in_row done refl) in
      let nl = length-take-le (2 * r.sizes.points) out' (points_in done refl) in
      let n : length (points_of f) ≡ 2 * r.sizes.points = ap length (sym (points_are done refl)) ∙ nl in
      let k : length (contour_ranges f) ≡ r.sizes.contours = ap length (sym (ranges_are done refl)) ∙ kl in
      let m : length (shape_ranges f) ≡ r.sizes.shapes = ap length (sym (shapes_are done refl)) ∙ ml in
      rw (points_are done refl, ranges_are done refl, shapes_are done refl)
      (record {
        domain = record { even = fit.even; few = fit.within; on = (accepted f (accepted_file done refl)).on };
        contours = fit.contours;
        shapes = fit.shapes;
        few_points = omega (arith, n, few_points done refl);
        few_contours = omega (arith, k, few_contours done refl);
        few_shapes = omega (arith, m, few_shapes done refl);
      })

-- what is written stands within both rows
module _ (rule : Rule) (f out words : List ℕ) {r : Lengths} {exit said : List ℕ} (e : leaving r exit said ≡ tidying rule f out words) where
  pub file_within : r.bytes ≤ length exit
  unfolding tidying
  file_within = front_within (tidied rule f).file out r.bytes exit (ap (λ (o : Outcome). o.lengths.bytes) e) (ap (λ (o : Outcome). o.bytes) e)

  pub words_within : r.words ≤ length said
  unfolding tidying
  words_within = front_within (tidied rule f).words words r.words said (ap (λ (o : Outcome). o.lengths.words) e) (ap (λ (o : Outcome). o.words) e)
