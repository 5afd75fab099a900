-- Marks that say of a file's points, contour by contour, which are kept.
use mathlib.Core.Path.{◌≡◌, refl, sym, ◌∙◌, ap, subst}
use mathlib.Core.Bool.{Bool}
use mathlib.Core.List.{List, [], ◌++◌, append_assoc, append-nil, map-append}
use Prim.Native.Nat.{ℕ, ◌+◌, ◌*◌, ◌≤◌, ◌<◌}
use native.Mathlib.Omega.{arith}
use lib.Dec.{ltb}
use lib.ListN.{length, take, length-drop}
use lib.Seq.{take_all}
use lib.IntN.{ℤ}
use Rattle.grid.specs.Domain.{count, Contour}
use Rattle.ring.specs.Walk.{removed}
use Rattle.buffer.specs.Sets.{joined}
use Rattle.setfile.specs.declared.inner.headers.Header.{Header}
use Rattle.setfile.specs.Entries.{Entry, contours_of}
use Rattle.setfile.specs.inside.Reading.{from_bit, header_in, size_of}
use Rattle.report.specs.Listing.{rule_of, job}
use Rattle.report.specs.inside.Lines.{Contours, Listable}
use Rattle.vertices.specs.Vertices.{kept_of, all_kept}
use Rattle.vertices.specs.inside.Marks.{survive, Marked}
use Rattle.vertices.proofs.AlongLaws.{Along, along_none, along_all, coming, here, along_met, along_long, along_ends, along_more}

-- k points from number start on are in the row, and each point has a mark
pub record Roomy (points : List ℤ) (mark : List ℕ) (start k : ℕ) : Type 0 where
  pub within : 2 * start + 2 * k ≤ length points
  pub each : length points ≡ 2 * length mark
  pub few : length points ≤ 16384

-- behind i of a file's n contours the marks before position start are those of their points
pub record Settling (s : Bool) (f : List ℕ) (n : ℕ) (points : List ℤ) (mark₀ mark : List ℕ) (i at start : ℕ) : Type 0 where
  pub along : Along s f n points i at (2 * start)
  pub sound : Contours (contours_of along.rest)
  pub long : length mark ≡ length mark₀
  pub kept : survive (take start mark) ++ all_kept (rule_of s) (contours_of along.rest) ≡ all_kept (rule_of s) (job f)

pub settling_none : {s : Bool} {f : List ℕ} {n : ℕ} {points : List ℤ} (mark : List ℕ) → Listable s f n → points ≡ joined (job f)
    → Settling s f n points mark mark 0 16 0
unfolding along_none
settling_none mark l p = record { along = along_none l.readable p; sound = l.sound; long = refl; kept = refl }

module _ {s : Bool} {f : List ℕ} {n : ℕ} {points : List ℤ} {mark₀ mark : List ℕ} {i at start : ℕ} (x : Settling s f n points mark₀ mark i at start) where
  module _ (l : i < n) where
    both : Contour (here x.along l) (count (here x.along l)) × Contours (contours_of (coming x.along l).rest)
    both = subst (λ (m : List Entry). Contours (contours_of m)) (along_met x.along l) x.sound

    module _ (h : Header) (e : h ≡ header_in s (from_bit f at)) where
      pub settling_contour : Contour (here x.along l) h.count
      settling_contour =
          let k : count (here x.along l) ≡ h.count = omega (arith, along_long x.along l h e) in
          subst (Contour (here x.along l)) k both.0

      pub settling_more : (part new : List ℕ) → survive part ≡ kept_of (rule_of s) (here x.along l) → take (start + h.count) new ≡ take start mark ++ part
          → length new ≡ length mark → (z : ℕ) → z ≡ size_of s h → Settling s f n points mark₀ new (i + 1) (at + z) (start + h.count)
      unfolding joined along_more
      settling_more part new k t g z q =
          let before : List Bool = survive (take start mark) in
          let behind : List Bool = all_kept (rule_of s) (contours_of (coming x.along l).rest) in
          record {
            along = along_more x.along l h e (2 * (start + h.count)) (omega arith) z q;
            sound = both.1;
            long = g ∙ x.long;
            kept =
                ap (λ (m : List Bool). m ++ behind) (ap survive t ∙ map-append (λ (j : ℕ). ltb j removed) (take start mark) part)
                ∙ append_assoc before (survive part) behind ∙ ap (λ (m : List Bool). before ++ (m ++ behind)) k
                ∙ sym (ap (λ (m : List Entry). before ++ all_kept (rule_of s) (contours_of m)) (along_met x.along l)) ∙ x.kept;
          }

  -- the points of the contour that is met are in the row, and have marks
  module _ (listable : Listable s f n) (is : points ≡ joined (job f)) {next prev : List ℕ} (marked : Marked points next prev mark₀) (l : i < n) (h : Header) (e : h ≡ header_in s (from_bit f at)) where
    pub settling_room : Roomy points mark start h.count
    settling_room = record {
      within = along_ends x.along l h e;
      each = omega (arith, marked.each, x.long);
      few = omega (arith, ap length is, listable.few);
    }

  pub settling_all : n ≤ i → length points ≡ 2 * length mark → survive mark ≡ all_kept (rule_of s) (job f)
  unfolding joined
  settling_all h p =
      let e : x.along.rest ≡ [] = along_all x.along h in
      let d = sym (length-drop (2 * start) points) ∙ ap length (x.along.is ∙ ap (λ (m : List Entry). joined (contours_of m)) e) in
      sym (ap survive (take_all start mark (omega (arith, d)))) ∙ sym (append-nil (survive (take start mark)))
      ∙ ap (λ (m : List Entry). survive (take start mark) ++ all_kept (rule_of s) (contours_of m)) (sym e) ∙ x.kept
