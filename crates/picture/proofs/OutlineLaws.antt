-- The outlines of a file's contours, one behind the other, as the paths of its shapes.
use mathlib.Core.Path.{◌≡◌, refl, sym, ◌∙◌, ap, ap₂}
use mathlib.Core.Bool.{Bool, true, false}
use mathlib.Core.List.{List, [], ◌∷◌, ◌++◌, append_assoc, append-nil}
use Prim.Native.Nat.{ℕ, zero, suc, ◌+◌, ◌*◌, ◌≤◌, ◌<◌}
use native.Mathlib.Omega.{arith}
use native.Mathlib.Numerals.{add-one}
use lib.ListN.{length}
use lib.IntN.{ℤ}
use Rattle.buffer.specs.Sets.{joined}
use Rattle.setfile.specs.declared.inner.headers.Header.{Header}
use Rattle.setfile.specs.Entries.{Entry, entry, gathered, shapes_of}
use Rattle.setfile.specs.Format.{begins}
use Rattle.setfile.specs.inside.Reading.{from_bit, header_in, size_of, Readable}
use Rattle.report.specs.Listing.{job}
use Rattle.report.specs.inside.Lines.{Put}
use Rattle.report.proofs.PutLaws.{Going, going_none, going_room, going_more, going_all, going_same}
use Rattle.vertices.proofs.AlongLaws.{Along, along_none, along_all, coming, here, along_met, along_more}
use Rattle.picture.specs.Names.{path, d}
use Rattle.picture.specs.Picture.{outline, outlines, shapes, job_shapes}
use Rattle.picture.specs.inside.Parts.{left, before}

-- what is due in a path that is begun: the contours that are its, its end, and the other shapes
abbrev rest_text : List Entry → List ℕ
rest_text l = outlines (gathered l).loose ++ (left ++ shapes (gathered l).shapes)

-- what is due behind i contours: none before the first is in a path
abbrev due_text : ℕ → List Entry → List ℕ
due_text zero l = shapes (shapes_of l)
due_text (suc i) l = rest_text l

-- a contour is put behind what stands before it
due_next : (i : ℕ) (b : Bool) (c : List ℤ) (l : List Entry) → (i ≡ 0 → b ≡ true) → due_text i (entry b c ∷ l) ≡ before b i ++ (outline c ++ rest_text l)
unfolding gathered joined before path d
due_next zero true c l h = simp (append_assoc, append-nil)
due_next zero false c l h = let z : ◌≡◌ {A = Bool} false true = h refl in let o : ◌≡◌ {A = ℕ} 0 1 = cc in absurd (omega arith)
due_next (suc i) true c l h = simp (append_assoc, append-nil)
due_next (suc i) false c l h = simp append_assoc

-- behind i of a file's n contours the paths of the rest are due
pub record Outlining (s : Bool) (f : List ℕ) (n : ℕ) (points : List ℤ) (from : ℕ) (text₀ : List ℕ) (behind : ℕ) (text : List ℕ) (i at start : ℕ) : Type 0 where
  pub along : Along s f n points i at start
  pub going : Going from (shapes (job_shapes f)) text₀ behind text (due_text i along.rest ∷ [])

pub outlining_none : (s : Bool) (f : List ℕ) (n : ℕ) (points : List ℤ) (from : ℕ) (text : List ℕ) → Readable s f n → points ≡ joined (job f)
    → from + length (shapes (job_shapes f)) ≤ length text → Outlining s f n points from text from text 0 16 0
unfolding joined along_none
outlining_none s f n points from text r p h = record { along = along_none r p; going = going_none from text _ (sym (append-nil _)) h }

module _ {s : Bool} {f : List ℕ} {n : ℕ} {points : List ℤ} {from : ℕ} {text₀ : List ℕ} {behind : ℕ} {text : List ℕ} {i at start : ℕ} (x : Outlining s f n points from text₀ behind text i at start) where
  module _ (l : i < n) (h : Header) (e : h ≡ header_in s (from_bit f at)) where
    going_next : Going from (shapes (job_shapes f)) text₀ behind text (before h.begins i ∷ outline (here x.along l) ∷ rest_text (coming x.along l).rest ∷ [])
    unfolding joined
    going_next =
        let b : h.begins ≡ begins (from_bit f at) = ap (λ (h : Header). h.begins) e in
        going_same _
        (ap (λ (m : List Entry). due_text i m ++ []) (along_met x.along l)
        ∙ append-nil _ ∙ due_next i (begins (from_bit f at)) (here x.along l) (coming x.along l).rest (coming x.along l).begun ∙ rw (sym b) (simp append-nil))
        x.going

    pub outlining_before : behind + length (before h.begins i) ≤ length text
    outlining_before = going_room going_next

    module _ {begun : ℕ} {mid : List ℕ} (p : Put behind (before h.begins i) text begun mid) where
      pub outlining_room : begun + length (outline (here x.along l)) ≤ length mid
      outlining_room = going_room (going_more going_next p)

      pub outlining_more : {r : ℕ} {exit : List ℕ} → Put begun (outline (here x.along l)) mid r exit → (z : ℕ) → z ≡ size_of s h
          → Outlining s f n points from text₀ r exit (i + 1) (at + z) (start + 2 * h.count)
      unfolding along_more
      outlining_more q z g = record {
        along = along_more x.along l h e (start + 2 * h.count) refl z g;
        going = rw (add-one i) (going_more (going_more going_next p) q);
      }

  pub outlining_empty : n ≤ i → n ≡ 0 → Put from (shapes (job_shapes f)) text₀ behind text
  unfolding joined gathered
  outlining_empty h z =
      let o : i ≡ 0 = omega (arith, x.along.high) in
      going_all (going_same [] (ap₂ (λ (k : ℕ) (m : List Entry). due_text k m ++ []) o (along_all x.along h)) x.going)

  last : n ≤ i → (n ≡ 0 → ⊥) → Going from (shapes (job_shapes f)) text₀ behind text (left ∷ [])
  unfolding joined gathered
  last h z = going_same _ (go i (omega (arith, h)) (along_all x.along h)) x.going
    where
      go : (k : ℕ) → 0 < k → x.along.rest ≡ [] → due_text k x.along.rest ++ [] ≡ left ++ []
      go zero p e = absurd (omega arith)
      go (suc k) p e = ap (λ (m : List Entry). rest_text m ++ []) e

  pub outlining_left : n ≤ i → (n ≡ 0 → ⊥) → behind + length left ≤ length text
  outlining_left h z = going_room (last h z)

  pub outlining_all : n ≤ i → (n ≡ 0 → ⊥) → {r : ℕ} {exit : List ℕ} → Put behind left text r exit → Put from (shapes (job_shapes f)) text₀ r exit
  outlining_all h z q = going_all (going_more (last h z) q)
