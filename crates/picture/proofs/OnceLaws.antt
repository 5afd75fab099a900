-- The contours of the shapes of a file are its contours, in their order.
use mathlib.Core.Path.{◌≡◌, refl, sym, ◌∙◌, ap, subst}
use mathlib.Core.Bool.{Bool, true}
use mathlib.Core.List.{List, [], ◌∷◌, ◌++◌, map, map-append}
use Prim.Native.Nat.{ℕ, zero, suc}
use native.Mathlib.Omega.{arith}
use lib.IntN.{ℤ}
use Rattle.buffer.specs.Sets.{joined}
use Rattle.setfile.specs.Entries.{Entry, contours_of, Parsed, read_contours}
use Rattle.setfile.specs.Entries.Parsed.{carries, damaged}
use Rattle.setfile.specs.Layouts.{contours_in, promised}
use Rattle.setfile.specs.Editions.{layout, is_second, head_damage, parsed}
use Rattle.setfile.specs.Promises.{Started}
use Rattle.setfile.specs.inside.Reading.{from_bit}
use Rattle.setfile.proofs.LayoutLaws.{next_read, none_read}
use Rattle.setfile.proofs.ContourLaws.{front_begins, right}
use Rattle.setfile.proofs.EitherLaws.{parsed_faulty, parsed_on}
use Rattle.setfile.proofs.GatherLaws.{entries_gathered, contours_entries}
use Rattle.report.specs.Listing.{job}
use Rattle.picture.specs.Picture.{job_shapes}

-- the first contour that is read begins a shape
read_started : (s : Bool) (k : ℕ) (b : List Bool) (l : List Entry) → contours_in (layout s) k true 0 b ≡ carries l → Started l
read_started s zero b l h = rw (none_read (layout s) true 0 b l h).1 tt
read_started s (suc k) b l h =
    let x = next_read (layout s) true 0 b l k h in
    rw x.is (front_begins s b ∙ (right s true 0 b x.right).begun refl)

job_started : (f : List ℕ) → Started (read_contours (parsed f))
job_started f = go (head_damage f) refl
  where
    behind : (w : Parsed) → contours_in (layout (is_second f)) (promised f) true 0 (from_bit f 16) ≡ w → Started (read_contours w)
    behind (carries l) e = read_started (is_second f) (promised f) (from_bit f 16) l e
    behind (damaged r) e = tt

    go : (r : ℕ) → r ≡ head_damage f → Started (read_contours (parsed f))
    go zero e = subst (λ (w : Parsed). Started (read_contours w)) (sym (parsed_on (is_second f) f refl e)) (behind _ refl)
    go (suc r) e = rw (parsed_faulty f (suc r) e (λ z. omega arith)) tt

pub shapes_joined : (f : List ℕ) → joined (job_shapes f) ≡ job f
shapes_joined f = sym (contours_entries (job_shapes f)) ∙ ap contours_of (entries_gathered (read_contours (parsed f)) (job_started f))

-- what is made of each contour, shape by shape, is made of them one by one
pub map_joined : {A : Type 0} (made : List ℤ → A) (l : List (List (List ℤ))) → joined (map (map made) l) ≡ map made (joined l)
unfolding joined
map_joined made [] = refl
map_joined {A} made (s ∷ l) = ap (λ (m : List A). map made s ++ m) (map_joined made l) ∙ sym (map-append made s (joined l))
