-- The fates of contours: each is kept or dropped, and what holds of all holds of those that are kept.
use mathlib.Core.Path.{◌≡◌, refl, ◌∙◌, ap}
use mathlib.Core.Bool.{Bool}
use mathlib.Core.List.{List, [], ◌∷◌, map}
use Prim.Native.Nat.{ℕ, zero, suc, ◌+◌, ◌≤◌}
use native.Mathlib.Omega.{arith}
use lib.ListN.{length, length-append}
use Rattle.buffer.specs.Sets.{Even}
use Rattle.grid.specs.Limits.{narrow, all_on_grid}
use Rattle.setfile.specs.Entries.{Entry, contours_of}
use Rattle.setfile.specs.inside.Bytes.{coded_contour, coded_contours}
use Rattle.setfile.specs.Promises.{Each}
use Rattle.setfile.proofs.CodedLaws.{none_coded, coded_next}
use Rattle.salvage.specs.Fates.{open_behind, fates, kept, dropped}

pub fates-length : (b : Bool) (l : List Entry) → length (fates b l) ≡ length l
unfolding fates
fates-length b [] = refl
fates-length b (e ∷ l) = ap suc (fates-length (open_behind e.begins (all_on_grid narrow e.points) b) l)

pub kept_or_dropped : {A : Type 0} (k : ℕ) (fs : List ℕ) (l : List A) → length fs ≡ length l → length (kept fs l) + length (dropped k fs) ≡ length l
unfolding kept dropped
kept_or_dropped k [] [] e = refl
kept_or_dropped k [] (a ∷ l) e = absurd (omega arith)
kept_or_dropped k (r ∷ fs) [] e = absurd (omega arith)
kept_or_dropped k (zero ∷ fs) (a ∷ l) e = omega (arith, kept_or_dropped (suc k) fs l (omega arith))
kept_or_dropped k (suc r ∷ fs) (a ∷ l) e = omega (arith, kept_or_dropped (suc k) fs l (omega arith))

pub kept_each : {A B : Type 0} (f : A → B) (P : B → Type 0) (fs : List ℕ) (l : List A) → Each P (map f l) → Each P (map f (kept fs l))
unfolding kept
kept_each f P [] l h = tt
kept_each f P (r ∷ fs) [] h = tt
kept_each f P (zero ∷ fs) (a ∷ l) h = (h.0, kept_each f P fs l h.1)
kept_each f P (suc r ∷ fs) (a ∷ l) h = kept_each f P fs l h.1

pub kept_even : (fs : List ℕ) (l : List Entry) → Even (contours_of l) → Even (contours_of (kept fs l))
unfolding kept
kept_even [] l h = tt
kept_even (r ∷ fs) [] h = tt
kept_even (zero ∷ fs) (e ∷ l) h = (h.0, kept_even fs l h.1)
kept_even (suc r ∷ fs) (e ∷ l) h = kept_even fs l h.1

one_longer : (e : Entry) (l : List Entry) → length (coded_contours (e ∷ l)) ≡ length (coded_contour e) + length (coded_contours l)
one_longer e l = ap length (coded_next e l) ∙ length-append (coded_contour e) (coded_contours l)

pub kept_shorter : (fs : List ℕ) (l : List Entry) → length (coded_contours (kept fs l)) ≤ length (coded_contours l)
unfolding kept
kept_shorter [] l = omega (arith, ap length none_coded)
kept_shorter (r ∷ fs) [] = omega arith
kept_shorter (zero ∷ fs) (e ∷ l) =
    omega (arith, kept_shorter fs l, one_longer e l, one_longer e (kept fs l))
kept_shorter (suc r ∷ fs) (e ∷ l) = omega (arith, kept_shorter fs l, one_longer e l)
