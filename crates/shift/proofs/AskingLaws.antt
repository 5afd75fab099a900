-- A point that is asked of a press's contours, one after the other.
use mathlib.Core.Path.{◌≡◌, refl, sym, ◌∙◌, ap}
use mathlib.Core.Bool.{Bool, true, false, not, ◌&&◌}
use mathlib.Core.List.{List, [], ◌∷◌, map}
use Prim.Native.Nat.{ℕ, ◌+◌, ◌≤◌, ◌<◌}
use lib.IntN.{ℤ}
use lib.ListN.{length}
use Rattle.grid.specs.declared.Point.{Point}
use Rattle.grid.specs.Points.{points}
use Rattle.path.specs.Locate.{location}
use Rattle.buffer.specs.Sets.{contour}
use Rattle.pool.specs.Rows.{Slot, span_of}
use Rattle.pool.specs.inside.Records.{press_at}
use Rattle.pool.proofs.RecordLaws.{own_mine, own_others, own_done}
use Rattle.sets.specs.Verdicts.{every}
use Rattle.sets.specs.Contains.{has}
use Rattle.sifting.specs.inside.Cleaning.{contour_at}
use Rattle.shift.specs.inside.Asking.{ruled_by, has_from, shape_from}

-- one contour decides, or leaves it to those behind it
one_of : (later : Bool) (p : Point) (c : List ℤ) (l : List (List ℤ)) → has_from later p (c ∷ l) ≡ (not (ruled_by later (location p (points c))) && has_from true p l)
unfolding has every
one_of false p c l = refl
one_of true p c l = refl

none_of : (later : Bool) (p : Point) → has_from later p [] ≡ later
unfolding has every
none_of false p = refl
none_of true p = refl

module _ (row : List ℤ) (records : List (List ℕ)) (n press : ℕ) (p : Point) (fit : n ≤ length records) where
  -- the contours from record i on decide, of which a first one was met or not
  pub record Deciding (met : Bool) (i : ℕ) : Type 0 where
    pub is : has_from false p (shape_from row records n press 0) ≡ has_from met p (shape_from row records n press i)

  pub deciding_all : Deciding false 0
  deciding_all = record { is = refl }

  module _ {met : Bool} {i : ℕ} (d : Deciding met i) where
    pub deciding_none : n ≤ i → met ≡ has_from false p (shape_from row records n press 0)
    deciding_none h =
        sym (d.is ∙ ap (λ (l : List Slot). has_from met p (map (λ (s : Slot). contour row (span_of s)) l)) (own_done records n i fit press h) ∙ none_of met p)

    module _ (h : i < n) where
      pub deciding_past : (press_at records i ≡ press → ⊥) → Deciding met (i + 1)
      deciding_past f = record { is = d.is ∙ ap (λ (l : List Slot). has_from met p (map (λ (s : Slot). contour row (span_of s)) l)) (own_others records n i fit press h f) }

      module _ (e : press_at records i ≡ press) where
        here : has_from false p (shape_from row records n press 0)
            ≡ (not (ruled_by met (location p (points (contour_at row records i)))) && has_from true p (shape_from row records n press (i + 1)))
        here =
            d.is ∙ ap (λ (l : List Slot). has_from met p (map (λ (s : Slot). contour row (span_of s)) l)) (own_mine records n i fit press h e)
            ∙ one_of met p (contour_at row records i) (shape_from row records n press (i + 1))

        pub deciding_out : ruled_by met (location p (points (contour_at row records i))) ≡ true → false ≡ has_from false p (shape_from row records n press 0)
        deciding_out t = sym (here ∙ ap (λ (b : Bool). not b && has_from true p (shape_from row records n press (i + 1))) t)

        pub deciding_more : ruled_by met (location p (points (contour_at row records i))) ≡ false → Deciding true (i + 1)
        deciding_more t = record { is = here ∙ ap (λ (b : Bool). not b && has_from true p (shape_from row records n press (i + 1))) t }
