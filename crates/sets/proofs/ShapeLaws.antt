-- A shape, contour by contour, and what it adds to the shapes that are written.
use Rattle.std.proofs.Common.{◌≡◌, ℕ, zero, suc, ◌+◌, ◌<◌, ◌≤◌, Bool, true, false, T, List, [], ◌∷◌, length, get_or, drop, ℤ, sym, refl, ap, ◌∙◌, subst, add-one, drop_of_length-le, drop-cons}
use Rattle.grid.specs.Domain.{count}
use Rattle.ring.specs.declared.Rule.{Rule}
use Rattle.buffer.specs.Spans.{span, spans}
use Rattle.buffer.specs.Sets.{contour, contours}
use Rattle.buffer.specs.inside.Ranges.{Names}
use Rattle.sets.specs.declared.inner.contour.Progress.{Progress}
use Rattle.sets.specs.declared.inner.contour.Tried.{Tried}
use Rattle.sets.specs.Fates.{Fate, fate}
use Rattle.sets.specs.Fates.Fate.{stays, gone}
use Rattle.sets.specs.inside.Contour.{Scratch, Reached, reached, placing, stayed, Placeable, Behind}
use Rattle.sets.specs.inside.Shape.{run, Tested, tested, outline, run_shape, Room, Named}
use Rattle.sets.specs.inside.Shapes.{grouped}
use Rattle.sets.proofs.BehindLaws.{room_rest, named_contour, part_placeable}

-- a range of another row that is the same names the same
pub names_moved : (p : List ℤ) (ranges others : List (List ℕ)) (k i : ℕ) → get_or others i [] ≡ get_or ranges k [] → i < length others → Names p ranges k → Names p others i
names_moved p ranges others k i e h n = record { there = h; forward = rw e n.forward; fits = rw e n.fits }

-- a shape that stands so far, and whose contours from number i on are left
abbrev from_here : ℕ → Rule → List (List ℤ) → Reached → Tested
from_here zero rule l s = run_shape rule l s
from_here (suc i) rule l s = tested true (run rule l s)

from_here_none : (i : ℕ) (rule : Rule) (s : Reached) → tested true s ≡ from_here i rule [] s
unfolding run run_shape
from_here_none zero rule s = refl
from_here_none (suc i) rule s = refl

-- it falls with its first contour
first_falls : (rule : Rule) (c : List ℤ) (l : List (List ℤ)) (s t : Reached) → t ≡ placing (fate rule c) s → false ≡ stayed (fate rule c) → tested false t ≡ run_shape rule (c ∷ l) s
unfolding run_shape
first_falls rule c l s t e f = go (fate rule c) e f
  where
    go : (w : Fate) → t ≡ placing w s → false ≡ stayed w → tested false t ≡ outline w rule l s
    go (stays d k) e f = absurd (subst T (sym f) tt)
    go (gone k) e f = ap (tested false) e

-- and stands with a later one, and with a first one that stays
from_here_more : (rule : Rule) (c : List ℤ) (l : List (List ℤ)) (s t : Reached) (i : ℕ) → t ≡ placing (fate rule c) s → (i ≡ 0 → true ≡ stayed (fate rule c)) → from_here (suc i) rule l t ≡ from_here i rule (c ∷ l) s
unfolding run run_shape
from_here_more rule c l s t zero e f = go (fate rule c) e (f refl)
  where
    go : (w : Fate) → t ≡ placing w s → true ≡ stayed w → from_here 1 rule l t ≡ outline w rule l s
    go (stays d k) e f = ap (λ (u : Reached). tested true (run rule l u)) e
    go (gone k) e f = absurd (subst T f tt)
from_here_more rule c l s t (suc i) e f = ap (λ (u : Reached). tested true (run rule l u)) e

-- the contours of the ranges from i on are left
pub record Laying (rule : Rule) (p : List ℤ) (ranges : List (List ℕ)) (at₀ : Progress) (out₀ : List ℤ) (records₀ : List (List ℕ)) (at : Progress) (out : List ℤ) (records : List (List ℕ)) (i : ℕ) : Type 0 where
  pub room : Room (contours p (spans (drop i ranges))) at out records
  pub is : from_here i rule (contours p (spans (drop i ranges))) (reached at out records) ≡ run_shape rule (contours p (spans ranges)) (reached at₀ out₀ records₀)

module _ {rule : Rule} {p : List ℤ} {ranges : List (List ℕ)} {at₀ : Progress} {out₀ : List ℤ} {records₀ : List (List ℕ)} {at : Progress} {out : List ℤ} {records : List (List ℕ)} {i : ℕ}
    (x : Laying rule p ranges at₀ out₀ records₀ at out records i) where
  module _ (n : Named p ranges) (there : i < length ranges) where
    next_is : contours p (spans (drop i ranges)) ≡ contour p (span (get_or ranges i [])) ∷ contours p (spans (drop (suc i) ranges))
    next_is = ap (λ (l : List (List ℕ)). contours p (spans l)) (drop-cons ranges i [] there)

    pub laying_placeable : (next prev mark : List ℕ) → Scratch (count p) next prev mark → Placeable (contour p (span (get_or ranges i []))) at next prev mark out records
    laying_placeable next prev mark s = part_placeable p ranges n i there at next prev mark out records (contours p (spans (drop (suc i) ranges))) s (rw next_is at x.room)

    module _ (c : List ℤ) (g : c ≡ contour p (span (get_or ranges i []))) (t : Tried) (out' : List ℤ) (records' : List (List ℕ)) (b : Behind rule c (reached at out records) t out' records') where
      placed : reached t.progress out' records' ≡ placing (fate rule (contour p (span (get_or ranges i [])))) (reached at out records)
      placed = b.is ∙ ap (λ (d : List ℤ). placing (fate rule d) (reached at out records)) g

      stood : t.stays ≡ stayed (fate rule (contour p (span (get_or ranges i []))))
      stood = b.stays ∙ ap (λ (d : List ℤ). stayed (fate rule d)) g

      pub laying_falls : i ≡ 0 → t.stays ≡ false → tested t.stays (reached t.progress out' records') ≡ run_shape rule (contours p (spans ranges)) (reached at₀ out₀ records₀)
      laying_falls z f =
          ap (λ (b : Bool). tested b (reached t.progress out' records')) f
          ∙ first_falls rule _ (contours p (spans (drop (suc i) ranges))) (reached at out records) _ placed (sym f ∙ stood)
          ∙ ap (λ (l : List (List ℤ)). run_shape rule l (reached at out records)) (sym next_is)
          ∙ ap (λ (j : ℕ). from_here j rule (contours p (spans (drop i ranges))) (reached at out records)) (sym z) ∙ x.is

      pub laying_more : (i ≡ 0 → t.stays ≡ true) → length out' ≡ length out → length records' ≡ length records → Laying rule p ranges at₀ out₀ records₀ t.progress out' records' (i + 1)
      laying_more f u v = record {
        room = rw (add-one i) (room_rest rule _ _ at out records (rw next_is at x.room) (named_contour p ranges n i there) t.progress out' records' placed u v);
        is = rw (add-one i)
            (from_here_more rule _ (contours p (spans (drop (suc i) ranges))) (reached at out records) _ i placed (λ z. sym (f z) ∙ stood)
            ∙ ap (λ (l : List (List ℤ)). from_here i rule l (reached at out records)) (sym next_is) ∙ x.is);
      }

  pub laying_all : length ranges ≤ i → tested true (reached at out records) ≡ run_shape rule (contours p (spans ranges)) (reached at₀ out₀ records₀)
  laying_all h =
      from_here_none i rule (reached at out records)
      ∙ ap (λ (l : List (List ℕ)). from_here i rule (contours p (spans l)) (reached at out records)) (sym (drop_of_length-le ranges {i = i} h))
      ∙ x.is

pub same_grouped : {a b : ℕ} {r t : Reached} {k l : List (List ℕ)} → a ≡ b → r ≡ t → k ≡ l → grouped a r k ≡ grouped b t l
same_grouped e f g = cc
