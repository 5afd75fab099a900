-- Steps read off a row by the bits of its numbers.
use mathlib.Core.Path.{◌≡◌, refl, sym, ◌∙◌, ap, subst}
use mathlib.Core.Bool.{Bool, true, false}
use mathlib.Core.List.{List}
use Prim.Native.Nat.{ℕ, zero, suc, ◌≤◌, ◌<◌}
use native.Mathlib.Omega.{arith}
use lib.Dec.{leb}
use lib.ListN.{length}
use lib.IntN.{ℤ, pos, negsuc}
use mir.Syntax.{w32}
use mir.Val.{SFits, of_z, to_z}
use mir.Facts.{to_z-of_z, to_z_pos}
use borrow.Author.Tests.{leb-true}
use Rattle.shift.specs.Steps.{Step, at, cleaning, if_so, whole, of_kind}
use Rattle.shift.specs.Steps.Read.{a_step, no_step}
use Rattle.std.specs.Prelude.{Option, None}
use Rattle.ring.specs.declared.Rule.{Rule}
use Rattle.shift.specs.declared.inner.reading.Head.{Head}
use Rattle.shift.specs.declared.inner.reading.Kind.TheVariants.{Cleans}
use Rattle.shift.specs.inside.Heads.{Bits, head, head_if, step_of, HeadsAs, Heads, WithPress}
use Rattle.shift.specs.inside.Heads.WithPress.{to-add, to-remove, to-ask}

-- a number by its bits: below half of them it is as large
module _ (z : ℤ) (f : SFits w32 z) (n : ℕ) (e : n ≡ of_z w32 z) where
  pub plain : n ≤ 2147483647 → z ≡ pos n
  plain h = sym (to_z-of_z f) ∙ ap (λ (k : ℕ). to_z w32 k) (sym e) ∙ to_z_pos w32 (omega arith)

-- a kind beyond the five
beyond_five : (z : ℤ) (row : List ℤ) (n : ℕ) → n ≡ of_z w32 z → 4 < n → of_kind z row ≡ no_step
beyond_five (pos zero) row n e h = absurd (omega arith)
beyond_five (pos (suc zero)) row n e h = absurd (omega arith)
beyond_five (pos (suc (suc zero))) row n e h = absurd (omega arith)
beyond_five (pos (suc (suc (suc zero)))) row n e h = absurd (omega arith)
beyond_five (pos (suc (suc (suc (suc zero))))) row n e h = absurd (omega arith)
beyond_five (pos (suc (suc (suc (suc (suc k)))))) row n e h = refl
beyond_five (negsuc k) row n e h = refl

module _ (kind : ℤ) (row : List ℤ) where
  pub heads_none : of_kind kind row ≡ no_step → (r : Option Head) → r ≡ None → HeadsAs kind row r
  heads_none e r f = subst (HeadsAs kind row) (sym f) (record { is = e; size_is = refl; there = omega arith })

  -- a step whose numbers are sound
  pub heads_whole : (s : Step) (h : Head) → of_kind kind row ≡ whole true s row → step_of h.kind row ≡ s → h.size ≡ s.size
      → (r : Option Head) → r ≡ head_if (leb h.size (length row)) h → HeadsAs kind row r
  heads_whole s h e d g r f = go (leb h.size (length row)) refl
    where
      is_if : (b : Bool) → leb h.size (length row) ≡ b → of_kind kind row ≡ if_so b s
      is_if b t = e ∙ ap (λ (n : ℕ). if_so (leb n (length row)) s) (sym g) ∙ ap (λ (c : Bool). if_so c s) t

      go : (b : Bool) → leb h.size (length row) ≡ b → HeadsAs kind row r
      go true t =
          subst (HeadsAs kind row) (sym (f ∙ ap (λ (c : Bool). head_if c h) t))
          (record { is = is_if true t ∙ ap a_step (sym d); size_is = g ∙ ap (λ (x : Step). x.size) (sym d); there = leb-true _ _ t })
      go false t = heads_none (is_if false t) r (f ∙ ap (λ (c : Bool). head_if c h) t)

-- the kinds with a press are the others
pub with_press : (k : ℕ) → k ≤ 4 → (k ≡ 2 → ⊥) → (k ≡ 3 → ⊥) → WithPress k
with_press zero h f g = to-add
with_press (suc zero) h f g = to-remove
with_press (suc (suc zero)) h f g = absurd (f refl)
with_press (suc (suc (suc zero))) h f g = absurd (g refl)
with_press (suc (suc (suc (suc zero)))) h f g = to-ask
with_press (suc (suc (suc (suc (suc k))))) h f g = absurd (omega arith)

-- every kind
module _ (row : List ℤ) (n : ℕ) (x : Bits row 0 n) where
  pub kind_beyond : 4 < n → (r : Option Head) → r ≡ None → Heads row r
  kind_beyond h = heads_none (at row 0) row (beyond_five (at row 0) row n x.is h)

  pub kind_is : n ≤ 4 → at row 0 ≡ pos n
  kind_is h = plain (at row 0) x.fits n x.is (omega arith)

  pub cleans_whole : (rule : Rule) (k : ℕ) → of_kind (pos k) row ≡ whole true (cleaning rule row) row → n ≤ 4 → n ≡ k → (r : Option Head) → r ≡ head_if (leb 3 (length row)) (head (Cleans rule) 3) → Heads row r
  cleans_whole rule k w h q =
      heads_whole (at row 0) row (cleaning rule row) (head (Cleans rule) 3) (ap (λ (z : ℤ). of_kind z row) (kind_is h ∙ ap pos q) ∙ w) refl refl
