-- What is wrong with a file's head, with a contour, and behind the last one.
use Rattle.std.proofs.Common.{◌≡◌, ℕ, ◌+◌, ◌<◌, ◌≤◌, Bool, true, false, not, ◌&&◌, eqb, ltb, List, [], ◌∷◌, ◌++◌, length, drop, sym, refl, ap, ◌∙◌, arith, pow_pos, ltb-false, le-ltb, lt-ltb, le-leb}
use borrow.Author.Tests.{lt-leb}
use mathlib.Core.Bool.{and-true}
use Rattle.replies.specs.Ladder.{first_of}
use Rattle.replies.proofs.LadderLaws.{clear, first_is, found}
use Rattle.replies.proofs.LadderLaws.First.{here, past, foot}
use Rattle.grid.specs.Limits.{most}
use Rattle.bits.specs.Bits.{value}
use Rattle.bits.specs.Widths.{width_of}
use Rattle.steps.specs.Bodies.{steps_in}
use Rattle.setfile.specs.Layouts.{some_set, end_damage, edition_of}
use Rattle.setfile.specs.Format.{begins, points_in}
use Rattle.setfile.specs.Edition2.{width_in}
use Rattle.setfile.specs.Editions.{layout, is_second}
use Rattle.setfile.specs.Reading.{long}
use Rattle.setfile.specs.inside.Reading.{refusals_where, head_refusals, either_refusals, header_size}

-- a contour of either edition, rung by rung
module _ (first : Bool) (n : ℕ) (l : List Bool) where
  pub no_header : (s : Bool) → length l < header_size s → 10 ≡ (layout s).wrong first n l
  no_header true h = first_is _ _ (here (lt-ltb _ _ h))
  no_header false h = first_is _ _ (here (lt-ltb _ _ h))

  pub no_shape : (s : Bool) → header_size s ≤ length l → (first && not (begins l)) ≡ true → 11 ≡ (layout s).wrong first n l
  no_shape true h b = first_is _ _ (past (le-ltb _ _ h) (here b))
  no_shape false h b = first_is _ _ (past (le-ltb _ _ h) (here b))

  module _ (begun : (first && not (begins l)) ≡ false) where
    pub too_many : (s : Bool) → header_size s ≤ length l → (s && ltb most (n + points_in l)) ≡ true → 2 ≡ (layout s).wrong first n l
    too_many true h m = first_is _ _ (past (le-ltb _ _ h) (past begun (here m)))
    too_many false h m = let o : ◌≡◌ {A = ℕ} 0 1 = cc in absurd (omega arith)

    pub no_points : (s : Bool) → header_size s ≤ length l → (s && ltb most (n + points_in l)) ≡ false → length l < (layout s).size l → 10 ≡ (layout s).wrong first n l
    no_points true h m e = first_is _ _ (past (le-ltb _ _ h) (past begun (past m (here (lt-ltb _ _ e)))))
    no_points false h m e = first_is _ _ (past (le-ltb _ _ h) (past begun (here (lt-ltb _ _ e))))

    pub no_fault : (s : Bool) → s ≡ false → header_size s ≤ length l → (layout s).size l ≤ length l → 0 ≡ (layout s).wrong first n l
    no_fault true z h e = let o : ◌≡◌ {A = ℕ} 0 1 = cc in absurd (omega arith)
    no_fault false z h e = first_is _ _ (past (le-ltb _ _ h) (past begun (past (le-ltb _ _ e) foot)))

    -- nothing is wrong but for the width
    pub by_width : (s : Bool) → s ≡ true → header_size s ≤ length l → (s && ltb most (n + points_in l)) ≡ false → (layout s).size l ≤ length l → (r : ℕ)
        → r ≡ first_of ((not (eqb (width_in l) (width_of (steps_in (points_in l) (width_in l) (drop 22 l)))), 15) ∷ []) → r ≡ (layout s).wrong first n l
    by_width false z h m e r q = let o : ◌≡◌ {A = ℕ} 0 1 = cc in absurd (omega arith)
    by_width true z h m e r q =
        let w : Bool = eqb (width_in l) (width_of (steps_in (points_in l) (width_in l) (drop 22 l))) in
        first_is _ _ (past (le-ltb _ _ h) (past begun (past m (past (le-ltb _ _ e) (found ((not w, 15) ∷ []) r q)))))

-- behind the last contour
set_means : (l : List Bool) → some_set l ≡ false → value l ≡ 0
unfolding some_set value
set_means [] e = refl
set_means (true ∷ l) e = let o : ◌≡◌ {A = ℕ} 0 1 = cc in absurd (omega arith)
set_means (false ∷ l) e = omega (arith, set_means l e)

means_set : (l : List Bool) → value l ≡ 0 → some_set l ≡ false
unfolding some_set value
means_set [] e = refl
means_set (true ∷ l) e = absurd (omega (arith, pow_pos (length l)))
means_set (false ∷ l) e = means_set l (omega arith)

nothing : value [] ≡ 0
unfolding value
nothing = refl

module _ (l : List Bool) where
  pub bytes_left : 8 ≤ length l → 10 ≡ end_damage l
  bytes_left h = first_is _ _ (here (le-leb 8 (length l) h))

  pub none_left : length l ≡ 0 → 0 ≡ end_damage l
  none_left e = go l e
    where
      go : (l : List Bool) → length l ≡ 0 → 0 ≡ end_damage l
      go [] e = first_is _ _ (past refl (past (means_set [] nothing) foot))
      go (b ∷ l) e = absurd (omega arith)

  module _ (h : length l < 8) where
    pub fill-set : (value l ≡ 0 → ⊥) → 16 ≡ end_damage l
    fill-set z = go (some_set l) refl
      where
        go : (b : Bool) → some_set l ≡ b → 16 ≡ end_damage l
        go true e = first_is _ _ (past (lt-leb 8 (length l) h) (here e))
        go false e = absurd (z (set_means l e))

    pub fill_unset : value l ≡ 0 → 0 ≡ end_damage l
    fill_unset z = first_is _ _ (past (lt-leb 8 (length l) h) (past (means_set l z) foot))

-- what is refused of a file by its length and its head
module _ (either : Bool) (f : List ℕ) where
  pub over_long : 65536 < length f → 2 ≡ first_of (refusals_where either f)
  over_long h = first_is _ _ (here (lt-ltb _ _ h))

  module _ (few : length f ≤ 65536) where
    pub head_short : length f < 2 → 10 ≡ first_of (refusals_where either f)
    head_short h = first_is _ _ (past (le-ltb _ _ few) (here (lt-ltb _ _ h)))

    module _ (two : 2 ≤ length f) (v : ℕ) (e : v ≡ edition_of f) where
      taken : (b : Bool) → (not (eqb v 1) && not (either && eqb v 2)) ≡ b → (not (eqb (edition_of f) 1) && not (either && is_second f)) ≡ b
      taken b h = ap (λ (v : ℕ). not (eqb v 1) && not (either && eqb v 2)) (sym e) ∙ h

      pub head_edition : (not (eqb v 1) && not (either && eqb v 2)) ≡ true → 9 ≡ first_of (refusals_where either f)
      head_edition z = first_is _ _ (past (le-ltb _ _ few) (past (le-ltb _ _ two) (here (taken true z))))

      pub head_right : (not (eqb v 1) && not (either && eqb v 2)) ≡ false → 0 ≡ first_of (refusals_where either f)
      head_right z = first_is _ _ (past (le-ltb _ _ few) (past (le-ltb _ _ two) (past (taken false z) foot)))

module _ (f : List ℕ) where
  pub only_first : first_of (refusals_where false f) ≡ first_of (head_refusals f)
  only_first = ap (λ (b : Bool). first_of (long (length f) ++ (ltb (length f) 2, 10) ∷ (b, 9) ∷ [])) (and-true (not (eqb (edition_of f) 1)))

  pub head_long : first_of (head_refusals f) ≡ 0 → 2 ≤ length f
  head_long e = ltb-false _ _ (clear (head_refusals f) tt e).1.0

  pub either_long : first_of (either_refusals f) ≡ 0 → 2 ≤ length f
  either_long e = ltb-false _ _ (clear (either_refusals f) tt e).1.0
