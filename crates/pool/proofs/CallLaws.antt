-- The calls on rows that are surveyed first.
use mathlib.Core.Path.{◌≡◌, refl, sym, ◌∙◌, ap, ap₂}
use mathlib.Core.Bool.{Bool, true, false, not, ◌&&◌}
use mathlib.Core.List.{List, ◌∷◌, ◌++◌, map}
use Prim.Native.Nat.{ℕ, zero, suc, ◌+◌, ◌*◌, ◌-◌, ◌%◌, ◌≤◌, ◌<◌, max}
use native.Mathlib.Omega.{arith}
use lib.Dec.{leb, ltb}
use lib.ListN.{length, length-map}
use lib.IntN.{ℤ}
use borrow.Author.Tests.{not-false, leb-true, eqb-false}
use Rattle.integers.proofs.Logic.{and_left, and_right}
use Rattle.replies.specs.Ladder.{Rung, first_of, room}
use Rattle.replies.proofs.LadderLaws.{First, first_is, clear, onward}
use Rattle.replies.proofs.LadderLaws.First.{here, past, foot}
use Rattle.grid.specs.Limits.{limit}
use Rattle.grid.specs.Domain.{count}
use Rattle.buffer.specs.Refusals.{set}
use Rattle.pool.specs.Lists.{Entry, entry, capacity, reserve, holding, held, own, other, has, added, removed}
use Rattle.pool.specs.Calls.{full, of_adding, none}
use Rattle.pool.specs.Calls.Call.{add, remove}
use Rattle.pool.specs.Rows.{slot, Lent, lent, laid_out, contents, sound}
use Rattle.pool.specs.Outcome.{Outcome, leaving, outcome, number, enough, rungs, refused, called}
use Rattle.pool.specs.inside.Records.{Holds, Newest}
use Rattle.pool.specs.inside.Surveys.{Surveyed, share_of, grown}
use Rattle.pool.specs.declared.inner.survey.Survey.{Survey}
use Rattle.pool.proofs.ListLaws.{held_both, total_held, length_held, none_own}
use Rattle.pool.proofs.FairLaws.{held_all, fits}
use Rattle.pool.proofs.LayoutLaws.{contours_are, some_newest, none_newest}
use Rattle.pool.proofs.SoundLaws.{there, sound_lies, sound_fair}

-- down the ladder of adding, with the part that every set has behind
module _ (contour : List ℤ) (sound : Bool) (mine others : ℕ) (enough : Bool) where
  abbrev over : Bool
  over = ltb (capacity - max others reserve) (mine + holding (count contour))

  module _ (c : first_of (set limit contour sound) ≡ 0) where
    on : (r : ℕ) → First (full mine others (count contour) ++ room enough) r → r ≡ first_of (of_adding contour sound mine others enough)
    on r f = first_is _ r (onward (set limit contour sound) (full mine others (count contour) ++ room enough) r tt c f)

    pub asked_full : over ≡ true → 17 ≡ first_of (of_adding contour sound mine others enough)
    asked_full e = on 17 (here e)

    pub asked_room : over ≡ false → not enough ≡ true → 5 ≡ first_of (of_adding contour sound mine others enough)
    asked_room e f = on 5 (past e (here f))

    pub asked_done : over ≡ false → not enough ≡ false → 0 ≡ first_of (of_adding contour sound mine others enough)
    asked_done e f = on 0 (past e (past f foot))

-- an answer, by the number of the first refusal
refused_is : (r k : ℕ) (l : List Entry) (s : Lent) → r ≡ k → (r ≡ 0 → ⊥) → ◌≡◌ {A = Outcome} (record { reply = r; pool = s }) (outcome k l s)
refused_is r k l s e n = go r n ∙ ap (λ (i : ℕ). outcome i l s) e
  where
    go : (i : ℕ) → (i ≡ 0 → ⊥) → ◌≡◌ {A = Outcome} (record { reply = i; pool = s }) (outcome i l s)
    go zero f = absurd (f refl)
    go (suc i) f = refl

done_is : (k : ℕ) (l : List Entry) (s t : Lent) → k ≡ 0 → t ≡ laid_out l s → ◌≡◌ {A = Outcome} (record { reply = 0; pool = t }) (outcome k l s)
done_is k l s t e f = ap (λ (u : Lent). record { reply = 0; pool = u }) f ∙ ap (λ (i : ℕ). outcome i l s) (sym e)

-- an unsound pool is refused whatever it seems to hold
unsound_alone : (a b : Bool) (k l : List Rung) → first_of ((a, 1) ∷ (b, 2) ∷ (true, 6) ∷ k) ≡ first_of ((a, 1) ∷ (b, 2) ∷ (true, 6) ∷ l)
unfolding first_of
unsound_alone true b k l = refl
unsound_alone false true k l = refl
unsound_alone false false k l = refl

module _ (s : Lent) (f : Survey) (u : Surveyed s f) where
  is_sound : f.sound ≡ true → sound s ≡ true
  is_sound e = sym u.sound_is ∙ e

  pub holds : f.sound ≡ true → Holds s f.points
  holds e = record { lies = sound_lies s (is_sound e); counts = u.points_are e }

  pub share_is : (b : Bool) → f.sound ≡ true → share_of b f ≡ held (own (number b) (contents s))
  share_is false e = u.first_holds e
  share_is true e = u.second_holds e

  others_are : (b : Bool) → f.sound ≡ true → share_of (not b) f ≡ held (own (other (number b)) (contents s))
  others_are false e = u.second_holds e
  others_are true e = u.first_holds e

  pub both_held : f.sound ≡ true → f.first + f.second ≡ held (contents s)
  both_held e = omega (arith, u.first_holds e, u.second_holds e, held_both (contents s) (sound_fair s (is_sound e)).pressed)

  pub all_held : f.sound ≡ true → held (contents s) ≤ capacity
  all_held e = held_all (contents s) (sound_fair s (is_sound e))

  shares_both : (b : Bool) → share_of b f + share_of (not b) f ≡ f.first + f.second
  shares_both false = refl
  shares_both true = omega arith

  pub shares_small : (b : Bool) → f.sound ≡ true → (share_of b f ≤ capacity) × (share_of (not b) f ≤ capacity)
  shares_small b e = (omega (arith, shares_both b, both_held e, all_held e), omega (arith, shares_both b, both_held e, all_held e))

  module _ (b : Bool) (tool : ℕ) (contour : List ℤ) where
    abbrev as_found : List Rung
    as_found = of_adding contour f.sound (share_of b f) (share_of (not b) f) (enough s)

    abbrev mine_now : ℕ
    mine_now = held (own (number b) (contents s))

    abbrev others_now : ℕ
    others_now = held (own (other (number b)) (contents s))

    asked_is : first_of as_found ≡ refused (number b) (add tool contour) s
    asked_is = go f.sound refl
      where
        go : (t : Bool) → f.sound ≡ t → first_of as_found ≡ first_of (of_adding contour (sound s) mine_now others_now (enough s))
        go true e =
            ap₂ (λ (m o : ℕ). first_of (of_adding contour f.sound m o (enough s))) (share_is b e) (others_are b e)
            ∙ ap (λ (t : Bool). first_of (of_adding contour t mine_now others_now (enough s))) u.sound_is
        go false e =
            ap (λ (t : Bool). first_of (of_adding contour t (share_of b f) (share_of (not b) f) (enough s))) e
            ∙ unsound_alone _ _ _ _
            ∙ ap (λ (t : Bool). first_of (of_adding contour t mine_now others_now (enough s))) (sym e ∙ u.sound_is)

    -- a contour that is not refused has its place
    module _ (z : first_of as_found ≡ 0) where
      sound_then : f.sound ≡ true
      sound_then = not-false f.sound (clear as_found tt z).1.1.0

      not_over : share_of b f + holding (count contour) ≤ capacity - max (share_of (not b) f) reserve
      not_over = fits contour f.sound (share_of b f) (share_of (not b) f) (enough s) z

      points_fit : 2 * f.points + length contour ≤ 2 * capacity
      points_fit =
          omega (
            arith,
            eqb-false (length contour % 2) 1 (clear as_found tt z).0,
            not_over,
            shares_both b,
            both_held sound_then,
            all_held sound_then,
            u.points_are sound_then,
            total_held (contents s),
          )

      records_fit : length (contents s) < capacity
      records_fit = omega (arith, not_over, shares_both b, both_held sound_then, all_held sound_then, length_held (contents s))

-- the records of a call that adds
pub grown_not : (r n : ℕ) → (r ≡ 0 → ⊥) → grown r n ≡ n
grown_not zero n h = absurd (h refl)
grown_not (suc r) n h = refl

pub grown_one : (r n : ℕ) → r ≡ 0 → grown r n ≡ n + 1
grown_one zero n h = refl
grown_one (suc r) n h = absurd (omega arith)

-- what adding asks of lent rows, as far as the code has come
pub record Asked (points : List ℤ) (records : List (List ℕ)) (n : ℕ) (b : Bool) (contour : List ℤ) (f : Survey) (r : ℕ) : Type 0 where
  pub survey : Surveyed (lent points records n) f
  pub m : ℕ
  pub o : ℕ
  pub mine : m ≡ share_of b f
  pub others : o ≡ share_of (not b) f
  pub reply : r ≡ first_of (of_adding contour f.sound m o (leb (2 * capacity) (length points) && leb capacity (length records)))

pub asked :
    {points : List ℤ} {records : List (List ℕ)} {n : ℕ} {b : Bool} {contour : List ℤ} {f : Survey} {r m o : ℕ} → Surveyed (lent points records n) f
    → m ≡ share_of b f → o ≡ share_of (not b) f
    → r ≡ first_of (of_adding contour f.sound m o (leb (2 * capacity) (length points) && leb capacity (length records))) → Asked points records n b contour f r
asked u e g h = record { survey = u; m = _; o = _; mine = e; others = g; reply = h }

module _ {points : List ℤ} {records : List (List ℕ)} {n : ℕ} {b : Bool} {contour : List ℤ} {f : Survey} {r : ℕ} (a : Asked points records n b contour f r) (tool : ℕ) where
  abbrev pool : Lent
  pool = lent points records n

  asked_of : r ≡ first_of (of_adding contour f.sound (share_of b f) (share_of (not b) f) (enough pool))
  asked_of =
      a.reply
      ∙ ap₂ (λ (x y : ℕ). first_of (of_adding contour f.sound x y (leb (2 * capacity) (length points) && leb capacity (length records)))) a.mine a.others
      ∙ ap (λ (k : ℕ). first_of (of_adding contour f.sound (share_of b f) (share_of (not b) f) (leb (2 * capacity) (length points) && leb capacity k))) (sym (length-map records slot))

  pub add_refused : (r ≡ 0 → ⊥) → leaving r points records n ≡ called (number b) (add tool contour) pool
  unfolding called
  add_refused z = refused_is r _ _ pool (asked_of ∙ asked_is pool f a.survey b tool contour) z

  pub add_not : (r ≡ 0 → ⊥) → leaving r points records (grown r n) ≡ called (number b) (add tool contour) pool
  add_not z = ap (leaving r points records) (grown_not r n z) ∙ add_refused z

  module _ (z : r ≡ 0) where
    none_asked : first_of (of_adding contour f.sound (share_of b f) (share_of (not b) f) (enough pool)) ≡ 0
    none_asked = sym asked_of ∙ z

    long_enough : (2 * capacity ≤ length points) × (capacity ≤ length records)
    long_enough =
        let e : enough pool ≡ true =
        not-false _ (clear (of_adding contour f.sound (share_of b f) (share_of (not b) f) (enough pool)) tt none_asked).1.1.1.1.1.0 in
        let k : capacity ≤ length (map slot records) = leb-true _ _ (and_right (leb (2 * capacity) (length points)) _ e) in
        (leb-true _ _ (and_left (leb (2 * capacity) (length points)) _ e), omega (arith, k, length-map records slot))

    pub add_holds : Holds pool f.points
    add_holds = holds pool f a.survey (sound_then pool f a.survey b tool contour none_asked)

    pub add_fits : (2 * f.points + length contour ≤ length points) × (n < length records)
    add_fits =
        let c = contours_are (contents pool) points records n add_holds.lies in
        let l = long_enough in
        (omega (arith, points_fit pool f a.survey b tool contour none_asked, l.0), omega (arith, records_fit pool f a.survey b tool contour none_asked, l.1, c))

    pub add_done : (press : ℕ) (p : List ℤ) (q : List (List ℕ)) → press ≡ number b → lent p q (n + 1) ≡ laid_out (added (entry press tool contour) (contents pool)) pool
        → leaving 0 p q (n + 1) ≡ called (number b) (add tool contour) pool
    unfolding called
    add_done press p q g h =
        done_is _ _ pool _ (sym (asked_is pool f a.survey b tool contour) ∙ none_asked)
        (h ∙ ap (λ (i : ℕ). laid_out (added (entry i tool contour) (contents pool)) pool) g)

-- what an outcome answers
pub outcome_reply : (s : Lent) (k : List Entry) (r : ℕ) → (outcome r k s).reply ≡ r
outcome_reply s k zero = refl
outcome_reply s k (suc r) = refl

pub added_there : (p tool : ℕ) (contour : List ℤ) (s : Lent) (r : ℕ) (t : Lent) → ◌≡◌ {A = Outcome} (record { reply = r; pool = t }) (called p (add tool contour) s) → r ≡ 0 → s.contours ≤ length s.records
unfolding called
added_there p tool contour s r t e z =
    let l = rungs p (add tool contour) s in
    there s (not-false (sound s) (clear l tt (sym (sym z ∙ ap (λ (o : Outcome). o.reply) e ∙ outcome_reply s _ (first_of l)))).1.1.0)

-- the records in use are there, where a survey found the rows sound
pub records_there : (points : List ℤ) (records : List (List ℕ)) (n : ℕ) (f : Survey) → Surveyed (lent points records n) f → f.sound ≡ true → n ≤ length records
records_there points records n f u e = omega (arith, there (lent points records n) (is_sound _ f u e), length-map records slot)

-- removing, step by step
module _ (points : List ℤ) (records : List (List ℕ)) (n : ℕ) (b : Bool) (f : Survey) (u : Surveyed (lent points records n) f) where
  abbrev rows : Lent
  rows = lent points records n

  pub remove_unsound : f.sound ≡ false → leaving 6 points records n ≡ called (number b) remove rows
  unfolding called
  remove_unsound e = refused_is 6 _ _ rows (first_is _ 6 (here (ap not (sym u.sound_is ∙ e)))) (λ z. omega arith)

  module _ (e : f.sound ≡ true) where
    pub remove_holds : Holds rows f.points
    remove_holds = holds rows f u e

    module _ (press r : ℕ) (g : press ≡ number b) (w : Newest press n records r) where
      own_none : (t : Bool) → has press (contents rows) ≡ t → none (own (number b) (contents rows)) ≡ not t
      own_none t h = none_own (number b) (contents rows) ∙ ap not (ap (λ (i : ℕ). has i (contents rows)) (sym g) ∙ h)

      pub remove_none : r ≡ 0 → leaving 18 points records n ≡ called (number b) remove rows
      unfolding called
      remove_none z =
          let h = none_newest (contents rows) points records n remove_holds.lies press (λ j k x. w.later j (omega arith) k x) in
          refused_is 18 _ _ rows (first_is _ 18 (past (ap not (sym u.sound_is ∙ e)) (here (own_none false h)))) (λ q. omega arith)

      pub remove_done : (r ≡ 0 → ⊥) → (p : List ℤ) (q : List (List ℕ)) → lent p q (n - 1) ≡ laid_out (removed press (contents rows)) rows
          → leaving 0 p q (n - 1) ≡ called (number b) remove rows
      unfolding called
      remove_done z p q k =
          let h = some_newest (contents rows) points records n remove_holds.lies press (r - 1) (omega (arith, w.within)) (w.there (omega arith)) in
          done_is _ _ rows _ (sym (first_is _ 0 (past (ap not (sym u.sound_is ∙ e)) (past (own_none true h) foot))))
          (k ∙ ap (λ (i : ℕ). laid_out (removed i (contents rows)) rows) g)
