-- What holds of every contour that is cleaned, by any rule; where the area is spoken of, by any rule whose removed vertices have cross 0.
use mathlib.Core.Path.{◌≡◌, refl, sym, ◌∙◌, ap}
use mathlib.Core.Logic.{◌⊎◌, inl, inr, ⊎_elim}
use mathlib.Core.Bool.{Bool, false}
use mathlib.Core.List.{List, [], ◌∷◌}
use Prim.Native.Nat.{ℕ, zero, suc, ◌+◌, ◌-◌, ◌*◌, ◌<◌, ◌≤◌}
use native.Mathlib.Omega.{arith}
use lib.IntN.{ℤ, pos, ◌+ℤ◌, +ℤ_idr}
use lib.ListN.{length, drop, length-map}
use lib.Seq.{take-append_seam, drop-append_seam}
use Rattle.grid.specs.declared.Point.{Point}
use Rattle.grid.specs.Points.{at, points}
use Rattle.grid.specs.Corners.{Corner, cross_at, corner_in}
use Rattle.grid.specs.Neighbours.{leaving_out}
use Rattle.grid.specs.Area.{exact}
use Rattle.grid.specs.Domain.{count, Contour}
use Rattle.replies.proofs.LadderLaws.{first_within}
use Rattle.area.proofs.Removal.{removed, three_points, cross_turned}
use Rattle.ring.specs.Walk.{Tally, End, Walked, ending, walk}
use Rattle.ring.specs.Walk.End.{kept, collapsed}
use Rattle.ring.specs.Rule.{goes_in, CrossZero}
use Rattle.ring.specs.Promises.{Preserved}
use Rattle.ring.proofs.Theorems.{ends_in_4n_9, decisions_at_most_turns as walk_decides, turns_at_most_3n_3 as walk_in_3n_3, kept_in_3n_turns, collapsed_without_idle, kept_rising, kept_clean, kept_preserves, collapsed_at_three}
use Rattle.clean.specs.Outcome.{refusals, walked_by, chosen, answer, Lent, Outcome, leaving, swept, with_chosen, finished, refusal, outcome_by}
use Rattle.clean.specs.Promises.{InDomainWithRoom, Untouched, OnlyZeroed, kept_points, Keeps}
use Rattle.clean.proofs.OutcomeLaws.{contour, not_refused, outcome_refused, outcome_done}
use Rattle.clean.proofs.RowLaws.{length_chosen, zeroed_is}
use Rattle.clean.proofs.Picked.{picked, points_chosen, picked_leaving, would_go_picked, picked_all}

-- three points at one of which the cross is 0 have no area
three_flat : (l : List Point) (j : ℕ) → length l ≡ 3 → j < 3 → cross_at (corner_in l j) ≡ pos 0 → exact l ≡ pos 0
three_flat (a ∷ b ∷ c ∷ []) zero e h t = three_points a b c ∙ sym (cross_turned c a b) ∙ t
three_flat (a ∷ b ∷ c ∷ []) (suc zero) e h t = three_points a b c ∙ t
three_flat (a ∷ b ∷ c ∷ []) (suc (suc zero)) e h t = three_points a b c ∙ cross_turned a b c ∙ t
three_flat (a ∷ b ∷ c ∷ []) (suc (suc (suc j))) e h t = absurd (omega arith)
three_flat [] j e h t = absurd (omega arith)
three_flat (a ∷ []) j e h t = absurd (omega arith)
three_flat (a ∷ b ∷ []) j e h t = absurd (omega arith)
three_flat (a ∷ b ∷ c ∷ d ∷ l) j e h t = absurd (omega arith)

module _ (goes : Corner → Bool) (cross-zero : CrossZero goes) (row : List ℤ) where
  -- removing a vertex that goes leaves the exact doubled area
  area_preserved : (n : ℕ) → Preserved (goes_in goes row) n (λ s. exact (picked row s))
  area_preserved n s j rising many h t =
      let l : length (picked row s) ≡ length s = length-map s (at row) in
      let flat : cross_at (corner_in (picked row s) j) ≡ pos 0 = cross-zero (corner_in (picked row s) j) (sym (would_go_picked row goes s j h) ∙ t) in
      ap exact (picked_leaving row s j)
      ∙ sym (removed (picked row s) j (omega arith) (omega arith) ∙ ap (λ (z : ℤ). exact (leaving_out (picked row s) j) +ℤ z) flat ∙ +ℤ_idr (exact (leaving_out (picked row s) j)))

  module _ {n : ℕ} (c : Contour row n) where
    pub kept_area : {s : List ℕ} → (walk (goes_in goes row) n).end ≡ kept s → exact (picked row s) ≡ exact (points row)
    kept_area e = kept_preserves (goes_in goes row) n e (λ s. exact (picked row s)) (area_preserved n) ∙ ap exact (picked_all row c)

    pub collapsed_area : 3 ≤ n → (walk (goes_in goes row) n).end ≡ collapsed → exact (points row) ≡ pos 0
    collapsed_area h e =
        let x = collapsed_at_three (goes_in goes row) n h e (λ s. exact (picked row s)) (area_preserved n) in
        let t = sym (would_go_picked row goes x.rest x.j (omega (arith, x.three, x.inside))) ∙ x.goes_now in
        sym (x.same ∙ ap exact (picked_all row c))
        ∙ three_flat (picked row x.rest) x.j (length-map x.rest (at row) ∙ x.three) x.inside (cross-zero _ t)

-- Any call by any rule; o is whatever the contract allows.
module _ (goes : Corner → Bool) (row : List ℤ) (l : Lent) (o : Outcome) (is : o ≡ outcome_by goes row l) where
  refused : (k : ℕ) → refusal row l ≡ suc k → o ≡ leaving (answer (suc k) 0 0 0) l
  refused k e = is ∙ sym (outcome_refused goes row l (suc k) (sym e) (λ z. omega arith))

  done : refusal row l ≡ 0 → o ≡ finished row (walked_by goes row).end (walked_by goes row).tally l
  done e = is ∙ outcome_done goes row l e

  -- a refusal, which is any reply but 0 and 7, leaves every lent row as it was
  pub a_refusal_leaves_every_row_as_it_was : (o.answer.reply ≡ 0 → ⊥) → (o.answer.reply ≡ 7 → ⊥) → Untouched l o
  a_refusal_leaves_every_row_as_it_was zero-not seven-not = go (refusal row l) refl
    where
      answered : (w : End) (t : Tally) → o ≡ finished row w t l → ⊥
      answered (kept s) t e = zero-not (rw e)
      answered collapsed t e = seven-not (rw e)

      go : (r : ℕ) → refusal row l ≡ r → Untouched l o
      go zero e = absurd (answered (walked_by goes row).end (walked_by goes row).tally (done e))
      go (suc k) e = ap (λ (w : Outcome). w.rows) (refused k e)

  -- a collapse, which is the reply 7, leaves the output as it was and the scratch zeroed
  pub a_collapse_only_zeroes_the_scratch : o.answer.reply ≡ 7 → OnlyZeroed (count row) l o
  a_collapse_only_zeroes_the_scratch seven = go (refusal row l) refl
    where
      reply : (w : Outcome) → o ≡ w → w.answer.reply ≡ 7
      reply w e = sym (ap (λ (x : Outcome). x.answer.reply) e) ∙ seven

      fallen : (w : End) (t : Tally) → o ≡ finished row w t l → o.rows ≡ swept (count row) l
      fallen (kept s) t e = let z : ◌≡◌ {A = ℕ} 0 7 = reply _ e in absurd (omega arith)
      fallen collapsed t e = ap (λ (x : Outcome). x.rows) e

      go : (r : ℕ) → refusal row l ≡ r → OnlyZeroed (count row) l o
      go zero e =
          let d = fallen (walked_by goes row).end (walked_by goes row).tally (done e) in
          record {
            next_zeroed = rw d (zeroed_is (count row) l.next);
            prev_zeroed = rw d (zeroed_is (count row) l.prev);
            mark_zeroed = rw d (zeroed_is (count row) l.mark);
            out_is = rw d;
          }
      go (suc k) e =
          let s : suc k ≡ 7 = reply _ (refused k e) in
          let n : refusal row l ≤ 5 = first_within 5 (refusals row (length l.next) (length l.prev) (length l.mark) (length l.out)) refl in
          absurd (omega arith)

  -- A contour of three points or more, in the domain, with room.
  module _ (many : 3 ≤ count row) (fits : InDomainWithRoom row l) where
    cleaned : o ≡ finished row (walked_by goes row).end (walked_by goes row).tally l
    cleaned = done (not_refused fits)

    -- the walk ends one way or the other
    ended : ((s : List ℕ) × ((walked_by goes row).end ≡ kept s)) ⊎ ((walked_by goes row).end ≡ collapsed)
    ended = go (walked_by goes row).end refl
      where
        go : (e : End) → (walked_by goes row).end ≡ e → ((s : List ℕ) × ((walked_by goes row).end ≡ kept s)) ⊎ ((walked_by goes row).end ≡ collapsed)
        go (kept s) e = inl (s, e)
        go collapsed e = inr e

    -- at most 4n - 9 decisions, kept or collapsed
    pub decisions_at_most_4n_9 : o.answer.decisions ≤ 4 * count row - 9
    decisions_at_most_4n_9 = rw cleaned (go (walked_by goes row).end)
      where
        go : (e : End) → (finished row e (walked_by goes row).tally l).answer.decisions ≤ 4 * count row - 9
        go (kept s) = ends_in_4n_9 (goes_in goes row) (count row)
        go collapsed = ends_in_4n_9 (goes_in goes row) (count row)

    -- at most 3n - 3 turns, kept or collapsed
    turns_at_most_3n_3 : o.answer.turns + 3 ≤ 3 * count row
    turns_at_most_3n_3 = rw cleaned (go (walked_by goes row).end)
      where
        go : (e : End) → (finished row e (walked_by goes row).tally l).answer.turns + 3 ≤ 3 * count row
        go (kept s) = walk_in_3n_3 (goes_in goes row) (count row) many
        go collapsed = walk_in_3n_3 (goes_in goes row) (count row) many

    -- so at most 5n
    pub turns_at_most_5n : o.answer.turns ≤ 5 * count row
    turns_at_most_5n = omega (arith, turns_at_most_3n_3)

    -- no more decisions than turns
    pub decisions_at_most_turns : o.answer.decisions ≤ o.answer.turns
    decisions_at_most_turns = rw cleaned (go (walked_by goes row).end)
      where
        go : (e : End) → let r = (finished row e (walked_by goes row).tally l).answer in r.decisions ≤ r.turns
        go (kept s) = walk_decides (goes_in goes row) (count row)
        go collapsed = walk_decides (goes_in goes row) (count row)

    -- and as many where it collapses: each turn of it decided
    pub a_collapse_has_no_idle_turn : o.answer.reply ≡ 7 → o.answer.turns ≡ o.answer.decisions
    a_collapse_has_no_idle_turn seven = rw cleaned (go (walked_by goes row).end refl)
      where
        go : (e : End) → (walked_by goes row).end ≡ e → let r = (finished row e (walked_by goes row).tally l).answer in r.turns ≡ r.decisions
        go (kept s) e = let z : ◌≡◌ {A = ℕ} 0 7 = sym (ap (λ (w : Outcome). w.answer.reply) cleaned ∙ rw e) ∙ seven in absurd (omega arith)
        go collapsed e = collapsed_without_idle (goes_in goes row) (count row) many e

    -- a contour whose exact doubled area isn't zero is kept
    pub kept_if_area : CrossZero goes → (exact (points row) ≡ pos 0 → ⊥) → o.answer.reply ≡ 0
    kept_if_area cross-zero n = ⊎_elim (λ x. rw (cleaned, x.1)) (λ x. absurd (n (collapsed_area goes cross-zero row (contour fits) many x))) ended

    keeps : (s : List ℕ) → (walked_by goes row).end ≡ kept s → Keeps goes row l.out o
    keeps s e =
        let d : o ≡ leaving (answer 0 (length s) (walked_by goes row).tally.decisions (walked_by goes row).tally.turns) (swept (count row) (with_chosen row s l)) = cleaned ∙ rw e in
        let n = length_chosen row s in
        record {
          positions = s;
          rising = kept_rising (goes_in goes row) (count row) e;
          walk_is = rw d (ap (λ (x : End). ending x (walked_by goes row).tally) e);
          count_is = rw d;
          points_are = rw (d, ← n, take-append_seam (chosen row s) (drop (length (chosen row s)) l.out)) (points_chosen row s);
          rest_is = rw (d, ← n) (drop-append_seam (chosen row s) (drop (length (chosen row s)) l.out));
        }

    module _ (zero-reply : o.answer.reply ≡ 0) where
      -- a kept contour has its points in their old order, and the output behind them is as it was
      pub kept_in_order : Keeps goes row l.out o
      kept_in_order = ⊎_elim (λ x. keeps x.0 x.1) (λ x. absurd (seven x)) ended
        where
          seven : (walked_by goes row).end ≡ collapsed → ⊥
          seven e = let z : ◌≡◌ {A = ℕ} 7 0 = sym (ap (λ (w : Outcome). w.answer.reply) cleaned ∙ rw e) ∙ zero-reply in omega arith

      kept_end : (walked_by goes row).end ≡ kept kept_in_order.positions
      kept_end = ap (λ (w : Walked). w.end) kept_in_order.walk_is

      -- in at most 3n turns, less one for each point that is kept
      pub kept_turns_at_most_3n_less_the_kept : o.answer.turns + o.answer.points ≤ 3 * count row
      kept_turns_at_most_3n_less_the_kept =
          let x = kept_in_order in
          omega (arith, x.count_is, ap (λ (w : Walked). w.tally.turns) x.walk_is, kept_in_3n_turns (goes_in goes row) (count row) kept_end)

      -- the same exact doubled area
      pub kept_same_area : CrossZero goes → exact (kept_points o) ≡ exact (points row)
      kept_same_area cross-zero = ap exact kept_in_order.points_are ∙ kept_area goes cross-zero row (contour fits) kept_end

      -- and no vertex that the rule would remove
      pub nothing_left_to_remove : (j : ℕ) → j < o.answer.points → goes (corner_in (kept_points o) j) ≡ false
      nothing_left_to_remove j h =
          let x = kept_in_order in
          let n : j < length x.positions = omega (arith, x.count_is) in
          rw x.points_are (sym (would_go_picked row goes x.positions j n) ∙ kept_clean (goes_in goes row) (count row) kept_end j n)
