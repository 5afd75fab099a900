-- What is written, once contours are cleaned one after the other.
use Rattle.std.proofs.Common.{◌≡◌, ℕ, ◌+◌, ◌*◌, ◌<◌, ◌≤◌, true, false, List, [], ◌∷◌, ◌++◌, map, length, ℤ, sym, refl, ap, ◌∙◌, arith, length-append, length-set}
use mathlib.Core.List.{map-append}
use lib.ListN.{length-map}
use Rattle.grid.specs.Domain.{count, Contour}
use Rattle.ring.specs.declared.Rule.{Rule}
use Rattle.buffer.specs.Spans.{rows, total, laid}
use Rattle.buffer.specs.Sets.{joined, Even}
use Rattle.rows.specs.Rows.{placed}
use Rattle.rows.proofs.PlacedLaws.{placed_none, placed_long, placed_behind, set_placed}
use Rattle.buffer.proofs.PackLaws.{count-append}
use Rattle.buffer.proofs.Theorems.{the_counts_add_up}
use Rattle.sets.specs.declared.inner.contour.Progress.{Progress}
use Rattle.sets.specs.Fates.{none_counted, together, Fate, fate, Stay, and_later, later, ShapeFate, behind, shape_fate}
use Rattle.sets.specs.Fates.Fate.{stays, gone}
use Rattle.sets.specs.Fates.ShapeFate.{stands, fallen}
use Rattle.sets.specs.inside.Contour.{Reached, reached, placing}
use Rattle.sets.specs.inside.Shape.{run, Tested, tested, outline, run_shape, Room}
use Rattle.sets.specs.Promises.{Contours}
use Rattle.sets.proofs.FateLaws.{Smaller, fate_smaller}
use Rattle.sets.proofs.BehindLaws.{same_reached, joined_more, room_rest}
use Rattle.buffer.proofs.SetLaws.{joined-append}
use Rattle.sets.proofs.LaidLaws.{points_even, rows_long, rows_laid}

-- contours that stay, laid behind what is written
abbrev pub after : Stay → Reached → Reached
after t s =
    reached
    (record { points = s.progress.points + count (joined t.contours); contours = s.progress.contours + length t.contours; decisions = s.progress.decisions + t.tally.decisions; turns = s.progress.turns + t.tally.turns })
    (placed (2 * s.progress.points) (joined t.contours) s.points)
    (placed s.progress.contours (rows (laid s.progress.points (map count t.contours))) s.contours)

pub same_progress : {a b k l m n u v : ℕ} → a ≡ b → k ≡ l → m ≡ n → u ≡ v
    → ◌≡◌ {A = Progress} (record { points = a; contours = k; decisions = m; turns = u }) (record { points = b; contours = l; decisions = n; turns = v })
same_progress e f g h = cc

pub after_none : (s : Reached) → s ≡ after (record { contours = []; tally = none_counted }) s
unfolding joined laid
after_none s = same_reached (same_progress (omega arith) (omega arith) (omega arith) (omega arith)) (sym (placed_none s.points (2 * s.progress.points))) (sym (placed_none s.contours s.progress.contours))

pub after_first : (c : List ℤ) (w : Fate) → Smaller c w → (s : Reached) → 2 * s.progress.points + length c ≤ length s.points → s.progress.contours < length s.contours
    → (t : Stay) → after t (placing w s) ≡ after (and_later w t) s
unfolding joined laid
after_first c (gone k) x s room space t = same_reached (same_progress refl refl (omega arith) (omega arith)) refl refl
after_first c (stays d k) x s room space t =
    let j = length-append d (joined t.contours) in
    same_reached
    (same_progress (omega (arith, x.1)) (omega arith) (omega arith) (omega arith))
    (placed_behind s.points (2 * s.progress.points) d (joined t.contours) (2 * (s.progress.points + count d)) (omega (arith, x.0)) (omega (arith, x.1)))
    (ap (placed (s.progress.contours + 1) (rows (laid (s.progress.points + count d) (map count t.contours)))) (set_placed s.contours s.progress.contours _ space)
    ∙ placed_behind s.contours s.progress.contours (_ ∷ []) (rows (laid (s.progress.points + count d) (map count t.contours))) (s.progress.contours + 1) (omega arith) refl)

-- ranges laid behind ranges
pub laid_behind : (row : List (List ℕ)) (k m p q : ℕ) (a b : List ℕ) → k + length a ≤ length row → m ≡ k + length a → q ≡ p + total a
    → placed m (rows (laid q b)) (placed k (rows (laid p a)) row) ≡ placed k (rows (laid p (a ++ b))) row
laid_behind row k m p q a b h e f =
    placed_behind row k (rows (laid p a)) (rows (laid q b)) m (omega (arith, rows_long p a)) (omega (arith, rows_long p a))
    ∙ ap (λ (l : List (List ℕ)). placed k l row) (sym (rows_laid p q a b f))

-- contours that stay, and those that stay behind them
abbrev pub both : Stay → Stay → Stay
both u t = record { contours = u.contours ++ t.contours; tally = together u.tally t.tally }

pub after_both : (u t : Stay) (s : Reached) → Even u.contours → 2 * s.progress.points + length (joined u.contours) ≤ length s.points
    → s.progress.contours + length u.contours ≤ length s.contours → after t (after u s) ≡ after (both u t) s
after_both u t s even room space =
    let a = u.contours in
    let b = t.contours in
    let e = points_even a even in
    let j : joined (a ++ b) ≡ joined a ++ joined b = joined-append a b in
    let c : count (joined a) + count (joined b) ≡ count (joined (a ++ b)) = count-append (joined a) (joined b) e ∙ ap count (sym j) in
    let n : length (a ++ b) ≡ length a + length b = length-append a b in
    let m : length (map count a) ≡ length a = length-map a count in
    same_reached
    (same_progress (omega arith) (omega arith) (omega arith) (omega arith))
    (placed_behind s.points (2 * s.progress.points) (joined a) (joined b) (2 * (s.progress.points + count (joined a))) room (omega arith) ∙ ap (λ (l : List ℤ). placed (2 * s.progress.points) l s.points) (sym j))
    (laid_behind s.contours s.progress.contours (s.progress.contours + length a) s.progress.points (s.progress.points + count (joined a)) (map count a) (map count b) (omega arith) (omega arith) (ap (λ (k : ℕ). s.progress.points + k) (the_counts_add_up a even))
    ∙ ap (λ (l : List ℕ). placed s.progress.contours (rows (laid s.progress.points l)) s.contours) (sym (map-append count a b)))

pub placing_long : (c : List ℤ) (w : Fate) → Smaller c w → (s : Reached) → 2 * s.progress.points + length c ≤ length s.points
    → (length (placing w s).points ≡ length s.points) × (length (placing w s).contours ≡ length s.contours)
placing_long c (gone k) x s room = (refl, refl)
placing_long c (stays d k) x s room = (placed_long s.points (2 * s.progress.points) d (omega (arith, x.0)), length-set s.contours s.progress.contours _)

module _ (rule : Rule) where
  pub room_next : (c : List ℤ) (l : List (List ℤ)) (s : Reached) → Contour c (count c) → Room (c ∷ l) s.progress s.points s.contours
      → let t = placing (fate rule c) s in Room l t.progress t.points t.contours
  room_next c l s k r =
      let b = placing_long c (fate rule c) (fate_smaller rule c k) s (omega (arith, r.room, joined_more c l)) in
      room_rest rule c l s.progress s.points s.contours r k _ _ _ refl b.0 b.1

  first_after : (c : List ℤ) (l : List (List ℤ)) (s : Reached) → Contour c (count c) → Room (c ∷ l) s.progress s.points s.contours
      → (t : Stay) → after t (placing (fate rule c) s) ≡ after (and_later (fate rule c) t) s
  first_after c l s k r t =
      after_first c (fate rule c) (fate_smaller rule c k) s (omega (arith, r.room, joined_more c l)) (omega (arith, r.space)) t

  pub run_after : (l : List (List ℤ)) (s : Reached) → Contours l → Room l s.progress s.points s.contours → run rule l s ≡ after (later rule l) s
  unfolding run later
  run_after [] s a r = after_none s
  run_after (c ∷ l) s a r = run_after l (placing (fate rule c) s) a.1 (room_next c l s a.0 r) ∙ first_after c l s a.0 r (later rule l)

  -- a shape's fate, behind what is written
  abbrev pub shaped : ShapeFate → Reached → Tested
  shaped (stands cs k) s = tested true (after (record { contours = cs; tally = k }) s)
  shaped (fallen k) s = tested false (placing (gone k) s)

  pub shape_after : (l : List (List ℤ)) (s : Reached) → Contours l → Room l s.progress s.points s.contours → run_shape rule l s ≡ shaped (shape_fate rule l) s
  unfolding run_shape shape_fate
  shape_after [] s a r = ap (tested true) (after_none s)
  shape_after (c ∷ l) s a r = go (fate rule c) refl
    where
      go : (w : Fate) → fate rule c ≡ w → outline w rule l s ≡ shaped (behind w (later rule l)) s
      go (gone k) e = refl
      go (stays d k) e =
          ap (tested true)
          (ap (λ (v : Fate). run rule l (placing v s)) (sym e)
          ∙ run_after l (placing (fate rule c) s) a.1 (room_next c l s a.0 r)
          ∙ first_after c l s a.0 r (later rule l)
          ∙ ap (λ (v : Fate). after (and_later v (later rule l)) s) e)
