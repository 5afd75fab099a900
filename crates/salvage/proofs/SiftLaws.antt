-- The pass over a damaged file: what is still to come makes what it leaves.
use mathlib.Core.Path.{◌≡◌, refl, sym, ◌∙◌, ap, ap₂}
use mathlib.Core.Bool.{Bool, true, false, not, ◌&&◌, ◌||◌, and-true}
use mathlib.Core.List.{List, [], ◌∷◌, ◌++◌}
use Prim.Native.Nat.{ℕ, zero, suc, ◌+◌, ◌*◌, ◌-◌, ◌≤◌, ◌<◌}
use native.Mathlib.Omega.{arith}
use native.Mathlib.Numerals.{add-one}
use lib.ListN.{length, take, drop, set, length-append, length-drop, length-set}
use lib.Seq.{drop-drop, take-add, length-take-le}
use borrow.Author.Tests.{leb-true, le-leb}
use Rattle.grid.specs.Limits.{narrow, all_on_grid}
use Rattle.replies.specs.Ladder.{first_of}
use Rattle.rows.specs.Rows.{placed}
use Rattle.rows.proofs.PlacedLaws.{placed_none, placed_long, placed_behind, set_placed}
use Rattle.setfile.specs.Entries.{Entry}
use Rattle.setfile.specs.Format.{Come, come_next}
use Rattle.bits.specs.Bits.{Bytes}
use Rattle.setfile.specs.inside.Bytes.{decoded, starts, held, front_entry, all_there, arrived, coded_contours}
use Rattle.setfile.proofs.ByteLaws.{dropped, none_arrived, next_arrived}
use Rattle.setfile.proofs.CodedLaws.{none_coded, coded_next}
use Rattle.setfile.proofs.RoundTrip.{contour_read}
use Rattle.salvage.specs.declared.inner.sifting.Sifted.{Sifted}
use Rattle.salvage.specs.Fates.{reason, open_behind, fates, keep, kept, note}
use Rattle.salvage.specs.Fates as F
use Rattle.salvage.specs.Outcome.{Outcome, leaving, salvaged}
use Rattle.salvage.specs.inside.Sifting.{size, none_sifted, sifted, copied, noted, Ready, Sifts, Roomy, ended, ending}

-- a contour's header and its points, written one behind the other, are the contour
pub header_and_points : (f out : List ℕ) (at to h : ℕ) → at + (2 + 8 * h) ≤ length f → to + (2 + 8 * h) ≤ length out
    → placed (to + 2) (take (at + (2 + 8 * h) - (at + 2)) (drop (at + 2) f)) (placed to (take (at + 2 - at) (drop at f)) out) ≡ placed to (take (at + (2 + 8 * h) - at) (drop at f)) out
header_and_points f out at to h within room =
    let a : at + 2 - at ≡ 2 = omega arith in
    let b : at + (2 + 8 * h) - (at + 2) ≡ 8 * h = omega arith in
    let n : at + (2 + 8 * h) - at ≡ 2 + 8 * h = omega arith in
    let two : length (take 2 (drop at f)) ≡ 2 = length-take-le 2 (drop at f) (omega (arith, length-drop at f)) in
    let whole : take 2 (drop at f) ++ take (8 * h) (drop (at + 2) f) ≡ take (2 + 8 * h) (drop at f) =
    ap (λ (l : List ℕ). take 2 (drop at f) ++ take (8 * h) l) (sym (drop-drop 2 at f)) ∙ sym (take-add 2 (8 * h) (drop at f)) in
    rw (a, b, n)
    (placed_behind out to (take 2 (drop at f)) (take (8 * h) (drop (at + 2) f)) (to + 2) (omega arith) (omega arith)
    ∙ ap (λ (l : List ℕ). placed to l out) whole)

-- the reason, by what the code has found
pub reason_is : (f : List ℕ) (at h : ℕ) (on b keeping : Bool) (w : ℕ) → h ≡ held (drop at f) → b ≡ starts (drop at f) → on ≡ all_on_grid narrow (decoded (2 * h) (drop (at + 2) f))
    → w ≡ first_of ((not on, 3) ∷ (not (b || keeping), 11) ∷ []) → w ≡ reason keeping (front_entry (drop at f))
unfolding reason
reason_is f at h on b keeping w p q o e =
    e
    ∙ ap₂ (λ (x y : Bool). first_of ((not x, 3) ∷ (not (y || keeping), 11) ∷ []))
    (o ∙ ap₂ (λ (k : ℕ) (g : List ℕ). all_on_grid narrow (decoded (2 * k) g)) p (sym (drop-drop 2 at f))) q

-- a contour is kept or noted, as the code does it
module _ (f : List ℕ) (s : Sifted) (i : ℕ) (out : List ℕ) (list : List (List ℕ)) where
  abbrev there_on : List ℕ
  there_on = drop s.at f

  by_reason : (w : ℕ) → w ≡ reason s.keeping (front_entry there_on) → {r : Sifted} {out' : List ℕ} {list' : List (List ℕ)}
      → r ≡ sifted w there_on s → out' ≡ copied w there_on s.to out → list' ≡ noted w i s.dropped list → Sifts f s i out list r out' list'
  by_reason w e a b c = record {
    is = a ∙ ap (λ (n : ℕ). sifted n there_on s) e;
    bytes = b ∙ ap (λ (n : ℕ). copied n there_on s.to out) e;
    notes = c ∙ ap (λ (n : ℕ). noted n i s.dropped list) e;
  }

  module _ (h : ℕ) (p : h ≡ held there_on) (w : ℕ) (e : w ≡ reason s.keeping (front_entry there_on)) where
    pub sifts_kept : w ≡ 0 → {out' : List ℕ} → out' ≡ placed s.to (take (s.at + (2 + 8 * h) - s.at) there_on) out
        → Sifts f s i out list (record { at = s.at + (2 + 8 * h); to = s.to + (2 + 8 * h); dropped = s.dropped; keeping = true }) out' list
    sifts_kept z o =
        let n : s.at + (2 + 8 * h) - s.at ≡ size there_on = omega arith in
        by_reason 0 (sym z ∙ e)
        (ap (λ (b : ℕ). record { at = s.at + (2 + 8 * b); to = s.to + (2 + 8 * b); dropped = s.dropped; keeping = true }) p)
        (o ∙ ap (λ (m : ℕ). placed s.to (take m there_on) out) n) refl

    pub sifts_noted : (w ≡ 0 → ⊥) → (b : Bool) → b ≡ starts there_on
        → Sifts f s i out list (record { at = s.at + (2 + 8 * h); to = s.to; dropped = s.dropped + 1; keeping = s.keeping && not b }) out (set list s.dropped (i ∷ w ∷ []))
    sifts_noted z b g = go w e z
      where
        go : (w : ℕ) → w ≡ reason s.keeping (front_entry there_on) → (w ≡ 0 → ⊥)
            → Sifts f s i out list (record { at = s.at + (2 + 8 * h); to = s.to; dropped = s.dropped + 1; keeping = s.keeping && not b }) out (set list s.dropped (i ∷ w ∷ []))
        go zero e z = absurd (z refl)
        go (suc r) e z =
            by_reason (suc r) e
            (ap₂ (λ (k : ℕ) (t : Bool). record { at = s.at + (2 + 8 * k); to = s.to; dropped = s.dropped + 1; keeping = s.keeping && not t }) p g)
            refl refl

-- the shape that stands open behind a contour that is kept, and behind one that is dropped
open_kept : (on b k : Bool) → 0 ≡ first_of ((not on, 3) ∷ (not (b || k), 11) ∷ []) → open_behind b on k ≡ true
unfolding first_of
open_kept true true k e = refl
open_kept true false true e = refl
open_kept true false false e = absurd (omega arith)
open_kept false b k e = absurd (omega arith)

open_dropped : (on b k : Bool) (r : ℕ) → suc r ≡ first_of ((not on, 3) ∷ (not (b || k), 11) ∷ []) → open_behind b on k ≡ (k && not b)
unfolding first_of
open_dropped false true true r e = refl
open_dropped false true false r e = refl
open_dropped false false k r e = sym (and-true k)
open_dropped true true k r e = absurd (omega arith)
open_dropped true false true r e = absurd (omega arith)
open_dropped true false false r e = refl

same_outcome : {a b c d k l m n : ℕ} {x y : List ℕ} {u v : List (List ℕ)} → a ≡ b → c ≡ d → k ≡ l → m ≡ n → x ≡ y → u ≡ v
    → leaving (salvaged 0 a c k m) x u ≡ leaving (salvaged 0 b d l n) y v
same_outcome p q r s t w = cc

-- one contour in front of others
module _ (c : Come) (e : Entry) (k i : ℕ) (s : Sifted) (out : List ℕ) (list : List (List ℕ)) where
  behind : Bool → ℕ → Outcome
  behind b w =
      leaving
      (salvaged 0
      (s.to + length (coded_contours (keep w e (kept (fates b c.contours) c.contours))))
      (s.dropped + length (note i w (F.dropped (suc i) (fates b c.contours))))
      c.missing c.past)
      (placed s.to (coded_contours (keep w e (kept (fates b c.contours) c.contours))) out)
      (placed s.dropped (note i w (F.dropped (suc i) (fates b c.contours))) list)

  ended_next : (b : Bool) (w : ℕ) → w ≡ reason s.keeping e → open_behind e.begins (all_on_grid narrow e.points) s.keeping ≡ b
      → ended (come_next true e k c) i s out list ≡ behind b w
  unfolding behind fates kept F.dropped
  ended_next b w p q = ap₂ behind q (sym p)

-- a complete contour that is sifted
module _ (f : List ℕ) (h : Bytes f) (k i : ℕ) (s : Sifted) (out : List ℕ) (list : List (List ℕ)) (ready : Ready f s out list) where
  abbrev here : List ℕ
  here = drop s.at f

  abbrev found : Come
  found = arrived k (drop (size here) here)

  here_long : size here ≤ length here
  here_long = omega (arith, ready.within, length-drop s.at f)

  whole : arrived (suc k) here ≡ come_next true (front_entry here) k found
  whole = next_arrived k here ∙ ap (λ (t : Bool). come_next t (front_entry here) k found) (le-leb (size here) (length here) here_long)

  on : (i : ℕ) (to n : ℕ) (b : Bool) (out : List ℕ) (list : List (List ℕ))
      → ended found i (record { at = s.at + size here; to = to; dropped = n; keeping = b }) out list
      ≡ ending k i (record { at = s.at + size here; to = to; dropped = n; keeping = b }) f out list
  on i to n b out list = ap (λ (g : List ℕ). ended (arrived k g) i (record { at = s.at + size here; to = to; dropped = n; keeping = b }) out list) (drop-drop (size here) s.at f)

  step : (w : ℕ) → w ≡ reason s.keeping (front_entry here)
      → ending (suc k) i s f out list ≡ ending k (suc i) (sifted w here s) f (copied w here s.to out) (noted w i s.dropped list)
  unfolding reason behind
  step zero e =
      let rest : List ℕ = coded_contours (kept (fates true found.contours) found.contours) in
      let part : coded_contours (front_entry here ∷ kept (fates true found.contours) found.contours) ≡ take (size here) here ++ rest =
      coded_next (front_entry here) (kept (fates true found.contours) found.contours) ∙ ap (λ (l : List ℕ). l ++ rest) (contour_read here (dropped s.at f h) here_long) in
      let long : length (take (size here) here) ≡ size here = length-take-le (size here) here here_long in
      let room : s.to + length (take (size here) here) ≤ length out = omega (arith, ready.out_room) in
      ap (λ (c : Come). ended c i s out list) whole
      ∙ ended_next found (front_entry here) k i s out list true 0 e (open_kept _ (starts here) s.keeping e)
      ∙ same_outcome
      (ap (λ (l : List ℕ). s.to + length l) part ∙ omega (arith, length-append (take (size here) here) rest))
      refl refl refl
      (ap (λ (l : List ℕ). placed s.to l out) part
      ∙ sym (placed_behind out s.to (take (size here) here) rest (s.to + size here) room (omega arith)))
      refl
      ∙ on (suc i) (s.to + size here) s.dropped true (placed s.to (take (size here) here) out) list
  step (suc r) e =
      let rest : List (List ℕ) = F.dropped (suc i) (fates (s.keeping && not (starts here)) found.contours) in
      let row : List ℕ = i ∷ suc r ∷ [] in
      ap (λ (c : Come). ended c i s out list) whole
      ∙ ended_next found (front_entry here) k i s out list (s.keeping && not (starts here)) (suc r) e (open_dropped _ (starts here) s.keeping r e)
      ∙ same_outcome refl (omega arith) refl refl refl
      (sym (ap (placed (s.dropped + 1) rest) (set_placed list s.dropped row ready.list_room)
      ∙ placed_behind list s.dropped (row ∷ []) rest (s.dropped + 1) (omega (arith, ready.list_room)) (omega arith)))
      ∙ on (suc i) s.to (s.dropped + 1) (s.keeping && not (starts here)) out (set list s.dropped row)

  sifted_on : {r : Sifted} {out' : List ℕ} {list' : List (List ℕ)} → Sifts f s i out list r out' list' → ending (suc k) i s f out list ≡ ending k (suc i) r f out' list'
  sifted_on x = rw (x.is, x.bytes, x.notes) (step _ refl)

-- a pass that has come to contour i of n
pub record Sifting (f : List ℕ) (n : ℕ) (out₀ : List ℕ) (list₀ : List (List ℕ)) (i : ℕ) (s : Sifted) (out : List ℕ) (list : List (List ℕ)) : Type 0 where
  pub high : i ≤ n
  pub within : s.at ≤ length f
  pub behind_it : s.to ≤ s.at
  pub few : s.dropped ≤ i
  pub out_long : length out ≡ length out₀
  pub list_long : length list ≡ length list₀
  pub is : ending (n - i) i s f out list ≡ ending n 0 none_sifted f out₀ list₀

module _ {f : List ℕ} {n : ℕ} {out₀ : List ℕ} {list₀ : List (List ℕ)} {i : ℕ} {s : Sifted} {out : List ℕ} {list : List (List ℕ)} (x : Sifting f n out₀ list₀ i s out list) where
  -- a contour is complete
  module _ (room : Roomy f n out₀ list₀) (l : i < n) (t : true ≡ all_there (drop s.at f)) where
    pub ready : Ready f s out list
    ready =
        let m = leb-true (size (drop s.at f)) (length (drop s.at f)) (sym t) in
        let w : s.at + size (drop s.at f) ≤ length f = omega (arith, length-drop s.at f, x.within) in
        record {
          within = w;
          out_room = omega (arith, w, x.behind_it, x.out_long, room.out_room);
          list_room = omega (arith, x.few, x.list_long, room.list_room);
        }

    pub sifting_more : Bytes f → {r : Sifted} {out' : List ℕ} {list' : List (List ℕ)} → Sifts f s i out list r out' list' → Sifting f n out₀ list₀ (i + 1) r out' list'
    sifting_more h {r} {out'} {list'} y = go (reason s.keeping (front_entry here)) y.is y.bytes y.notes
      where
        here : List ℕ
        here = drop s.at f

        next : ending (n - (i + 1)) (i + 1) r f out' list' ≡ ending n 0 none_sifted f out₀ list₀
        next =
            let e : n - i ≡ suc (n - (i + 1)) = omega arith in
            ap (λ (j : ℕ). ending (n - (i + 1)) j r f out' list') (add-one i)
            ∙ sym (sifted_on f h (n - (i + 1)) i s out list ready y)
            ∙ ap (λ (k : ℕ). ending k i s f out list) (sym e) ∙ x.is

        go : (w : ℕ) → r ≡ sifted w here s → out' ≡ copied w here s.to out → list' ≡ noted w i s.dropped list → Sifting f n out₀ list₀ (i + 1) r out' list'
        go zero a b c =
            let m : length (take (size here) here) ≡ size here = length-take-le (size here) here (leb-true (size here) (length here) (sym t)) in
            record {
              high = omega arith;
              within = omega (arith, ap (λ (v : Sifted). v.at) a, ready.within);
              behind_it = omega (arith, ap (λ (v : Sifted). v.at) a, ap (λ (v : Sifted). v.to) a, x.behind_it);
              few = omega (arith, ap (λ (v : Sifted). v.dropped) a, x.few);
              out_long = ap length b ∙ placed_long out s.to (take (size here) here) (omega (arith, m, ready.out_room)) ∙ x.out_long;
              list_long = ap length c ∙ x.list_long;
              is = next;
            }
        go (suc w) a b c = record {
          high = omega arith;
          within = omega (arith, ap (λ (v : Sifted). v.at) a, ready.within);
          behind_it = omega (arith, ap (λ (v : Sifted). v.at) a, ap (λ (v : Sifted). v.to) a, x.behind_it);
          few = omega (arith, ap (λ (v : Sifted). v.dropped) a, x.few);
          out_long = ap length b ∙ x.out_long;
          list_long = ap length c ∙ length-set list s.dropped (i ∷ suc w ∷ []) ∙ x.list_long;
          is = next;
        }

  -- none is left, or the next is not complete
  nothing_more : (m p : ℕ) → leaving (salvaged 0 s.to s.dropped m p) out list ≡ ended (record { contours = []; missing = m; past = p }) i s out list
  unfolding fates kept F.dropped
  nothing_more m p =
      same_outcome (omega (arith, ap length none_coded)) (omega arith) refl refl (sym (ap (λ (l : List ℕ). placed s.to l out) none_coded ∙ placed_none out s.to)) (sym (placed_none list s.dropped))

  pub stopped : i < n → false ≡ all_there (drop s.at f) → leaving (salvaged 0 s.to s.dropped (n - i) 0) out list ≡ ending n 0 none_sifted f out₀ list₀
  stopped l t =
      let e : n - i ≡ suc (n - (i + 1)) = omega arith in
      nothing_more (n - i) 0
      ∙ ap (λ (k : ℕ). ended (record { contours = []; missing = k; past = 0 }) i s out list) e
      ∙ ap (λ (b : Bool). ended (come_next b (front_entry (drop s.at f)) (n - (i + 1)) (arrived (n - (i + 1)) (drop (size (drop s.at f)) (drop s.at f)))) i s out list) t
      ∙ ap (λ (c : Come). ended c i s out list) (sym (next_arrived (n - (i + 1)) (drop s.at f)))
      ∙ ap (λ (k : ℕ). ending k i s f out list) (sym e) ∙ x.is

  pub finished : n ≤ i → leaving (salvaged 0 s.to s.dropped 0 (length f - s.at)) out list ≡ ending n 0 none_sifted f out₀ list₀
  finished l =
      let e : n - i ≡ 0 = omega (arith, x.high) in
      nothing_more 0 (length f - s.at)
      ∙ ap (λ (k : ℕ). ended (record { contours = []; missing = 0; past = k }) i s out list) (sym (length-drop s.at f))
      ∙ ap (λ (c : Come). ended c i s out list) (sym (none_arrived (drop s.at f)))
      ∙ ap (λ (k : ℕ). ending k i s f out list) (sym e) ∙ x.is
