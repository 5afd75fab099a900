-- A contour that is cleaned where it lies, and moved down.
use mathlib.Core.Path.{◌≡◌, refl, sym, ◌∙◌, ap, ap₂}
use mathlib.Core.Bool.{true, false}
use mathlib.Core.List.{List, [], ◌∷◌, ◌++◌, append_assoc}
use Prim.Native.Nat.{ℕ, suc, ◌+◌, ◌-◌, ◌*◌, ◌≤◌, ◌<◌}
use native.Mathlib.Omega.{arith}
use lib.ListN.{length, get_or, set, take, drop, length-append, length-drop, take-append-drop}
use lib.Seq.{length-take-le, get_or-drop, get_or-take, drop-drop, get_or-append-add}
use lib.IntN.{ℤ, pos}
use Rattle.std.specs.Prelude.{Some, None}
use Rattle.rows.specs.Rows.{placed}
use Rattle.grid.specs.Points.{points}
use Rattle.grid.specs.Domain.{count}
use Rattle.ring.specs.declared.Rule.{Rule}
use Rattle.ring.specs.declared.Ending.{Ending}
use Rattle.ring.specs.Walk.{survivors, tally, ending, walk}
use Rattle.ring.specs.Walk.End.{kept, collapsed}
use Rattle.ring.specs.Rule.{goes}
use Rattle.ring.specs.inside.Rows.{turns_of, ended_as, Ended}
use Rattle.ring.proofs.Ends.{walk_few}
use Rattle.clean.specs.Outcome.{walked, chosen}
use Rattle.clean.specs.Verdicts.{passes}
use Rattle.clean.proofs.RowLaws.{length_chosen, Writing, writing_none, writing_more, writing_past, writing_all}
use Rattle.clean.proofs.OutcomeLaws.{contour_count}
use Rattle.clean.proofs.VerdictLaws.{passes_few}
use Rattle.sets.specs.Fates.{none_counted, Fate, walk_fate, fate}
use Rattle.sets.specs.Fates.Fate.{stays, gone}
use Rattle.sifting.specs.declared.inner.sifting.Kept.{Kept}
use Rattle.sifting.specs.inside.Sifting.{lying, InPlace, Lowered, kept_of, row_of, Sifted}

-- an element that is set behind others
set_behind : {A : Type 0} (a out : List A) (k : ℕ) (v : A) → set (a ++ out) (length a + k) v ≡ a ++ set out k v
set_behind [] out k v = ap (λ (n : ℕ). set out n v) (omega arith)
set_behind {A} (x ∷ a) out k v =
    let q : suc (length a) + k ≡ suc (length a + k) = omega arith in
    ap (λ (n : ℕ). set (x ∷ (a ++ out)) n v) q ∙ ap (λ (l : List A). x ∷ l) (set_behind a out k v)

-- points that move down in their own row
module _ (row₀ : List ℤ) (start to : ℕ) (mark : List ℕ) where
  abbrev part : List ℤ
  part = lying row₀ start (start + length mark)

  -- so far: the survivors below position i stand from point to on
  pub record Sinking (row : List ℤ) (kept i : ℕ) : Type 0 where
    pub out : List ℤ
    pub writing : Writing part mark (drop (2 * to) row₀) out kept i
    pub is : row ≡ take (2 * to) row₀ ++ out

  pub sinking_none : Sinking row₀ 0 0
  sinking_none = record { out = drop (2 * to) row₀; writing = writing_none part mark (drop (2 * to) row₀); is = sym (take-append-drop (2 * to) row₀) }

  module _ (down : to ≤ start) (fit : 2 * (start + length mark) ≤ length row₀) where
    room : 2 * length mark ≤ length (drop (2 * to) row₀)
    room = omega (arith, length-drop (2 * to) row₀)

    before : length (take (2 * to) row₀) ≡ 2 * to
    before = length-take-le (2 * to) row₀ (omega arith)

    module _ {row : List ℤ} {kept i : ℕ} (s : Sinking row kept i) where
      pub sinking_long : length row ≡ length row₀
      sinking_long = ap length s.is ∙ length-append (take (2 * to) row₀) s.out ∙ omega (arith, before, s.writing.long, length-drop (2 * to) row₀)

      -- what is not reached yet is as it was
      ahead : (m : ℕ) → m < 2 * length mark → 2 * i ≤ m → get_or row (2 * start + m) (pos 0) ≡ get_or part m (pos 0)
      ahead m h k =
          let d = chosen part s.writing.done in
          let n : length d ≡ 2 * kept = length_chosen part s.writing.done ∙ omega (arith, s.writing.kept_is) in
          let low = s.writing.low in
          let j = 2 * start - 2 * to + m in
          let x : 2 * start + m ≡ length (take (2 * to) row₀) + j = omega (arith, before) in
          let y : j ≡ length d + (j - length d) = omega arith in
          let w : length d + (j - length d) ≡ j = omega arith in
          let u : 2 * to + (length d + (j - length d)) ≡ 2 * start + m = omega arith in
          let v : m < 2 * (start + length mark) - 2 * start = omega arith in
          ap₂ (λ (r : List ℤ) (q : ℕ). get_or r q (pos 0)) s.is x
          ∙ get_or-append-add (take (2 * to) row₀) s.out j (pos 0)
          ∙ ap₂ (λ (r : List ℤ) (q : ℕ). get_or r q (pos 0)) s.writing.output y
          ∙ get_or-append-add d (drop (length d) (drop (2 * to) row₀)) (j - length d) (pos 0)
          ∙ get_or-drop (length d) (drop (2 * to) row₀) (j - length d) (pos 0)
          ∙ get_or-drop (2 * to) row₀ (length d + (j - length d)) (pos 0)
          ∙ ap (λ (q : ℕ). get_or row₀ q (pos 0)) u
          ∙ sym (get_or-drop (2 * start) row₀ m (pos 0))
          ∙ sym (get_or-take (2 * (start + length mark) - 2 * start) (drop (2 * start) row₀) m (pos 0) v)

      pub sinking_past : i < length mark → 2 ≤ get_or mark i 0 → Sinking row kept (i + 1)
      sinking_past h x = record { out = s.out; writing = writing_past s.writing h x; is = s.is }

      pub sinking_more : i < length mark → get_or mark i 0 < 2 → (r : List ℤ)
          → r ≡ set (set row (2 * (to + kept)) (get_or row (2 * (start + i)) (pos 0))) (2 * (to + kept) + 1) (get_or row (2 * (start + i) + 1) (pos 0))
          → Sinking r (kept + 1) (i + 1)
      sinking_more h x r e =
          let a = take (2 * to) row₀ in
          let vx = get_or part (2 * i) (pos 0) in
          let vy = get_or part (2 * i + 1) (pos 0) in
          let p : 2 * (start + i) ≡ 2 * start + 2 * i = omega arith in
          let q : 2 * (start + i) + 1 ≡ 2 * start + (2 * i + 1) = omega arith in
          let u : get_or row (2 * (start + i)) (pos 0) ≡ vx = ap (λ (n : ℕ). get_or row n (pos 0)) p ∙ ahead (2 * i) (omega arith) (omega arith) in
          let v : get_or row (2 * (start + i) + 1) (pos 0) ≡ vy = ap (λ (n : ℕ). get_or row n (pos 0)) q ∙ ahead (2 * i + 1) (omega arith) (omega arith) in
          let m : 2 * (to + kept) ≡ length a + 2 * kept = omega (arith, before) in
          let n : 2 * (to + kept) + 1 ≡ length a + (2 * kept + 1) = omega (arith, before) in
          record {
            out = set (set s.out (2 * kept) vx) (2 * kept + 1) vy;
            writing = writing_more s.writing h room x _ refl;
            is = e
                ∙ ap₂ (λ (b c : ℤ). set (set row (2 * (to + kept)) b) (2 * (to + kept) + 1) c) u v
                ∙ ap (λ (l : List ℤ). set (set l (2 * (to + kept)) vx) (2 * (to + kept) + 1) vy) s.is
                ∙ ap (λ (j : ℕ). set (set (a ++ s.out) j vx) (2 * (to + kept) + 1) vy) m
                ∙ ap (λ (l : List ℤ). set l (2 * (to + kept) + 1) vy) (set_behind a s.out (2 * kept) vx)
                ∙ ap (λ (j : ℕ). set (a ++ set s.out (2 * kept) vx) j vy) n
                ∙ set_behind a (set s.out (2 * kept) vx) (2 * kept + 1) vy;
          }

      pub sinking_all : length mark ≤ i → Lowered row₀ start to mark kept row
      sinking_all h =
          let w = writing_all s.writing h in
          let d = chosen part (survivors mark) in
          record {
            count_is = w.0;
            is = s.is ∙ ap (λ (l : List ℤ). take (2 * to) row₀ ++ l) (w.1 ∙ ap (λ (l : List ℤ). d ++ l) (drop-drop (length d) (2 * to) row₀))
                ∙ sym (append_assoc (take (2 * to) row₀) d (drop (2 * to + length d) row₀));
          }

-- a contour's fate, as it passes or not
module _ (rule : Rule) (c : List ℤ) where
  passing_stays : passes rule (points c) ≡ true → fate rule c ≡ stays c none_counted
  unfolding fate
  passing_stays e = rw (e, fate)

  failing_walks : passes rule (points c) ≡ false → fate rule c ≡ walk_fate c (walked rule c).end (walked rule c).tally
  unfolding fate
  failing_walks e = rw (e, fate)

-- each way in which a contour is sifted
module _ (rule : Rule) (row : List ℤ) (start end to : ℕ) (p : InPlace row start end) where
  abbrev own : List ℤ
  own = lying row start end

  counted : count own ≡ end - start
  counted = contour_count p.contour

  sifted_as : (f : Fate) → fate rule own ≡ f → (r : Kept) (exit : List ℤ) → r ≡ kept_of f → exit ≡ row_of f to row → Sifted rule row start end to r exit
  sifted_as f e r exit g h = record { is = g ∙ ap kept_of (sym e); row_is = h ∙ ap (λ (x : Fate). row_of x to row) (sym e) }

  pub sifted_few : end - start < 3 → (r : Kept) → r ≡ record { points = None; decisions = 0 } → Sifted rule row start end to r row
  sifted_few h r e =
      let few : count own < 3 = omega (arith, counted) in
      let w : walked rule own ≡ ending collapsed (tally 0 0) = walk_few (goes rule own) (count own) few in
      sifted_as (gone (tally 0 0)) (failing_walks rule own (sym (passes_few own rule few)) ∙ rw w) r row e refl

  pub sifted_left : passes rule (points own) ≡ true → (exit : List ℤ)
      → exit ≡ placed (2 * to) (take (2 * (end - start)) (drop (2 * to + (2 * start - 2 * to)) row)) row → to ≤ start
      → Sifted rule row start end to (record { points = Some (end - start); decisions = 0 }) exit
  sifted_left t exit e down =
      let a : 2 * (end - start) ≡ 2 * end - 2 * start = omega (arith, p.forward) in
      let b : 2 * to + (2 * start - 2 * to) ≡ 2 * start = omega arith in
      sifted_as (stays own none_counted) (passing_stays rule own t) _ exit
      (ap (λ (n : ℕ). record { points = Some n; decisions = 0 }) (sym counted))
      (e ∙ ap₂ (λ (m n : ℕ). placed (2 * to) (take m (drop n row)) row) a b)

  module _ (t : passes rule (points own) ≡ false) (w : Ending) (mark prev : List ℕ) (n : ℕ) (all : n ≡ end - start) (e : Ended (goes rule own) n mark prev w) where
    ended_is : walked rule own ≡ ended_as w mark
    ended_is = ap (walk (goes rule own)) (counted ∙ sym all) ∙ e.is

    fallen : w.kept ≡ false → walked rule own ≡ ending collapsed (tally w.decisions w.decisions)
    fallen f = rw (ended_is, f)

    stood : w.kept ≡ true → walked rule own ≡ ending (kept (survivors mark)) (tally w.decisions (turns_of w mark))
    stood f = rw (ended_is, f)

    pub sifted_fallen : w.kept ≡ false → (r : Kept) → r ≡ record { points = None; decisions = w.decisions } → Sifted rule row start end to r row
    sifted_fallen f r g = sifted_as (gone (tally w.decisions w.decisions)) (failing_walks rule own t ∙ rw (fallen f)) r row g refl

    pub sifted_kept : w.kept ≡ true → length mark ≡ n → (k : ℕ) (exit : List ℤ) → Lowered row start to mark k exit
        → Sifted rule row start end to (record { points = Some k; decisions = w.decisions }) exit
    sifted_kept f long k exit l =
        let s = survivors mark in
        let q : start + length mark ≡ end = omega (arith, p.forward) in
        let m : k ≡ count (chosen own s) = omega (arith, l.count_is, length_chosen own s) in
        sifted_as (stays (chosen own s) (tally w.decisions (turns_of w mark))) (failing_walks rule own t ∙ rw (stood f)) _ exit
        (ap (λ (i : ℕ). record { points = Some i; decisions = w.decisions }) m)
        (l.is ∙ ap (λ (m : ℕ). placed (2 * to) (chosen (lying row start m) s) row) q)
