-- The calls on lent rows are the calls on the plain list that the rows hold.
use mathlib.Core.Path.{◌≡◌, refl, sym, ◌∙◌, ap, ap₂, subst}
use mathlib.Core.Bool.{Bool, true, false, ◌&&◌}
use mathlib.Core.List.{List, [], ◌∷◌, ◌++◌, map, append_assoc}
use Prim.Native.Nat.{ℕ, zero, suc, ◌+◌, ◌*◌, ◌-◌, ◌%◌, ◌≤◌}
use native.Mathlib.Omega.{arith}
use lib.Dec.{eqb, leb}
use lib.ListN.{length, take, drop, length-append}
use lib.Seq.{take_at, drop_at}
use lib.IntN.{ℤ}
use borrow.Author.Tests.{eq-eqb, eqb-true, le-leb, leb-true, eqb-false, not-false}
use Rattle.integers.proofs.Logic.{and_left, and_right}
use Rattle.replies.specs.Ladder.{first_of}
use Rattle.replies.proofs.LadderLaws.{clear}
use Rattle.rows.specs.Rows.{front}
use Rattle.rows.proofs.RowLaws.{front_length}
use Rattle.grid.specs.Domain.{count}
use Rattle.buffer.specs.Sets.{joined}
use Rattle.pool.specs.Lists.{Entry, entry, capacity, reserve, holding, held, if_so, own, other, free, added, removed, Every, Pressed, Tooled, Even, Fair}
use Rattle.pool.specs.Calls.{refusals, Call, told, done, unless, after}
use Rattle.pool.specs.Calls.Call.{add, remove}
use Rattle.pool.specs.Rows.{Lent, slots_from, numbers, laid_out, named, contents, chained, if_mine, held_by, sound}
use Rattle.pool.specs.Outcome.{Outcome, outcome, enough, rungs, refused, called, number}
use Rattle.pool.specs.Promises.{Made, Fit, ByTwo, AllFit, run, run_rows, heard, heard_rows, told_free}
use Rattle.pool.specs.inside.Records.{total, Lies}
use Rattle.pool.specs.inside.Surveys.{Surveyed, with_more}
use Rattle.pool.specs.declared.inner.survey.Survey.{Survey}
use Rattle.pool.proofs.ListLaws.{total-append, total_held, length_held, total_removed, length_removed, every_append, every_removed}
use Rattle.pool.proofs.FairLaws.{fair_after, held_all, held_added}
use Rattle.pool.proofs.LayoutLaws.{slots_length, numbers-length}
use Rattle.pool.proofs.SoundLaws.{sound_lies, sound_fair, sound_tooled}
use Rattle.pool.proofs.CallLaws.{outcome_reply}
use Rattle.pool.proofs.Theorems.{others_stay, told_by_free}

-- a pool that is laid out is read again
named_laid : (x rest : List ℤ) (q : ℕ) (l : List Entry) → length x ≡ 2 * q → Every Even l → map (named (x ++ (numbers l ++ rest))) (slots_from q l) ≡ l
unfolding joined slots_from
named_laid x rest q [] h v = refl
named_laid x rest q (e ∷ l) h v =
    let n : 2 * (q + count e.contour) - 2 * q ≡ length e.contour = omega (arith, v.0) in
    let k : length (x ++ e.contour) ≡ 2 * (q + count e.contour) = omega (arith, length-append x e.contour, v.0) in
    let assoc : x ++ ((e.contour ++ numbers l) ++ rest) ≡ (x ++ e.contour) ++ (numbers l ++ rest) =
    ap (λ (y : List ℤ). x ++ y) (append_assoc e.contour (numbers l) rest) ∙ sym (append_assoc x e.contour (numbers l ++ rest)) in
    ap₂ (λ (y : Entry) (z : List Entry). y ∷ z)
    (ap (entry e.press e.tool)
    (ap (take (2 * (q + count e.contour) - 2 * q)) (drop_at x ((e.contour ++ numbers l) ++ rest) (2 * q) h ∙ append_assoc e.contour (numbers l) rest)
    ∙ take_at e.contour (numbers l ++ rest) _ (sym n)))
    (ap (λ (y : List ℤ). map (named y) (slots_from (q + count e.contour) l)) assoc ∙ named_laid (x ++ e.contour) rest (q + count e.contour) l k v.1)

pub read_laid : (l : List Entry) (s : Lent) → Every Even l → contents (laid_out l s) ≡ l
read_laid l s v =
    ap (map (named (front (numbers l) s.points))) (take_at (slots_from 0 l) _ (length l) (slots_length 0 l))
    ∙ named_laid [] (drop (length (numbers l)) s.points) 0 l refl v

-- and it is sound
laid_chained : (places p : ℕ) (l : List Entry) → p + total l ≤ places → Every Pressed l → Every Tooled l → chained places p (slots_from p l) ≡ true
unfolding chained slots_from
laid_chained places p [] h a b = le-leb p places (omega arith)
laid_chained places p (e ∷ l) h a b =
    rw (eq-eqb p p refl, le-leb p (p + count e.contour) (omega arith), le-leb e.press 1 a.0, le-leb e.tool 255 b.0)
    (laid_chained places (p + count e.contour) l (omega arith) a.1 b.1)

laid_held : (press p : ℕ) (l : List Entry) → held_by press (slots_from p l) ≡ held (own press l)
unfolding held_by slots_from held own
laid_held press p [] = refl
laid_held press p (e ∷ l) = one (eqb press e.press) (own press l) _ (laid_held press (p + count e.contour) l)
  where
    one : (t : Bool) (k : List Entry) (n : ℕ) → n ≡ held k → if_mine t (holding (p + count e.contour - p)) + n ≡ held (if_so t e k)
    one true k n h = let m : p + count e.contour - p ≡ count e.contour = omega arith in ap₂ (λ (a b : ℕ). holding a + b) m h
    one false k n h = omega arith

pub sound_laid : (l : List Entry) (s : Lent) → Fair l → Every Even l → Every Tooled l → sound (laid_out l s) ≡ true
unfolding sound
sound_laid l s f v t =
    let u : take (length l) (front (slots_from 0 l) s.records) ≡ slots_from 0 l = take_at (slots_from 0 l) _ (length l) (slots_length 0 l) in
    let a : length l ≤ length (front (slots_from 0 l) s.records) = omega (arith, length-append (slots_from 0 l) (drop (length (slots_from 0 l)) s.records), slots_length 0 l) in
    let b : 0 + total l ≤ count (front (numbers l) s.points) = omega (arith, length-append (numbers l) (drop (length (numbers l)) s.points), numbers-length l v) in
    rw (
      u,
      le-leb _ _ a,
      laid_chained _ 0 l b f.pressed t,
      laid_held 0 0 l,
      laid_held 1 0 l,
      le-leb (held (own 0 l)) (capacity - reserve) (omega (arith, f.first)),
      le-leb (held (own 1 l)) (capacity - reserve) (omega (arith, f.second)),
      le-leb (held (own 0 l) + held (own 1 l)) capacity (omega (arith, f.first)),
    )

-- what an outcome leaves
module _ (s : Lent) (k : List Entry) where
  outcome_read : (r : ℕ) → (r ≡ 0 → Every Even k) → contents (outcome r k s).pool ≡ unless r k (contents s)
  outcome_read zero h = read_laid k s (h refl)
  outcome_read (suc r) h = refl

  outcome_sound : (r : ℕ) → sound s ≡ true → (r ≡ 0 → Every Even k) → (r ≡ 0 → Every Tooled k) → (r ≡ 0 → Fair k) → sound (outcome r k s).pool ≡ true
  outcome_sound zero e h t f = sound_laid k s (f refl) (h refl) (t refl)
  outcome_sound (suc r) e h t f = e

  outcome_enough : (r : ℕ) → (r ≡ 0 → (length (numbers k) ≤ length s.points) × (length k ≤ length s.records)) → enough (outcome r k s).pool ≡ enough s
  outcome_enough zero h =
      let a : length (front (numbers k) s.points) ≡ length s.points = front_length s.points (numbers k) (h refl).0 in
      let b : length (front (slots_from 0 k) s.records) ≡ length s.records = front_length s.records (slots_from 0 k) (omega (arith, slots_length 0 k, (h refl).1)) in
      ap₂ (λ (m n : ℕ). leb (2 * capacity) m && leb capacity n) a b
  outcome_enough (suc r) h = refl

-- rows in which a pool lies have room for it
lies_long : (l : List Entry) (s : Lent) → Lies l s → (length (numbers l) ≤ length s.points) × (length l ≤ length s.records)
lies_long l s h = (
  omega (arith, ap (λ (t : Lent). length t.points) h.is, length-append (numbers l) (drop (length (numbers l)) s.points)),
  omega (arith, ap (λ (t : Lent). length t.records) h.is, length-append (slots_from 0 l) (drop (length (slots_from 0 l)) s.records), slots_length 0 l),
)

-- one call, on rows that are sound
module _ (s : Lent) (ok : sound s ≡ true) (p : ℕ) where
  abbrev before : List Entry
  before = contents s

  asked_told : (c : Call) → refused p c s ≡ told (enough s) p before c
  asked_told c = ap (λ (t : Bool). first_of (refusals t (enough s) (own p before) (held (own (other p) before)) c)) ok

  called_out : (c : Call) → called p c s ≡ outcome (refused p c s) (done p c before) s
  unfolding called
  called_out c = refl

  -- what the press is told is told of the list
  pub called_told : (c : Call) → (called p c s).reply ≡ told (enough s) p before c
  called_told c = ap (λ (o : Outcome). o.reply) (called_out c) ∙ outcome_reply s (done p c before) (refused p c s) ∙ asked_told c

  done_even : (c : Call) → refused p c s ≡ 0 → Every Even (done p c before)
  done_even (add tool contour) z =
      let n : length contour ≡ 2 * count contour = omega (arith, eqb-false (length contour % 2) 1 (clear (rungs p (add tool contour) s) tt z).0) in
      every_append Even before _ (sound_lies s ok).even (n, tt)
  done_even remove z = every_removed Even p before (sound_lies s ok).even

  -- and the rows then hold the list after the call
  pub called_list : (c : Call) → contents (called p c s).pool ≡ after (enough s) p c before
  called_list c =
      ap (λ (o : Outcome). contents o.pool) (called_out c) ∙ outcome_read s (done p c before) (refused p c s) (done_even c)
      ∙ ap (λ (r : ℕ). unless r (done p c before) before) (asked_told c)

  module _ (b : p ≤ 1) where
    done_fair : (c : Call) → refused p c s ≡ 0 → Fair (done p c before)
    done_fair c z = subst (λ (r : ℕ). Fair (unless r (done p c before) before)) (sym (asked_told c) ∙ z) (fair_after (enough s) p c before b (sound_fair s ok))

    done_tooled : (c : Call) → Fit c → Every Tooled (done p c before)
    done_tooled (add tool contour) t = every_append Tooled before _ (sound_tooled s ok) (t, tt)
    done_tooled remove t = every_removed Tooled p before (sound_tooled s ok)

    -- they stay sound
    pub called_sound : (c : Call) → Fit c → sound (called p c s).pool ≡ true
    called_sound c t =
        ap (λ (o : Outcome). sound o.pool) (called_out c)
        ∙ outcome_sound s (done p c before) (refused p c s) ok (done_even c) (λ z. done_tooled c t) (done_fair c)

    -- the other press's contours, read in order, are the same; and a press is told by its own and the free count
    pub called_apart : (q : ℕ) (c : Call) → (q ≡ p → ⊥) → own q (contents (called p c s).pool) ≡ own q before
    called_apart q c n = ap (own q) (called_list c) ∙ others_stay (enough s) p q c before n

    pub called_told_free : (c : Call) → (called p c s).reply ≡ told_free (enough s) (own p before) (free before) c
    called_told_free c = called_told c ∙ told_by_free (enough s) p c before b (sound_fair s ok)

    -- the rows are as long as they were
    done_fits : (c : Call) → refused p c s ≡ 0 → (length (numbers (done p c before)) ≤ length s.points) × (length (done p c before) ≤ length s.records)
    done_fits (add tool contour) z =
        let k = done p (add tool contour) before in
        let e : enough s ≡ true = not-false (enough s) (clear (rungs p (add tool contour) s) tt z).1.1.1.1.1.0 in
        let x : 2 * capacity ≤ length s.points = leb-true _ _ (and_left (leb (2 * capacity) (length s.points)) _ e) in
        let y : capacity ≤ length s.records = leb-true _ _ (and_right (leb (2 * capacity) (length s.points)) _ e) in
        let w = held_all k (done_fair (add tool contour) z) in
        (omega (arith, numbers-length k (done_even (add tool contour) z), total_held k), omega (arith, length_held k))
    done_fits remove z =
        let a = lies_long before s (sound_lies s ok) in (
          omega (arith, numbers-length (removed p before) (done_even remove z), numbers-length before (sound_lies s ok).even, a.0, total_removed p before),
          omega (arith, a.1, length_removed p before),
        )

    pub called_enough : (c : Call) → enough (called p c s).pool ≡ enough s
    called_enough c = ap (λ (o : Outcome). enough o.pool) (called_out c) ∙ outcome_enough s (done p c before) (refused p c s) (done_fits c)

-- the state after any number of calls is that of the plain list after the same calls
pub state_is : (h : List Made) (s : Lent) → sound s ≡ true → ByTwo h → AllFit h → (sound (run_rows h s) ≡ true) × (contents (run_rows h s) ≡ run (enough s) h (contents s))
unfolding run_rows run
state_is [] s ok two fit = (ok, refl)
state_is (m ∷ h) s ok two fit =
    let t = (called m.press m.call s).pool in
    let i = state_is h t (called_sound s ok m.press two.0 m.call fit.0) two.1 fit.1 in
    (i.0, i.1 ∙ ap₂ (λ (e : Bool) (k : List Entry). run e h k) (called_enough s ok m.press two.0 m.call) (called_list s ok m.press m.call))

-- and what a press is told on the way is told of that list
pub heard_is : (p : ℕ) (h : List Made) (s : Lent) → sound s ≡ true → ByTwo h → AllFit h → heard_rows p h s ≡ heard (enough s) p h (contents s)
unfolding heard_rows heard
heard_is p [] s ok two fit = refl
heard_is p (m ∷ h) s ok two fit =
    let t = (called m.press m.call s).pool in
    let i = heard_is p h t (called_sound s ok m.press two.0 m.call fit.0) two.1 fit.1 in
    either (eqb p m.press) refl
    (i ∙ ap₂ (λ (e : Bool) (k : List Entry). heard e p h k) (called_enough s ok m.press two.0 m.call) (called_list s ok m.press m.call))
  where
    either : (b : Bool) → eqb p m.press ≡ b → {x y : List ℕ} → x ≡ y
        → if_so b (called m.press m.call s).reply x ≡ if_so b (told (enough s) p (contents s) m.call) y
    either true e g =
        ap₂ (λ (r : ℕ) (k : List ℕ). r ∷ k)
        (called_told s ok m.press m.call ∙ ap (λ (q : ℕ). told (enough s) q (contents s) m.call) (sym (eqb-true p m.press e))) g
    either false e g = g

-- a caller that knows the survey before an addition knows it after
module _ (s : Lent) (f : Survey) (u : Surveyed s f) (tool : ℕ) (contour : List ℤ) (small : tool ≤ 255) (e : f.sound ≡ true) where
  ok : sound s ≡ true
  ok = sym u.sound_is ∙ e

  one_more : (p : ℕ) → (called p (add tool contour) s).reply ≡ 0 → contents (called p (add tool contour) s).pool ≡ added (entry p tool contour) (contents s)
  one_more p z =
      called_list s ok p (add tool contour)
      ∙ ap (λ (r : ℕ). unless r (added (entry p tool contour) (contents s)) (contents s)) (sym (called_told s ok p (add tool contour)) ∙ z)

  more : (p x y : ℕ) → p ≤ 1 → (called p (add tool contour) s).reply ≡ 0
      → x ≡ f.first + held (if_so (eqb 0 p) (entry p tool contour) []) → y ≡ f.second + held (if_so (eqb 1 p) (entry p tool contour) [])
      → Surveyed (called p (add tool contour) s).pool (record { sound = f.sound; points = f.points + count contour; first = x; second = y })
  more p x y b z g h =
      let q = one_more p z in
      record {
        sound_is = e ∙ sym (called_sound s ok p b (add tool contour) small);
        points_are = λ w. omega (arith, ap total q, total-append (contents s) (entry p tool contour ∷ []), u.points_are e);
        first_holds = λ w. omega (arith, g, ap (λ (l : List Entry). held (own 0 l)) q, held_added p 0 tool contour (contents s), u.first_holds e);
        second_holds = λ w. omega (arith, h, ap (λ (l : List Entry). held (own 1 l)) q, held_added p 1 tool contour (contents s), u.second_holds e);
      }

  pub surveyed_more : (b : Bool) → (called (number b) (add tool contour) s).reply ≡ 0
      → Surveyed (called (number b) (add tool contour) s).pool (with_more b (count contour) f)
  unfolding held
  surveyed_more false z = more 0 _ _ (omega arith) z (omega arith) (omega arith)
  surveyed_more true z = more 1 _ _ (omega arith) z (omega arith) (omega arith)
