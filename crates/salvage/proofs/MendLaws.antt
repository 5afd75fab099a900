-- What salvaging answers and leaves, once the contours are sifted.
use mathlib.Core.Path.{◌≡◌, refl, sym, ◌∙◌, ap, ap₂}
use mathlib.Core.Bool.{Bool, true, false, not, ◌&&◌, ◌||◌}
use mathlib.Core.List.{List, ◌++◌, append_assoc}
use Prim.Native.Nat.{ℕ, zero, suc, ◌+◌, ◌/◌, ◌-◌, ◌≤◌}
use native.Mathlib.Omega.{arith}
use lib.Dec.{leb, ltb}
use lib.ListN.{length, take, drop, length-append}
use lib.Seq.{drop_at, length-take-le}
use borrow.Author.Tests.{leb-true, leb-false, lt-ltb, le-ltb, not-false}
use Rattle.integers.proofs.Logic.{and_left, and_right}
use Rattle.std.specs.Prelude.{Err}
use Rattle.replies.specs.declared.refusal.Refusal.{Refusal}
use Rattle.replies.specs.Ladder.{first_of, room}
use Rattle.replies.specs.Refusals.{number}
use Rattle.replies.proofs.RefusalLaws.{refusals_have_numbers}
use Rattle.rows.specs.Rows.{front, placed}
use Rattle.replies.proofs.LadderLaws.{First, first_is, cleared, clear, onward}
use Rattle.replies.proofs.LadderLaws.First.{here, past, foot}
use Rattle.rows.proofs.RowLaws.{placed_front}
use Rattle.rows.proofs.PlacedLaws.{placed_long}
use Rattle.setfile.specs.Format.{Come, come}
use Rattle.bits.specs.Bits.{Bytes}
use Rattle.bits.specs.inside.Words.{spelled}
use Rattle.bits.proofs.WordLaws.{spelled-length}
use Rattle.setfile.specs.Layouts.{promised}
use Rattle.setfile.specs.inside.Bytes.{arrived, coded_contours, coded}
use Rattle.setfile.specs.inside.Reading.{head_refusals}
use Rattle.setfile.specs.inside.Writing.{Put, Room}
use Rattle.setfile.proofs.FaultLaws.{head_long}
use Rattle.setfile.proofs.ByteLaws.{come_by_bytes}
use Rattle.salvage.specs.declared.answer.Salvaged.{Salvaged}
use Rattle.salvage.specs.Outcome.{Outcome, leaving, salvaged, salvaged_as, mended, kept_of, dropped_of, answered, outcome}
use Rattle.salvage.specs.inside.Sifting.{refusals, none_sifted, Roomy, ended, ending}
use Rattle.salvage.proofs.FileLaws.{the_counts, mended_is, kept_within}

-- a row that lacks room, as the code asks
lacks : (a b : ℕ) → ltb b a ≡ not (leb a b)
lacks a b = go (leb a b) refl
  where
    go : (t : Bool) → leb a b ≡ t → ltb b a ≡ not t
    go true e = le-ltb b a (leb-true a b e)
    go false e = lt-ltb b a (leb-false a b e)

either_lacks : (x y : Bool) → (not x || not y) ≡ not (x && y)
either_lacks true y = refl
either_lacks false y = refl

-- the refusals, rung by rung
module _ (f : List ℕ) (out list : ℕ) where
  module _ (e : first_of (head_refusals f) ≡ 0) (n : ℕ) (g : n ≡ promised f) where
    beyond : (r : ℕ) → First (room (leb (length f) out && leb (promised f) list)) r → r ≡ first_of (refusals f out list)
    beyond r x = first_is _ _ (onward (head_refusals f) (room (leb (length f) out && leb (promised f) list)) r tt e x)

    either : (t : Bool) → (ltb out (length f) || ltb list n) ≡ t → not (leb (length f) out && leb (promised f) list) ≡ t
    either t h =
        sym (either_lacks (leb (length f) out) (leb (promised f) list))
        ∙ ap₂ (λ (x y : Bool). x || y) (sym (lacks (length f) out)) (sym (lacks (promised f) list) ∙ ap (λ (k : ℕ). ltb list k) (sym g))
        ∙ h

    pub refused_room : (ltb out (length f) || ltb list n) ≡ true → 5 ≡ first_of (refusals f out list)
    refused_room h = beyond 5 (here (either true h))

    pub not_refused : (ltb out (length f) || ltb list n) ≡ false → 0 ≡ first_of (refusals f out list)
    not_refused h = beyond 0 (past (either false h) foot)

pub mend_refused : (f out : List ℕ) (list : List (List ℕ)) (r : Refusal) → number r ≡ first_of (refusals f (length out) (length list)) → leaving (salvaged_as (Err r)) out list ≡ outcome f out list
unfolding outcome
mend_refused f out list r e = go (number r) (refusals_have_numbers r) ∙ ap (λ (k : ℕ). answered k f out list) e
  where
    go : (k : ℕ) → (k ≡ 0 → ⊥) → leaving (salvaged k 0 0 0 0) out list ≡ answered k f out list
    go zero z = absurd (z refl)
    go (suc k) z = refl

-- a part that is written in front of another
placed_before : (a b row : List ℕ) → length a + length b ≤ length row → placed 0 a (placed (length a) b row) ≡ placed 0 (a ++ b) row
placed_before a b row h =
    let n : length (take (length a) row) ≡ length a = length-take-le (length a) row (omega arith) in
    let z : 0 + length a ≡ length a = omega arith in
    let m : length a + length b ≡ 0 + length (a ++ b) = omega (arith, length-append a b) in
    ap (λ (k : ℕ). a ++ drop k (placed (length a) b row)) z
    ∙ ap (λ (l : List ℕ). a ++ drop (length a) l) (append_assoc (take (length a) row) b (drop (length a + length b) row))
    ∙ ap (λ (l : List ℕ). a ++ l) (drop_at (take (length a) row) (b ++ drop (length a + length b) row) (length a) n)
    ∙ sym (append_assoc a b (drop (length a + length b) row))
    ∙ ap (λ (k : ℕ). (a ++ b) ++ drop k row) m

same_salvaged : {a b c d k l m n : ℕ} → a ≡ b → c ≡ d → k ≡ l → m ≡ n → salvaged 0 a c k m ≡ salvaged 0 b d l n
same_salvaged p q r s = cc

same_outcome : {r s : Salvaged} {x y : List ℕ} {u v : List (List ℕ)} → r ≡ s → x ≡ y → u ≡ v → leaving r x u ≡ leaving s y v
same_outcome p q w = cc

-- a file that is not refused, and whose head promises n contours
pub record Accepted (f out : List ℕ) (list : List (List ℕ)) (n : ℕ) : Type 0 where
  pub bytes : Bytes f
  pub free : first_of (refusals f (length out) (length list)) ≡ 0
  pub count : n ≡ promised f

module _ {f out : List ℕ} {list : List (List ℕ)} {n : ℕ} (file : Accepted f out list n) where
  head_right : first_of (head_refusals f) ≡ 0
  head_right = (cleared (head_refusals f) _ tt file.free).0

  headed : 2 ≤ length f
  headed = head_long f head_right

  enough : (leb (length f) (length out) && leb (promised f) (length list)) ≡ true
  enough = not-false _ (clear _ tt (cleared (head_refusals f) _ tt file.free).1).0

  pub roomy : Roomy f n out list
  roomy = record {
    head = headed;
    out_room = leb-true (length f) (length out) (and_left (leb (length f) (length out)) _ enough);
    list_room = omega (arith, leb-true (promised f) (length list) (and_right (leb (length f) (length out)) _ enough));
  }

  counts : length (kept_of f) + length (dropped_of f) + (come f).missing ≡ n
  counts = the_counts f file.bytes headed ∙ sym file.count

  body : List ℕ
  body = coded_contours (kept_of f)

  fits : 2 + length body ≤ length out
  unfolding body
  fits = omega (arith, kept_within f file.bytes headed, roomy.out_room)

  -- what the pass has left
  module _ {r : Salvaged} {mid : List ℕ} {list' : List (List ℕ)} (p : leaving r mid list' ≡ ending n 0 none_sifted f out list) where
    by_bits : leaving r mid list' ≡ leaving (salvaged 0 (2 + length body) (0 + length (dropped_of f)) (come f).missing ((come f).past / 8)) (placed 2 body out) (placed 0 (dropped_of f) list)
    unfolding body
    by_bits = p ∙ ap (λ (c : Come). ended c 0 none_sifted out list) (ap (λ (k : ℕ). arrived k (drop 2 f)) file.count ∙ sym (come_by_bytes f))

    answer_is : r ≡ salvaged 0 (2 + length body) (0 + length (dropped_of f)) (come f).missing ((come f).past / 8)
    answer_is = ap (λ (o : Outcome). o.answer) by_bits

    mid_is : mid ≡ placed 2 body out
    mid_is = ap (λ (o : Outcome). o.bytes) by_bits

    missing_is : r.missing ≡ (come f).missing
    missing_is = ap (λ (s : Salvaged). s.missing) answer_is

    dropped_is : r.dropped ≡ 0 + length (dropped_of f)
    dropped_is = ap (λ (s : Salvaged). s.dropped) answer_is

    pub missing_few : r.missing ≤ n
    missing_few = omega (arith, missing_is, counts)

    pub dropped_few : r.dropped ≤ n - r.missing
    dropped_few = omega (arith, missing_is, dropped_is, counts)

    kept_is : n - r.missing - r.dropped ≡ length (kept_of f)
    kept_is = omega (arith, missing_is, dropped_is, counts)

    pub head_room : Room 0 (spelled 2 (4096 + (n - r.missing - r.dropped))) mid
    head_room = omega (arith, ap length mid_is ∙ placed_long out 2 body fits, fits, spelled-length 2 (4096 + (n - r.missing - r.dropped)))

    pub mend_done : {b : ℕ} {out' : List ℕ} → Put 0 (spelled 2 (4096 + (n - r.missing - r.dropped))) mid b out' → leaving r out' list' ≡ outcome f out list
    unfolding outcome body spelled
    mend_done {b} {out'} u =
        let o : out' ≡ front (mended f) out =
        u.is ∙ ap₂ (λ (k : ℕ) (l : List ℕ). placed 0 (spelled 2 (4096 + k)) l) kept_is mid_is
        ∙ placed_before (spelled 2 (4096 + length (kept_of f))) body out fits ∙ placed_front out (coded (kept_of f)) ∙ ap (λ (l : List ℕ). front l out) (sym (mended_is f file.bytes headed)) in
        same_outcome
        (answer_is ∙ same_salvaged (sym (ap length (mended_is f file.bytes headed) ∙ omega arith)) (omega arith) refl refl)
        o
        (ap (λ (o : Outcome). o.list) by_bits ∙ placed_front list (dropped_of f))
        ∙ ap (λ (k : ℕ). answered k f out list) (sym file.free)
