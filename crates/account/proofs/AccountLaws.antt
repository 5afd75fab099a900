-- What is written of a file and said of it, once it is salvaged.
use mathlib.Core.Path.{◌≡◌, refl, sym, ◌∙◌, ap, ap₂}
use mathlib.Core.Bool.{false, ◌&&◌}
use mathlib.Core.List.{List, [], ◌∷◌, ◌++◌}
use Prim.Native.Nat.{ℕ, zero, suc, ◌+◌, ◌/◌, ◌≤◌}
use native.Mathlib.Omega.{arith}
use lib.Dec.{ltb, leb}
use lib.ListN.{length, take, drop, length-append, length-drop}
use lib.Seq.{take_at}
use borrow.Author.Tests.{ltb-false, le-leb}
use Rattle.replies.specs.Ladder.{first_of, room}
use Rattle.rows.specs.Rows.{front}
use Rattle.replies.proofs.LadderLaws.{clear, below_clear, same_below, room_clear}
use Rattle.bits.specs.Bits.{bits}
use Rattle.setfile.specs.Layouts.{promised}
use Rattle.setfile.specs.Format.{bad_head, come}
use Rattle.bits.proofs.BitLaws.{bits-length}
use Rattle.setfile.proofs.SizeLaws.{Sized, complete_sized, promised_few}
use Rattle.salvage.specs.declared.answer.Salvaged.{Salvaged}
use Rattle.salvage.specs.Outcome as S
use Rattle.salvage.specs.Outcome.{fates_of, dropped_of, mended, salvaged, answered}
use Rattle.salvage.proofs.FateLaws.{fates-length}
use Rattle.report.specs.Text.{decimal, line_end, refused}
use Rattle.report.specs.inside.Lines.{Put}
use Rattle.report.proofs.TextLaws.{decimal-length, decimal_short}
use Rattle.report.proofs.PutLaws.{Going, going_none, going_room, going_more, going_all, two_words, put_front, front_within}
use Rattle.account.specs.declared.Lengths.{Lengths}
use Rattle.account.specs.Words.{lines, counts, refusals, saved_by, account_by, saved, account, Outcome, leaving, outcome}
use Rattle.account.specs.inside.Lines.{Numbers}
use Rattle.account.proofs.LineLaws.{lines-length, numbers}

same_outcome : {a b c d : ℕ} {x y u v : List ℕ} → a ≡ b → c ≡ d → x ≡ y → u ≡ v → leaving (record { bytes = a; text = c }) x u ≡ leaving (record { bytes = b; text = d }) y v
same_outcome p q r s = cc

-- how long an account can be
module _ (f : List ℕ) where
  sized : Sized (length (drop 16 (bits f))) (promised f) (come f)
  sized = complete_sized (promised f) (drop 16 (bits f))

  fates_few : length (fates_of f) ≤ 4095
  fates_few = omega (arith, fates-length false (come f).contours, sized.number, promised_few f)

  counts-length : length f ≤ 65536 → length (counts (come f).missing ((come f).past / 8)) ≤ 45
  counts-length h =
      let m = decimal-length (come f).missing 4 (omega arith) (omega arith) (omega (arith, sized.number, promised_few f)) in
      let p = decimal-length ((come f).past / 8) 5 (omega arith) (omega arith) (omega (arith, sized.room, length-drop 16 (bits f), bits-length f)) in
      simp length-append (omega arith)

  pub account-length : length (account f) ≤ 143370
  unfolding account
  account-length = go (first_of (refusals f)) refl
    where
      go : (k : ℕ) → first_of (refusals f) ≡ k → length (account_by k f) ≤ 143370
      go (suc k) e = simp length-append (omega (arith, decimal_short (suc k)))
      go zero e =
          let h = ltb-false 65536 (length f) (clear (refusals f) tt e).0 in
          omega (arith, length-append (lines (dropped_of f)) (counts (come f).missing ((come f).past / 8)), lines-length 0 (fates_of f) (omega (arith, fates_few)), fates_few, counts-length h)

-- what is answered where there is room for any file
module _ (f out : List ℕ) (list : List (List ℕ)) (out_room : 65536 ≤ length out) (list_room : 4095 ≤ length list) where
  always_room : first_of (S.refusals f out list) ≡ first_of (refusals f)
  always_room =
      same_below (ltb 65536 (length f)) 2 _ (bad_head f)
      (λ e.
      let n = ltb-false 65536 (length f) e in
      below_clear (bad_head f) (room (leb (length f) (length out) && leb (promised f) (length list)))
      (room_clear (leb (length f) (length out) && leb (promised f) (length list)) (rw (le-leb (length f) (length out) (omega arith), le-leb (promised f) (length list) (omega (arith, promised_few f))))))

-- what salvaging a file has left, where there is room for any file and any account
pub record InRoom (f out text : List ℕ) (list : List (List ℕ)) (r : Salvaged) (out' : List ℕ) (list' : List (List ℕ)) : Type 0 where
  pub out_room : 65536 ≤ length out
  pub text_room : 143370 ≤ length text
  pub list_room : 4095 ≤ length list
  pub is : S.leaving r out' list' ≡ S.outcome f out list

module _ {f out text : List ℕ} {list : List (List ℕ)} {r : Salvaged} {out' : List ℕ} {list' : List (List ℕ)} (done : InRoom f out text list r out' list') where
  answered_as : (k : ℕ) → first_of (refusals f) ≡ k → S.leaving r out' list' ≡ answered k f out list
  unfolding S.outcome
  answered_as k e = done.is ∙ ap (λ (n : ℕ). answered n f out list) (always_room f out list done.out_room done.list_room ∙ e)

  reply_is : r.reply ≡ first_of (refusals f)
  reply_is = go (first_of (refusals f)) refl
    where
      go : (k : ℕ) → first_of (refusals f) ≡ k → r.reply ≡ first_of (refusals f)
      go zero e = ap (λ (o : S.Outcome). o.answer.reply) (answered_as 0 e) ∙ sym e
      go (suc k) e = ap (λ (o : S.Outcome). o.answer.reply) (answered_as (suc k) e) ∙ sym e

  -- it is refused
  module _ (n : r.reply ≡ 0 → ⊥) where
    account_refused : account f ≡ refused ++ decimal r.reply ++ line_end
    unfolding account
    account_refused = ap (λ (k : ℕ). account_by k f) (sym reply_is) ∙ go r.reply n
      where
        go : (k : ℕ) → (k ≡ 0 → ⊥) → account_by k f ≡ refused ++ decimal k ++ line_end
        go zero n = absurd (n refl)
        go (suc k) n = refl

    pub refused_room : length (refused ++ decimal r.reply ++ line_end) ≤ length text
    refused_room = omega (arith, done.text_room, rw account_refused at (account-length f))

    saved_none : saved f ≡ []
    unfolding saved
    saved_none = ap (λ (k : ℕ). saved_by k f) (sym reply_is) ∙ go r.reply n
      where
        go : (k : ℕ) → (k ≡ 0 → ⊥) → saved_by k f ≡ []
        go zero n = absurd (n refl)
        go (suc k) n = refl

    out_same : out' ≡ out
    out_same = go (first_of (refusals f)) refl
      where
        go : (k : ℕ) → first_of (refusals f) ≡ k → out' ≡ out
        go zero e = absurd (n (reply_is ∙ e))
        go (suc k) e = ap (λ (o : S.Outcome). o.bytes) (answered_as (suc k) e)

    pub told_refused : {b : ℕ} {text' : List ℕ} → Put 0 (refused ++ decimal r.reply ++ line_end) text b text'
        → leaving (record { bytes = 0; text = b }) out' text' ≡ outcome f out text
    unfolding outcome
    told_refused q =
        let x = put_front q in
        same_outcome
        (ap length (sym saved_none)) (x.0 ∙ ap length (sym account_refused))
        (out_same ∙ ap (λ (l : List ℕ). front l out) (sym saved_none))
        (x.1 ∙ ap (λ (l : List ℕ). front l text) (sym account_refused))

  -- it is not
  module _ (z : r.reply ≡ 0) where
    none_refused : first_of (refusals f) ≡ 0
    none_refused = sym reply_is ∙ z

    answer_is : r ≡ salvaged 0 (length (mended f)) (length (dropped_of f)) (come f).missing ((come f).past / 8)
    answer_is = ap (λ (o : S.Outcome). o.answer) (answered_as 0 none_refused)

    saved_is : saved f ≡ mended f
    unfolding saved
    saved_is = ap (λ (k : ℕ). saved_by k f) none_refused

    account_is : account f ≡ lines (dropped_of f) ++ counts (come f).missing ((come f).past / 8)
    unfolding account
    account_is = ap (λ (k : ℕ). account_by k f) none_refused

    listed : list' ≡ front (dropped_of f) list
    listed = ap (λ (o : S.Outcome). o.list) (answered_as 0 none_refused)

    pub dropped_in : r.dropped ≤ length list'
    dropped_in = omega (arith, ap (λ (s : Salvaged). s.dropped) answer_is, ap length listed ∙ length-append (dropped_of f) (drop (length (dropped_of f)) list))

    list_is : take r.dropped list' ≡ dropped_of f
    list_is = ap (take r.dropped) listed ∙ take_at (dropped_of f) _ r.dropped (sym (ap (λ (s : Salvaged). s.dropped) answer_is))

    counts_are : counts r.missing r.past ≡ counts (come f).missing ((come f).past / 8)
    counts_are = ap (λ (s : Salvaged). counts s.missing s.past) answer_is

    pub listed_numbers : Numbers (take r.dropped list')
    listed_numbers = rw list_is (numbers 0 (fates_of f) (omega (arith, fates_few f)))

    said : account f ≡ lines (take r.dropped list') ++ counts r.missing r.past
    said = account_is ∙ ap₂ (λ (l m : List ℕ). l ++ m) (ap lines (sym list_is)) (sym counts_are)

    going : Going 0 (account f) text 0 text (lines (take r.dropped list') ∷ counts r.missing r.past ∷ [])
    going = going_none 0 text _ (said ∙ two_words _ _) (omega (arith, account-length f, done.text_room))

    pub lines_room : length (lines (take r.dropped list')) ≤ length text
    lines_room = omega (arith, going_room going)

    pub counts_room : {b : ℕ} {mid : List ℕ} → Put 0 (lines (take r.dropped list')) text b mid → b + length (counts r.missing r.past) ≤ length mid
    counts_room q = going_room (going_more going q)

    pub told_done : {b c : ℕ} {mid text' : List ℕ} → Put 0 (lines (take r.dropped list')) text b mid → Put b (counts r.missing r.past) mid c text'
        → leaving (record { bytes = r.bytes; text = c }) out' text' ≡ outcome f out text
    unfolding outcome
    told_done q s =
        let x = put_front (going_all (going_more (going_more going q) s)) in
        same_outcome
        (ap (λ (s : Salvaged). s.bytes) answer_is ∙ ap length (sym saved_is)) x.0
        (ap (λ (o : S.Outcome). o.bytes) (answered_as 0 none_refused) ∙ ap (λ (l : List ℕ). front l out) (sym saved_is))
        x.1

-- both lengths are within the rows
module _ (f out text : List ℕ) {r : Lengths} {out' text' : List ℕ} (p : leaving r out' text' ≡ outcome f out text) where
  pub bytes_within : r.bytes ≤ length out'
  unfolding outcome
  bytes_within = front_within (saved f) out r.bytes out' (ap (λ (o : Outcome). o.lengths.bytes) p) (ap (λ (o : Outcome). o.bytes) p)

  pub text_within : r.text ≤ length text'
  unfolding outcome
  text_within = front_within (account f) text r.text text' (ap (λ (o : Outcome). o.lengths.text) p) (ap (λ (o : Outcome). o.text) p)
