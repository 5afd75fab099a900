-- A set that is written and read again, and a file that is read and written again, in either edition, by two calls with room.
use mathlib.Core.Path.{◌≡◌, refl, sym, ◌∙◌, ap}
use mathlib.Core.Bool.{Bool, not}
use mathlib.Core.List.{List, []}
use Prim.Native.Nat.{ℕ, ◌≤◌}
use native.Mathlib.Omega.{arith}
use lib.Dec.{leb}
use lib.ListN.{length, drop}
use lib.Seq.{take_at}
use lib.IntN.{ℤ}
use borrow.Author.Tests.{le-leb}
use Rattle.replies.specs.Ladder.{first_of, room}
use Rattle.replies.proofs.LadderLaws.{first_is}
use Rattle.replies.proofs.LadderLaws.First.{past, foot}
use Rattle.buffer.specs.Spans.{spans}
use Rattle.buffer.specs.Answers.{written_points, written_contours, written_shapes, stored}
use Rattle.buffer.proofs.RowLaws.{spans-length}
use Rattle.buffer.proofs.WrittenLaws.{Written, written}
use Rattle.setfile.specs.Editions.{number, is_second}
use Rattle.setfile.specs.Reading as R
use Rattle.setfile.specs.Writing as W
use Rattle.setfile.specs.Promises.{Fit, edition_file, write_outcome, written_file}
use Rattle.promises.specs.Demand2.{Bytes}
use Rattle.setfile.proofs.Theorems as Theorems

-- a row with room is no reason to refuse
roomy : (n m : ℕ) → n ≤ m → 0 ≡ first_of (room (leb n m))
roomy n m h = first_is (room (leb n m)) 0 (past (ap not (le-leb n m h)) foot)

-- a set, and what the writer makes of it
module _ (second : Bool) (p : List ℤ) (cs ss : List (List ℕ)) (bytes : List ℕ) (w : W.Outcome) (is : w ≡ write_outcome second p cs ss bytes) where
  pub a_set_that_fits_is_written : Fit second p cs ss → length (edition_file second p cs ss) ≤ length bytes → w.answer.reply ≡ 0
  a_set_that_fits_is_written fits enough =
      let f : List ℕ = edition_file second p cs ss in
      ap (λ (o : W.Outcome). o.answer.reply)
      (is ∙ Theorems.room_decides second p cs ss ((Theorems.an_edition_can_carry p cs ss second).1 fits) bytes
      ∙ ap (λ (k : ℕ). W.written k f bytes) (sym (roomy (length f) (length bytes) enough)))

  -- and what the reader makes of its file
  module _ (done : w.answer.reply ≡ 0) (out : List ℤ) (records groups : List (List ℕ)) (r : R.Outcome) (back : r ≡ R.outcome (written_file w) out records groups)
      (points_in : length p ≤ length out) (contours_in : length cs ≤ length records) (shapes_in : length ss ≤ length groups) where
    read_is : r ≡ R.with_edition second (stored [] p (spans cs) (spans ss) out records groups)
    read_is = back ∙ Theorems.what_is_written_is_read_back second p cs ss bytes w is done out records groups

    free : (stored [] p (spans cs) (spans ss) out records groups).answer.reply ≡ 0
    unfolding stored first_of
    free =
        let a = le-leb (length p) (length out) points_in in
        let b = le-leb (length (spans cs)) (length records) (omega (arith, spans-length cs)) in
        let c = le-leb (length (spans ss)) (length groups) (omega (arith, spans-length ss)) in
        rw (a, b, c)

    pub what_was_written_is_not_refused : r.answer.reply ≡ 0
    what_was_written_is_not_refused = ap (λ (o : R.Outcome). o.answer.reply) read_is ∙ free

    pub its_edition_is_told : r.answer.edition ≡ number second
    its_edition_is_told = ap (λ (o : R.Outcome). o.answer.edition) read_is ∙ ap (λ (k : ℕ). R.edition_told k second) free

    pub the_set_that_was_written_is_read : Written [] p (spans cs) (spans ss) (R.as_packed r)
    the_set_that_was_written_is_read = written [] tt p (spans cs) (spans ss) out records groups (R.as_packed r) (ap R.as_packed read_is) what_was_written_is_not_refused

-- a file that the reader takes, and what the writer makes of its set
module _ (f : List ℕ) (h : Bytes f) (out : List ℤ) (records groups : List (List ℕ)) (r : R.Outcome) (is : r ≡ R.outcome f out records groups) (done : r.answer.reply ≡ 0)
    (bytes : List ℕ) (enough : length f ≤ length bytes) (w : W.Outcome)
    (again : w ≡ write_outcome (is_second f) (written_points (R.as_packed r)) (written_contours (R.as_packed r)) (written_shapes (R.as_packed r)) bytes) where
  same_file : w ≡ W.written 0 f bytes
  same_file =
      again ∙ Theorems.what_is_read_is_written_again f h out records groups r is done bytes
      ∙ ap (λ (k : ℕ). W.written k f bytes) (sym (roomy (length f) (length bytes) enough))

  pub what_was_read_is_not_refused : w.answer.reply ≡ 0
  what_was_read_is_not_refused = ap (λ (o : W.Outcome). o.answer.reply) same_file

  pub the_file_that_was_read_is_written : written_file w ≡ f
  the_file_that_was_read_is_written = ap written_file same_file ∙ take_at f (drop (length f) bytes) (length f) refl
