-- What the writer leaves: nothing, or the file.
use Rattle.std.proofs.Common.{◌≡◌, ℕ, zero, suc, ◌<◌, ◌≤◌, false, T, leb, List, ◌++◌, map, length, ℤ, refl, ap, ◌∙◌, ap₂, arith, le-leb}
use borrow.Author.Tests.{lt-leb}
use Rattle.replies.specs.Ladder.{Rung, first_of, room}
use Rattle.grid.specs.Limits.{narrow}
use Rattle.grid.specs.Domain.{count}
use Rattle.grid.proofs.LimitLaws.{narrow_within}
use Rattle.rows.specs.Rows.{front}
use Rattle.replies.proofs.LadderLaws.{First, first_is, found, numbered, stopped, onward}
use Rattle.buffer.specs.Spans.{spans, total}
use Rattle.buffer.specs.Sets.{shapes}
use Rattle.setfile.specs.Entries.{Entry, entries}
use Rattle.setfile.specs.Format.{file_length, file}
use Rattle.setfile.specs.inside.Writing.{file_with, Ripe}
use Rattle.setfile.specs.Writing.{refusals, Outcome, leaving, written, outcome}
use Rattle.setfile.specs.Promises.{Regular, file_of}
use Rattle.setfile.proofs.CodedLaws.{coded-length, file_is_coded}
use Rattle.setfile.proofs.CarryLaws.{carriable, regular, regular_contours, regular_even, regular_count, regular_total, all_named, all_grouped}

-- a file of n bytes, by its set's refusals: refused, no room for it, or written
module _ (l : List Rung) (n : ℕ) (f row : List ℕ) where
  abbrev pub result : Outcome
  result = written (first_of (l ++ room (leb n (length row)))) f row

  by_number : (k : ℕ) → First (l ++ room (leb n (length row))) k → written k f row ≡ result
  by_number k h = ap (λ (m : ℕ). written m f row) (first_is _ k h)

  pub result_refused : (r : ℕ) → r ≡ first_of l → (r ≡ 0 → ⊥) → leaving r 0 row ≡ result
  result_refused zero e z = absurd (z refl)
  result_refused (suc r) e z = by_number (suc r) (stopped l (room (leb n (length row))) (suc r) e z)

  -- where nothing is refused, the room decides
  pub result_free : T (numbered l) → first_of l ≡ 0 → written (first_of (room (leb n (length row)))) f row ≡ result
  result_free told free =
      let r : List Rung = room (leb n (length row)) in
      by_number (first_of r) (onward l r (first_of r) told free (found r (first_of r) refl))

-- no room for a file of n bytes, or the file in front of the row
module _ (n : ℕ) (f row : List ℕ) where
  pub no_room : length row < n → leaving 5 0 row ≡ written (first_of (room (leb n (length row)))) f row
  unfolding first_of
  no_room h = rw (lt-leb n (length row) h)

  pub put_there : n ≤ length row → (m : ℕ) (exit : List ℕ) → m ≡ length f → exit ≡ front f row → leaving 0 m exit ≡ written (first_of (room (leb n (length row)))) f row
  unfolding first_of
  put_there h m exit e g = rw (le-leb n (length row) h) (ap₂ (λ (k : ℕ) (r : List ℕ). leaving 0 k r) e g)

-- the file of a set in edition 1
pub file_long : (bound : ℕ) (p : List ℤ) (cs ss : List (List ℕ)) → Regular bound p cs ss → length (file_of p cs ss) ≡ file_length (length cs) (count p)
file_long bound p cs ss h =
    let l : List Entry = entries (shapes p (spans cs) (spans ss)) in
    let n : length l ≡ length cs = regular_count bound p cs ss h in
    ap length (file_is_coded l (omega (arith, h.few)))
    ∙ coded-length l (rw (regular_contours bound p cs ss h) (regular_even bound p cs ss h))
    ∙ ap₂ file_length n (ap (λ (m : List (List ℤ)). total (map count m)) (regular_contours bound p cs ss h) ∙ regular_total bound p cs ss h)

module _ (p : List ℤ) (cs ss : List (List ℕ)) (row : List ℕ) where
  pub write_refused : (r : ℕ) → r ≡ first_of (refusals p cs ss) → (r ≡ 0 → ⊥) → leaving r 0 row ≡ outcome p cs ss row
  unfolding outcome
  write_refused r e z = result_refused (refusals p cs ss) (file_length (length cs) (count p)) (file_of p cs ss) row r e z

  -- a set of which nothing is refused, and the m bytes of its file
  module _ (free : first_of (refusals p cs ss) ≡ 0) (m : ℕ) (long : m ≡ file_length (length cs) (count p)) where
    pub write_free : written (first_of (room (leb m (length row)))) (file_with false p cs ss) row ≡ outcome p cs ss row
    unfolding outcome file
    write_free =
        ap (λ (k : ℕ). written (first_of (room (leb k (length row)))) (file_with false p cs ss) row) long
        ∙ result_free (refusals p cs ss) (file_length (length cs) (count p)) (file_of p cs ss) row tt free

    module _ (h : m ≤ length row) where
      fits : file_length (length cs) (count p) ≤ length row
      fits = omega (arith, long)

      pub ripe : Ripe false p cs ss row
      unfolding file
      ripe =
          let c = carriable p cs ss free in
          let r = regular p cs ss c in
          record {
            named = all_named narrow p cs ss r narrow_within;
            grouped = all_grouped narrow p cs ss r narrow_within;
            few = r.few;
            all = regular_count narrow p cs ss r;
            room = omega (arith, fits, file_long narrow p cs ss r);
          }
