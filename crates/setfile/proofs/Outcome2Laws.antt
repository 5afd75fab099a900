-- What is refused of a set that is to be written in edition 2, and what the writer leaves.
use Rattle.std.proofs.Common.{◌≡◌, ℕ, ◌+◌, ◌/◌, ◌%◌, ◌<◌, ◌≤◌, Bool, true, false, not, ◌&&◌, ◌||◌, leb, ltb, List, length, ℤ, sym, refl, ap, ◌∙◌, arith, ltb-false, le-ltb, lt-ltb, ne_eqb}
use borrow.Author.Tests.{eqb-false, not-false}
use Rattle.integers.proofs.Logic.{and_left, and_right, or_left, or_right}
use Rattle.replies.specs.Ladder.{first_of, room}
use Rattle.replies.proofs.LadderLaws.{First, first_is, clear, stopped, onward}
use Rattle.replies.proofs.LadderLaws.First.{here, past, foot}
use Rattle.grid.specs.Limits.{limit, most, all_on_grid}
use Rattle.grid.specs.Domain.{count}
use Rattle.buffer.specs.Spans.{spans, sound}
use Rattle.buffer.specs.Sets.{shapes}
use Rattle.buffer.specs.Refusals.{set}
use Rattle.buffer.proofs.RowLaws.{spans-length}
use Rattle.setfile.specs.Entries.{entries}
use Rattle.setfile.specs.Reading.{most_bytes, long}
use Rattle.setfile.specs.Writing.{most_contours, most_points, some_over, some_empty, leaving, written}
use Rattle.setfile.specs.Writing2.{file_of, set_refusals, refusals, outcome}
use Rattle.setfile.specs.Promises.{Regular}
use Rattle.setfile.specs.inside.Writing.{all_size, Ripe}
use Rattle.setfile.proofs.CarryLaws.{none_over, over_none, none_empty, empty_none, regular_contours, regular_even, regular_count, all_named, all_grouped}
use Rattle.setfile.proofs.MeasureLaws.{file_long}
use Rattle.setfile.proofs.RefusedLaws.{refused_carry}
use Rattle.setfile.proofs.OutcomeLaws.{result_refused, result_free}

module _ (p : List ℤ) (cs ss : List (List ℕ)) where
  abbrev pub both_sound : Bool
  both_sound = sound (spans cs) (count p) && sound (spans ss) (length cs)

  pub too_long_contour : first_of (set limit p both_sound) ≡ 0 → some_over most_points (spans cs) ≡ true → 12 ≡ first_of (set_refusals p cs ss)
  too_long_contour e over = refused_carry limit p cs ss 0 (sym e) refl true (some_empty (spans ss)) (sym over) refl (go (ltb most_contours (length cs)))
    where
      go : (b : Bool) → (b || true || some_empty (spans ss)) ≡ true
      go true = refl
      go false = refl

  -- exactly these sets have a file
  pub regular-set : first_of (set_refusals p cs ss) ≡ 0 → Regular limit p cs ss
  regular-set e =
      let c = clear (set_refusals p cs ss) tt e in
      let s = not-false both_sound c.1.1.0 in
      let many : Bool = ltb most_contours (length (spans cs)) in
      let t = c.1.1.1.1.0 in
      let u = or_left (many || some_over most_points (spans cs)) (some_empty (spans ss)) t in
      record {
        even = omega (arith, eqb-false (length p % 2) 1 c.0);
        within = ltb-false most (count p) c.1.0;
        contours = and_left (sound (spans cs) (count p)) _ s;
        shapes = and_right (sound (spans cs) (count p)) _ s;
        on = not-false (all_on_grid limit p) c.1.1.1.0;
        few = omega (arith, ltb-false most_contours (length (spans cs)) (or_left many (some_over most_points (spans cs)) u), spans-length cs);
        short = none_over most_points (spans cs) (or_right many (some_over most_points (spans cs)) u);
        filled = none_empty (spans ss) (or_right (many || some_over most_points (spans cs)) (some_empty (spans ss)) t);
      }

  pub set_free : Regular limit p cs ss → first_of (set_refusals p cs ss) ≡ 0
  set_free h =
      sym
      (first_is _ 0
      (past (ne_eqb (length p % 2) 1 (λ z. omega (arith, h.even)))
      (past (le-ltb most (count p) h.within)
      (past (rw (h.contours, h.shapes))
      (past (ap not h.on)
      (past (rw (le-ltb most_contours (length (spans cs)) (omega (arith, h.few, spans-length cs)), over_none most_points (spans cs) h.short, empty_none (spans ss) h.filled))
      foot))))))

  -- how long it is
  pub set_long : Regular limit p cs ss → length (file_of p cs ss) ≡ (16 + all_size p cs + 7) / 8
  set_long h =
      let c = regular_contours limit p cs ss h in
      file_long (entries (shapes p (spans cs) (spans ss))) (rw c (regular_even limit p cs ss h)) ∙ rw c

module _ (p : List ℤ) (cs ss : List (List ℕ)) (row : List ℕ) where
  pub write_refused : (r : ℕ) → r ≡ first_of (set_refusals p cs ss) → (r ≡ 0 → ⊥) → leaving r 0 row ≡ outcome p cs ss row
  unfolding outcome
  write_refused r e z =
      result_refused (refusals p cs ss) (length (file_of p cs ss)) (file_of p cs ss) row r (first_is _ r (stopped (set_refusals p cs ss) (long (length (file_of p cs ss))) r e z)) z

  -- a set that has a file, and its m bytes
  module _ (free : first_of (set_refusals p cs ss) ≡ 0) (m : ℕ) (e : m ≡ (16 + all_size p cs + 7) / 8) where
    is_long : m ≡ length (file_of p cs ss)
    is_long = e ∙ sym (set_long p cs ss (regular-set p cs ss free))

    then_long : (k : ℕ) → First (long (length (file_of p cs ss))) k → k ≡ first_of (refusals p cs ss)
    then_long k f = first_is _ k (onward (set_refusals p cs ss) (long (length (file_of p cs ss))) k tt free f)

    pub write_long : most_bytes < m → leaving 2 0 row ≡ outcome p cs ss row
    unfolding outcome
    write_long h =
        result_refused (refusals p cs ss) (length (file_of p cs ss)) (file_of p cs ss) row 2
        (then_long 2 (here (lt-ltb most_bytes (length (file_of p cs ss)) (omega (arith, is_long))))) (λ z. omega arith)

    module _ (short : m ≤ most_bytes) where
      all_free : first_of (refusals p cs ss) ≡ 0
      all_free = sym (then_long 0 (past (le-ltb most_bytes (length (file_of p cs ss)) (omega (arith, is_long))) foot))

      pub write_free : written (first_of (room (leb m (length row)))) (file_of p cs ss) row ≡ outcome p cs ss row
      unfolding outcome
      write_free =
          ap (λ (k : ℕ). written (first_of (room (leb k (length row)))) (file_of p cs ss) row) is_long
          ∙ result_free (refusals p cs ss) (length (file_of p cs ss)) (file_of p cs ss) row tt all_free

      module _ (fits : m ≤ length row) where
        pub ripe : Ripe true p cs ss row
        ripe =
            let r = regular-set p cs ss free in
            let w : limit ≤ limit = omega arith in
            record {
              named = all_named limit p cs ss r w;
              grouped = all_grouped limit p cs ss r w;
              few = r.few;
              all = regular_count limit p cs ss r;
              room = omega (arith, is_long);
            }
