-- What a user may count on of files of edition 2: which sets have one, and how long it is beside that of edition 1.
use Rattle.std.proofs.Common.{◌≡◌, ℕ, zero, suc, ◌+◌, ◌*◌, ◌/◌, ◌≤◌, true, ◌↔◌, List, [], ◌∷◌, map, length, ℤ, sym, ◌∙◌, arith, ltb-false, le-ltb}
use lib.ListN.{length-map}
use Rattle.replies.specs.Ladder.{first_of}
use Rattle.replies.proofs.LadderLaws.{first_is, clear, cleared, stopped, onward}
use Rattle.replies.proofs.LadderLaws.First.{past, foot}
use Rattle.replies.proofs.OneOutcome.{Determined, by_its_definition, four}
use Rattle.grid.specs.Limits.{limit}
use Rattle.grid.specs.Domain.{count}
use Rattle.steps.specs.Bodies.{contour_width, body_size}
use Rattle.buffer.specs.declared.ranges.Span.{Span}
use Rattle.buffer.specs.Spans.{spans, size, total}
use Rattle.buffer.specs.Sets.{contour, contours}
use Rattle.buffer.specs.Refusals.{set}
use Rattle.buffer.proofs.RowLaws.{spans-length}
use Rattle.buffer.proofs.SetLaws.{sizes_are}
use Rattle.setfile.specs.Format.{file_length}
use Rattle.setfile.specs.Reading.{most_bytes, long}
use Rattle.setfile.specs.Writing.{most_points, some_over, written_as, leaving}
use Rattle.setfile.specs.Writing2.{file_of, set_refusals, refusals}
use Rattle.setfile.specs.Promises.{Each, Regular}
use Rattle.setfile.specs.inside.Writing.{written_size}
use Rattle.setfile.proofs.CarryLaws.{each_like, regular_total}
use Rattle.setfile.proofs.MeasureLaws.{size_within}
use Rattle.setfile.proofs.Outcome2Laws.{both_sound, regular-set, set_free, set_long, too_long_contour}
use Rattle.setfile.proofs.writing_2.write_2.Reads as write-2·contract

-- any two outcomes that the contract of `write_2` allows are identical
pub a_set_is_written_in_one_way : Determined write-2·contract.Learnt (λ κs r e. four e (λ points contours shapes bytes. leaving (written_as r).reply (written_as r).bytes bytes.now))
a_set_is_written_in_one_way = by_its_definition _ (λ κs a r e h. h)

module _ (p : List ℤ) (cs ss : List (List ℕ)) where
  pub edition_2_can_carry : (first_of (refusals p cs ss) ≡ 0) ↔ (Regular limit p cs ss × (length (file_of p cs ss) ≤ most_bytes))
  edition_2_can_carry = (there, back)
    where
      n : ℕ
      n = length (file_of p cs ss)

      there : first_of (refusals p cs ss) ≡ 0 → Regular limit p cs ss × (n ≤ most_bytes)
      there e =
          let c = cleared (set_refusals p cs ss) (long n) tt e in
          (regular-set p cs ss c.0, ltb-false most_bytes n (clear (long n) tt c.1).0)

      back : Regular limit p cs ss × (n ≤ most_bytes) → first_of (refusals p cs ss) ≡ 0
      back h = sym (first_is _ 0 (onward (set_refusals p cs ss) (long n) 0 tt (set_free p cs ss h.0) (past (le-ltb most_bytes n h.1) foot)))

  -- over 32,767 points in a contour are 12, however long the file would be
  pub a_long_contour_cannot_be_carried : first_of (set limit p (both_sound p cs ss)) ≡ 0 → some_over most_points (spans cs) ≡ true → first_of (refusals p cs ss) ≡ 12
  a_long_contour_cannot_be_carried e over =
      sym (first_is _ 12 (stopped (set_refusals p cs ss) (long (length (file_of p cs ss))) 12 (too_long_contour p cs ss e over) (λ z. omega arith)))

-- contours at the most, and those of which none has a step
all_within : (l : List (List ℤ)) → total (map written_size l) ≤ 22 * length l + 64 * total (map count l)
all_within [] = omega arith
all_within (c ∷ l) = omega (arith, size_within c, all_within l)

one_point : (n w : ℕ) → n ≤ 1 → body_size n w ≡ 64 * n
one_point zero w h = omega arith
one_point (suc zero) w h = omega arith
one_point (suc (suc n)) w h = absurd (omega arith)

all_points : (l : List (List ℤ)) → Each (λ (c : List ℤ). count c ≤ 1) l → total (map written_size l) ≡ 22 * length l + 64 * total (map count l)
all_points [] h = omega arith
all_points (c ∷ l) h = omega (arith, one_point (count c) (contour_width c) h.0, all_points l h.1)

module _ (p : List ℤ) (cs ss : List (List ℕ)) (h : Regular limit p cs ss) where
  number : length (contours p (spans cs)) ≡ length cs
  number = length-map (spans cs) (contour p) ∙ spans-length cs

  pub six_bits_a_contour_at_the_most : length (file_of p cs ss) ≤ file_length (length cs) (count p) + (6 * length cs + 7) / 8
  six_bits_a_contour_at_the_most = omega (arith, set_long p cs ss h, all_within (contours p (spans cs)), number, regular_total limit p cs ss h)

  pub and_just_these_where_no_contour_has_two_points : Each (λ (s : Span). size s ≤ 1) (spans cs) → length (file_of p cs ss) ≡ file_length (length cs) (count p) + (6 * length cs + 7) / 8
  and_just_these_where_no_contour_has_two_points lone =
      let e = each_like count size (λ (n : ℕ). n ≤ 1) (spans cs) (contours p (spans cs)) (sym (sizes_are p 0 (spans cs) h.even h.contours)) lone in
      omega (arith, set_long p cs ss h, all_points (contours p (spans cs)) e, number, regular_total limit p cs ss h)
