-- What is judged of a file, contour by contour.
use Rattle.std.proofs.Common.{◌≡◌, ℕ, zero, suc, ◌+◌, ◌-◌, ◌<◌, ◌≤◌, Bool, true, false, not, ◌&&◌, eqb, ltb, List, ◌∷◌, length, drop, ℤ, sym, refl, ap, ◌∙◌, subst, ap₂, arith, length-append, drop-drop, ltb-false, ltb-true, le-ltb, lt-ltb, ne_eqb}
use mathlib.Core.Bool.{and_assoc, and-true}
use lib.Dec.{eqb-suc-zero}
use mir.Val.{bool_byte}
use Rattle.grid.specs.Limits.{all_on_grid}
use Rattle.grid.proofs.LimitLaws.{on_joined}
use Rattle.replies.specs.Ladder.{first_of}
use Rattle.grid.specs.Domain.{count}
use Rattle.replies.proofs.LadderLaws.{Clear, clear, first_is}
use Rattle.replies.proofs.LadderLaws.First.{here, past, foot}
use Rattle.buffer.specs.Sets.{joined}
use Rattle.setfile.specs.declared.inner.headers.Header.{Header}
use Rattle.setfile.specs.declared.inner.judging.Met.{Met}
use Rattle.bits.specs.Bits.{digit, bits}
use Rattle.bits.proofs.BitLaws.{byte_digit, digit_below}
use Rattle.setfile.specs.Entries.{Entry, contours_of, shapes_of, Gathered, gather, gathered, Parsed, and_then, read_contours}
use Rattle.setfile.specs.Entries.Parsed.{carries, damaged}
use Rattle.setfile.specs.Layouts.{end_damage, contours_in, promised}
use Rattle.setfile.specs.Format.{begins, points_in}
use Rattle.setfile.specs.Editions.{layout, bound, is_second, bad_head, head_damage, parsed}
use Rattle.setfile.specs.inside.Reading.{Judged, contained, from_bit, At, header_in, size_of, front_points, Whole, none_met, met_more, Within, judged, counted_where, points_of, summed, either_refusals, refusals_of, Readable, Judgement}
use Rattle.setfile.proofs.LayoutLaws.{contours_on, contours_stop, contours_end, contours_past, Numbered, contours_long}
use Rattle.setfile.proofs.ContourLaws.{size_is, front_begins, front_length, front_count, behind}
use Rattle.setfile.proofs.EitherLaws.{parsed_faulty, parsed_on, parsed_numbered, read_even}

same_counted : {a k : Bool} {b c d l m n : ℕ} → a ≡ k → b ≡ l → c ≡ m → d ≡ n → counted_where a b c d ≡ counted_where k l m n
same_counted e f g h = cc

shapes_gathered : (b : Bool) (c : List ℤ) (g : Gathered) → length (gather b c g).shapes ≡ digit b + length g.shapes
shapes_gathered true c g = omega arith
shapes_gathered false c g = omega arith

-- one contour more
module _ (s : Bool) (m : Met) (n : ℕ) (l : List Bool) where
  abbrev points : List ℤ
  points = front_points s l

  summed_more : (w : Parsed) → summed s m n (and_then ((layout s).read l) w) ≡ summed s (met_more s l m) (n + 1) w
  unfolding joined gathered
  summed_more (damaged r) = refl
  summed_more (carries rest) =
      let later : List ℤ = joined (contours_of rest) in
      same_counted
      (ap (λ (t : Bool). m.on && t) (on_joined (bound s) points later) ∙ sym (and_assoc m.on (all_on_grid (bound s) points) (all_on_grid (bound s) later)))
      (omega (arith, length-append points later, front_length s l))
      (omega arith)
      (omega (arith, shapes_gathered ((layout s).read l).begins points (gathered rest), ap digit (front_begins s l)))

module _ (s : Bool) (f : List ℕ) (n i : ℕ) (m : Met) where
  abbrev here_on : List Bool
  here_on = from_bit f m.at

  module _ (first : Bool) (h : i < n) where
    one_less : n - i ≡ suc (n - (i + 1))
    one_less = omega arith

    pub judged_faulty : (r : ℕ) → r ≡ (layout s).wrong first m.points here_on → (r ≡ 0 → ⊥) → judged r 0 0 0 ≡ summed s m i (contours_in (layout s) (n - i) first m.points here_on)
    judged_faulty zero e z = absurd (z refl)
    judged_faulty (suc r) e z =
        sym (ap (summed s m i) (ap (λ (k : ℕ). contours_in (layout s) k first m.points here_on) one_less ∙ contours_stop (layout s) first m.points here_on (n - (i + 1)) r (sym e)))

    pub judged_more : (layout s).wrong first m.points here_on ≡ 0
        → summed s m i (contours_in (layout s) (n - i) first m.points here_on)
        ≡ summed s (met_more s here_on m) (i + 1) (contours_in (layout s) (n - (i + 1)) (eqb (i + 1) 0) (met_more s here_on m).points (from_bit f (met_more s here_on m).at))
    judged_more e =
        ap (summed s m i)
        (ap (λ (k : ℕ). contours_in (layout s) k first m.points here_on) one_less ∙ contours_on (layout s) first m.points here_on (n - (i + 1)) e)
        ∙ summed_more s m i here_on (contours_in (layout s) (n - (i + 1)) false (m.points + count (front_points s here_on)) (drop ((layout s).size here_on) here_on))
        ∙ ap (λ (w : Parsed). summed s (met_more s here_on m) (i + 1) w)
        (ap₂ (λ (b : Bool) (k : ℕ). contours_in (layout s) (n - (i + 1)) b (m.points + k) (drop ((layout s).size here_on) here_on)) (sym (ne_eqb (i + 1) 0 (λ z. omega arith))) (front_count s here_on)
        ∙ ap (contours_in (layout s) (n - (i + 1)) (eqb (i + 1) 0) (m.points + points_in here_on)) (drop-drop ((layout s).size here_on) m.at (bits f)))

  pub within_more : Within s f m → Whole s f m.at → points_in here_on ≤ (layout s).size here_on → 0 < (layout s).size here_on → Within s f (met_more s here_on m)
  within_more h w e o = record {
    here = behind w;
    points_few = omega (arith, h.points_few);
    shapes_few = omega (arith, h.shapes_few, digit_below (begins here_on));
  }

same_met : {a b c d : ℕ} {x y : Bool} {k l : ℕ} → a ≡ b → c ≡ d → k ≡ l → x ≡ y
    → ◌≡◌ {A = Met} (record { at = a; points = c; shapes = k; on = x }) (record { at = b; points = d; shapes = l; on = y })
same_met e f g h = cc

-- as the code counts
pub met_is : (s : Bool) (f : List ℕ) (m : Met) (h : Header) (z : ℕ) (on : Bool) → h ≡ header_in s (from_bit f m.at) → z ≡ size_of s h → on ≡ all_on_grid (bound s) (front_points s (from_bit f m.at))
    → record { at = m.at + z; points = m.points + h.count; shapes = m.shapes + bool_byte h.begins; on = m.on && on } ≡ met_more s (from_bit f m.at) m
met_is s f m h z on e g k =
    same_met
    (ap (λ (t : ℕ). m.at + t) (g ∙ ap (size_of s) e ∙ sym (size_is s (from_bit f m.at))))
    (ap (λ (t : Header). m.points + t.count) e)
    (ap (λ (t : ℕ). m.shapes + t) (byte_digit h.begins ∙ ap (λ (t : Header). digit t.begins) e))
    (ap (λ (t : Bool). m.on && t) k)

-- no contours are left
pub none_left : (s : Bool) (k : ℕ) (first : Bool) (n : ℕ) (l : List Bool) → k ≡ 0 → contours_in (layout s) k first n l ≡ contours_in (layout s) 0 false n l
unfolding contours_in
none_left s k first n l e = rw e

-- behind the last contour
module _ (s : Bool) (m : Met) (n : ℕ) (l : List Bool) where
  pub left_over : (r : ℕ) → r ≡ end_damage l → (r ≡ 0 → ⊥) → judged r 0 0 0 ≡ summed s m n (contours_in (layout s) 0 false m.points l)
  left_over zero e z = absurd (z refl)
  left_over (suc r) e z = sym (ap (summed s m n) (contours_past (layout s) false m.points l r (sym e)))

  pub all_met : 0 ≡ end_damage l → (b : Bool) → b ≡ m.on → counted_where b m.points n m.shapes ≡ summed s m n (contours_in (layout s) 0 false m.points l)
  unfolding joined all_on_grid gathered
  all_met h b k =
      rw (contours_end (layout s) false m.points l (sym h)) (same_counted (k ∙ sym (and-true m.on)) (omega arith) (omega arith) (omega arith))

-- a file, by what is wrong with its head
module _ (s : Bool) (f : List ℕ) (own : s ≡ is_second f) where
  -- a file that can be read
  readable : length f ≤ 65536 → (l : List Entry) → parsed f ≡ carries l → all_on_grid (bound s) (joined (contours_of l)) ≡ true → Readable s f (length l)
  readable few l e on = go (head_damage f) refl
    where
      go : (r : ℕ) → r ≡ head_damage f → Readable s f (length l)
      go (suc r) h =
          let d : damaged (suc r) ≡ carries l = sym (parsed_faulty f (suc r) h (λ z. omega arith)) ∙ e in
          let z : ◌≡◌ {A = ℕ} 0 1 = cc in
          absurd (omega arith)
      go zero h =
          let c = clear _ tt (sym h) in
          let w : contours_in (layout s) (promised f) true 0 (from_bit f 16) ≡ carries l = sym (parsed_on s f own h) ∙ e in
          let n : length l ≡ promised f = contours_long (layout s) (promised f) true 0 (from_bit f 16) l w in
          record {
            head = ltb-false _ _ c.0;
            short = few;
            reads = ap (λ (k : ℕ). contours_in (layout s) k true 0 (from_bit f 16)) n ∙ w ∙ ap carries (sym (ap read_contours e));
            on = ap (λ (w : Parsed). all_on_grid (bound s) (joined (contours_of (read_contours w)))) e ∙ on;
          }

  judgement : length f ≤ 65536 → (r : Judged) → r ≡ summed s none_met 0 (parsed f) → Judgement s f r
  judgement few r e = go (parsed f) refl (parsed_numbered f)
    where
      told : (w : Parsed) → parsed f ≡ w → first_of (refusals_of s (length f) w) ≡ first_of (refusals_of (is_second f) (length f) (parsed f))
      told w h = ap₂ (λ (b : Bool) (w : Parsed). first_of (refusals_of b (length f) w)) own (sym h)

      go : (w : Parsed) → parsed f ≡ w → Numbered w → Judgement s f r
      go (damaged zero) h n = absurd n
      go (damaged (suc k)) h n =
          let j : r ≡ judged (suc k) 0 0 0 = e ∙ ap (summed s none_met 0) h in
          let a : r.reply ≡ suc k = ap (λ (j : Judged). j.reply) j in
          record {
            reply = a ∙ first_is (refusals_of s (length f) (damaged (suc k))) (suc k) (past (le-ltb _ _ few) (here (ap not (eqb-suc-zero k)))) ∙ told _ h;
            counts = λ z. absurd (omega arith);
          }
      go (carries l) h n = on_or_off (all_on_grid (bound s) (joined (contours_of l))) refl
        where
          on_or_off : (b : Bool) → all_on_grid (bound s) (joined (contours_of l)) ≡ b → Judgement s f r
          on_or_off false g =
              let j : r ≡ judged 3 0 0 0 = e ∙ ap (summed s none_met 0) h ∙ ap (λ (b : Bool). counted_where b (0 + points_of l) (0 + length l) (0 + length (shapes_of l))) g in
              let a : r.reply ≡ 3 = ap (λ (j : Judged). j.reply) j in
              record {
                reply = a ∙ first_is (refusals_of s (length f) (carries l)) 3 (past (le-ltb _ _ few) (past refl (here (ap not g)))) ∙ told _ h;
                counts = λ z. absurd (omega arith);
              }
          on_or_off true g =
              let j : r ≡ judged 0 (0 + points_of l) (0 + length l) (0 + length (shapes_of l)) =
              e ∙ ap (summed s none_met 0) h ∙ ap (λ (b : Bool). counted_where b (0 + points_of l) (0 + length l) (0 + length (shapes_of l))) g in
              let c : l ≡ contained f = sym (ap read_contours h) in
              let k : r.contours ≡ length l = ap (λ (j : Judged). j.contours) j ∙ omega arith in
              let q : r.points ≡ points_of l = ap (λ (j : Judged). j.points) j ∙ omega arith in
              record {
                reply =
                    ap (λ (j : Judged). j.reply) j
                    ∙ first_is (refusals_of s (length f) (carries l)) 0 (past (le-ltb _ _ few) (past refl (past (ap not g) foot)))
                    ∙ told _ h;
                counts = λ z. record {
                  readable = subst (Readable s f) (sym k) (readable few l h g);
                  points = omega (arith, read_even f l h) ∙ ap (λ (l : List Entry). length (joined (contours_of l))) c;
                  contours = k ∙ ap length c;
                  shapes = ap (λ (j : Judged). j.shapes) j ∙ omega arith ∙ ap (λ (l : List Entry). length (shapes_of l)) c;
                };
              }

  -- a file over 65,536 bytes
  over : 65536 < length f → (r : Judged) → r ≡ judged 2 0 0 0 → Judgement s f r
  over h r e = record {
    reply = ap (λ (j : Judged). j.reply) e ∙ first_is _ _ (here (lt-ltb _ _ h));
    counts = λ z. absurd (omega (arith, ap (λ (j : Judged). j.reply) e));
  }

  -- a file whose length or head is refused
  pub judged_head : (k : ℕ) → k ≡ first_of (either_refusals f) → (k ≡ 0 → ⊥) → (r : Judged) → r ≡ judged k 0 0 0 → Judgement s f r
  unfolding first_of
  judged_head k e z r j = go (ltb 65536 (length f)) refl e
    where
      go : (b : Bool) → ltb 65536 (length f) ≡ b → k ≡ first_of ((b, 2) ∷ bad_head f) → Judgement s f r
      go true h e = over (ltb-true _ _ h) r (j ∙ ap (λ (n : ℕ). judged n 0 0 0) e)
      go false h e = judgement (ltb-false _ _ h) r (j ∙ ap (summed s none_met 0) (sym (parsed_faulty f k e z)))

  -- one whose head is right
  module _ (e : first_of (either_refusals f) ≡ 0) where
    headed : Clear (either_refusals f)
    headed = clear (either_refusals f) tt e

    pub at_contours : At s f 16
    at_contours = record { short = ltb-false _ _ headed.0; within = omega (arith, ltb-false (length f) 2 headed.1.0); whole = λ z. refl }

    pub judged_contours : (r : Judged) → r ≡ summed s none_met 0 (contours_in (layout s) (promised f) true 0 (from_bit f 16)) → Judgement s f r
    judged_contours r j =
        let k : 0 ≡ head_damage f = first_is _ _ (past headed.1.0 (past headed.1.1.0 foot)) in
        judgement (ltb-false _ _ headed.0) r (j ∙ ap (summed s none_met 0) (sym (parsed_on s f own k)))
