-- What a user may count on: a set that goes through a file of either edition comes back the same, and so does a file that goes through a set.
use Rattle.std.proofs.Common.{◌≡◌, ℕ, zero, suc, ◌+◌, ◌*◌, ◌%◌, ◌<◌, ◌≤◌, Bool, true, false, not, eqb, ltb, leb, ◌↔◌, List, [], ◌∷◌, ◌++◌, map, length, take, drop, ℤ, sym, refl, ap, ◌∙◌, ap₂, arith, take_at, ltb-false, le-ltb, lt-ltb, ne_eqb, eqb-true}
use lib.Dec.{eqb-suc-zero}
use lib.ListN.{length-map}
use borrow.Author.Tests.{not-false}
use Rattle.grid.specs.Limits.{limit, narrow, most, all_on_grid}
use Rattle.replies.specs.Ladder.{Rung, first_of, room}
use Rattle.grid.specs.Domain.{count}
use Rattle.grid.proofs.LimitLaws.{all_on_wider}
use Rattle.rows.specs.Rows.{front}
use Rattle.replies.proofs.LadderLaws.{Clear, clear, first_is, front_clear, past_clear}
use Rattle.replies.proofs.LadderLaws.First.{here, past}
use Rattle.bits.specs.Bits.{Bytes}
use Rattle.buffer.specs.declared.ranges.Span.{Span}
use Rattle.buffer.specs.Spans.{spans, row, rows, sound, size, total}
use Rattle.buffer.specs.Sets.{joined, contours, shapes, contour_spans, shape_spans, Even}
use Rattle.buffer.specs.Answers as A
use Rattle.buffer.proofs.WrittenLaws.{spans_rows}
use Rattle.buffer.proofs.SetLaws.{laid-length}
use Rattle.buffer.proofs.Theorems.{packing_then_unpacking_gives_back_every_shape, points_total, the_counts_add_up, what_is_packed_is_sound, packed_shapes_are_sound}
use Rattle.setfile.specs.Entries.{Entry, contours_of, entries, shapes_of, Parsed, damage, read_contours}
use Rattle.setfile.specs.Entries.Parsed.{carries, damaged}
use Rattle.setfile.specs.Format.{file_length}
use Rattle.setfile.specs.Format as Format
use Rattle.setfile.specs.Editions.{bound, is_second, parsed}
use Rattle.setfile.specs.Reading as R
use Rattle.setfile.specs.Writing as W
use Rattle.setfile.specs.Writing2 as W2
use Rattle.setfile.specs.Promises.{Carriable, Fit, edition_file, write_refusals, write_outcome, written_file, points_of, contour_ranges, shape_ranges}
use Rattle.setfile.proofs.LayoutLaws.{Numbered}
use Rattle.setfile.proofs.GatherLaws.{entries_gathered, shapes_filled, contours_entries}
use Rattle.setfile.proofs.EitherLaws.{parsed_numbered}
use Rattle.setfile.proofs.EditionsLaws.{file, Carried, no_file_of_one_edition_is_taken_for_the_other, what_is_written_is_read, what_is_read_can_be_carried, what_is_read_was_written}
use Rattle.setfile.proofs.HoldLaws.{bound_within, hold_all, all_even, all_short, first_started, all_few}
use Rattle.setfile.proofs.CodedLaws.{coded-length, file_is_coded}
use Rattle.setfile.proofs.CarryLaws.{each_like, over_in, laid_sizes, carriable, not_refused, regular, regular_contours, regular_even, regular_short, regular_started, regular_count, regular_total, regular_points, regular_ranges, regular_groups}
use Rattle.setfile.proofs.OutcomeLaws.{file_long}
use Rattle.setfile.proofs.Edition2Theorems.{edition_2_can_carry}

pub a_file_can_carry : (p : List ℤ) (cs ss : List (List ℕ)) → (first_of (W.refusals p cs ss) ≡ 0) ↔ Carriable p cs ss
a_file_can_carry p cs ss = (carriable p cs ss, not_refused p cs ss)

pub a_long_contour_makes_the_file_too_long : (p : List ℤ) (cs ss : List (List ℕ)) → length p ≡ 2 * count p → sound (spans cs) (count p) ≡ true
    → W.some_over W.most_points (spans cs) ≡ true → first_of (W.refusals p cs ss) ≡ 2
a_long_contour_makes_the_file_too_long p cs ss even ok over =
    let n : 0 + W.most_points < count p = over_in W.most_points 0 (count p) (spans cs) over ok in
    let odd : eqb (length p % 2) 1 ≡ false = ne_eqb (length p % 2) 1 (λ z. omega arith) in
    let long : ltb R.most_bytes (file_length (length cs) (count p)) ≡ true = lt-ltb R.most_bytes (file_length (length cs) (count p)) (omega arith) in
    go (ltb most (count p)) refl odd long
  where
    go : (b : Bool) → ltb most (count p) ≡ b → eqb (length p % 2) 1 ≡ false → ltb R.most_bytes (file_length (length cs) (count p)) ≡ true → first_of (W.refusals p cs ss) ≡ 2
    go true g odd long = sym (first_is (W.refusals p cs ss) 2 (past odd (here g)))
    go false g odd long = sym (first_is (W.refusals p cs ss) 2 (past odd (past g (here long))))

-- which sets an edition can carry
module _ (p : List ℤ) (cs ss : List (List ℕ)) where
  first_fit : Carriable p cs ss → Fit false p cs ss
  unfolding Format.file
  first_fit c =
      let r = regular p cs ss c in
      record { regular = r; not_long = omega (arith, file_long narrow p cs ss r, c.fits) }

  fit_first : Fit false p cs ss → Carriable p cs ss
  unfolding Format.file
  fit_first f =
      let r = f.regular in
      record {
        even = r.even;
        fits = omega (arith, file_long narrow p cs ss r, f.not_long);
        contours = r.contours;
        shapes = r.shapes;
        on = r.on;
        few = r.few;
        short = r.short;
        filled = r.filled;
      }

  pub an_edition_can_carry : (s : Bool) → (first_of (write_refusals s p cs ss) ≡ 0) ↔ Fit s p cs ss
  an_edition_can_carry true =
      let e = edition_2_can_carry p cs ss in
      (λ ok. record { regular = (e.0 ok).0; not_long = (e.0 ok).1 }, λ f. e.1 (f.regular, f.not_long))
  an_edition_can_carry false = (λ ok. first_fit (carriable p cs ss ok), λ f. not_refused p cs ss (fit_first f))

  pub the_file_of_a_set_is_as_long_as_its_counts_say : first_of (W.refusals p cs ss) ≡ 0 → length (edition_file false p cs ss) ≡ file_length (length cs) (count p)
  unfolding Format.file
  the_file_of_a_set_is_as_long_as_its_counts_say ok = file_long narrow p cs ss (regular p cs ss (carriable p cs ss ok))

unrefused : (l : List Rung) → Clear l → (p : List ℤ) (cs ss : List Span) (out : List ℤ) (contours groups : List (List ℕ))
    → A.stored l p cs ss out contours groups ≡ A.stored [] p cs ss out contours groups
unfolding A.stored
unrefused l h p cs ss out contours groups =
    ap (λ (k : ℕ). A.outcome k p cs ss out contours groups) (past_clear l (room (A.enough p cs ss out contours groups)) h)

-- a set that an edition can carry, and its file
module _ (s : Bool) (p : List ℤ) (cs ss : List (List ℕ)) (fit : Fit s p cs ss) where
  abbrev carried : List Entry
  carried = entries (shapes p (spans cs) (spans ss))

  abbrev its_file : List ℕ
  its_file = edition_file s p cs ss

  alike : contours_of carried ≡ contours p (spans cs)
  alike = regular_contours (bound s) p cs ss fit.regular

  points_back : joined (contours_of carried) ≡ p
  points_back = regular_points (bound s) p cs ss fit.regular

  is_carried : Carried s carried
  is_carried =
      let r = fit.regular in
      let n : length carried ≡ length cs = regular_count (bound s) p cs ss r in
      let m : total (map count (contours_of carried)) ≡ count p = ap (λ (l : List (List ℤ)). total (map count l)) alike ∙ regular_total (bound s) p cs ss r in
      record {
        few = omega (arith, r.few);
        all =
            hold_all s carried true 0 (rw alike (regular_even (bound s) p cs ss r)) (rw alike (regular_short (bound s) p cs ss r))
            (λ z. regular_started (bound s) p cs ss r) (omega (arith, r.within))
            (ap (all_on_grid limit) points_back ∙ all_on_wider (bound s) limit p (bound_within s) r.on);
      }

  read : parsed its_file ≡ carries carried
  read = what_is_written_is_read s carried is_carried

  own : is_second its_file ≡ s
  own = no_file_of_one_edition_is_taken_for_the_other s carried is_carried

  sound_file : Clear (R.refusals its_file)
  sound_file = (
    le-ltb R.most_bytes (length its_file) fit.not_long,
    (
      rw read,
      (
        ap₂ (λ (b : Bool) (w : Parsed). not (all_on_grid (bound b) (joined (contours_of (read_contours w))))) own read
            ∙ ap (λ (q : List ℤ). not (all_on_grid (bound s) q)) points_back ∙ ap not fit.regular.on,
        tt,
      ),
    ),
  )

  pub every_set_a_file_can_carry_is_read_back : (out : List ℤ) (contours groups : List (List ℕ))
      → R.outcome its_file out contours groups ≡ R.with_edition s (A.stored [] p (spans cs) (spans ss) out contours groups)
  every_set_a_file_can_carry_is_read_back out contours groups =
      ap₂ R.with_edition own
      (unrefused (R.refusals its_file) sound_file _ _ _ out contours groups
      ∙ rw (read, points_back, regular_ranges (bound s) p cs ss fit.regular, regular_groups (bound s) p cs ss fit.regular))

-- what writing left, where nothing was refused
record Done (l : List Rung) (f : List ℕ) (o : W.Outcome) : Type 0 where
  ok : first_of l ≡ 0
  is : written_file o ≡ f

done_by : (l : List Rung) (b : Bool) (f row : List ℕ) (o : W.Outcome) → o ≡ W.written (first_of (l ++ room b)) f row → o.answer.reply ≡ 0 → Done l f o
done_by l b f row o e done = go (first_of (l ++ room b)) refl e
  where
    go : (r : ℕ) → r ≡ first_of (l ++ room b) → o ≡ W.written r f row → Done l f o
    go zero h g = record { ok = front_clear l (room b) (sym h); is = ap written_file g ∙ take_at f (drop (length f) row) (length f) refl }
    go (suc r) h g = let z : suc r ≡ 0 = ap (λ (w : W.Outcome). w.answer.reply) (sym g) ∙ done in absurd (omega arith)

done_in : (s : Bool) (p : List ℤ) (cs ss : List (List ℕ)) (row : List ℕ) (o : W.Outcome) → o ≡ write_outcome s p cs ss row → o.answer.reply ≡ 0 → Done (write_refusals s p cs ss) (edition_file s p cs ss) o
unfolding W.outcome W2.outcome Format.file
done_in true p cs ss row o e done = done_by (W2.refusals p cs ss) (leb (length (edition_file true p cs ss)) (length row)) (edition_file true p cs ss) row o e done
done_in false p cs ss row o e done = done_by (W.refusals p cs ss) (leb (file_length (length cs) (count p)) (length row)) (edition_file false p cs ss) row o e done

module _ (s : Bool) (p : List ℤ) (cs ss : List (List ℕ)) (row : List ℕ) (o : W.Outcome) (e : o ≡ write_outcome s p cs ss row) (done : o.answer.reply ≡ 0) where
  pub what_is_written_fits : Fit s p cs ss
  what_is_written_fits = (an_edition_can_carry p cs ss s).0 (done_in s p cs ss row o e done).ok

  pub what_is_written_is_read_back : (out : List ℤ) (contours groups : List (List ℕ))
      → R.outcome (written_file o) out contours groups ≡ R.with_edition s (A.stored [] p (spans cs) (spans ss) out contours groups)
  what_is_written_is_read_back out contours groups =
      ap (λ (l : List ℕ). R.outcome l out contours groups) (done_in s p cs ss row o e done).is
      ∙ every_set_a_file_can_carry_is_read_back s p cs ss what_is_written_fits out contours groups

-- the refusals of a file, of which one has the number of its damage
all_clear : (a : Bool) (n : ℕ) (b : Bool) → first_of ((a, 2) ∷ (not (eqb n 0), n) ∷ (b, 3) ∷ []) ≡ 0 → Clear ((a, 2) ∷ (not (eqb n 0), n) ∷ (b, 3) ∷ [])
unfolding first_of
all_clear true n b e = absurd (omega arith)
all_clear false zero true e = absurd (omega arith)
all_clear false zero false e = (refl, (refl, (refl, tt)))
all_clear false (suc n) b e =
    let f : suc n ≡ 0 = first_is ((false, 2) ∷ (not (eqb (suc n) 0), suc n) ∷ (b, 3) ∷ []) (suc n) (past refl (here (ap not (eqb-suc-zero n)))) ∙ e in
    absurd (omega arith)

undamaged : (w : Parsed) → Numbered w → damage w ≡ 0 → w ≡ carries (read_contours w)
undamaged (carries l) n e = refl
undamaged (damaged zero) n e = absurd n
undamaged (damaged (suc r)) n e = absurd (omega arith)

-- a file that is not refused, and the set that is read of it
module _ (f : List ℕ) (h : Bytes f) (ok : first_of (R.refusals f) ≡ 0) where
  abbrev found : List Entry
  found = read_contours (parsed f)

  abbrev second : Bool
  second = is_second f

  pub right : Clear (R.refusals f)
  right = all_clear _ (damage (parsed f)) _ ok

  pub whole : parsed f ≡ carries found
  whole = undamaged (parsed f) (parsed_numbered f) (eqb-true (damage (parsed f)) 0 (not-false _ right.1.0))

  held : Carried second found
  held = what_is_read_can_be_carried f h found whole

  even : Even (contours_of found)
  even = all_even second found true 0 held.all

  regrouped : joined (shapes_of found) ≡ contours_of found
  regrouped = sym (contours_entries (shapes_of found)) ∙ ap contours_of (entries_gathered found (first_started second found 0 held.all))

  contour_number : length (contour_ranges f) ≡ length found
  contour_number =
      length-map (contour_spans (contours_of found)) row ∙ laid-length 0 (map count (contours_of found))
      ∙ length-map (contours_of found) count ∙ length-map found (λ (e : Entry). e.points)

  contour_joined : length (contour_ranges f) ≡ length (joined (shapes_of found))
  contour_joined = contour_number ∙ sym (length-map found (λ (e : Entry). e.points)) ∙ ap length (sym regrouped)

  not_long : length f ≤ R.most_bytes
  not_long = ltb-false R.most_bytes (length f) right.0

  -- no edition carries too many points
  few_in : (s : Bool) → Carried s found → file s found ≡ f → total (map count (contours_of found)) ≤ most
  unfolding most Format.file
  few_in true c e = omega (arith, all_few found true 0 (omega arith) c.all)
  few_in false c e = omega (arith, not_long, ap length (sym e ∙ file_is_coded found c.few) ∙ coded-length found even)

  shapes_same : shapes (points_of f) (spans (contour_ranges f)) (spans (shape_ranges f)) ≡ shapes_of found
  shapes_same =
      ap₂ (λ (cs ss : List Span). shapes (points_of f) cs ss) (spans_rows (contour_spans (contours_of found))) (spans_rows (shape_spans (shapes_of found)))
      ∙ ap (λ (l : List (List ℤ)). shapes (joined l) (contour_spans l) (shape_spans (shapes_of found))) (sym regrouped)
      ∙ packing_then_unpacking_gives_back_every_shape (shapes_of found) (rw regrouped even)

  pub every_file_that_is_read_is_written_the_same : edition_file second (points_of f) (contour_ranges f) (shape_ranges f) ≡ f
  every_file_that_is_read_is_written_the_same =
      ap (λ (l : List (List (List ℤ))). file second (entries l)) shapes_same
      ∙ ap (file second) (entries_gathered found (first_started second found 0 held.all)) ∙ what_is_read_was_written f h found whole

  pub the_set_that_is_read_can_be_carried : Fit second (points_of f) (contour_ranges f) (shape_ranges f)
  the_set_that_is_read_can_be_carried =
      let c = the_counts_add_up (contours_of found) even in
      record {
        regular = record {
          even = omega (arith, points_total (contours_of found) even);
          within = omega (arith, c, few_in second held (what_is_read_was_written f h found whole));
          contours = rw (spans_rows (contour_spans (contours_of found))) (what_is_packed_is_sound (contours_of found) even);
          shapes = rw (contour_joined, spans_rows (shape_spans (shapes_of found))) (packed_shapes_are_sound (shapes_of found));
          on = not-false _ right.1.1.0;
          few = omega (arith, contour_number, held.few);
          short = rw (spans_rows (contour_spans (contours_of found)))
              (each_like size count (λ (n : ℕ). n ≤ W.most_points) (contours_of found) (contour_spans (contours_of found)) (sym (laid_sizes 0 _)) (all_short second found true 0 held.all));
          filled = rw (spans_rows (shape_spans (shapes_of found)))
              (each_like size length (λ (n : ℕ). 0 < n) (shapes_of found) (shape_spans (shapes_of found)) (sym (laid_sizes 0 _)) (shapes_filled found));
        };
        not_long = omega (arith, not_long, ap length every_file_that_is_read_is_written_the_same);
      }

  pub the_set_that_is_read_can_be_written : first_of (write_refusals second (points_of f) (contour_ranges f) (shape_ranges f)) ≡ 0
  the_set_that_is_read_can_be_written = (an_edition_can_carry _ _ _ second).1 the_set_that_is_read_can_be_carried

-- the same of what reading left
record Kept (f : List ℕ) (o : A.Outcome) : Type 0 where
  ok : first_of (R.refusals f) ≡ 0
  points : length (points_of f) ≡ 2 * count (points_of f) → A.written_points o ≡ points_of f
  contours : A.written_contours o ≡ contour_ranges f
  groups : A.written_shapes o ≡ shape_ranges f

kept : (f : List ℕ) (out : List ℤ) (contours groups : List (List ℕ)) (o : R.Outcome) → o ≡ R.outcome f out contours groups → o.answer.reply ≡ 0 → Kept f (R.as_packed o)
unfolding A.stored
kept f out contours groups o e done = go (first_of (R.refusals f ++ roomy)) refl (ap R.as_packed e)
  where
    l : List Entry
    l = read_contours (parsed f)

    cs : List Span
    cs = contour_spans (contours_of l)

    ss : List Span
    ss = shape_spans (shapes_of l)

    roomy : List Rung
    roomy = room (A.enough (points_of f) cs ss out contours groups)

    go : (r : ℕ) → r ≡ first_of (R.refusals f ++ roomy) → R.as_packed o ≡ A.outcome r (points_of f) cs ss out contours groups → Kept f (R.as_packed o)
    go zero g h = record {
      ok = front_clear (R.refusals f) roomy (sym g);
      points = λ even. ap A.written_points h ∙ ap (λ (n : ℕ). take n (front (points_of f) out)) (sym even) ∙ take_at (points_of f) _ (length (points_of f)) refl;
      contours = ap A.written_contours h ∙ take_at (rows cs) _ (length cs) (length-map cs row);
      groups = ap A.written_shapes h ∙ take_at (rows ss) _ (length ss) (length-map ss row);
    }
    go (suc r) g h = let z : suc r ≡ 0 = ap (λ (w : A.Outcome). w.answer.reply) (sym h) ∙ done in absurd (omega arith)

-- the writer of an edition, where nothing but room can be refused
pub room_decides : (s : Bool) (p : List ℤ) (cs ss : List (List ℕ)) → first_of (write_refusals s p cs ss) ≡ 0 → (bytes : List ℕ)
    → write_outcome s p cs ss bytes ≡ W.written (first_of (room (leb (length (edition_file s p cs ss)) (length bytes)))) (edition_file s p cs ss) bytes
unfolding W.outcome W2.outcome Format.file
room_decides true p cs ss ok bytes = ap (λ (r : ℕ). W.written r (edition_file true p cs ss) bytes) (past_clear (W2.refusals p cs ss) _ (clear _ tt ok))
room_decides false p cs ss ok bytes =
    ap (λ (r : ℕ). W.written r (edition_file false p cs ss) bytes)
    (past_clear (W.refusals p cs ss) _ (clear _ tt ok)
    ∙ ap (λ (n : ℕ). first_of (room (leb n (length bytes)))) (sym (the_file_of_a_set_is_as_long_as_its_counts_say p cs ss ok)))

pub what_is_read_is_written_again : (f : List ℕ) → Bytes f → (out : List ℤ) (contours groups : List (List ℕ)) (o : R.Outcome) → o ≡ R.outcome f out contours groups → o.answer.reply ≡ 0
    → (bytes : List ℕ) → write_outcome (is_second f) (A.written_points (R.as_packed o)) (A.written_contours (R.as_packed o)) (A.written_shapes (R.as_packed o)) bytes
    ≡ W.written (first_of (room (leb (length f) (length bytes)))) f bytes
what_is_read_is_written_again f h out contours groups o e done bytes =
    let k = kept f out contours groups o e done in
    let s : Bool = is_second f in
    let same = every_file_that_is_read_is_written_the_same f h k.ok in
    let fit = the_set_that_is_read_can_be_carried f h k.ok in
    ap (λ (p : List ℤ). write_outcome s p (A.written_contours (R.as_packed o)) (A.written_shapes (R.as_packed o)) bytes) (k.points fit.regular.even)
    ∙ ap₂ (λ (cs ss : List (List ℕ)). write_outcome s (points_of f) cs ss bytes) k.contours k.groups
    ∙ room_decides s (points_of f) (contour_ranges f) (shape_ranges f) (the_set_that_is_read_can_be_written f h k.ok) bytes
    ∙ ap (λ (g : List ℕ). W.written (first_of (room (leb (length g) (length bytes)))) g bytes) same

pub no_two_files_of_an_edition_carry_one_set : (f g : List ℕ) → Bytes f → Bytes g → first_of (R.refusals f) ≡ 0 → first_of (R.refusals g) ≡ 0 → is_second f ≡ is_second g
    → points_of f ≡ points_of g → contour_ranges f ≡ contour_ranges g → shape_ranges f ≡ shape_ranges g → f ≡ g
no_two_files_of_an_edition_carry_one_set f g hf hg f-ok g-ok b p c s =
    sym (every_file_that_is_read_is_written_the_same f hf f-ok)
    ∙ rw (b, p, c, s) (every_file_that_is_read_is_written_the_same g hg g-ok)

pub no_two_sets_have_one_file : (s t : Bool) (p q : List ℤ) (cs ds ss ts : List (List ℕ)) → Fit s p cs ss → Fit t q ds ts
    → edition_file s p cs ss ≡ edition_file t q ds ts → (s ≡ t) × (p ≡ q) × (spans cs ≡ spans ds) × (spans ss ≡ spans ts)
no_two_sets_have_one_file s t p q cs ds ss ts x y e =
    let k : carried s p cs ss x ≡ carried t q ds ts y = ap read_contours (sym (read s p cs ss x) ∙ ap parsed e ∙ read t q ds ts y) in (
      sym (own s p cs ss x) ∙ ap is_second e ∙ own t q ds ts y,
      sym (points_back s p cs ss x) ∙ ap (λ (l : List Entry). joined (contours_of l)) k ∙ points_back t q ds ts y,
      sym (regular_ranges (bound s) p cs ss x.regular) ∙ ap (λ (l : List Entry). contour_spans (contours_of l)) k ∙ regular_ranges (bound t) q ds ts y.regular,
      sym (regular_groups (bound s) p cs ss x.regular) ∙ ap (λ (l : List Entry). shape_spans (shapes_of l)) k ∙ regular_groups (bound t) q ds ts y.regular,
    )
