-- What cleaning a shape, and cleaning shapes, comes to.
use Rattle.std.proofs.Common.{Err, ◌≡◌, ℕ, zero, suc, ◌*◌, ◌^◌, ◌<◌, ◌≤◌, Bool, true, ◌&&◌, leb, List, [], ◌++◌, map, length, take, drop, replicate, ℤ, sym, refl, ap, ◌∙◌, ap₂, arith, length-take-le, ltb-false, le-leb, leb-true}
use mathlib.Core.Bool.{and-true}
use lib.ListN.{length-replicate, length-map}
use borrow.Author.Tests.{not-false}
use Rattle.integers.proofs.Logic.{and_left, and_right}
use Rattle.replies.specs.declared.refusal.Refusal.{Refusal}
use Rattle.replies.specs.Refusals.{number}
use Rattle.replies.specs.Ladder.{Rung, first_of, room}
use Rattle.grid.specs.Limits.{limit, narrow}
use Rattle.grid.specs.Domain.{count}
use Rattle.replies.proofs.LadderLaws.{clear, cleared}
use Rattle.replies.proofs.RefusalLaws.{refusals_have_numbers, asked_further}
use Rattle.ring.specs.declared.Rule.{Rule}
use Rattle.clean.specs.Outcome.{scratch}
use Rattle.rows.specs.Rows.{zeroed}
use Rattle.buffer.specs.Spans.{span, spans, rows, laid, sound}
use Rattle.buffer.specs.Sets.{cut, joined, contour, contours, shapes}
use Rattle.buffer.specs.Refusals.{set}
use Rattle.buffer.proofs.SpanLaws.{range_within}
use Rattle.buffer.proofs.RefusalLaws.{Accepted, accepted}
use Rattle.rows.proofs.RowLaws.{placed_front}
use Rattle.buffer.proofs.Theorems.{a_sound_set's_contours_laid_end_to_end_are_its_points, a_sound_set's_shapes_laid_end_to_end_are_its_contours}
use Rattle.sets.specs.declared.cleaning.CleanedSet.{CleanedSet}
use Rattle.sets.specs.declared.inner.contour.Tried.{Tried}
use Rattle.sets.specs.declared.inner.shapes.Total.{Total}
use Rattle.sets.specs.Fates.{ShapeFate, shape_fate, shapes_fate}
use Rattle.sets.specs.Fates.ShapeFate.{stands, fallen}
use Rattle.sets.specs.Outcome.{answer, cleaned_as, Lent, Outcome, lent, leaving, lacking, outcome, cleaned_shape, shape_outcome, shapes_outcome}
use Rattle.sets.specs.inside.Contour.{reached, none_yet, Scratch}
use Rattle.sets.specs.inside.Shape.{Tested, tested, run_shape, Zeroed, Room, Named, Going, shape_answer}
use Rattle.sets.specs.inside.Shapes.{Grouped, grouped, run_shapes, Each}
use Rattle.sets.proofs.BehindLaws.{accepted_named, all_named, all_cut}
use Rattle.sets.proofs.AfterLaws.{shaped, shape_after}
use Rattle.sets.proofs.ShapesLaws.{among, shapes_after}

-- the parts of an outcome
pub same_leaving : {a b : CleanedSet} {n m p q k l : List ℕ} {o u : List ℤ} {c d s t : List (List ℕ)} → a ≡ b → n ≡ m → p ≡ q → k ≡ l → o ≡ u → c ≡ d → s ≡ t
    → leaving a (lent n p k o c s) ≡ leaving b (lent m q l u d t)
same_leaving e f g h i j k = cc

-- the scratch of n points, zeroed and put back
pub zeroed_back : (n : ℕ) (row row' : List ℕ) → n ≤ length row → row' ≡ replicate (length (take n row)) 0 → row' ++ drop n row ≡ zeroed n row
zeroed_back n row row' h e =
    let m : length {A = ℕ} (replicate n 0) ≡ n = length-replicate n 0 in
    rw (e, length-take-le n row h, m)

-- the scratch is zeroed as long as it was
pub zeroed_whole : {next prev mark next₁ prev₁ mark₁ next₂ prev₂ mark₂ : List ℕ} → Zeroed next₁ prev₁ mark₁ next₂ prev₂ mark₂
    → length next₁ ≡ length next → length prev₁ ≡ length prev → length mark₁ ≡ length mark → Zeroed next prev mark next₂ prev₂ mark₂
zeroed_whole z e f g = record {
  next-zero = z.next-zero ∙ ap (λ (n : ℕ). replicate n 0) e;
  prev-zero = z.prev-zero ∙ ap (λ (n : ℕ). replicate n 0) f;
  mark-zero = z.mark-zero ∙ ap (λ (n : ℕ). replicate n 0) g;
}

-- a set and the rows that are lent; its ranges are sound, or not
module _ (p : List ℤ) (cs ss : List (List ℕ)) (ok : Bool) (l : Lent) where
  abbrev pub rungs : List Rung
  rungs = set limit p ok ++ lacking p cs ss l

  refused_by : (done : Outcome) (k : ℕ) → k ≡ first_of rungs → (k ≡ 0 → ⊥) → leaving (answer k 0 0 0 0 0) l ≡ outcome (first_of rungs) l done
  refused_by done zero e n = absurd (n refl)
  refused_by done (suc k) e n = ap (λ (r : ℕ). outcome r l done) e

  pub refused : (done : Outcome) (r : Refusal) → number r ≡ first_of rungs → leaving (cleaned_as (Err r)) l ≡ outcome (first_of rungs) l done
  refused done r e = refused_by done (number r) e (refusals_have_numbers r)

  module _ (z : first_of rungs ≡ 0) where
    parts : (first_of (set limit p ok) ≡ 0) × (first_of (lacking p cs ss l) ≡ 0)
    parts = cleared (set limit p ok) (lacking p cs ss l) tt z

    pub set_accepted : Accepted limit p ok
    set_accepted = accepted limit p ok parts.0

    pub scratch_fits : Scratch (count p) l.next l.prev l.mark
    scratch_fits =
        let c = clear (lacking p cs ss l) tt parts.1 in
        record { in_next = ltb-false _ _ c.0; in_prev = ltb-false _ _ c.1.0; in_mark = ltb-false _ _ c.1.1.0 }

    -- the part of the scratch that is lent on fits too
    pub part_fits : Scratch (count p) (take (count p) l.next) (take (count p) l.prev) (take (count p) l.mark)
    part_fits =
        let s = scratch_fits in
        record {
          in_next = omega (arith, length-take-le (count p) l.next s.in_next);
          in_prev = omega (arith, length-take-le (count p) l.prev s.in_prev);
          in_mark = omega (arith, length-take-le (count p) l.mark s.in_mark);
        }

    pub output_fits : (length p ≤ length l.points) × (length cs ≤ length l.contours) × (length ss ≤ length l.shapes)
    output_fits =
        let c = clear (lacking p cs ss l) tt parts.1 in
        let a : Bool = leb (length p) (length l.points) in
        let b : Bool = leb (length cs) (length l.contours) in
        let e = not-false _ c.1.1.1.0 in
        let f = and_left (a && b) _ e in
        (leb-true _ _ (and_left a b f), leb-true _ _ (and_right a b f), leb-true _ _ (and_right (a && b) _ e))

    pub swept_back : (next' prev' mark' : List ℕ) → Zeroed (take (count p) l.next) (take (count p) l.prev) (take (count p) l.mark) next' prev' mark'
        → (a b : CleanedSet) → a ≡ b → (o u : List ℤ) → o ≡ u → (c d : List (List ℕ)) → c ≡ d → (s t : List (List ℕ)) → s ≡ t
        → leaving a (lent (next' ++ drop (count p) l.next) (prev' ++ drop (count p) l.prev) (mark' ++ drop (count p) l.mark) o c s)
        ≡ leaving b (lent (zeroed (count p) l.next) (zeroed (count p) l.prev) (zeroed (count p) l.mark) u d t)
    swept_back next' prev' mark' y a b e o u f c d g s t h =
        let x = scratch_fits in
        same_leaving e
        (zeroed_back (count p) l.next next' x.in_next y.next-zero)
        (zeroed_back (count p) l.prev prev' x.in_prev y.prev-zero)
        (zeroed_back (count p) l.mark mark' x.in_mark y.mark-zero)
        f g h

    module _ (s : sound (spans cs) (count p) ≡ true) where
      pub set_named : Named p cs
      set_named = accepted_named p cs ok set_accepted s

      pub set_room : length cs * 16 < 2 ^ 64 → Room (contours p (spans cs)) none_yet l.points l.contours
      unfolding Rattle.grid.specs.Limits.most
      set_room few =
          let a = set_accepted in
          let j = ap length (a_sound_set's_contours_laid_end_to_end_are_its_points p (spans cs) a.even s) in
          let m = length-map (spans cs) (contour p) ∙ length-map cs span in
          record {
            room = omega (arith, output_fits.0);
            space = omega (arith, output_fits.1);
            narrow = omega arith;
            fits = omega (arith, a.few, a.even);
            turns_fit = omega (arith, a.few, a.even);
          }

-- one shape
module _ (p : List ℤ) (cs : List (List ℕ)) (l : Lent) where
  abbrev pub contours_sound : Bool
  contours_sound = sound (spans cs) (count p)

  abbrev pub shape_rungs : List Rung
  shape_rungs = rungs p cs [] contours_sound l

  pub shape_first : {k : ℕ} → 0 ≡ first_of (set limit p contours_sound)
      → k ≡ first_of (scratch (count p) (length l.next) (length l.prev) (length l.mark) ++ room (leb (length p) (length l.points) && leb (length cs) (length l.contours)))
      → k ≡ first_of shape_rungs
  shape_first e f =
      let n : leb 0 (length l.shapes) ≡ true = le-leb 0 (length l.shapes) (omega arith) in
      asked_further (set limit p contours_sound) _ tt e
      (f ∙ ap (λ (b : Bool). first_of (scratch (count p) (length l.next) (length l.prev) (length l.mark) ++ room b)) (rw n (sym (and-true _))))

  pub shape_refused : (rule : Rule) (r : Refusal) → number r ≡ first_of shape_rungs → leaving (cleaned_as (Err r)) l ≡ shape_outcome rule p cs l
  unfolding shape_outcome
  shape_refused rule r e = refused p cs [] contours_sound l _ r e

  module _ (z : first_of shape_rungs ≡ 0) (few : length cs * 16 < 2 ^ 64) where
    named : Named p cs
    named = set_named p cs [] contours_sound l z (set_accepted p cs [] contours_sound l z).sound

    shape_room : Room (contours p (spans cs)) none_yet l.points l.contours
    shape_room = set_room p cs [] contours_sound l z (set_accepted p cs [] contours_sound l z).sound few

    pub shape_going : Going p cs none_yet (take (count p) l.next) (take (count p) l.prev) (take (count p) l.mark) l.points l.contours
    shape_going = record { named = named; scratch = part_fits p cs [] contours_sound l z; room = shape_room }

    module _ (rule : Rule) (t : Tried) (next' prev' mark' : List ℕ) (out' : List ℤ) (records' : List (List ℕ))
        (e : tested t.stays (reached t.progress out' records') ≡ run_shape rule (contours p (spans cs)) (reached none_yet l.points l.contours))
        (s : Zeroed (take (count p) l.next) (take (count p) l.prev) (take (count p) l.mark) next' prev' mark') where
      abbrev leaving_so : CleanedSet → Outcome
      leaving_so a = leaving a (lent (next' ++ drop (count p) l.next) (prev' ++ drop (count p) l.prev) (mark' ++ drop (count p) l.mark) out' records' l.shapes)

      done : shape_outcome rule p cs l ≡ cleaned_shape (count p) (shape_fate rule (contours p (spans cs))) l
      unfolding shape_outcome
      done = rw (z, shape_outcome)

      cleaned : tested t.stays (reached t.progress out' records') ≡ shaped rule (shape_fate rule (contours p (spans cs))) (reached none_yet l.points l.contours)
      cleaned = e ∙ shape_after rule (contours p (spans cs)) (reached none_yet l.points l.contours) (all_named p cs named) shape_room

      pub shape_is_done : (a : CleanedSet) → a ≡ shape_answer t.stays t.progress → leaving_so a ≡ shape_outcome rule p cs l
      shape_is_done a f = go (shape_fate rule (contours p (spans cs))) cleaned ∙ sym done
        where
          go : (w : ShapeFate) → tested t.stays (reached t.progress out' records') ≡ shaped rule w (reached none_yet l.points l.contours) → leaving_so a ≡ cleaned_shape (count p) w l
          go (fallen k) q =
              let d : t.progress.decisions ≡ k.decisions = ap (λ (x : Tested). x.reached.progress.decisions) q ∙ omega arith in
              let v : t.progress.turns ≡ k.turns = ap (λ (x : Tested). x.reached.progress.turns) q ∙ omega arith in
              let e : a ≡ answer 7 0 0 0 k.decisions k.turns = f ∙ ap (λ (b : Bool). shape_answer b t.progress) (ap (λ (x : Tested). x.stands) q) ∙ ap₂ (answer 7 0 0 0) d v in
              swept_back p cs [] contours_sound l z next' prev' mark' s _ _ e
              _ _ (ap (λ (x : Tested). x.reached.points) q) _ _ (ap (λ (x : Tested). x.reached.contours) q) _ _ refl
          go (stands ds k) q =
              let points_are : t.progress.points ≡ count (joined ds) = ap (λ (x : Tested). x.reached.progress.points) q ∙ omega arith in
              let contours_are : t.progress.contours ≡ length ds = ap (λ (x : Tested). x.reached.progress.contours) q ∙ omega arith in
              let d : t.progress.decisions ≡ k.decisions = ap (λ (x : Tested). x.reached.progress.decisions) q ∙ omega arith in
              let v : t.progress.turns ≡ k.turns = ap (λ (x : Tested). x.reached.progress.turns) q ∙ omega arith in
              let kept : ◌≡◌ {A = CleanedSet} (answer 0 t.progress.points t.progress.contours 1 t.progress.decisions t.progress.turns)
              (answer 0 (count (joined ds)) (length ds) 1 k.decisions k.turns) = cc in
              let e : a ≡ answer 0 (count (joined ds)) (length ds) 1 k.decisions k.turns = f ∙ ap (λ (b : Bool). shape_answer b t.progress) (ap (λ (x : Tested). x.stands) q) ∙ kept in
              swept_back p cs [] contours_sound l z next' prev' mark' s _ _ e
              _ _ (ap (λ (x : Tested). x.reached.points) q ∙ placed_front l.points (joined ds))
              _ _ (ap (λ (x : Tested). x.reached.contours) q ∙ placed_front l.contours (rows (laid 0 (map count ds)))) _ _ refl

-- shapes
module _ (p : List ℤ) (cs ss : List (List ℕ)) (l : Lent) where
  abbrev pub both_sound : Bool
  both_sound = sound (spans cs) (count p) && sound (spans ss) (length cs)

  abbrev pub shapes_rungs : List Rung
  shapes_rungs = rungs p cs ss both_sound l

  pub shapes_first : {k : ℕ} → 0 ≡ first_of (set limit p both_sound) → k ≡ first_of (lacking p cs ss l) → k ≡ first_of shapes_rungs
  shapes_first e f = asked_further (set limit p both_sound) (lacking p cs ss l) tt e f

  pub shapes_refused : (rule : Rule) (r : Refusal) → number r ≡ first_of shapes_rungs → leaving (cleaned_as (Err r)) l ≡ shapes_outcome rule p cs ss l
  unfolding shapes_outcome
  shapes_refused rule r e = refused p cs ss both_sound l _ r e

  module _ (z : first_of shapes_rungs ≡ 0) (few : length cs * 16 < 2 ^ 64) (less : length ss * 16 < 2 ^ 64) where
    ranges_sound : (sound (spans cs) (count p) ≡ true) × (sound (spans ss) (length cs) ≡ true)
    ranges_sound =
        let a = (set_accepted p cs ss both_sound l z).sound in
        (and_left (sound (spans cs) (count p)) _ a, and_right (sound (spans cs) (count p)) _ a)

    all_room : Room (joined (shapes p (spans cs) (spans ss))) none_yet l.points l.contours
    all_room =
        let n : sound (spans ss) (length (spans cs)) ≡ true = ap (sound (spans ss)) (length-map cs span) ∙ ranges_sound.1 in
        let e = a_sound_set's_shapes_laid_end_to_end_are_its_contours p (spans cs) (spans ss) (set_accepted p cs ss both_sound l z).even ranges_sound.0 n in
        rw e (set_room p cs ss both_sound l z ranges_sound.0 few)

    pub shapes_each : Each p cs ss (take (count p) l.next) (take (count p) l.prev) (take (count p) l.mark) l.points l.contours l.shapes
    shapes_each = record {
      named = set_named p cs ss both_sound l z ranges_sound.0;
      scratch = part_fits p cs ss both_sound l z;
      within = λ k h. let w = range_within ss (length cs) k ranges_sound.1 h in record { forward = w.forward; ends = w.ends };
      room = all_room;
      space = (output_fits p cs ss both_sound l z).2;
      narrow = less;
    }

    pub shapes_are_kept : (rule : Rule) (t : Total) (next' prev' mark' : List ℕ) (out' : List ℤ) (records' groups' : List (List ℕ))
        → grouped t.shapes (reached t.progress out' records') groups' ≡ run_shapes rule (shapes p (spans cs) (spans ss)) (grouped 0 (reached none_yet l.points l.contours) l.shapes)
        → Zeroed (take (count p) l.next) (take (count p) l.prev) (take (count p) l.mark) next' prev' mark'
        → (w : CleanedSet) → w ≡ answer 0 t.progress.points t.progress.contours t.shapes t.progress.decisions t.progress.turns
        → leaving w
        (lent (next' ++ drop (count p) l.next) (prev' ++ drop (count p) l.prev) (mark' ++ drop (count p) l.mark) out' records' groups')
        ≡ shapes_outcome rule p cs ss l
    unfolding shapes_outcome
    shapes_are_kept rule t next' prev' mark' out' records' groups' e s w so_far =
        let all = shapes p (spans cs) (spans ss) in
        let ds = (shapes_fate rule all).shapes in
        let start = grouped 0 (reached none_yet l.points l.contours) l.shapes in
        let n : length all ≡ length ss = length-map (spans ss) (cut (contours p (spans cs))) ∙ length-map ss span in
        let q : grouped t.shapes (reached t.progress out' records') groups' ≡ among (shapes_fate rule all) start =
        e ∙ shapes_after rule all start (all_cut (contours p (spans cs)) (spans ss) (all_named p cs shapes_each.named)) all_room (omega (arith, shapes_each.space)) in
        let a : t.progress.points ≡ count (joined (joined ds)) = ap (λ (x : Grouped). x.reached.progress.points) q ∙ omega arith in
        let b : t.progress.contours ≡ length (joined ds) = ap (λ (x : Grouped). x.reached.progress.contours) q ∙ omega arith in
        let c : t.shapes ≡ length ds = ap (λ (x : Grouped). x.written) q ∙ omega arith in
        let k = (shapes_fate rule all).tally in
        let d : t.progress.decisions ≡ k.decisions = ap (λ (x : Grouped). x.reached.progress.decisions) q ∙ omega arith in
        let v : t.progress.turns ≡ k.turns = ap (λ (x : Grouped). x.reached.progress.turns) q ∙ omega arith in
        let f : ◌≡◌ {A = CleanedSet} (answer 0 t.progress.points t.progress.contours t.shapes t.progress.decisions t.progress.turns)
        (answer 0 (count (joined (joined ds))) (length (joined ds)) (length ds) k.decisions k.turns) = cc in
        swept_back p cs ss both_sound l z next' prev' mark' s _ _ (so_far ∙ f)
        _ _ (ap (λ (x : Grouped). x.reached.points) q ∙ placed_front l.points (joined (joined ds)))
        _ _ (ap (λ (x : Grouped). x.reached.contours) q ∙ placed_front l.contours (rows (laid 0 (map count (joined ds)))))
        _ _ (ap (λ (x : Grouped). x.shapes) q ∙ placed_front l.shapes (rows (laid 0 (map length ds))))
        ∙ rw (z, shapes_outcome)
