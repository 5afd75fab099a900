-- Which sets a file can carry, and what their contours and shapes are like.
use Rattle.std.proofs.Common.{◌≡◌, ℕ, zero, suc, ◌+◌, ◌-◌, ◌*◌, ◌%◌, ◌<◌, ◌≤◌, Bool, true, false, not, ◌&&◌, ◌||◌, eqb, ltb, List, [], ◌∷◌, map, length, get_or, drop, ℤ, sym, refl, ap, ◌∙◌, subst, ap₂, true≢false, arith, length-drop, length-take-le, w32, SFits, ltb-false, ltb-true, le-ltb, ne_eqb}
use lib.ListN.{length-map}
use borrow.Author.Tests.{eqb-false, not-false}
use Rattle.integers.proofs.Logic.{and_left, and_right, or_left, or_right}
use Rattle.integers.proofs.Bound.{in_fits}
use Rattle.grid.specs.Limits.{limit, narrow, most, on_grid, all_on_grid}
use Rattle.replies.specs.Ladder.{first_of}
use Rattle.grid.specs.Domain.{Contour, count}
use Rattle.replies.proofs.LadderLaws.{clear, first_is}
use Rattle.replies.proofs.LadderLaws.First.{past, foot}
use Rattle.grid.proofs.LimitLaws.{all_on_wider, on_grid_in, on_dropped, on_taken}
use Rattle.buffer.specs.declared.ranges.Span.{Span}
use Rattle.buffer.specs.Spans.{span, spans, sound, sound_from, size, total, laid}
use Rattle.buffer.specs.Sets.{cut, joined, contour, contours, shapes, contour_spans, shape_spans, Even}
use Rattle.buffer.proofs.SpanLaws.{range_within, first_starts, first_forward, others_sound, rises}
use Rattle.buffer.proofs.SetLaws.{contours_even, sizes_are, sound_laid}
use Rattle.buffer.proofs.RowLaws.{spans-length}
use Rattle.buffer.proofs.PartLaws.{names_of, part_contour, contours_at}
use Rattle.buffer.proofs.Theorems.{a_sound_set's_contours_laid_end_to_end_are_its_points, and_its_ranges_are_theirs, a_sound_set's_shapes_laid_end_to_end_are_its_contours, the_counts_add_up}
use Rattle.setfile.specs.Entries.{Entry, contours_of, entries, Gathered, shapes_of}
use Rattle.setfile.specs.Format.{file_length}
use Rattle.setfile.specs.Reading.{most_bytes}
use Rattle.setfile.specs.Writing.{most_contours, most_points, some_over, some_empty, refusals}
use Rattle.setfile.specs.Promises.{Each, Short, Filled, Started, Carriable, Regular}
use Rattle.setfile.specs.inside.Writing.{Named, Grouped}
use Rattle.setfile.proofs.GatherLaws.{gathered_entries, contours_entries, entries_started}

-- what holds of each image, and of each element
module _ {A B : Type 0} (f : A → B) (P : B → Type 0) where
  each_of : (l : List A) → Each P (map f l) → Each (λ (a : A). P (f a)) l
  each_of [] h = tt
  each_of (a ∷ l) h = (h.0, each_of l h.1)

  of_each : (l : List A) → Each (λ (a : A). P (f a)) l → Each P (map f l)
  of_each [] h = tt
  of_each (a ∷ l) h = (h.0, of_each l h.1)

-- what holds of one list holds of another with the same images
pub each_like : {A B C : Type 0} (f : A → B) (g : C → B) (P : B → Type 0) (k : List C) (l : List A) → map g k ≡ map f l
    → Each (λ (c : C). P (g c)) k → Each (λ (a : A). P (f a)) l
each_like f g P k l e h = each_of f P l (subst (Each P) e (of_each g P k h))

-- the tests over spans
pub none_over : (n : ℕ) (l : List Span) → some_over n l ≡ false → Each (λ (s : Span). size s ≤ n) l
unfolding some_over
none_over n [] e = tt
none_over n (s ∷ l) e = (ltb-false n (size s) (or_left (ltb n (size s)) _ e), none_over n l (or_right (ltb n (size s)) _ e))

pub over_none : (n : ℕ) (l : List Span) → Each (λ (s : Span). size s ≤ n) l → some_over n l ≡ false
unfolding some_over
over_none n [] h = refl
over_none n (s ∷ l) h = rw (le-ltb n (size s) h.0) (over_none n l h.1)

pub none_empty : (l : List Span) → some_empty l ≡ false → Each (λ (s : Span). 0 < size s) l
unfolding some_empty
none_empty [] e = tt
none_empty (s ∷ l) e =
    let n = eqb-false (size s) 0 (or_left (eqb (size s) 0) _ e) in
    (omega (arith, n), none_empty l (or_right (eqb (size s) 0) _ e))

pub empty_none : (l : List Span) → Each (λ (s : Span). 0 < size s) l → some_empty l ≡ false
unfolding some_empty
empty_none [] h = refl
empty_none (s ∷ l) h = rw (ne_eqb (size s) 0 (λ z. omega (arith, h.0))) (empty_none l h.1)

or_other : (a b : Bool) → (a || b) ≡ true → a ≡ false → b ≡ true
or_other true b e f = absurd (true≢false f)
or_other false b e f = e

-- a part over a limit lies in more points than that
pub over_in : (n q m : ℕ) (l : List Span) → some_over n l ≡ true → sound_from q l m ≡ true → q + n < m
unfolding some_over
over_in n q m [] e f = let z : ◌≡◌ {A = ℕ} 0 1 = cc in absurd (omega arith)
over_in n q m (s ∷ l) e f = go (ltb n (size s)) refl (λ t. over_in n s.end m l t (others_sound q m s l f))
  where
    go : (b : Bool) → ltb n (size s) ≡ b → (some_over n l ≡ true → s.end + n < m) → q + n < m
    go true g r = omega (arith, ltb-true n (size s) g, first_starts q m s l f, rises s.end m l (others_sound q m s l f))
    go false g r = omega (arith, r (or_other (ltb n (size s)) (some_over n l) e g), first_starts q m s l f, first_forward q m s l f)

-- the spans of parts laid end to end
pub laid_sizes : (p : ℕ) (sizes : List ℕ) → map size (laid p sizes) ≡ sizes
unfolding laid
laid_sizes p [] = refl
laid_sizes p (n ∷ sizes) = ap₂ (λ (a : ℕ) (l : List ℕ). a ∷ l) (omega arith) (laid_sizes (p + n) sizes)

-- parts cut at sound spans
module _ {A : Type 0} (a : List A) where
  cut_sizes : (q : ℕ) (l : List Span) → sound_from q l (length a) ≡ true → map length (map (cut a) l) ≡ map size l
  cut_sizes q [] e = refl
  cut_sizes q (s ∷ l) e =
      let o = others_sound q (length a) s l e in
      let f = first_forward q (length a) s l e in
      let r = rises s.end (length a) l o in
      ap₂ (λ (n : ℕ) (k : List ℕ). n ∷ k) (length-take-le (s.end - s.start) (drop s.start a) (omega (arith, length-drop s.start a))) (cut_sizes s.end l o)

-- coordinates on the grid are i32
on_fits : (c : List ℤ) → all_on_grid narrow c ≡ true → Each (SFits w32) c
unfolding all_on_grid narrow
on_fits [] e = tt
on_fits (z ∷ c) e = (in_fits (on_grid_in narrow z (and_left (on_grid narrow z) _ e)) tt, on_fits c (and_right (on_grid narrow z) _ e))

contours_fit : (p : List ℤ) (l : List Span) → all_on_grid narrow p ≡ true → Each (Each (SFits w32)) (contours p l)
contours_fit p [] e = tt
contours_fit p (s ∷ l) e = (on_fits (contour p s) (on_taken narrow (2 * s.end - 2 * s.start) (drop (2 * s.start) p) (on_dropped narrow (2 * s.start) p e)), contours_fit p l e)

-- exactly these sets are not refused
module _ (p : List ℤ) (cs ss : List (List ℕ)) where
  pub carriable : first_of (refusals p cs ss) ≡ 0 → Carriable p cs ss
  carriable e =
      let c = clear (refusals p cs ss) tt e in
      let s = not-false (sound (spans cs) (count p) && sound (spans ss) (length cs)) c.1.1.1.0 in
      let many : Bool = ltb most_contours (length (spans cs)) in
      let t = c.1.1.1.1.1.0 in
      let u = or_left (many || some_over most_points (spans cs)) (some_empty (spans ss)) t in
      record {
        even = omega (arith, eqb-false (length p % 2) 1 c.0);
        fits = ltb-false most_bytes (file_length (length cs) (count p)) c.1.1.0;
        contours = and_left (sound (spans cs) (count p)) _ s;
        shapes = and_right (sound (spans cs) (count p)) _ s;
        on = not-false (all_on_grid narrow p) c.1.1.1.1.0;
        few = omega (arith, ltb-false most_contours (length (spans cs)) (or_left many (some_over most_points (spans cs)) u), spans-length cs);
        short = none_over most_points (spans cs) (or_right many (some_over most_points (spans cs)) u);
        filled = none_empty (spans ss) (or_right (many || some_over most_points (spans cs)) (some_empty (spans ss)) t);
      }

  pub not_refused : Carriable p cs ss → first_of (refusals p cs ss) ≡ 0
  unfolding most
  not_refused h =
      sym
      (first_is _ 0
      (past (ne_eqb (length p % 2) 1 (λ z. omega (arith, h.even)))
      (past (le-ltb most (count p) (omega (arith, h.fits)))
      (past (le-ltb most_bytes (file_length (length cs) (count p)) h.fits)
      (past (rw (h.contours, h.shapes))
      (past (ap not h.on)
      (past (rw (le-ltb most_contours (length (spans cs)) (omega (arith, h.few, spans-length cs)), over_none most_points (spans cs) h.short, empty_none (spans ss) h.filled))
      foot)))))))

-- which have a file in either edition
pub regular : (p : List ℤ) (cs ss : List (List ℕ)) → Carriable p cs ss → Regular narrow p cs ss
unfolding most
regular p cs ss h = record {
  even = h.even;
  within = omega (arith, h.fits);
  contours = h.contours;
  shapes = h.shapes;
  on = h.on;
  few = h.few;
  short = h.short;
  filled = h.filled;
}

each_at : {A : Type 0} (P : A → Type 0) (l : List A) → Each P l → (k : ℕ) (d : A) → k < length l → P (get_or l k d)
each_at P [] h k d g = absurd (omega arith)
each_at P (a ∷ l) h zero d g = h.0
each_at P (a ∷ l) h (suc k) d g = each_at P l h.1 k d (omega arith)

-- the contours of such a set, as a file carries them
module _ (bound : ℕ) (p : List ℤ) (cs ss : List (List ℕ)) (h : Regular bound p cs ss) where
  abbrev all_entries : List Entry
  all_entries = entries (shapes p (spans cs) (spans ss))

  pub regular_contours : contours_of all_entries ≡ contours p (spans cs)
  regular_contours =
      contours_entries (shapes p (spans cs) (spans ss))
      ∙ a_sound_set's_shapes_laid_end_to_end_are_its_contours p (spans cs) (spans ss) h.even h.contours (rw (spans-length cs) h.shapes)

  pub regular_even : Even (contours p (spans cs))
  regular_even = contours_even p 0 (spans cs) h.even h.contours

  pub regular_short : Short (contours p (spans cs))
  regular_short =
      each_like count size (λ (n : ℕ). n ≤ most_points) (spans cs) (contours p (spans cs)) (sym (sizes_are p 0 (spans cs) h.even h.contours)) h.short

  pub regular_count : length all_entries ≡ length cs
  regular_count =
      sym (length-map all_entries (λ (e : Entry). e.points)) ∙ ap length regular_contours ∙ length-map (spans cs) (contour p) ∙ spans-length cs

  pub regular_total : total (map count (contours p (spans cs))) ≡ count p
  regular_total =
      sym (the_counts_add_up (contours p (spans cs)) regular_even)
      ∙ ap count (a_sound_set's_contours_laid_end_to_end_are_its_points p (spans cs) h.even h.contours)

  grouped : sound (spans ss) (length (spans cs)) ≡ true
  grouped = rw (spans-length cs) h.shapes

  shape_sizes : map length (shapes p (spans cs) (spans ss)) ≡ map size (spans ss)
  shape_sizes = cut_sizes (contours p (spans cs)) 0 (spans ss) (rw (length-map (spans cs) (contour p)) grouped)

  filled_shapes : Filled (shapes p (spans cs) (spans ss))
  filled_shapes = each_like length size (λ (n : ℕ). 0 < n) (spans ss) (shapes p (spans cs) (spans ss)) (sym shape_sizes) h.filled

  pub regular_started : Started all_entries
  regular_started = entries_started (shapes p (spans cs) (spans ss)) filled_shapes

  -- its points and its ranges
  pub regular_points : joined (contours_of all_entries) ≡ p
  regular_points = ap joined regular_contours ∙ a_sound_set's_contours_laid_end_to_end_are_its_points p (spans cs) h.even h.contours

  pub regular_ranges : contour_spans (contours_of all_entries) ≡ spans cs
  regular_ranges = ap contour_spans regular_contours ∙ and_its_ranges_are_theirs p (spans cs) h.even h.contours

  pub regular_groups : shape_spans (shapes_of all_entries) ≡ spans ss
  regular_groups =
      ap (λ (g : Gathered). shape_spans g.shapes) (gathered_entries (shapes p (spans cs) (spans ss)) filled_shapes)
      ∙ ap (laid 0) shape_sizes ∙ sound_laid 0 (length (spans cs)) (spans ss) grouped

  -- its ranges name contours that a file can count, and its shapes end within them
  module _ (within : bound ≤ limit) where
    pub all_named : Named p cs (length cs)
    all_named k l =
        let n = names_of p cs k h.even h.contours l in
        let d : Contour p (count p) = record { even = h.even; few = h.within; on = all_on_wider bound limit p within h.on } in
        let c = part_contour p cs k d n in
        let m : length (contours p (spans cs)) ≡ length cs = length-map (spans cs) (contour p) ∙ spans-length cs in
        let s : count (contour p (span (get_or cs k []))) ≤ most_points = rw (contours_at p cs k l) at (each_at (λ (c : List ℤ). count c ≤ most_points) (contours p (spans cs)) regular_short k [] (omega arith)) in
        (n, record { even = c.even; short = s; on = c.on })

    pub all_grouped : Grouped ss (length cs)
    all_grouped i l = (range_within ss (length cs) i h.shapes l).ends
