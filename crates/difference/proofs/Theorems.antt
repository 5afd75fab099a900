-- What a user may count on.
use mathlib.Core.Path.{◌≡◌, refl, sym, ◌∙◌, ap, ap₂, fun_ext}
use mathlib.Core.Bool.{Bool, true, false, not, true≢false}
use mathlib.Core.List.{List, [], ◌∷◌, map, append-nil}
use Prim.Native.Nat.{ℕ, zero, suc, ◌-◌, ◌*◌, ◌<◌, ◌≤◌}
use native.Mathlib.Omega.{arith}
use native.Mathlib.Decide.{ℕ_discrete, dec_lt}
use lib.ListN.{length, get_or, drop, replicate, length-map}
use lib.Seq.{take_at}
use lib.IntN.{ℤ}
use borrow.Author.Tests.{not-false}
use Rattle.replies.specs.Ladder.{first_of}
use Rattle.replies.proofs.LadderLaws.{cleared, front_clear}
use Rattle.grid.specs.declared.Point.{Point}
use Rattle.grid.specs.Points.{at}
use Rattle.grid.specs.Points as Points
use Rattle.grid.specs.Domain.{count, Contour}
use Rattle.grid.proofs.CornerLaws.{same_is}
use Rattle.buffer.specs.Spans.{spans}
use Rattle.buffer.specs.Sets.{contours, contour_spans, joined, Even}
use Rattle.buffer.specs.Contours.{refusals}
use Rattle.buffer.proofs.SetLaws.{contours_even}
use Rattle.buffer.proofs.Theorems as Buffer
use Rattle.turned.specs.Search.{first_below}
use Rattle.turned.specs.Starts.{starts_at, smallest_start, started_at}
use Rattle.turned.proofs.SearchLaws.{first_is, is_first, first_least}
use Rattle.turned.proofs.StartedLaws.{same_self, points_tell, started-length, starts_is, started_starts}
use Rattle.turned.proofs.Theorems.{a_way_there_is_a_way_back, there_and_back_is_what_repeats}
use Rattle.difference.specs.declared.inner.lines.Line.{Line}
use Rattle.difference.specs.declared.inner.lines.Line.TheVariants.{Same, Elsewhere, Different, OnlyFirst, OnlySecond}
use Rattle.difference.specs.Lines.{same, elsewhere, different, only_first, only_second, first_other, compared, listed, lines_of, row, written, kind}
use Rattle.difference.specs.Outcome.{all_refusals, whose, Outcome, answered, outcome}
use Rattle.difference.specs.Promises.{told, ToldAgain, Mirrored}
use Rattle.difference.specs.Promises.ToldAgain.{as_the_same, from_a_start}
use Rattle.difference.specs.Promises.Mirrored.{same_both_ways, there_and_back, different_both_ways}
use Rattle.difference.specs.inside.Sets.{Sound}
use Rattle.difference.proofs.LineLaws.{shorter, longer, same_all, same_elsewhere, same_nowhere, other_within, start_not_zero}
use Rattle.difference.proofs.ListLaws.{many, at_both, at_first, at_second, in_domain}
use Rattle.difference.proofs.OutcomeLaws.{is_sound}

-- how two contours of one count are told: the first position that differs is none, or the start is some or none
data Ways (first second : List ℤ) : Type 0 where
  the_same : first_other first second (count second) ≡ count second → compared first second ≡ same → Ways first second
  elsewhere_at : first_other first second (count second) < count second → smallest_start first second (count second) < count second
      → compared first second ≡ elsewhere (smallest_start first second (count second)) → Ways first second
  nowhere : first_other first second (count second) < count second → count second ≤ smallest_start first second (count second)
      → compared first second ≡ different (first_other first second (count second)) → Ways first second

ways : (first second : List ℤ) → count first ≡ count second → Ways first second
ways first second m = go (ℕ_discrete (first_other first second (count second)) (count second)) (dec_lt (smallest_start first second (count second)) (count second))
  where
    go : Dec (first_other first second (count second) ≡ count second) → Dec (smallest_start first second (count second) < count second) → Ways first second
    go (yes e) d = the_same e (same_all first second m e)
    go (no n) d = later d
      where
        low : first_other first second (count second) < count second
        low = omega (arith, other_within first second (count second))

        later : Dec (smallest_start first second (count second) < count second) → Ways first second
        later (yes l) = elsewhere_at low l (same_elsewhere first second m low l)
        later (no l) = nowhere low (omega arith) (same_nowhere first second m low (omega arith))

-- no position differs: the contours are the same
no_other : (first second : List ℤ) (n : ℕ) → length first ≡ 2 * n → length second ≡ 2 * n → first_other first second n ≡ n → second ≡ first
no_other first second n lf ls e =
    points_tell second first n ls lf
    (λ i l. same_is (at second i) (at first i) (not-false _ ((is_first (λ j. not (Points.same (at second j) (at first j))) n).before i (omega (arith, e)))))

pub what_is_told_as_the_same_is_the_same : (first second : List ℤ) → length first ≡ 2 * count first → length second ≡ 2 * count second → compared first second ≡ same → second ≡ first
what_is_told_as_the_same_is_the_same first second lf ls e = go (ℕ_discrete (count first) (count second)) (dec_lt (count first) (count second))
  where
    kind_is : {l m : Line} → l ≡ m → kind l ≡ kind m
    kind_is f = ap kind f

    go : Dec (count first ≡ count second) → Dec (count first < count second) → second ≡ first
    go (yes m) d = by_way (ways first second m)
      where
        by_way : Ways first second → second ≡ first
        by_way (the_same o w) = no_other first second (count second) (omega (arith, lf, m)) ls o
        by_way (elsewhere_at o l w) = absurd (let k : 1 ≡ 0 = kind_is (sym w ∙ e) in omega (arith, k))
        by_way (nowhere o l w) = absurd (let k : 2 ≡ 0 = kind_is (sym w ∙ e) in omega (arith, k))
    go (no n) (yes d) = absurd (let k : 2 ≡ 0 = kind_is (sym (shorter first second d) ∙ e) in omega (arith, k))
    go (no n) (no d) = absurd (let k : 2 ≡ 0 = kind_is (sym (longer first second (omega arith)) ∙ e) in omega (arith, k))

pub a_contour_is_the_same_as_itself : (c : List ℤ) → compared c c ≡ same
a_contour_is_the_same_as_itself c = same_all c c refl (sym (first_is _ (count c) (count c) (record {
  within = omega arith;
  passes = λ h. absurd (omega arith);
  before = λ i l. ap not (same_self (at c i));
})))

-- a contour and the same one started at s, past its first point
module _ (c : List ℤ) (s : ℕ) (long : length c ≡ 2 * count c) (some : 0 < s) (h : s < count c) where
  abbrev d : List ℤ
  d = started_at s c

  as_many : count c ≡ count d
  as_many = omega (arith, started-length s c)

  d_long : length d ≡ 2 * count d
  d_long = omega (arith, started-length s c, as_many)

  c_long : length c ≡ 2 * count d
  c_long = omega (arith, long, as_many)

  -- it is the contour from count c - s on
  has_a_start : smallest_start c d (count d) < count d
  has_a_start =
      let e : starts_at c d (count d) (count c - s) ≡ true = ap (λ (n : ℕ). starts_at c d n (count c - s)) (sym as_many) ∙ started_starts c (count c) s long h in
      omega (arith, as_many, first_least (starts_at c d (count d)) (count d) (count c - s) e)

  told_past_the_first : ToldAgain c d
  told_past_the_first = go (ways c d as_many)
    where
      go : Ways c d → ToldAgain c d
      go (the_same o w) = as_the_same w (no_other c d (count d) c_long d_long o)
      go (elsewhere_at o l w) =
          let t = smallest_start c d (count d) in
          from_a_start t w (starts_is c d (count d) t c_long d_long (omega arith) ((is_first (starts_at c d (count d)) (count d)).passes l))
      go (nowhere o l w) = absurd (omega (arith, has_a_start))

pub a_contour_started_elsewhere_is_told_with_the_start_that_undoes_it_or_as_the_same : (c : List ℤ) (s : ℕ) → length c ≡ 2 * count c → s < count c → ToldAgain c (started_at s c)
a_contour_started_elsewhere_is_told_with_the_start_that_undoes_it_or_as_the_same c zero long h =
    as_the_same (ap (compared c) (append-nil c) ∙ a_contour_is_the_same_as_itself c) (append-nil c)
a_contour_started_elsewhere_is_told_with_the_start_that_undoes_it_or_as_the_same c (suc s) long h = told_past_the_first c (suc s) long (omega arith) h

-- points that differ do so both ways
both_ways : (a b : Point) → Points.same a b ≡ Points.same b a
both_ways a b = go (Points.same a b) (Points.same b a) refl refl
  where
    go : (s t : Bool) → Points.same a b ≡ s → Points.same b a ≡ t → s ≡ t
    go true true e f = refl
    go true false e f = absurd (true≢false (sym (ap (Points.same b) (same_is a b e) ∙ same_self b) ∙ f))
    go false true e f = absurd (true≢false (sym (ap (Points.same a) (same_is b a f) ∙ same_self a) ∙ e))
    go false false e f = refl

other_both_ways : (first second : List ℤ) (n : ℕ) → first_other first second n ≡ first_other second first n
other_both_ways first second n = ap (λ (t : ℕ → Bool). first_below t n) (fun_ext (λ i. ap not (both_ways (at second i) (at first i))))

positive : (n : ℕ) → (n ≡ 0 → ⊥) → 0 < n
positive zero z = absurd (z refl)
positive (suc n) z = omega arith

module _ (first second : List ℤ) (f : Contour first (count first)) (g : Contour second (count second)) where
  mirrored_level : count first ≡ count second → Mirrored second (compared first second) (compared second first)
  mirrored_level m = go (ways first second m) (ways second first (sym m))
    where
      n : ℕ
      n = count second

      f' : Contour first n
      f' = rw m at f

      at_n : first_other second first (count first) ≡ first_other first second n
      at_n = ap (first_other second first) m ∙ sym (other_both_ways first second n)

      start_at_n : smallest_start second first (count first) ≡ smallest_start second first n
      start_at_n = ap (smallest_start second first) m

      go : Ways first second → Ways second first → Mirrored second (compared first second) (compared second first)
      go (the_same o w) (the_same o' w') = rw (w, w') same_both_ways
      go (the_same o w) (elsewhere_at o' l' w') = absurd (omega (arith, o, o', at_n, m))
      go (the_same o w) (nowhere o' l' w') = absurd (omega (arith, o, o', at_n, m))
      go (elsewhere_at o l w) (the_same o' w') = absurd (omega (arith, o, o', at_n, m))
      go (nowhere o l w) (the_same o' w') = absurd (omega (arith, o, o', at_n, m))
      go (elsewhere_at o l w) (elsewhere_at o' l' w') =
          let some : 0 < smallest_start first second n = positive (smallest_start first second n) (start_not_zero first second n o) in
          rw (w, w', start_at_n) (there_and_back (smallest_start first second n) (smallest_start second first n) (there_and_back_is_what_repeats first second n f' g (omega arith) some l))
      go (elsewhere_at o l w) (nowhere o' l' w') = absurd (omega (arith, a_way_there_is_a_way_back first second n f' g (omega arith) l, l', start_at_n, m))
      go (nowhere o l w) (elsewhere_at o' l' w') = absurd (omega (arith, a_way_there_is_a_way_back second first n g f' (omega arith) (omega (arith, l', start_at_n, m)), l))
      go (nowhere o l w) (nowhere o' l' w') = rw (w, w', at_n) (different_both_ways (first_other first second n))

  pub two_contours_are_the_same_to_each_other_both_ways : Mirrored second (compared first second) (compared second first)
  two_contours_are_the_same_to_each_other_both_ways = go (ℕ_discrete (count first) (count second)) (dec_lt (count first) (count second))
    where
      go : Dec (count first ≡ count second) → Dec (count first < count second) → Mirrored second (compared first second) (compared second first)
      go (yes m) d = mirrored_level m
      go (no z) (yes l) =
          rw (shorter first second l, longer second first l, other_both_ways second first (count first)) (different_both_ways (first_other first second (count first)))
      go (no z) (no l) =
          let k : count second < count first = omega arith in
          rw (longer first second k, shorter second first k, other_both_ways second first (count second)) (different_both_ways (first_other first second (count second)))

-- a comparison that is not refused
module _ (p : List ℤ) (rs : List (List ℕ)) (q : List ℤ) (ss listing : List (List ℕ)) (o : Outcome) (is : o ≡ outcome p rs q ss listing) (z : o.answer.reply ≡ 0) where
  none_held : (o ≡ answered 0 0 (lines_of p rs q ss) listing) × (first_of (all_refusals p rs q ss listing) ≡ 0)
  unfolding outcome
  none_held = go (first_of (all_refusals p rs q ss listing)) refl
    where
      w : ℕ
      w = whose (first_of (refusals p rs)) (first_of (refusals q ss))

      go : (k : ℕ) → first_of (all_refusals p rs q ss listing) ≡ k → (o ≡ answered 0 0 (lines_of p rs q ss) listing) × (first_of (all_refusals p rs q ss listing) ≡ 0)
      go zero e = (is ∙ ap (λ (n : ℕ). answered n w (lines_of p rs q ss) listing) e, e)
      go (suc k) e =
          let r : suc k ≡ 0 = sym (ap (λ (n : ℕ). (answered n w (lines_of p rs q ss) listing).answer.reply) e) ∙ sym (ap (λ (x : Outcome). x.answer.reply) is) ∙ z in
          absurd (omega (arith, r))

  -- what is told is the lines
  told_is : told o ≡ written (lines_of p rs q ss)
  told_is =
      let l = lines_of p rs q ss in
      ap told none_held.0 ∙ take_at (written l) (drop (length (written l)) listing) (length l) (length-map l row)

  first_sound : Sound p rs
  first_sound = is_sound p rs (sym (cleared (refusals p rs) _ tt none_held.1).0) refl

  second_sound : Sound q ss
  second_sound = is_sound q ss (sym (front_clear (refusals q ss) _ (cleared (refusals p rs) _ tt none_held.1).1)) refl

-- kind 0 is that of the same
same_kind : (l : Line) → kind l ≡ 0 → l ≡ same
same_kind Same e = refl
same_kind (Elsewhere s) e = absurd (omega arith)
same_kind (Different d) e = absurd (omega arith)
same_kind OnlyFirst e = absurd (omega arith)
same_kind OnlySecond e = absurd (omega arith)

-- lines that are all the same
all_same : (l m : List (List ℤ)) → Even l → Even m → (k : ℕ) → written (listed l m) ≡ replicate k (row same) → m ≡ l
unfolding listed
all_same [] [] e f k w = refl
all_same [] (b ∷ m) e f zero w = absurd (let n : suc (length (written (map (λ c. only_second) m))) ≡ 0 = ap length w in omega (arith, n))
all_same [] (b ∷ m) e f (suc k) w = absurd (let n : 4 ≡ 0 = ap (λ (r : List (List ℕ)). get_or (get_or r 0 []) 0 0) w in omega (arith, n))
all_same (a ∷ l) [] e f zero w = absurd (let n : suc (length (written (listed l []))) ≡ 0 = ap length w in omega (arith, n))
all_same (a ∷ l) [] e f (suc k) w = absurd (let n : 3 ≡ 0 = ap (λ (r : List (List ℕ)). get_or (get_or r 0 []) 0 0) w in omega (arith, n))
all_same (a ∷ l) (b ∷ m) e f zero w = absurd (let n : suc (length (written (listed l m))) ≡ 0 = ap length w in omega (arith, n))
all_same (a ∷ l) (b ∷ m) e f (suc k) w =
    let zero_kind : kind (compared a b) ≡ 0 = ap (λ (r : List (List ℕ)). get_or (get_or r 0 []) 0 0) w in
    ap₂ (λ (x : List ℤ) (y : List (List ℤ)). x ∷ y)
    (what_is_told_as_the_same_is_the_same a b e.0 f.0 (same_kind (compared a b) zero_kind))
    (all_same l m e.1 f.1 k (ap (λ (r : List (List ℕ)). drop 1 r) w))

listed_self : (l : List (List ℤ)) → written (listed l l) ≡ replicate (length l) (row same)
unfolding listed
listed_self [] = refl
listed_self (a ∷ l) = ap₂ (λ (x : Line) (y : List (List ℕ)). row x ∷ y) (a_contour_is_the_same_as_itself a) (listed_self l)

pub a_set_compared_with_itself_is_the_same_throughout : (p : List ℤ) (rs listing : List (List ℕ)) (o : Outcome) → o ≡ outcome p rs p rs listing → o.answer.reply ≡ 0
    → told o ≡ replicate (length rs) (row same)
a_set_compared_with_itself_is_the_same_throughout p rs listing o is z =
    told_is p rs p rs listing o is z ∙ listed_self (contours p (spans rs)) ∙ ap (λ (n : ℕ). replicate n (row same)) (many p rs)

-- a listing tells all: if every line says "the same", so it is
module _ (p : List ℤ) (rs : List (List ℕ)) (q : List ℤ) (ss listing : List (List ℕ)) (o : Outcome) (is : o ≡ outcome p rs q ss listing) (z : o.answer.reply ≡ 0)
    (k : ℕ) (all : told o ≡ replicate k (row same)) where
  equal_contours : contours q (spans ss) ≡ contours p (spans rs)
  equal_contours =
      let f = first_sound p rs q ss listing o is z in
      let g = second_sound p rs q ss listing o is z in
      all_same (contours p (spans rs)) (contours q (spans ss))
      (contours_even p 0 (spans rs) f.domain.even f.tied) (contours_even q 0 (spans ss) g.domain.even g.tied)
      k (sym (told_is p rs q ss listing o is z) ∙ all)

  pub sets_of_which_every_line_says_the_same_have_the_same_points : q ≡ p
  sets_of_which_every_line_says_the_same_have_the_same_points =
      let f = first_sound p rs q ss listing o is z in
      let g = second_sound p rs q ss listing o is z in
      sym (Buffer.a_sound_set's_contours_laid_end_to_end_are_its_points q (spans ss) g.domain.even g.tied)
      ∙ ap joined equal_contours
      ∙ Buffer.a_sound_set's_contours_laid_end_to_end_are_its_points p (spans rs) f.domain.even f.tied

  pub and_the_same_ranges : spans ss ≡ spans rs
  and_the_same_ranges =
      let f = first_sound p rs q ss listing o is z in
      let g = second_sound p rs q ss listing o is z in
      sym (Buffer.and_its_ranges_are_theirs q (spans ss) g.domain.even g.tied)
      ∙ ap contour_spans equal_contours
      ∙ Buffer.and_its_ranges_are_theirs p (spans rs) f.domain.even f.tied

-- two sets, and the same two the other way round
module _ (p : List ℤ) (rs : List (List ℕ)) (q : List ℤ) (ss : List (List ℕ)) (k : ℕ) where
  pub a_contour_that_both_have_is_told_the_same_both_ways : first_of (refusals p rs) ≡ 0 → first_of (refusals q ss) ≡ 0 → k < length rs → k < length ss
      → Mirrored (get_or (contours q (spans ss)) k []) (get_or (lines_of p rs q ss) k same) (get_or (lines_of q ss p rs) k same)
  a_contour_that_both_have_is_told_the_same_both_ways a b h g =
      let l = contours p (spans rs) in
      let m = contours q (spans ss) in
      let hl : k < length l = omega (arith, many p rs) in
      let gm : k < length m = omega (arith, many q ss) in
      rw (at_both l m k hl gm, at_both m l k gm hl)
      (two_contours_are_the_same_to_each_other_both_ways (get_or l k []) (get_or m k [])
      (in_domain p rs (is_sound p rs (sym a) refl) k h refl) (in_domain q ss (is_sound q ss (sym b) refl) k g refl))

  pub a_contour_that_only_the_first_has_is_the_second's_the_other_way_round : k < length rs → length ss ≤ k
      → (get_or (lines_of p rs q ss) k same ≡ only_first) × (get_or (lines_of q ss p rs) k same ≡ only_second)
  a_contour_that_only_the_first_has_is_the_second's_the_other_way_round h g =
      (at_first _ _ k (omega (arith, many p rs)) (omega (arith, many q ss)), at_second _ _ k (omega (arith, many q ss)) (omega (arith, many p rs)))
