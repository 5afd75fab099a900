-- The figures of real sets are possible, up to the most that is counted.
use mathlib.Core.Path.{◌≡◌, refl}
use mathlib.Core.Bool.{true}
use mathlib.Core.List.{List, [], ◌∷◌, ◌++◌, map}
use Prim.Native.Nat.{ℕ, zero, suc, ◌-◌, ◌*◌, ◌/◌, ◌<◌, ◌≤◌, ◌^◌}
use native.Mathlib.Omega.{arith}
use native.Mathlib.Nat.{suc-mul}
use lib.ListN.{length, take, length-append, length-map}
use lib.IntN.{ℤ, pos, negsuc, neg_ℤ, ◌+ℤ◌}
use lib.Signed.{le_z, mag}
use borrow.Author.Tests.{le-leb}
use Rattle.replies.specs.declared.refusal.Refusal.{Refusal}
use Rattle.replies.specs.declared.refusal.Refusal.TheVariants.{Odd, TooMany, OffGrid, Scratch, Room, Ranges, Collapsed, Empty, Edition, Length, NoShape, CantCarry, NoDrawing, NotFinite, Width, Fill, Full, NoneLeft, FiguresFull}
use Rattle.replies.specs.Refusals.{number}
use Rattle.integers.specs.Linear.{at, num, ◌:+◌, :neg, above, below}
use Rattle.integers.proofs.Linear.{le_holds, le_means}
use Rattle.grid.specs.Limits.{most}
use Rattle.grid.specs.Points.{points}
use Rattle.grid.specs.Area.{reported}
use Rattle.grid.specs.Domain.{count, Contour}
use Rattle.area.proofs.Theorems.{reported_is_an_i64}
use Rattle.ring.specs.declared.Rule.{Rule}
use Rattle.ring.specs.Walk.{End}
use Rattle.ring.specs.Walk.End.{kept, collapsed}
use Rattle.ring.specs.Rule.{goes}
use Rattle.ring.proofs.Listed.{rising_few}
use Rattle.ring.proofs.Theorems.{ends_in_4n_9, kept_rising}
use Rattle.clean.specs.Outcome.{walked}
use Rattle.figures.specs.Halves.{high}
use Rattle.figures.specs.Entries.{Entry, Found, walk_entry, contour_entry, refused_set, entries_by, entries, all_entries}
use Rattle.figures.specs.Batch.{numbers, sum_of, areas, figures_of}
use Rattle.figures.specs.Joining.{most_counted, most_points, most_decisions, most_high, possible}
use Rattle.figures.specs.Promises.{Contours, RealBy, Real, counts_by, contours_and_refused_sets}
use Rattle.figures.proofs.BatchLaws.{Numbered}
use Rattle.figures.proofs.BatchLaws.Numbered.{none, more}

-- a set has an entry for each contour, or one
pub set_counts : (k : ℕ) (rule : Rule) (cs : List (List ℤ)) → length (entries_by k rule cs) ≡ counts_by k cs
set_counts zero rule cs = length-map cs (contour_entry rule)
set_counts (suc k) rule cs = refl

pub entries_count : (l : List Found) → length (all_entries l) ≡ contours_and_refused_sets l
unfolding all_entries
entries_count [] = refl
entries_count (s ∷ l) = omega (arith, length-append (entries s) (all_entries l), set_counts s.refusal s.rule s.contours, entries_count l)

-- an integer that n numbers of 64 bits with a sign can come to
record Reach (n : ℕ) (z : ℤ) : Type 0 where
  low : le_z (neg_ℤ (pos (n * 2 ^ 63))) z ≡ true
  high : le_z z (pos (n * (2 ^ 63 - 1))) ≡ true

reach_one : (z : ℤ) → mag z < 2 ^ 63 → Reach 1 z
reach_one (pos n) h = record { low = refl; high = le-leb n (2 ^ 63 - 1) (omega arith) }
reach_one (negsuc n) h = record { low = le-leb n (2 ^ 63 - 1) (omega arith); high = refl }

reach_none : Reach 0 (pos 0)
reach_none = record { low = refl; high = refl }

reach_more : (n : ℕ) (a b : ℤ) → Reach 1 a → Reach n b → Reach (suc n) (a +ℤ b)
reach_more n a b h k = record {
  low = le_holds (:neg (num (suc n * 2 ^ 63))) (at a :+ at b) (omega (arith, le_means (:neg (num (1 * 2 ^ 63))) (at a) h.low, le_means (:neg (num (n * 2 ^ 63))) (at b) k.low));
  high = le_holds (at a :+ at b) (num (suc n * (2 ^ 63 - 1))) (omega (arith, le_means (at a) (num (1 * (2 ^ 63 - 1))) h.high, le_means (at b) (num (n * (2 ^ 63 - 1))) k.high));
}

module _ (n : ℕ) (few : n ≤ most_counted) where
  high_above : (z : ℤ) → Reach n z → le_z (neg_ℤ (pos most_high)) (high z) ≡ true
  unfolding high above below
  high_above (pos m) r = refl
  high_above (negsuc m) r = le-leb (m / 2 ^ 32) (most_high - 1) (omega (arith, le_means (:neg (num (n * 2 ^ 63))) (at (negsuc m)) r.low))

  high_below : (z : ℤ) → Reach n z → le_z (high z) (pos (most_high - 1)) ≡ true
  unfolding high above below
  high_below (pos m) r = le-leb (m / 2 ^ 32) (most_high - 1) (omega (arith, le_means (at (pos m)) (num (n * (2 ^ 63 - 1))) r.high))
  high_below (negsuc m) r = refl

-- an entry adds no more than a contour of the domain can
pub record Small (e : Entry) : Type 0 where
  number : e.reply < numbers
  before : e.before ≤ 65536
  after : e.after ≤ 65536
  decisions : e.decisions ≤ 4 * 65536 - 9
  area : Reach 1 e.area

pub data AllSmall : List Entry → Type 0 where
  nothing : AllSmall []
  and : {e : Entry} {l : List Entry} → Small e → AllSmall l → AllSmall (e ∷ l)

pub all_numbered : {l : List Entry} → AllSmall l → Numbered l
all_numbered nothing = none
all_numbered (and s r) = more s.number (all_numbered r)

small-append : {a b : List Entry} → AllSmall a → AllSmall b → AllSmall (a ++ b)
small-append nothing t = t
small-append (and s r) t = and s (small-append r t)

pub small-take : (i : ℕ) {l : List Entry} → AllSmall l → AllSmall (take i l)
small-take zero s = nothing
small-take (suc i) nothing = nothing
small-take (suc i) (and s r) = and s (small-take i r)

sum_small : (part : Entry → ℕ) (cap : ℕ) → ((e : Entry) → Small e → part e ≤ cap) → {l : List Entry} → AllSmall l → sum_of part l ≤ length l * cap
unfolding sum_of
sum_small part cap f nothing = omega arith
sum_small part cap f (and {e = e} {l = l} s r) = rw (suc-mul (length l) cap) (omega (arith, f e s, sum_small part cap f r))

areas_small : {l : List Entry} → AllSmall l → Reach (length l) (areas l)
unfolding areas
areas_small nothing = reach_none
areas_small (and {e = e} {l = l} s r) = reach_more (length l) e.area (areas l) s.area (areas_small r)

pub figures_possible : {l : List Entry} → AllSmall l → length l ≤ most_counted → possible (figures_of l) ≡ true
unfolding possible figures_of
figures_possible {l} s w =
    let p : sum_of (λ e. e.before) l ≤ most_points = omega (arith, sum_small (λ e. e.before) 65536 (λ e x. x.before) s) in
    let q : sum_of (λ e. e.after) l ≤ most_points = omega (arith, sum_small (λ e. e.after) 65536 (λ e x. x.after) s) in
    let r : sum_of (λ e. e.decisions) l ≤ most_decisions = omega (arith, sum_small (λ e. e.decisions) (4 * 65536 - 9) (λ e x. x.decisions) s) in
    rw (le-leb _ _ p, le-leb _ _ q, le-leb _ _ r, high_above (length l) w (areas l) (areas_small s), high_below (length l) w (areas l) (areas_small s))

-- the entry of a contour of the domain
module _ (rule : Rule) {c : List ℤ} {n : ℕ} (k : Contour c n) where
  few_points : count c ≤ 65536
  unfolding most
  few_points = omega (arith, k.even, k.few)

  pub small_contour : Small (contour_entry rule c)
  small_contour = go (walked rule c).end refl (ends_in_4n_9 (goes rule c) (count c))
    where
      go : (w : End) → (walked rule c).end ≡ w → (walked rule c).tally.decisions ≤ 4 * count c - 9 → Small (walk_entry c w (walked rule c).tally.decisions)
      go (kept s) e b =
          record {
            number = omega arith;
            before = few_points;
            after = omega (arith, few_points, rising_few 0 (count c) s (kept_rising (goes rule c) (count c) e));
            decisions = omega (arith, few_points);
            area = reach_one (reported (points c)) (reported_is_an_i64 (points c)).sfits;
          }
      go collapsed e b = record { number = omega arith; before = few_points; after = omega arith; decisions = omega (arith, few_points); area = reach_one (pos 0) (omega arith) }

-- and of a refused set
-- every refusal has one of the reply numbers
pub refusals_numbered : (r : Refusal) → number r < numbers
refusals_numbered Odd = omega arith
refusals_numbered TooMany = omega arith
refusals_numbered OffGrid = omega arith
refusals_numbered Scratch = omega arith
refusals_numbered Room = omega arith
refusals_numbered Ranges = omega arith
refusals_numbered Collapsed = omega arith
refusals_numbered Empty = omega arith
refusals_numbered Edition = omega arith
refusals_numbered Length = omega arith
refusals_numbered NoShape = omega arith
refusals_numbered CantCarry = omega arith
refusals_numbered NoDrawing = omega arith
refusals_numbered NotFinite = omega arith
refusals_numbered Width = omega arith
refusals_numbered Fill = omega arith
refusals_numbered Full = omega arith
refusals_numbered NoneLeft = omega arith
refusals_numbered FiguresFull = omega arith

pub small_refused : (k : ℕ) → k < numbers → AllSmall (refused_set k ∷ [])
small_refused k h = and {e = refused_set k} (record { number = h; before = omega arith; after = omega arith; decisions = omega arith; area = reach_one (pos 0) (omega arith) }) nothing

pub small_contours : (rule : Rule) (cs : List (List ℤ)) → Contours cs → AllSmall (map (contour_entry rule) cs)
small_contours rule [] k = nothing
small_contours rule (c ∷ cs) k = and (small_contour rule k.0) (small_contours rule cs k.1)

small-set : (k : ℕ) (rule : Rule) (cs : List (List ℤ)) → RealBy k cs → AllSmall (entries_by k rule cs)
small-set zero rule cs r = small_contours rule cs r
small-set (suc k) rule cs r = small_refused (suc k) r

-- the entries of real sets
pub small_entries : (l : List Found) → Real l → AllSmall (all_entries l)
unfolding all_entries
small_entries [] r = nothing
small_entries (s ∷ l) r = small-append (small-set s.refusal s.rule s.contours r.0) (small_entries l r.1)
