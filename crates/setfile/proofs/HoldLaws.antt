-- Contours that an edition can hold one behind the other.
use Rattle.std.proofs.Common.{◌≡◌, ℕ, ◌+◌, ◌*◌, ◌^◌, ◌≤◌, Bool, true, false, List, [], ◌∷◌, map, length, take, ℤ, sym, refl, ◌∙◌, true≢false, arith, w32, SFits, lt-ltb}
use lib.Signed.{mag}
use Rattle.integers.proofs.Logic.{and_left, and_right, and_both}
use Rattle.integers.proofs.Bound.{in_fits}
use Rattle.grid.specs.Limits.{limit, most, on_grid, all_on_grid}
use Rattle.grid.specs.Domain.{count}
use Rattle.grid.proofs.LimitLaws.{narrow_within, on_grid_in, on_joined, on_taken}
use Rattle.bits.specs.Signs.{fits, all_fit}
use Rattle.buffer.specs.Spans.{total}
use Rattle.buffer.specs.Sets.{joined, Even}
use Rattle.steps.proofs.BodyLaws.{differences_fit}
use Rattle.setfile.specs.Entries.{Entry, contours_of}
use Rattle.setfile.specs.Editions.{bound}
use Rattle.setfile.specs.Writing.{most_points}
use Rattle.setfile.specs.Promises.{Short, Started}
use Rattle.setfile.proofs.LayoutLaws.{All}
use Rattle.setfile.proofs.EditionsLaws.{Holds}

-- either grid is within the wider one, whose coordinates fit 32 bits
pub bound_within : (s : Bool) → bound s ≤ limit
bound_within true = omega arith
bound_within false = narrow_within

on_fit : (c : List ℤ) → all_on_grid limit c ≡ true → all_fit 32 c ≡ true
unfolding all_on_grid all_fit limit
on_fit [] e = refl
on_fit (z ∷ c) e =
    let h : SFits w32 z = in_fits (on_grid_in limit z (and_left (on_grid limit z) _ e)) tt in
    and_both (fits 32 z) (all_fit 32 c) (lt-ltb (mag z) (2 ^ 31) h.sfits) (on_fit c (and_right (on_grid limit z) _ e))

never_first : {A : Type 0} → false ≡ true → A
never_first e = absurd (true≢false (sym e))

hold : (s first : Bool) (n : ℕ) (e : Entry) → length e.points ≡ 2 * count e.points → count e.points ≤ most_points → (first ≡ true → e.begins ≡ true) → n + count e.points ≤ most
    → all_on_grid limit e.points ≡ true → Holds s first n e
hold true first n e a b s m h = record { even = a; short = b; begun = s; few = m; point = on_fit (take 2 e.points) (on_taken limit 2 e.points h); near = differences_fit e.points h }
hold false first n e a b s m h = record { even = a; short = b; begun = s; fitting = on_fit e.points h }

pub hold_all : (s : Bool) (l : List Entry) (first : Bool) (n : ℕ) → Even (contours_of l) → Short (contours_of l) → (first ≡ true → Started l) → n + total (map count (contours_of l)) ≤ most
    → all_on_grid limit (joined (contours_of l)) ≡ true → All (Holds s) first n l
unfolding joined
hold_all s [] first n a b g m h = tt
hold_all s (e ∷ l) first n a b g m h =
    let o = sym (on_joined limit e.points (joined (contours_of l))) ∙ h in (
      hold s first n e a.0 b.0 g (omega arith) (and_left (all_on_grid limit e.points) _ o),
      hold_all s l false (n + count e.points) a.1 b.1 never_first (omega arith) (and_right (all_on_grid limit e.points) _ o),
    )

-- and what is known of those that it holds
held_even : (s first : Bool) (n : ℕ) (e : Entry) → Holds s first n e → length e.points ≡ 2 * count e.points
held_even true first n e h = h.even
held_even false first n e h = h.even

held_short : (s first : Bool) (n : ℕ) (e : Entry) → Holds s first n e → count e.points ≤ most_points
held_short true first n e h = h.short
held_short false first n e h = h.short

held_begun : (s : Bool) (n : ℕ) (e : Entry) → Holds s true n e → e.begins ≡ true
held_begun true n e h = h.begun refl
held_begun false n e h = h.begun refl

pub all_even : (s : Bool) (l : List Entry) (first : Bool) (n : ℕ) → All (Holds s) first n l → Even (contours_of l)
all_even s [] first n h = tt
all_even s (e ∷ l) first n h = (held_even s first n e h.0, all_even s l false (n + count e.points) h.1)

pub all_short : (s : Bool) (l : List Entry) (first : Bool) (n : ℕ) → All (Holds s) first n l → Short (contours_of l)
all_short s [] first n h = tt
all_short s (e ∷ l) first n h = (held_short s first n e h.0, all_short s l false (n + count e.points) h.1)

pub first_started : (s : Bool) (l : List Entry) (n : ℕ) → All (Holds s) true n l → Started l
first_started s [] n h = tt
first_started s (e ∷ l) n h = held_begun s n e h.0

pub all_few : (l : List Entry) (first : Bool) (n : ℕ) → n ≤ most → All (Holds true) first n l → n + total (map count (contours_of l)) ≤ most
all_few [] first n m h = omega arith
all_few (e ∷ l) first n m h = omega (arith, all_few l false (n + count e.points) h.0.few h.1)
