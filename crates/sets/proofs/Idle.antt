-- A program that cleans only the first contour of a shape does not meet the contract, even if it counts right.
use Rattle.std.proofs.Common.{◌≡◌, ℕ, List, [], ◌∷◌, ◌++◌, get_or, replicate, ℤ, pos, nat_abs, sym, refl, ap, ◌∙◌, arith}
use Rattle.grid.specs.Limits.{limit, most, on_grid, all_on_grid}
use Rattle.grid.specs.Points.{points}
use Rattle.grid.specs.Edges.{cross, dot}
use Rattle.grid.specs.Corners.{last, differing, distinct_neighbours, corners_from, corners, some}
use Rattle.replies.specs.Ladder.{first_of}
use Rattle.grid.specs.Domain.{count as points_in}
use Rattle.grid.specs.Cases.{W3, W6}
use Rattle.ring.specs.declared.Rule.{Rule}
use Rattle.ring.specs.declared.Rule.TheVariants.{Collinear, Spike}
use Rattle.ring.specs.Walk.{survivors_from, others, successor, predecessor, occurrences, unmark, unmark_about, remove, decide, look, looks, walk}
use Rattle.ring.specs.Rule.{goes_at}
use Rattle.clean.specs.Verdicts.{is_simple, spike_free_distinct, no_spikes}
use Rattle.clean.specs.Outcome.{chosen}
use Rattle.buffer.specs.Spans.{spans, laid, sound_from}
use Rattle.buffer.specs.Sets.{joined, contours}
use Rattle.buffer.specs.Contours.{refusals}
use Rattle.sets.specs.Fates.{none_counted, Fate, fate, later, ShapeFate, behind, shape_fate}
use Rattle.sets.specs.Fates.Fate.{stays, gone}
use Rattle.sets.specs.Fates.ShapeFate.{stands}
use Rattle.sets.specs.Outcome.{Lent, Outcome, lacking, cleaned_shape, shape_outcome}

-- the first contour cleaned and the rest copied, with the decisions and the turns of a cleaning of all
abbrev pub first_alone : Rule → List (List ℤ) → ShapeFate
first_alone rule [] = stands [] none_counted
first_alone rule (c ∷ l) = behind (fate rule c) (record { contours = l; tally = (later rule l).tally })

-- what such a program answers, and leaves in the rows
abbrev pub idle : Rule → List ℤ → List (List ℕ) → Lent → Outcome
idle rule p cs l = cleaned_shape (points_in p) (first_alone rule (contours p (spans cs))) l

-- the calls that no rung refuses
abbrev pub Taken : List ℤ → List (List ℕ) → Lent → Type 0
Taken p cs l = first_of (refusals p cs ++ lacking p cs [] l) ≡ 0

-- its decisions are right wherever the call is taken
pub its_decisions_are_right : (rule : Rule) (p : List ℤ) (cs : List (List ℕ)) (l : Lent) → Taken p cs l → (idle rule p cs l).answer.decisions ≡ (shape_outcome rule p cs l).answer.decisions
unfolding shape_outcome shape_fate
its_decisions_are_right rule p cs l z = rw (z, shape_outcome) (go (contours p (spans cs)))
  where
    first : (f : Fate) (s : List (List ℤ)) → (cleaned_shape (points_in p) (behind f (record { contours = s; tally = (later rule s).tally })) l).answer.decisions
        ≡ (cleaned_shape (points_in p) (behind f (later rule s)) l).answer.decisions
    first (stays d k) s = refl
    first (gone k) s = refl

    go : (s : List (List ℤ)) → (cleaned_shape (points_in p) (first_alone rule s) l).answer.decisions ≡ (cleaned_shape (points_in p) (shape_fate rule s) l).answer.decisions
    go [] = refl
    go (c ∷ s) = first (fate rule c) s

-- W3, and W6 behind it, in rows of 9s
abbrev p : List ℤ
p = W3 ++ W6

abbrev cs : List (List ℕ)
cs = (0 ∷ 3 ∷ []) ∷ (3 ∷ 9 ∷ []) ∷ []

abbrev rows : Lent
rows = record { next = replicate 9 9; prev = replicate 9 9; mark = replicate 9 9; points = replicate 18 (pos 9); contours = replicate 2 (9 ∷ 9 ∷ []); shapes = [] }

taken : Taken p cs rows
unfolding limit most on_grid all_on_grid first_of sound_from
taken = refl

-- W3 needs no cleaning, and of W6 the spike goes: its fourth point is 0,4 once it is cleaned, and 4,8 where it is copied
spike_gone : (rule : Rule) → get_or (shape_outcome rule p cs rows).rows.points 12 (pos 0) ≡ pos 0
unfolding limit most on_grid all_on_grid first_of sound_from points cross dot last differing distinct_neighbours corners_from corners some survivors_from others successor predecessor occurrences unmark unmark_about remove decide look looks walk goes_at is_simple spike_free_distinct no_spikes chosen fate later shape_fate laid joined shape_outcome
spike_gone Collinear = refl
spike_gone Spike = refl

spike_copied : (rule : Rule) → get_or (idle rule p cs rows).rows.points 12 (pos 0) ≡ pos 4
unfolding points cross dot last differing distinct_neighbours corners_from corners some is_simple spike_free_distinct no_spikes fate joined
spike_copied Collinear = refl
spike_copied Spike = refl

-- by either rule: of the calls that no rung refuses, one leaves other points than such a program, whatever either answers
pub first_cleaned_rest_copied : (rule : Rule)
    → ((p : List ℤ) (cs : List (List ℕ)) (l : Lent) → Taken p cs l → (shape_outcome rule p cs l).rows.points ≡ (idle rule p cs l).rows.points) → ⊥
first_cleaned_rest_copied rule f =
    let e = ap (λ (row : List ℤ). get_or row 12 (pos 0)) (f p cs rows taken) in
    let z : ◌≡◌ {A = ℕ} 0 4 = ap nat_abs (sym (spike_gone rule) ∙ e ∙ spike_copied rule) in
    omega arith
