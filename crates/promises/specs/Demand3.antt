-- Demand 3, what both cleaners keep: "For any contour of n >= 3 points in the domain, with room".
use Rattle.std.specs.Prelude.{◌≡◌, List, ℕ, ◌+◌, ◌-◌, ◌*◌, ◌≤◌, ℤ, pos}
use Rattle.grid.specs.Points.{points}
use Rattle.grid.specs.Area.{exact}
use Rattle.grid.specs.Domain.{count}
use Rattle.ring.specs.declared.Rule.{Rule}
use Rattle.ring.specs.declared.Rule.TheVariants.{Collinear, Spike}
use Rattle.ring.specs.Rule.{goes_at}
use Rattle.clean.specs.Outcome.{cleaned_as, walked, Lent, Outcome, leaving, outcome}
use Rattle.clean.specs.Promises.{InDomainWithRoom, kept_points, Keeps, Stands, Unchanged}
use Rattle.clean.proofs as clean
use Rattle.promises.specs.Calls.{contour_lent, Always}

-- what is demanded of a call by a rule, where `row` is its contour, of n points, and `out` its output as it was; `o` is its answer, with the lent rows as it leaves them
pub record Demanded (rule : Rule) (row out : List ℤ) (n : ℕ) (o : Outcome) : Type 0 where
  -- "both cleaners keep it if its exact doubled area isn't zero"
  pub kept_if_its_exact_doubled_area_isn't_zero : (exact (points row) ≡ pos 0 → ⊥) → o.answer.reply ≡ 0
  -- "a kept contour has its points in their old order"
  pub a_kept_contour_has_its_points_in_their_old_order : o.answer.reply ≡ 0 → Keeps (goes_at rule) row out o
  -- "the same exact doubled area"
  pub the_same_exact_doubled_area : o.answer.reply ≡ 0 → exact (kept_points o) ≡ exact (points row)
  -- "and no vertex the rule would remove"
  pub and_no_vertex_the_rule_would_remove : o.answer.reply ≡ 0 → Stands (goes_at rule) (kept_points o)
  -- "at most 4n - 9 decisions"
  pub at_most_4n_9_decisions : o.answer.decisions ≤ 4 * n - 9
  -- "and the reported number is the one 01's walk makes"
  pub the_reported_number_is_the_one_the_walk_makes : o.answer.decisions ≡ (walked rule row).tally.decisions
  -- "Report turns too: every visit, deciding or stepping over, as the written walk makes them" (02, P7)
  pub the_reported_turns_are_those_the_walk_makes : o.answer.turns ≡ (walked rule row).tally.turns
  -- "at most 5n turns, kept or collapsed"
  pub at_most_5n_turns : o.answer.turns ≤ 5 * n
  -- sharper, of a kept contour: at most 3n, less one for each point that is kept
  pub at_most_3n_turns_less_the_kept_points : o.answer.reply ≡ 0 → o.answer.turns + o.answer.points ≤ 3 * n
  -- a decision is a turn
  pub no_more_decisions_than_turns : o.answer.decisions ≤ o.answer.turns
  -- and a contour that collapses has no other
  pub a_collapse_has_no_idle_turn : o.answer.reply ≡ 7 → o.answer.turns ≡ o.answer.decisions
  -- "with nothing to remove it comes back unchanged after n"
  pub with_nothing_to_remove_it_comes_back_unchanged_after_n : Stands (goes_at rule) (points row) → Unchanged row o

-- of a call with the contour `row` and the lent rows `l`, if the contour has three points or more and is in the domain, with room
abbrev pub DemandedOf : Rule → List ℤ → Lent → Outcome → Type 0
DemandedOf rule row l o = 3 ≤ count row → InDomainWithRoom row l → Demanded rule row l.out (count row) o

-- by either rule, of every outcome that the contract allows; so of every call of the two functions
pub record Demand3 : Type 0 where
  pub of_every_outcome : (rule : Rule) (row : List ℤ) (l : Lent) (o : Outcome) → o ≡ outcome rule row l → DemandedOf rule row l o
  pub clean·simple·simplified : Always clean.simple.simplified.Reads.Learnt λ a x e. DemandedOf Collinear a.0.now (contour_lent a) (leaving (cleaned_as x) (contour_lent e))
  pub clean·despike·despiked : Always clean.despike.despiked.Reads.Learnt λ a x e. DemandedOf Spike a.0.now (contour_lent a) (leaving (cleaned_as x) (contour_lent e))
