-- What is demanded of both cleaners, sentence by sentence; o is whatever the contract allows.
use mathlib.Core.Path.{◌≡◌}
use mathlib.Core.Bool.{false}
use mathlib.Core.List.{List}
use Prim.Native.Nat.{ℕ, ◌+◌, ◌-◌, ◌*◌, ◌<◌, ◌≤◌}
use lib.IntN.{ℤ, pos}
use Rattle.grid.specs.Points.{points}
use Rattle.grid.specs.Corners.{corner_in}
use Rattle.grid.specs.Area.{exact}
use Rattle.grid.specs.Domain.{count}
use Rattle.ring.specs.declared.Rule.{Rule}
use Rattle.ring.specs.Rule.{goes_at}
use Rattle.ring.proofs.RuleLaws.{goes_cross}
use Rattle.clean.specs.Outcome.{Lent, Outcome, outcome}
use Rattle.clean.specs.Promises.{InDomainWithRoom, Untouched, OnlyZeroed, kept_points, Keeps, Stands, Unchanged}
use Rattle.clean.proofs.Theorems as by-any-rule
use Rattle.clean.proofs.Unchanged as by-any-rule-unchanged

-- Demand 1, of any call.
module _ (rule : Rule) (row : List ℤ) (l : Lent) (o : Outcome) (is : o ≡ outcome rule row l) where
  -- a refusal, which is any reply but 0 and 7, leaves every lent row as it was
  pub a_refusal_leaves_every_row_as_it_was : (o.answer.reply ≡ 0 → ⊥) → (o.answer.reply ≡ 7 → ⊥) → Untouched l o
  a_refusal_leaves_every_row_as_it_was = by-any-rule.a_refusal_leaves_every_row_as_it_was (goes_at rule) row l o is

  -- a collapse, which is the reply 7, leaves the output as it was and the scratch zeroed
  pub a_collapse_only_zeroes_the_scratch : o.answer.reply ≡ 7 → OnlyZeroed (count row) l o
  a_collapse_only_zeroes_the_scratch = by-any-rule.a_collapse_only_zeroes_the_scratch (goes_at rule) row l o is

  -- Demand 3, of a contour of three points or more, in the domain, with room.
  module _ (many : 3 ≤ count row) (fits : InDomainWithRoom row l) where
    -- it is kept if its exact doubled area isn't zero
    pub kept_if_area : (exact (points row) ≡ pos 0 → ⊥) → o.answer.reply ≡ 0
    kept_if_area = by-any-rule.kept_if_area (goes_at rule) row l o is many fits (goes_cross rule)

    module _ (zero-reply : o.answer.reply ≡ 0) where
      -- a kept contour has its points in their old order
      pub kept_in_order : Keeps (goes_at rule) row l.out o
      kept_in_order = by-any-rule.kept_in_order (goes_at rule) row l o is many fits zero-reply

      -- the same exact doubled area
      pub kept_same_area : exact (kept_points o) ≡ exact (points row)
      kept_same_area = by-any-rule.kept_same_area (goes_at rule) row l o is many fits zero-reply (goes_cross rule)

      -- and no vertex the rule would remove
      pub nothing_left_to_remove : (j : ℕ) → j < o.answer.points → goes_at rule (corner_in (kept_points o) j) ≡ false
      nothing_left_to_remove = by-any-rule.nothing_left_to_remove (goes_at rule) row l o is many fits zero-reply

      -- it takes at most 3n turns, less one for each point that is kept
      pub kept_turns_at_most_3n_less_the_kept : o.answer.turns + o.answer.points ≤ 3 * count row
      kept_turns_at_most_3n_less_the_kept = by-any-rule.kept_turns_at_most_3n_less_the_kept (goes_at rule) row l o is many fits zero-reply

    -- it takes at most 4n - 9 decisions
    pub decisions_at_most_4n_9 : o.answer.decisions ≤ 4 * count row - 9
    decisions_at_most_4n_9 = by-any-rule.decisions_at_most_4n_9 (goes_at rule) row l o is many fits

    -- in at most 5n turns
    pub turns_at_most_5n : o.answer.turns ≤ 5 * count row
    turns_at_most_5n = by-any-rule.turns_at_most_5n (goes_at rule) row l o is many fits

    -- of which each decision is one
    pub decisions_at_most_turns : o.answer.decisions ≤ o.answer.turns
    decisions_at_most_turns = by-any-rule.decisions_at_most_turns (goes_at rule) row l o is many fits

    -- and of a collapse no other
    pub a_collapse_has_no_idle_turn : o.answer.reply ≡ 7 → o.answer.turns ≡ o.answer.decisions
    a_collapse_has_no_idle_turn = by-any-rule.a_collapse_has_no_idle_turn (goes_at rule) row l o is many fits

    -- with nothing to remove it comes back unchanged after n
    pub nothing_to_remove : Stands (goes_at rule) (points row) → Unchanged row o
    nothing_to_remove = by-any-rule-unchanged.nothing_to_remove (goes_at rule) row l o is many fits
