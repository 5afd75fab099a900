-- Demand 3 holds.
use mathlib.Core.Path.{◌≡◌, refl, ◌∙◌, ap}
use mathlib.Core.List.{List}
use Prim.Native.Nat.{◌<◌, ◌≤◌}
use native.Mathlib.Omega.{arith}
use lib.IntN.{ℤ}
use lib.ListN.{length, length-map}
use Rattle.grid.specs.Points.{at}
use Rattle.grid.specs.Domain.{count}
use Rattle.ring.specs.declared.Rule.{Rule}
use Rattle.ring.specs.declared.Rule.TheVariants.{Collinear, Spike}
use Rattle.ring.specs.Rule.{goes_at}
use Rattle.ring.specs.Walk.{Tally, End, tally}
use Rattle.ring.specs.Walk.End.{kept, collapsed}
use Rattle.clean.specs.Outcome.{walked, Lent, Outcome, finished, outcome}
use Rattle.clean.specs.Promises.{InDomainWithRoom, kept_points, Stands}
use Rattle.clean.proofs.OutcomeLaws.{not_refused, outcome_done}
use Rattle.clean.proofs.Demand as clean
use Rattle.promises.specs.Demand3.{Demanded, Demand3}

-- a walk that has ended is answered with what it counted
its_tally : (row : List ℤ) (e : End) (t : Tally) (l : Lent) → tally (finished row e t l).answer.decisions (finished row e t l).answer.turns ≡ t
its_tally row (kept positions) t l = refl
its_tally row collapsed t l = refl

module _ (rule : Rule) (row : List ℤ) (l : Lent) (o : Outcome) (is : o ≡ outcome rule row l) (many : 3 ≤ count row) (fits : InDomainWithRoom row l) where
  none_to_go : o.answer.reply ≡ 0 → Stands (goes_at rule) (kept_points o)
  none_to_go done j inside =
      let keeps = clean.kept_in_order rule row l o is many fits done in
      let answered : j < o.answer.points = omega (arith, ap length keeps.points_are, length-map keeps.positions (at row), keeps.count_is) in
      clean.nothing_left_to_remove rule row l o is many fits done j answered

  the_walk's : tally o.answer.decisions o.answer.turns ≡ (walked rule row).tally
  the_walk's =
      ap (λ (w : Outcome). tally w.answer.decisions w.answer.turns) (is ∙ outcome_done (goes_at rule) row l (not_refused fits))
      ∙ its_tally row (walked rule row).end (walked rule row).tally l

  demanded : Demanded rule row l.out (count row) o
  demanded = record {
    kept_if_its_exact_doubled_area_isn't_zero = clean.kept_if_area rule row l o is many fits;
    a_kept_contour_has_its_points_in_their_old_order = clean.kept_in_order rule row l o is many fits;
    the_same_exact_doubled_area = clean.kept_same_area rule row l o is many fits;
    and_no_vertex_the_rule_would_remove = none_to_go;
    at_most_4n_9_decisions = clean.decisions_at_most_4n_9 rule row l o is many fits;
    the_reported_number_is_the_one_the_walk_makes = ap (λ (t : Tally). t.decisions) the_walk's;
    the_reported_turns_are_those_the_walk_makes = ap (λ (t : Tally). t.turns) the_walk's;
    at_most_5n_turns = clean.turns_at_most_5n rule row l o is many fits;
    at_most_3n_turns_less_the_kept_points = clean.kept_turns_at_most_3n_less_the_kept rule row l o is many fits;
    no_more_decisions_than_turns = clean.decisions_at_most_turns rule row l o is many fits;
    a_collapse_has_no_idle_turn = clean.a_collapse_has_no_idle_turn rule row l o is many fits;
    with_nothing_to_remove_it_comes_back_unchanged_after_n = clean.nothing_to_remove rule row l o is many fits;
  }

pub demand_3 : Demand3
demand_3 = record {
  of_every_outcome = demanded;
  clean·simple·simplified = λ κs a x e h. demanded Collinear _ _ _ h;
  clean·despike·despiked = λ κs a x e h. demanded Spike _ _ _ h;
}
