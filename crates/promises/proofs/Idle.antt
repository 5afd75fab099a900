-- No idle program does what is demanded.
use mathlib.Core.Path.{◌≡◌, refl, sym, ◌∙◌, ap}
use mathlib.Core.Logic.{⊎_elim}
use mathlib.Core.Bool.{true, false}
use mathlib.Core.List.{List}
use Prim.Native.Nat.{ℕ, ◌+◌, ◌-◌, ◌*◌, ◌<◌, ◌≤◌}
use native.Mathlib.Omega.{arith}
use lib.IntN.{ℤ, pos, nat_abs}
use lib.ListN.{length, get_or, drop}
use lib.Seq.{get_or-drop}
use Rattle.grid.specs.Limits.{limit, most, on_grid, all_on_grid}
use Rattle.grid.specs.Points.{points}
use Rattle.grid.specs.Edges.{cross, dot}
use Rattle.grid.specs.Corners.{corner_in}
use Rattle.grid.specs.Area.{around, exact}
use Rattle.replies.specs.Ladder.{first_of}
use Rattle.grid.specs.Cases.{W3, W4, W6}
use Rattle.grid.specs.Domain.{count}
use Rattle.rows.specs.Rows.{front}
use Rattle.ring.specs.declared.Rule.{Rule}
use Rattle.ring.specs.declared.Rule.TheVariants.{Collinear, Spike}
use Rattle.ring.specs.Rule.{goes_at}
use Rattle.ring.proofs.Branches.{less?, true_false}
use Rattle.ring.proofs.Listed.{rising_few}
use Rattle.clean.specs.Outcome.{chosen, Outcome}
use Rattle.clean.specs.Promises.{NotRefused, kept_points, Keeps}
use Rattle.clean.proofs.OutcomeLaws.{accepted}
use Rattle.sets.proofs.Idle.{first_cleaned_rest_copied}
use Rattle.sets.specs.Outcome.{Outcome as SetOutcome}
use Rattle.promises.specs.Demand3.{Demanded}
use Rattle.promises.specs.Table.{Alone, room, w3, w4, w6}
use Rattle.promises.specs.Idle.{Program, MeetsDemand3, in_9s, MakesOf, AlwaysSeven, CopiesThrough, NoIdleProgram}

-- what a program makes of a contour in rows of 9s
abbrev made : Program → List ℤ → Outcome
made f row = f row (in_9s row)

w3_taken : NotRefused W3 (in_9s W3)
unfolding limit most on_grid all_on_grid first_of
w3_taken = refl

w4_taken : NotRefused W4 (in_9s W4)
unfolding limit most on_grid all_on_grid first_of
w4_taken = refl

w6_taken : NotRefused W6 (in_9s W6)
unfolding limit most on_grid all_on_grid first_of
w6_taken = refl

unlike : (m n : ℕ) → (m ≡ n → ⊥) → pos m ≡ pos n → ⊥
unlike m n d e = d (ap nat_abs e)

w3_area : exact (points W3) ≡ pos 0 → ⊥
unfolding cross around exact points
w3_area = unlike 16 0 (λ e. omega arith)

w6_area : exact (points W6) ≡ pos 0 → ⊥
unfolding cross around exact points
w6_area = unlike 32 0 (λ e. omega arith)

-- by either rule the fourth vertex of W6 is to go
w6_goes : (rule : Rule) → goes_at rule (corner_in (points W6) 3) ≡ true
unfolding goes_at cross dot points
w6_goes Collinear = refl
w6_goes Spike = refl

-- rows that are the same from number m on are so at each later one
same_behind : (m : ℕ) (a b : List ℤ) → drop m a ≡ drop m b → (i : ℕ) → m ≤ i → get_or a i (pos 0) ≡ get_or b i (pos 0)
same_behind m a b e i h = sym (there a) ∙ ap (λ (l : List ℤ). get_or l (i - m) (pos 0)) e ∙ there b
  where
    there : (l : List ℤ) → get_or (drop m l) (i - m) (pos 0) ≡ get_or l i (pos 0)
    there l = let s : m + (i - m) ≡ i = omega arith in get_or-drop m l (i - m) (pos 0) ∙ ap (λ (n : ℕ). get_or l n (pos 0)) s

module _ (f : Program) where
  -- 0 is not 7
  not_always_seven : (row : List ℤ) → NotRefused row (in_9s row) → (made f row).answer.reply ≡ 0 → AlwaysSeven f → ⊥
  not_always_seven row taken zero-reply seven = let z : ◌≡◌ {A = ℕ} 0 7 = sym zero-reply ∙ seven row (in_9s row) taken in omega arith

  -- number i of the output is another than the contour's
  not_copied : (row : List ℤ) (i m n : ℕ) → NotRefused row (in_9s row) → get_or (made f row).rows.out i (pos 0) ≡ pos m → get_or (front row (room row)) i (pos 0) ≡ pos n → (m ≡ n → ⊥) → CopiesThrough f → ⊥
  not_copied row i m n taken is was differ copies = unlike m n differ (sym is ∙ ap (λ (l : List ℤ). get_or l i (pos 0)) (copies row (in_9s row) taken) ∙ was)

  -- what is demanded of the call, where the contour has an area
  module _ (rule : Rule) (meets : MeetsDemand3 rule f) (row : List ℤ) (taken : NotRefused row (in_9s row)) (many : 3 ≤ count row) (area : exact (points row) ≡ pos 0 → ⊥) where
    demanded : Demanded rule row (room row) (count row) (made f row)
    demanded = meets row (in_9s row) many (accepted row (in_9s row) taken)

    made_kept : (made f row).answer.reply ≡ 0
    made_kept = demanded.kept_if_its_exact_doubled_area_isn't_zero area

    made_in_order : Keeps (goes_at rule) row (room row) (made f row)
    made_in_order = demanded.a_kept_contour_has_its_points_in_their_old_order made_kept

    made_clean : (j : ℕ) → j < length (kept_points (made f row)) → goes_at rule (corner_in (kept_points (made f row)) j) ≡ false
    made_clean = demanded.and_no_vertex_the_rule_would_remove made_kept

  module _ (rule : Rule) (meets : MeetsDemand3 rule f) where
    -- a contour with an area is kept
    seven_breaks : AlwaysSeven f → ⊥
    seven_breaks = not_always_seven W3 w3_taken (made_kept rule meets W3 w3_taken (omega arith) w3_area)

    -- what is kept has no vertex that the rule would remove, as W6 has, and behind what is kept the output is as it was
    copying_breaks : CopiesThrough f → ⊥
    unfolding points
    copying_breaks copies =
        true_false (w6_goes rule) (rw (copied, all) at (made_clean rule meets W6 w6_taken (omega arith) w6_area 3 (rw (copied, all) (omega arith))))
      where
        copied : (made f W6).rows.out ≡ front W6 (room W6)
        copied = copies W6 (in_9s W6) w6_taken

        all : (made f W6).answer.points ≡ 6
        all =
            let x = made_in_order rule meets W6 w6_taken (omega arith) w6_area in
            ⊎_elim
            (λ less. absurd (unlike 4 9 (λ e. omega arith) (ap (λ (l : List ℤ). get_or l 11 (pos 0)) (sym copied) ∙ same_behind (2 * (made f W6).answer.points) _ _ x.rest_is 11 (omega arith))))
            (λ more. omega (arith, x.count_is, rising_few 0 6 x.positions x.rising))
            (less? (made f W6).answer.points 6)

  -- W3 is kept
  w3_breaks : (alone : Alone) → alone.answer.reply ≡ 0 → MakesOf W3 f alone → AlwaysSeven f → ⊥
  w3_breaks alone zero-reply makes = not_always_seven W3 w3_taken (rw makes.answers zero-reply)

  -- W4 loses its second point
  w4_breaks : MakesOf W4 f w4.simplified → CopiesThrough f → ⊥
  unfolding chosen
  w4_breaks makes = not_copied W4 2 4 2 w4_taken (rw makes.writes) refl (λ e. omega arith)

  -- and W6 its fourth
  w6_breaks : MakesOf W6 f w6.despiked → CopiesThrough f → ⊥
  unfolding chosen
  w6_breaks makes = not_copied W6 6 0 4 w6_taken (rw makes.writes) refl (λ e. omega arith)

pub no_idle_program : NoIdleProgram
no_idle_program = record {
  always_7_breaks_demand_3 = λ rule f meets. seven_breaks f rule meets;
  always_7_breaks_W3 = λ f. w3_breaks f w3.simplified refl;
  always_7_breaks_W3_despiked = λ f. w3_breaks f w3.despiked refl;
  copying_through_breaks_demand_3 = λ rule f meets. copying_breaks f rule meets;
  copying_through_breaks_W4 = w4_breaks;
  copying_through_breaks_W6_despiked = w6_breaks;
  the_first_contour_cleaned_and_the_rest_copied_breaks_the_set_rules = λ rule f meets copies.
      first_cleaned_rest_copied rule (λ p cs l taken. ap (λ (o : SetOutcome). o.rows.points) (sym (meets p cs l)) ∙ copies p cs l taken);
}
