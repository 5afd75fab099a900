-- What a user may count on: a set that is drawn and imported comes back the same, but for its empty contours.
use mathlib.Core.Path.{◌≡◌, refl, sym, ap, ap₂, ◌∙◌}
use mathlib.Core.Bool.{false}
use mathlib.Core.List.{List, [], ◌++◌, map}
use Prim.Native.Nat.{ℕ, zero, suc, ◌≤◌}
use native.Mathlib.Omega.{arith}
use lib.ListN.{length, drop, length-map}
use lib.Seq.{take_at}
use lib.IntN.{ℤ}
use lib.Ieee.{Float}
use borrow.Author.Tests.{le-leb}
use Rattle.replies.specs.Ladder.{Rung, first_of, room}
use Rattle.grid.specs.Limits.{narrow}
use Rattle.grid.specs.Domain.{count}
use Rattle.replies.proofs.LadderLaws.{cleared, first_is, found}
use Rattle.buffer.specs.Spans.{spans, sound}
use Rattle.buffer.specs.Sets.{joined, contour, contours, contour_spans}
use Rattle.buffer.specs.Answers.{Outcome, written_points, written_contours, enough, stored, outcome}
use Rattle.buffer.proofs.RefusalLaws.{Accepted, accepted}
use Rattle.buffer.proofs.RowLaws.{spans-length}
use Rattle.buffer.proofs.SetLaws.{laid-length}
use Rattle.buffer.proofs.WrittenLaws.{written}
use Rattle.buffer.proofs.Theorems.{packing_then_unpacking_gives_back_every_contour}
use Rattle.drawing.specs.declared.command.Command.{Command}
use Rattle.drawing.specs.Commands.{items, asked, kinds_of, floats_of}
use Rattle.drawing.specs.Commands.Item.{command}
use Rattle.drawing.specs.Faults.{first_fault}
use Rattle.drawing.specs.Outlines.{outlines}
use Rattle.drawing.specs.Importing as I
use Rattle.drawing.specs.Exporting as E
use Rattle.drawing.specs.Promises.{without_empty, commands_of, drawn_kinds, drawn_floats, written_kinds, written_floats}
use Rattle.drawing.proofs.ImportLaws.{Taken, taken_past}
use Rattle.drawing.proofs.ReturnLaws.{read_back, floats_match, faultless, drawn_back, same_points, still_even, no_more, all_points, all_even, set_within}

pub commands_laid_in_rows_are_read_as_they_were : (l : List Command) → items (kinds_of l) (floats_of l) ≡ map command l
commands_laid_in_rows_are_read_as_they_were = read_back

pub and_the_lengths_of_the_rows_match : (l : List Command) → length (floats_of l) ≡ asked (kinds_of l)
and_the_lengths_of_the_rows_match = floats_match

-- a set that is not refused, and its drawing
module _ (p : List ℤ) (ranges : List (List ℕ)) (ok : first_of (E.refusals p ranges) ≡ 0) where
  fit : Accepted narrow p (sound (spans ranges) (count p))
  fit = accepted narrow p (sound (spans ranges) (count p)) ok

  pub no_command_of_a_set_is_at_fault : first_fault false (items (drawn_kinds p ranges) (drawn_floats p ranges)) ≡ 0
  no_command_of_a_set_is_at_fault = ap (first_fault false) (read_back (commands_of p ranges)) ∙ faultless (contours p (spans ranges)) (set_within p ranges fit)

  pub its_commands_draw_it_but_for_its_empty_contours : I.drawn (drawn_kinds p ranges) (drawn_floats p ranges) ≡ without_empty (contours p (spans ranges))
  its_commands_draw_it_but_for_its_empty_contours = ap outlines (read_back (commands_of p ranges)) ∙ drawn_back (contours p (spans ranges)) (all_even p ranges fit) (set_within p ranges fit)

  pub no_point_is_lost : joined (without_empty (contours p (spans ranges))) ≡ p
  no_point_is_lost = same_points (contours p (spans ranges)) ∙ all_points p ranges fit

  pub no_contour_is_added : length (without_empty (contours p (spans ranges))) ≤ length ranges
  no_contour_is_added = omega (arith, no_more (contours p (spans ranges)), length-map (spans ranges) (contour p), spans-length ranges)

  taken : Taken (drawn_kinds p ranges) (drawn_floats p ranges)
  taken = record {
    matching = floats_match (commands_of p ranges);
    faultless = no_command_of_a_set_is_at_fault;
    few = rw (its_commands_draw_it_but_for_its_empty_contours, no_point_is_lost) fit.few;
  }

  pub every_set_that_can_be_drawn_is_imported : (out : List ℤ) (records : List (List ℕ))
      → I.outcome (drawn_kinds p ranges) (drawn_floats p ranges) out records ≡ stored [] p (contour_spans (without_empty (contours p (spans ranges)))) [] out records []
  unfolding stored
  every_set_that_can_be_drawn_is_imported out records =
      let set = I.drawn (drawn_kinds p ranges) (drawn_floats p ranges) in
      let l = room (enough (joined set) (contour_spans set) [] out records []) in
      ap (λ (k : ℕ). outcome k (joined set) (contour_spans set) [] out records []) (sym (first_is _ _ (taken_past _ _ taken l _ (found l _ refl))))
      ∙ ap (λ (s : List (List ℤ)). stored [] (joined s) (contour_spans s) [] out records []) its_commands_draw_it_but_for_its_empty_contours
      ∙ ap (λ (q : List ℤ). stored [] q (contour_spans (without_empty (contours p (spans ranges)))) [] out records []) no_point_is_lost

-- the same of what an export left
module _ (p : List ℤ) (ranges : List (List ℕ)) (kinds : List ℕ) (floats : List Float) (o : E.Outcome) (e : o ≡ E.outcome p ranges kinds floats) (done : o.answer.reply ≡ 0) where
  record Kept : Type 0 where
    ok : first_of (E.refusals p ranges) ≡ 0
    kinds_are : written_kinds o ≡ drawn_kinds p ranges
    floats_are : written_floats o ≡ drawn_floats p ranges

  abbrev roomy : List Rung
  roomy = room (E.enough (commands_of p ranges) kinds floats)

  kept : Kept
  unfolding E.outcome
  kept = go (first_of (E.refusals p ranges ++ roomy)) refl e
    where
      go : (r : ℕ) → r ≡ first_of (E.refusals p ranges ++ roomy) → o ≡ E.put r (commands_of p ranges) kinds floats → Kept
      go zero f g = record {
        ok = (cleared (E.refusals p ranges) roomy tt (sym f)).0;
        kinds_are = ap written_kinds g ∙ take_at (drawn_kinds p ranges) (drop (length (drawn_kinds p ranges)) kinds) (length (drawn_kinds p ranges)) refl;
        floats_are = ap written_floats g ∙ take_at (drawn_floats p ranges) (drop (length (drawn_floats p ranges)) floats) (length (drawn_floats p ranges)) refl;
      }
      go (suc r) f g = let z : suc r ≡ 0 = ap (λ (w : E.Outcome). w.answer.reply) (sym g) ∙ done in absurd (omega arith)

  pub what_is_drawn_is_imported : (out : List ℤ) (records : List (List ℕ))
      → I.outcome (written_kinds o) (written_floats o) out records ≡ stored [] p (contour_spans (without_empty (contours p (spans ranges)))) [] out records []
  what_is_drawn_is_imported out records =
      ap₂ (λ (a : List ℕ) (b : List Float). I.outcome a b out records) kept.kinds_are kept.floats_are
      ∙ every_set_that_can_be_drawn_is_imported p ranges kept.ok out records

  -- and of an import of it, into rows that have room
  module _ (out : List ℤ) (records : List (List ℕ)) (i : Outcome) (g : i ≡ I.outcome (written_kinds o) (written_floats o) out records)
      (points_in : length p ≤ length out) (contours_in : length (without_empty (contours p (spans ranges))) ≤ length records) where
    abbrev back : List (List ℤ)
    back = without_empty (contours p (spans ranges))

    stored_is : i ≡ stored [] p (contour_spans back) [] out records []
    stored_is = g ∙ what_is_drawn_is_imported out records

    pub what_was_drawn_is_not_refused : i.answer.reply ≡ 0
    unfolding stored first_of
    what_was_drawn_is_not_refused =
        let n : length (contour_spans back) ≡ length back = laid-length 0 (map count back) ∙ length-map back count in
        let a = le-leb (length p) (length out) points_in in
        let b = le-leb (length (contour_spans back)) (length records) (omega arith) in
        ap (λ (w : Outcome). w.answer.reply) stored_is ∙ rw (a, b)

    pub a_set_drawn_and_imported_comes_back_but_for_its_empty_contours : contours (written_points i) (spans (written_contours i)) ≡ without_empty (contours p (spans ranges))
    a_set_drawn_and_imported_comes_back_but_for_its_empty_contours =
        let d = accepted narrow p (sound (spans ranges) (count p)) kept.ok in
        let w = written [] tt p (contour_spans back) [] out records [] i stored_is what_was_drawn_is_not_refused in
        ap₂ contours (w.points d.even) w.contours
        ∙ ap (λ (q : List ℤ). contours q (contour_spans back)) (sym (no_point_is_lost p ranges kept.ok))
        ∙ packing_then_unpacking_gives_back_every_contour back (still_even (contours p (spans ranges)) (all_even p ranges d))
