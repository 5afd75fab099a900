-- What an export refuses and leaves.
use mathlib.Core.Path.{◌≡◌, refl, sym, ap, ap₂, ◌∙◌}
use mathlib.Core.Bool.{true, false, not, ◌&&◌}
use mathlib.Core.List.{List, [], ◌∷◌, ◌++◌, map, map-append, map-map}
use Prim.Native.Nat.{ℕ, zero, suc, ◌+◌, ◌*◌, ◌%◌, ◌≤◌}
use native.Mathlib.Omega.{arith}
use lib.Dec.{leb}
use lib.ListN.{length, length-map}
use lib.IntN.{ℤ}
use lib.Ieee.{Float}
use Rattle.integers.proofs.Logic.{and_left, and_right}
use borrow.Author.Tests.{leb-true}
use Rattle.grid.specs.declared.Point.{Point}
use Rattle.grid.specs.Points.{points}
use Rattle.grid.specs.Limits.{narrow, most}
use Rattle.std.proofs.Common.{Err}
use Rattle.replies.specs.declared.refusal.Refusal.{Refusal}
use Rattle.replies.specs.Refusals.{number}
use Rattle.replies.proofs.RefusalLaws.{refusals_have_numbers, refused_so_far}
use Rattle.replies.specs.Ladder.{first_of, room}
use Rattle.grid.specs.Domain.{count}
use Rattle.rows.specs.Rows.{front}
use Rattle.replies.proofs.LadderLaws.{First, first_is, onward}
use Rattle.replies.proofs.LadderLaws.First.{here, past, foot}
use Rattle.grid.proofs.RowLaws.{points_count}
use Rattle.buffer.specs.declared.ranges.Span.{Span}
use Rattle.buffer.specs.Spans.{spans, sound_from, sound, size, total}
use Rattle.buffer.specs.Sets.{joined, contours, Even}
use Rattle.buffer.proofs.RefusalLaws.{Accepted, accepted}
use Rattle.buffer.proofs.SetLaws.{contours_even, joined-append, sizes_are}
use Rattle.buffer.proofs.SpanLaws.{ends_at, first_starts, first_forward, others_sound, range_within}
use Rattle.buffer.proofs.Theorems.{a_sound_set's_contours_laid_end_to_end_are_its_points}
use Rattle.millimetres.specs.Scale.{millimetres}
use Rattle.drawing.specs.declared.command.Command.{Command}
use Rattle.drawing.specs.declared.command.Command.TheVariants.{Line, Close}
use Rattle.drawing.specs.Commands.{kind, floats, kinds_of, floats_of}
use Rattle.drawing.specs.Exporting.{drawn_as, place, outline, commands, refusals, leaving, enough, put, outcome}
use Rattle.drawing.specs.inside.Rows.{one, contour_kinds, set_kinds, filled, Forward, none_drawn}
use Rattle.drawing.proofs.PutLaws.{ones, set-length}

-- the kinds of a contour
outline_kinds : (l : List Point) → kinds_of (outline l) ≡ contour_kinds (length l)
unfolding outline contour_kinds
outline_kinds [] = refl
outline_kinds (p ∷ l) = ap (λ (k : List ℕ). 0 ∷ k) (go l)
  where
    go : (m : List Point) → map kind (map (λ (q : Point). Line (place q)) m ++ Close ∷ []) ≡ ones (length m) ++ 2 ∷ []
    go [] = refl
    go (q ∷ m) = ap (λ (k : List ℕ). 1 ∷ k) (go m)

-- its floats
outline_floats : (l : List Point) → floats_of (outline l) ≡ joined (map (λ (p : Point). millimetres p.x ∷ millimetres p.y ∷ []) l)
unfolding outline joined
outline_floats [] = refl
outline_floats (p ∷ l) = ap (λ (k : List Float). millimetres p.x ∷ millimetres p.y ∷ k) (go l)
  where
    go : (m : List Point) → joined (map floats (map (λ (q : Point). Line (place q)) m ++ Close ∷ [])) ≡ joined (map (λ (p : Point). millimetres p.x ∷ millimetres p.y ∷ []) m)
    go [] = refl
    go (q ∷ m) = ap (λ (k : List Float). millimetres q.x ∷ millimetres q.y ∷ k) (go m)

row_floats : (c : List ℤ) → length c ≡ 2 * count c → joined (map (λ (p : Point). millimetres p.x ∷ millimetres p.y ∷ []) (points c)) ≡ map millimetres c
unfolding points joined
row_floats [] e = refl
row_floats (x ∷ []) e = absurd (omega arith)
row_floats (x ∷ y ∷ c) e = ap (λ (k : List Float). millimetres x ∷ millimetres y ∷ k) (row_floats c (omega arith))

-- and those of a set
kinds_by_count : (set : List (List ℤ)) → kinds_of (commands set) ≡ joined (map contour_kinds (map count set))
unfolding joined
kinds_by_count [] = refl
kinds_by_count (c ∷ set) =
    map-append kind (outline (points c)) (commands set)
    ∙ ap₂ (λ (a b : List ℕ). a ++ b) (outline_kinds (points c) ∙ ap contour_kinds (points_count c)) (kinds_by_count set)

floats_by_row : (set : List (List ℤ)) → Even set → floats_of (commands set) ≡ map millimetres (joined set)
unfolding joined
floats_by_row [] h = refl
floats_by_row (c ∷ set) h =
    ap joined (map-append floats (outline (points c)) (commands set))
    ∙ joined-append (map floats (outline (points c))) (map floats (commands set))
    ∙ ap₂ (λ (a b : List Float). a ++ b) (outline_floats (points c) ∙ row_floats c h.0) (floats_by_row set h.1)
    ∙ sym (map-append millimetres c (joined set))

-- of a sound one
sizes_total : (q n : ℕ) (l : List Span) → sound_from q l n ≡ true → q + total (map size l) ≡ n
sizes_total q n [] e = omega (arith, ends_at q n e)
sizes_total q n (s ∷ l) e =
    omega (arith, first_starts q n s l e, first_forward q n s l e, sizes_total s.end n l (others_sound q n s l e))

filled_few : (l : List Span) → filled l ≤ total (map size l)
unfolding filled
filled_few [] = omega arith
filled_few (s ∷ l) = omega (arith, go (size s), filled_few l)
  where
    go : (n : ℕ) → one n ≤ n
    go zero = omega arith
    go (suc n) = omega arith

module _ (p : List ℤ) (ranges : List (List ℕ)) (even : length p ≡ 2 * count p) (ok : sound (spans ranges) (count p) ≡ true) where
  abbrev drawn : List Command
  drawn = commands (contours p (spans ranges))

  pub kinds_are : kinds_of drawn ≡ set_kinds (spans ranges)
  kinds_are =
      kinds_by_count (contours p (spans ranges))
      ∙ ap (λ (l : List ℕ). joined (map contour_kinds l)) (sizes_are p 0 (spans ranges) even ok)
      ∙ ap joined (map-map contour_kinds size (spans ranges))

  pub floats_are : floats_of drawn ≡ map millimetres p
  floats_are =
      floats_by_row (contours p (spans ranges)) (contours_even p 0 (spans ranges) even ok)
      ∙ ap (map millimetres) (a_sound_set's_contours_laid_end_to_end_are_its_points p (spans ranges) even ok)

  pub kinds_count : length (kinds_of drawn) ≡ count p + filled (spans ranges)
  kinds_count = ap length kinds_are ∙ omega (arith, set-length (spans ranges), sizes_total 0 (count p) (spans ranges) ok)

  pub floats_count : length (floats_of drawn) ≡ length p
  floats_count = ap length floats_are ∙ length-map p millimetres

  pub commands_few : count p + filled (spans ranges) ≤ 2 * count p
  commands_few = omega (arith, filled_few (spans ranges), sizes_total 0 (count p) (spans ranges) ok)

-- what it answers
put_refused : (l : List Command) (kinds : List ℕ) (floats : List Float) (r : ℕ) → (r ≡ 0 → ⊥) → leaving (none_drawn r) kinds floats ≡ put r l kinds floats
put_refused l kinds floats zero n = absurd (n refl)
put_refused l kinds floats (suc r) n = refl

module _ (p : List ℤ) (ranges : List (List ℕ)) (kinds : List ℕ) (floats : List Float) where
  abbrev told_commands : List Command
  told_commands = commands (contours p (spans ranges))

  by_number : (r : ℕ) → r ≡ first_of (refusals p ranges ++ room (enough told_commands kinds floats)) → put r told_commands kinds floats ≡ outcome p ranges kinds floats
  unfolding outcome
  by_number r f = ap (λ (n : ℕ). put n told_commands kinds floats) f

  pub export_refused : (r : Refusal) → number r ≡ first_of (refusals p ranges) → leaving (drawn_as (Err r)) kinds floats ≡ outcome p ranges kinds floats
  export_refused r e =
      put_refused told_commands kinds floats (number r) (refusals_have_numbers r)
      ∙ by_number (number r) (refused_so_far (refusals p ranges) (room (enough told_commands kinds floats)) r e)

-- a set of which nothing is refused, n of whose contours have points, and the rows for its drawing
pub record Exporting (p : List ℤ) (ranges : List (List ℕ)) (kinds : List ℕ) (floats : List Float) (n : ℕ) : Type 0 where
  pub free : first_of (refusals p ranges) ≡ 0
  pub filled_ones : n ≡ filled (spans ranges)

module _ {p : List ℤ} {ranges : List (List ℕ)} {kinds : List ℕ} {floats : List Float} {n : ℕ} (set : Exporting p ranges kinds floats n) where
  abbrev drawing : List Command
  drawing = told_commands p ranges kinds floats

  taken : Accepted narrow p (sound (spans ranges) (count p))
  taken = accepted narrow p (sound (spans ranges) (count p)) set.free

  pub export_few : count p + filled (spans ranges) ≤ 2 * most
  export_few = omega (arith, commands_few p ranges taken.even taken.sound, taken.few)

  same_room : (leb (count p + n) (length kinds) && leb (length p) (length floats)) ≡ enough drawing kinds floats
  same_room =
      ap₂ (λ (a b : ℕ). leb a (length kinds) && leb b (length floats))
      (ap (λ (m : ℕ). count p + m) set.filled_ones ∙ sym (kinds_count p ranges taken.even taken.sound))
      (sym (floats_count p ranges taken.even taken.sound))

  onto : (r : ℕ) → First (room (enough drawing kinds floats)) r → put r drawing kinds floats ≡ outcome p ranges kinds floats
  onto r f = by_number p ranges kinds floats r (first_is _ _ (onward (refusals p ranges) (room (enough drawing kinds floats)) r tt set.free f))

  pub export_cramped : (leb (count p + n) (length kinds) && leb (length p) (length floats)) ≡ false → leaving (none_drawn 5) kinds floats ≡ outcome p ranges kinds floats
  export_cramped h =
      put_refused drawing kinds floats 5 (λ i. omega arith)
      ∙ onto 5 (here (ap not (sym same_room ∙ h)))

  module _ (h : (leb (count p + n) (length kinds) && leb (length p) (length floats)) ≡ true) where
    pub export_contours : Forward ranges × (length (set_kinds (spans ranges)) ≤ length kinds)
    export_contours =
        let m : count p + n ≤ length kinds = leb-true _ _ (and_left (leb (count p + n) (length kinds)) (leb (length p) (length floats)) h) in (
          λ i l. (range_within ranges (count p) i taken.sound l).forward,
          omega (arith, set.filled_ones, kinds_count p ranges taken.even taken.sound, ap length (kinds_are p ranges taken.even taken.sound)),
        )

    pub export_places : (length p % 2 ≡ 0) × (length p ≤ length floats)
    export_places = (omega (arith, taken.even), leb-true _ _ (and_right (leb (count p + n) (length kinds)) (leb (length p) (length floats)) h))

    pub export_done : (c : List ℕ) (d : List Float) → c ≡ front (set_kinds (spans ranges)) kinds → d ≡ front (map millimetres p) floats
        → leaving (record { reply = 0; commands = count p + n; floats = length p }) c d ≡ outcome p ranges kinds floats
    export_done c d f g =
        ap₂ (λ (a b : ℕ). leaving (record { reply = 0; commands = a; floats = b }) c d)
        (ap (λ (m : ℕ). count p + m) set.filled_ones ∙ sym (kinds_count p ranges taken.even taken.sound))
        (sym (floats_count p ranges taken.even taken.sound))
        ∙ ap₂ (λ (a : List ℕ) (b : List Float). leaving (record { reply = 0; commands = length (kinds_of drawing); floats = length (floats_of drawing) }) a b)
        (f ∙ ap (λ (l : List ℕ). front l kinds) (sym (kinds_are p ranges taken.even taken.sound)))
        (g ∙ ap (λ (l : List Float). front l floats) (sym (floats_are p ranges taken.even taken.sound)))
        ∙ onto 0 (past (ap not (sym same_room ∙ h)) foot)
