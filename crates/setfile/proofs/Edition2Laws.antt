-- A contour of edition 2 is read as it was written, and written as it was read.
use Rattle.std.proofs.Common.{◌≡◌, ℕ, ◌+◌, ◌*◌, ◌<◌, ◌≤◌, Bool, true, not, eqb, List, ◌++◌, length, take, drop, ℤ, sym, ap, ◌∙◌, ap₂, append_assoc, arith, length-append, length-drop, drop-drop, take-add, ltb-false, le-ltb, eq-eqb, eqb-true}
use borrow.Author.Tests.{not-false}
use Rattle.replies.proofs.LadderLaws.{first_is, clear}
use Rattle.replies.proofs.LadderLaws.First.{past, foot}
use Rattle.grid.specs.Limits.{most}
use Rattle.grid.specs.Domain.{count}
use Rattle.bits.specs.Bits.{digit, value, field}
use Rattle.bits.specs.Signs.{all_fit, fields}
use Rattle.bits.specs.Widths.{width_of}
use Rattle.bits.proofs.BitLaws.{field-length, front_value, front_gone, field_back}
use Rattle.steps.specs.Steps.{differences}
use Rattle.steps.specs.Bodies.{contour_width, body, body_size, steps_in, points_of_width}
use Rattle.steps.proofs.BodyLaws.{body-length, steps_back, points_back, points-length, points_steps, body_back, point_fits, steps_fit, width_some, width_within_32, width_fitting}
use Rattle.setfile.specs.Entries.{Entry, entry}
use Rattle.setfile.specs.Format.{begins, points_in}
use Rattle.setfile.specs.Edition2.{contour_bits, width_in, contour_size, edition_2}
use Rattle.setfile.specs.Writing.{most_points}
use Rattle.setfile.proofs.LayoutLaws.{Back, Forth, Faithful}
use Rattle.setfile.proofs.EditionLaws.{begun_clear, clear_begun, begins_back, count_back, head_gone, count_short, head_back}

-- a contour that edition 2 can hold, behind n points
pub record Held (first : Bool) (n : ℕ) (e : Entry) : Type 0 where
  pub even : length e.points ≡ 2 * count e.points
  pub short : count e.points ≤ most_points
  pub begun : first ≡ true → e.begins ≡ true
  pub few : n + count e.points ≤ most
  pub point : all_fit 32 (take 2 e.points) ≡ true
  pub near : all_fit 32 (differences e.points) ≡ true

pub contour_bits_length : (e : Entry) → length e.points ≡ 2 * count e.points → length (contour_bits e) ≡ 22 + body_size (count e.points) (contour_width e.points)
contour_bits_length e h =
    let p : List ℤ = e.points in
    let w : ℕ = contour_width p in
    length-append (field 1 (digit e.begins)) (field 15 (count p) ++ (field 6 w ++ body p))
    ∙ omega (
      arith,
      field-length 1 (digit e.begins),
      length-append (field 15 (count p)) (field 6 w ++ body p),
      field-length 15 (count p),
      length-append (field 6 w) (body p),
      field-length 6 w,
      body-length p (count p) w h,
    )

back : (first : Bool) (n : ℕ) (e : Entry) (more : List Bool) → Held first n e → Back edition_2 first n e more
back first n e more g =
    let p : List ℤ = e.points in
    let w : ℕ = contour_width p in
    let some : 0 < w = width_some (differences p) in
    let within_32 : w ≤ 32 = width_within_32 (differences p) in
    let fit : all_fit w (differences p) ≡ true = width_fitting (differences p) g.near in
    let rest : List Bool = body p ++ more in
    let whole : List Bool = contour_bits e ++ more in
    let a : contour_bits e ++ more ≡ field 1 (digit e.begins) ++ (field 15 (count p) ++ (field 6 w ++ rest)) =
    append_assoc (field 1 (digit e.begins)) (field 15 (count p) ++ (field 6 w ++ body p)) more
    ∙ ap (λ (l : List Bool). field 1 (digit e.begins) ++ l)
    (append_assoc (field 15 (count p)) (field 6 w ++ body p) more ∙ ap (λ (l : List Bool). field 15 (count p) ++ l) (append_assoc (field 6 w) (body p) more)) in
    let b : begins whole ≡ e.begins = ap begins a ∙ begins_back e.begins (count p) (field 6 w ++ rest) g.short in
    let h : points_in whole ≡ count p = ap points_in a ∙ count_back e.begins (count p) (field 6 w ++ rest) g.short in
    let d : drop 16 whole ≡ field 6 w ++ rest = ap (drop 16) a ∙ head_gone e.begins (count p) (field 6 w ++ rest) g.short in
    let v : width_in whole ≡ w = ap (λ (l : List Bool). value (take 6 l)) d ∙ front_value 6 w rest (omega arith) in
    let z : drop 22 whole ≡ rest = sym (drop-drop 6 16 whole) ∙ ap (drop 6) d ∙ front_gone 6 w rest in
    let own : length (contour_bits e) ≡ 22 + body_size (count p) w = contour_bits_length e g.even in
    let long : length whole ≡ length (contour_bits e) + length more = length-append (contour_bits e) more in
    let s : contour_size whole ≡ 22 + body_size (count p) w = ap₂ (λ (m k : ℕ). 22 + body_size m k) h v in
    let ds : steps_in (points_in whole) (width_in whole) (drop 22 whole) ≡ differences p =
    ap₂ (λ (m k : ℕ). steps_in m k (drop 22 whole)) h v ∙ ap (steps_in (count p) w) z ∙ steps_back w more p (count p) g.even some fit in
    let ps : points_of_width (points_in whole) (width_in whole) (drop 22 whole) ≡ p =
    ap₂ (λ (m k : ℕ). points_of_width m k (drop 22 whole)) h v ∙ ap (points_of_width (count p) w) z ∙ points_back w more p (count p) g.even some fit g.point in
    let same : eqb (width_in whole) (width_of (steps_in (points_in whole) (width_in whole) (drop 22 whole))) ≡ true = eq-eqb _ _ (v ∙ sym (ap width_of ds)) in
    record {
      right =
          sym
          (first_is _ 0
          (past (le-ltb (length whole) 22 (omega (arith, long, own)))
          (past (begun_clear first (begins whole) (λ q. b ∙ g.begun q))
          (past (le-ltb most (n + points_in whole) (omega (arith, h, g.few)))
          (past (le-ltb (length whole) (contour_size whole) (omega (arith, long, own, s)))
          (past (ap not same) foot))))));
      size = s ∙ sym own;
      read = ap₂ entry b ps;
    }

forth : (first : Bool) (n : ℕ) (l : List Bool) → edition_2.wrong first n l ≡ 0 → Forth edition_2 Held first n l
forth first n l e =
    let c = clear _ tt e in
    let w : ℕ = width_in l in
    let k : ℕ = points_in l in
    let t : List Bool = drop 22 l in
    let p : List ℤ = points_of_width k w t in
    let a : 22 ≤ length l = ltb-false (length l) 22 c.0 in
    let headed : 16 ≤ length l = omega arith in
    let s : 22 + body_size k w ≤ length l = ltb-false (length l) (22 + body_size k w) c.1.1.1.0 in
    let u : w ≡ width_of (steps_in k w t) = eqb-true w (width_of (steps_in k w t)) (not-false _ c.1.1.1.1.0) in
    let some : 0 < w = rw u (width_some (steps_in k w t)) in
    let within_32 : w ≤ 32 = rw u (width_within_32 (steps_in k w t)) in
    let room : body_size k w ≤ length t = omega (arith, length-drop 22 l) in
    let m : length p ≡ 2 * k = points-length w t k in
    let q : count p ≡ k = omega (arith, m) in
    let ds : differences p ≡ steps_in k w t = points_steps w t k in
    let v : contour_width p ≡ w = ap width_of ds ∙ sym u in
    let f : field 6 (contour_width p) ++ body p ≡ take (6 + body_size k w) (drop 16 l) =
    ap₂ (λ (i : ℕ) (r : List ℤ). field 6 i ++ (fields 32 (take 2 p) ++ fields i r)) v ds
    ∙ ap₂ (λ (x y : List Bool). x ++ y) (field_back 6 (drop 16 l) (omega (arith, length-drop 16 l))) (body_back w t k some room ∙ ap (take (body_size k w)) (sym (drop-drop 6 16 l)))
    ∙ sym (take-add 6 (body_size k w) (drop 16 l)) in
    let z : 16 + (6 + body_size k w) ≡ 22 + body_size k w = omega arith in
    record {
      held = record {
        even = omega (arith, m);
        short = omega (arith, q, count_short l headed);
        begun = clear_begun first (begins l) c.1.0;
        few = omega (arith, q, ltb-false most (n + k) c.1.1.0);
        point = point_fits w t k room;
        near = rw ds (steps_fit w t k some within_32 room);
      };
      same =
          ap (λ (i : ℕ). field 1 (digit (begins l)) ++ (field 15 i ++ (field 6 (contour_width p) ++ body p))) q
          ∙ head_back l headed (6 + body_size k w) (field 6 (contour_width p) ++ body p) f
          ∙ ap (λ (i : ℕ). take i l) z;
    }

pub edition_2_is_faithful : Faithful edition_2 Held
edition_2_is_faithful = record { back = back; forth = forth }
