-- What reading answers and leaves, once the file is judged.
use Rattle.std.proofs.Common.{◌≡◌, ℕ, zero, suc, ◌*◌, ◌/◌, ◌≤◌, Bool, true, false, not, ◌&&◌, eqb, leb, List, [], ◌∷◌, ◌++◌, length, ℤ, sym, refl, ap, ◌∙◌, ap₂, arith, le-leb, leb-false, leb-true, ne_eqb}
use lib.Dec.{eqb-suc-zero}
use borrow.Author.Tests.{lt-leb}
use Rattle.integers.proofs.Logic.{and_left, and_right}
use Rattle.replies.specs.declared.refusal.Refusal.{Refusal}
use Rattle.replies.specs.Refusals.{number as refusal_number}
use Rattle.replies.proofs.RefusalLaws.{refusals_have_numbers}
use Rattle.replies.specs.Ladder.{first_of, so_far, room}
use Rattle.rows.specs.Rows.{front}
use Rattle.replies.proofs.LadderLaws.{first_is, clear_of}
use Rattle.replies.proofs.LadderLaws.First.{here, past, foot}
use Rattle.buffer.specs.declared.ranges.Span.{Span}
use Rattle.buffer.specs.Spans.{rows}
use Rattle.buffer.specs.Sets.{joined, contour_spans, shape_spans}
use Rattle.buffer.specs.Answers as A
use Rattle.buffer.specs.Answers.{packed, enough}
use Rattle.buffer.proofs.AnswerLaws.{stored_refused, stored_done}
use Rattle.setfile.specs.Entries.{contours_of, shapes_of, damage}
use Rattle.setfile.specs.Editions.{number, is_second, parsed}
use Rattle.setfile.specs.declared.answer.Read.{Read}
use Rattle.setfile.specs.Reading.{refusals, put, leaving, edition_told, with_edition, outcome}
use Rattle.setfile.specs.inside.Reading.{Judged, contained, Readable, Counts, Judgement}
use Rattle.setfile.proofs.FillLaws.{contours_laid}
use Rattle.setfile.proofs.ShapeFillLaws.{shapes_laid}

-- only the number of the first refusal counts, and 5 below it
roomed : (a c b : Bool) (d : ℕ) → first_of (so_far (first_of ((a, 2) ∷ so_far d ++ (c, 3) ∷ [])) ++ room b) ≡ first_of (((a, 2) ∷ so_far d ++ (c, 3) ∷ []) ++ room b)
unfolding first_of
roomed true c b d = refl
roomed false true b zero = refl
roomed false false b zero = refl
roomed false c b (suc k) =
    let here-it-is : not (eqb (suc k) 0) ≡ true = ap not (eqb-suc-zero k) in
    ap (λ (n : ℕ). first_of (so_far n ++ room b)) (sym (first_is ((false, 2) ∷ so_far (suc k) ++ (c, 3) ∷ []) (suc k) (past refl (here here-it-is))))
    ∙ sym (first_is (so_far (suc k) ++ room b) (suc k) (here here-it-is))
    ∙ first_is (((false, 2) ∷ so_far (suc k) ++ (c, 3) ∷ []) ++ room b) (suc k) (past refl (here here-it-is))

-- where there is a refusal already, room does not count
same_room : (k : ℕ) (a b : Bool) → (k ≡ 0 → a ≡ b) → first_of (so_far k ++ room a) ≡ first_of (so_far k ++ room b)
same_room zero a b e = ap (λ (c : Bool). first_of (so_far 0 ++ room c)) (e refl)
same_room (suc k) a b e =
    let stops : not (eqb (suc k) 0) ≡ true = ap not (eqb-suc-zero k) in
    sym (first_is (so_far (suc k) ++ room a) (suc k) (here stops)) ∙ first_is (so_far (suc k) ++ room b) (suc k) (here stops)

same_fits : {b c l m : ℕ} (a d : Bool) (y z : ℕ) → a ≡ d → b ≡ l → c ≡ m → (a && leb b y && leb c z) ≡ (d && leb l y && leb m z)
same_fits a d y z e f g = cc

-- two numbers for each point
by_points : (n k m : ℕ) → 2 * n ≡ k → leb n (m / 2) ≡ leb k m
by_points n k m e = go (leb k m) refl
  where
    go : (t : Bool) → leb k m ≡ t → leb n (m / 2) ≡ t
    go true h = le-leb n (m / 2) (omega (arith, leb-true k m h))
    go false h = lt-leb n (m / 2) (omega (arith, leb-false k m h))

-- a refusal comes first whatever room there is, and where there is none the room decides
pub refused_first : (r : Refusal) (b : Bool) → refusal_number r ≡ first_of (so_far (refusal_number r) ++ room b)
refused_first r b = first_is (so_far (refusal_number r) ++ room b) (refusal_number r) (here (ap not (ne_eqb (refusal_number r) 0 (refusals_have_numbers r))))

pub cramped : (b : Bool) → b ≡ false → 5 ≡ first_of (so_far 0 ++ room b)
cramped b e = first_is (so_far 0 ++ room b) 5 (past refl (here (ap not e)))

pub spacious : (b : Bool) → b ≡ true → 0 ≡ first_of (so_far 0 ++ room b)
spacious b e = first_is (so_far 0 ++ room b) 0 (past refl (past (ap not e) foot))

-- a file that is not refused, and the room for its set
pub record Accepted (s : Bool) (f : List ℕ) (out : List ℤ) (cs ss : List (List ℕ)) (j : Judged) : Type 0 where
  pub readable : Readable s f j.contours
  pub points_in : length (joined (contours_of (contained f))) ≤ length out
  pub contours_in : length (contained f) ≤ length cs
  pub shapes_in : length (shapes_of (contained f)) ≤ length ss

-- a file that is judged, and r what is refused of it and of the room
pub record Reading (s : Bool) (f : List ℕ) (out : List ℤ) (cs ss : List (List ℕ)) (j : Judged) (r : ℕ) : Type 0 where
  pub own : s ≡ is_second f
  pub judgement : Judgement s f j
  pub with_room :
      r ≡ first_of (so_far j.reply ++ room (leb j.points (length out / 2) && leb j.contours (length cs) && leb j.shapes (length ss)))

pub judged : {s : Bool} {f : List ℕ} (out : List ℤ) (cs ss : List (List ℕ)) {j : Judged} {r : ℕ} → s ≡ is_second f → Judgement s f j
    → r ≡ first_of (so_far j.reply ++ room (leb j.points (length out / 2) && leb j.contours (length cs) && leb j.shapes (length ss))) → Reading s f out cs ss j r
judged out cs ss own judgement with_room = record { own = own; judgement = judgement; with_room = with_room }

module _ {s : Bool} {f : List ℕ} {out : List ℤ} {cs ss : List (List ℕ)} {j : Judged} {r : ℕ} (file : Reading s f out cs ss j r) where
  points : List ℤ
  points = joined (contours_of (contained f))

  contour_ranges : List Span
  contour_ranges = contour_spans (contours_of (contained f))

  shape_ranges : List Span
  shape_ranges = shape_spans (shapes_of (contained f))

  contours_count : length contour_ranges ≡ length (contained f)
  unfolding contour_ranges
  contours_count = contours_laid 0 (contained f)

  shapes_count : length shape_ranges ≡ length (shapes_of (contained f))
  unfolding shape_ranges
  shapes_count = shapes_laid (contained f)

  abbrev fits : Bool
  fits = leb j.points (length out / 2) && leb j.contours (length cs) && leb j.shapes (length ss)

  fits_is : j.reply ≡ 0 → fits ≡ enough points contour_ranges shape_ranges out cs ss
  unfolding points
  fits_is z =
      let c = file.judgement.counts z in
      same_fits _ _ (length cs) (length ss) (by_points j.points _ (length out) c.points) (c.contours ∙ sym contours_count) (c.shapes ∙ sym shapes_count)

  reply_is : r ≡ first_of (refusals f ++ room (enough points contour_ranges shape_ranges out cs ss))
  reply_is =
      let b : Bool = enough points contour_ranges shape_ranges out cs ss in
      file.with_room ∙ same_room j.reply fits b fits_is
      ∙ ap (λ (k : ℕ). first_of (so_far k ++ room b)) file.judgement.reply
      ∙ roomed _ _ b (damage (parsed f))

  -- what packing leaves is what reading does, with the edition
  pub with_it : (o : A.Outcome) → o ≡ put (refusals f) (contained f) out cs ss → with_edition s o ≡ outcome f out cs ss
  with_it o e = ap₂ with_edition file.own e

  pub read_refused : (w : Read) → w ≡ record { reply = r; edition = 0; points = 0; contours = 0; shapes = 0 } → (r ≡ 0 → ⊥) → leaving w out cs ss ≡ outcome f out cs ss
  unfolding points contour_ranges shape_ranges
  read_refused w g n =
      ap (λ (w : Read). leaving w out cs ss) (g ∙ no_edition r n)
      ∙ with_it _ (stored_refused points contour_ranges shape_ranges out cs ss (refusals f) _ refl r reply_is (packed r 0 0 0) refl n)
    where
      no_edition : (r : ℕ) → (r ≡ 0 → ⊥) → ◌≡◌ {A = Read} (record { reply = r; edition = 0; points = 0; contours = 0; shapes = 0 }) (record { reply = r; edition = edition_told r s; points = 0; contours = 0; shapes = 0 })
      no_edition zero n = absurd (n refl)
      no_edition (suc r) n = refl

  module _ (z : r ≡ 0) where
    clear : (j.reply ≡ 0) × (fits ≡ true)
    clear = clear_of j.reply fits (sym file.with_room ∙ z)

    counts : Counts s f j
    counts = file.judgement.counts clear.0

    pub accepted : Accepted s f out cs ss j
    accepted =
        let a : Bool = leb j.points (length out / 2) in
        let b : Bool = leb j.contours (length cs) in
        let c : Bool = leb j.shapes (length ss) in
        let ab = and_left (a && b) c clear.1 in
        record {
          readable = counts.readable;
          points_in = omega (arith, counts.points, leb-true j.points (length out / 2) (and_left a b ab));
          contours_in = omega (arith, counts.contours, leb-true j.contours (length cs) (and_right a b ab));
          shapes_in = omega (arith, counts.shapes, leb-true j.shapes (length ss) (and_right (a && b) c clear.1));
        }

    pub read_done : (p : List ℤ) (c d : List (List ℕ)) → p ≡ front (joined (contours_of (contained f))) out → c ≡ front (rows (contour_spans (contours_of (contained f)))) cs
        → d ≡ front (rows (shape_spans (shapes_of (contained f)))) ss → (v : ℕ) → v ≡ number s
        → leaving (record { reply = 0; edition = v; points = j.points; contours = j.contours; shapes = j.shapes }) p c d ≡ outcome f out cs ss
    unfolding points contour_ranges shape_ranges
    read_done p c d a b g v q =
        let n : j.points ≡ length points / 2 = omega (arith, counts.points) in
        rw (q, n, counts.contours ∙ sym contours_count, counts.shapes ∙ sym shapes_count)
        (with_it _ (stored_done points contour_ranges shape_ranges out cs ss (refusals f) _ refl r reply_is p c d z a b g))
