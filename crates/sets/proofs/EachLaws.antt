-- Shapes that are cleaned one after the other.
use Rattle.std.proofs.Common.{◌≡◌, ℕ, zero, suc, ◌+◌, ◌-◌, ◌<◌, ◌≤◌, Bool, true, false, eqb, List, [], ◌∷◌, ◌++◌, map, length, get_or, take, drop, ℤ, sym, refl, ap, ◌∙◌, subst, ap₂, append-nil, add-one, arith, length-append, length-drop, length-set, length-take-le, drop_of_length-le, get_or-drop, drop-cons, get_or-take, eq-eqb, ne_eqb}
use lib.ListN.{length-map}
use borrow.Rule.Slice.PartMut.{mid_of}
use Rattle.ring.specs.declared.Rule.{Rule}
use Rattle.buffer.specs.Spans.{span, spans, row}
use Rattle.buffer.specs.Sets.{cut, joined, contour, contours, shapes, every}
use Rattle.sets.specs.declared.inner.contour.Progress.{Progress}
use Rattle.sets.specs.declared.inner.contour.Tried.{Tried}
use Rattle.sets.specs.declared.inner.shapes.Total.{Total}
use Rattle.sets.specs.Fates.{Fate, fate}
use Rattle.sets.specs.Fates.Fate.{stays, gone}
use Rattle.sets.specs.inside.Contour.{Reached, reached, placing, none_yet}
use Rattle.sets.specs.inside.Shape.{run, tested, outline, run_shape, Room, Named, Going}
use Rattle.sets.specs.inside.Shapes.{Grouped, grouped, adding, added, run_shapes, Addable, Each, only}
use Rattle.sets.specs.Promises.{Contours}
use Rattle.sets.proofs.FateLaws.{fate_smaller}
use Rattle.sets.proofs.BehindLaws.{joined_more, all_named}
use Rattle.sets.proofs.ShapeLaws.{names_moved}
use Rattle.buffer.proofs.SetLaws.{joined-append, all_of}
use Rattle.buffer.proofs.RowLaws.{spans-length}
use Rattle.sets.proofs.AfterLaws.{placing_long, room_next}

pub joined_both : (l k : List (List ℤ)) → length (joined (l ++ k)) ≡ length (joined l) + length (joined k)
joined_both l k = ap length (joined-append l k) ∙ length-append (joined l) (joined k)

-- room for contours in front of others
pub room_front : (l rest : List (List ℤ)) (at : Progress) (out : List ℤ) (records : List (List ℕ)) → Room (l ++ rest) at out records → Room l at out records
room_front l rest at out records r =
    let j = joined_both l rest in
    let n = length-append l rest in
    record { room = omega (arith, r.room); space = omega (arith, r.space); narrow = omega (arith, r.narrow); fits = omega (arith, r.fits); turns_fit = omega (arith, r.turns_fit) }

-- room for the rest, and rows as long as they were
pub record Leaves (rest : List (List ℤ)) (s t : Reached) : Type 0 where
  pub room : Room rest t.progress t.points t.contours
  pub points_long : length t.points ≡ length s.points
  pub contours_long : length t.contours ≡ length s.contours

module _ (rule : Rule) (rest : List (List ℤ)) where
  run_leaves : (l : List (List ℤ)) (s : Reached) → Contours l → Room (l ++ rest) s.progress s.points s.contours → Leaves rest s (run rule l s)
  unfolding run
  run_leaves [] s a r = record { room = r; points_long = refl; contours_long = refl }
  run_leaves (c ∷ l) s a r =
      let x = run_leaves l (placing (fate rule c) s) a.1 (room_next rule c (l ++ rest) s a.0 r) in
      let b = placing_long c (fate rule c) (fate_smaller rule c a.0) s (omega (arith, r.room, joined_more c (l ++ rest))) in
      record { room = x.room; points_long = x.points_long ∙ b.0; contours_long = x.contours_long ∙ b.1 }

  pub shape_leaves : (l : List (List ℤ)) (s : Reached) → Contours l → Room (l ++ rest) s.progress s.points s.contours → Leaves rest s (run_shape rule l s).reached
  unfolding run_shape
  shape_leaves [] s a r = record { room = r; points_long = refl; contours_long = refl }
  shape_leaves (c ∷ l) s a r = go (fate rule c) refl
    where
      go : (w : Fate) → fate rule c ≡ w → Leaves rest s (outline w rule l s).reached
      go (stays d k) e =
          let x = run_leaves l (placing (fate rule c) s) a.1 (room_next rule c (l ++ rest) s a.0 r) in
          let b = placing_long c (fate rule c) (fate_smaller rule c a.0) s (omega (arith, r.room, joined_more c (l ++ rest))) in
          subst (λ (v : Fate). Leaves rest s (run rule l (placing v s))) e (record { room = x.room; points_long = x.points_long ∙ b.0; contours_long = x.contours_long ∙ b.1 })
      go (gone k) e =
          let q : Room (l ++ rest) (placing (gone k) s).progress s.points s.contours = rw e at (room_next rule c (l ++ rest) s a.0 r) in
          let j = joined_both l rest in
          let m = length-append l rest in
          record {
            room = record { room = omega (arith, q.room); space = omega (arith, q.space); narrow = omega (arith, q.narrow); fits = omega (arith, q.fits); turns_fit = omega (arith, q.turns_fit) };
            points_long = refl;
            contours_long = refl;
          }

module _ {A B : Type 0} (f : A → B) where
  map-take : (n : ℕ) (l : List A) → map f (take n l) ≡ take n (map f l)
  map-take zero l = refl
  map-take (suc n) [] = refl
  map-take (suc n) (a ∷ l) = ap (λ (k : List B). f a ∷ k) (map-take n l)

  map-drop : (n : ℕ) (l : List A) → map f (drop n l) ≡ drop n (map f l)
  map-drop zero l = refl
  map-drop (suc n) [] = refl
  map-drop (suc n) (a ∷ l) = map-drop n l

-- the contours of the ranges that a shape names
pub shape_part : (p : List ℤ) (cs : List (List ℕ)) (a k : ℕ) → contours p (spans (mid_of a k cs)) ≡ take k (drop a (contours p (spans cs)))
shape_part p cs a k =
    ap (contours p) (map-take span k (drop a cs) ∙ ap (take k) (map-drop span a cs))
    ∙ map-take (contour p) k (drop a (spans cs)) ∙ ap (take k) (map-drop (contour p) a (spans cs))

-- and they name what the ranges of the whole row named
pub named_part : (p : List ℤ) (cs : List (List ℕ)) → Named p cs → (a k : ℕ) → a + k ≤ length cs → Named p (mid_of a k cs)
named_part p cs n a k h = record {
  domain = n.domain;
  names = λ j l.
      let long = length-take-le k (drop a cs) (omega (arith, length-drop a cs)) in
      names_moved p cs (mid_of a k cs) (a + j) j (get_or-take k (drop a cs) j [] (omega arith) ∙ get_or-drop a cs j []) l (n.names (a + j) (omega arith));
}

-- the shapes of the ranges from i on are left
pub record Grouping (rule : Rule) (p : List ℤ) (cs ss : List (List ℕ)) (out₀ : List ℤ) (records₀ groups₀ : List (List ℕ)) (at : Total) (out : List ℤ) (records groups : List (List ℕ)) (i : ℕ) : Type 0 where
  pub low : at.shapes ≤ i
  pub groups_long : length groups ≡ length groups₀
  pub room : Room (joined (shapes p (spans cs) (spans (drop i ss)))) at.progress out records
  pub is : run_shapes rule (shapes p (spans cs) (spans (drop i ss))) (grouped at.shapes (reached at.progress out records) groups)
      ≡ run_shapes rule (shapes p (spans cs) (spans ss)) (grouped 0 (reached none_yet out₀ records₀) groups₀)

pub adding_reached : (b : Bool) (r : Reached) (s : Grouped) → (adding b r s).reached ≡ r
adding_reached true r s = refl
adding_reached false r s = refl

pub adding_few : (b : Bool) (r : Reached) (s : Grouped) → (adding b r s).written ≤ s.written + 1
adding_few true r s = omega arith
adding_few false r s = omega arith

pub adding_long : (b : Bool) (r : Reached) (s : Grouped) → length (adding b r s).shapes ≡ length s.shapes
adding_long true r s = length-set s.shapes s.written _
adding_long false r s = refl

pub grouping_none : (rule : Rule) (p : List ℤ) (cs ss : List (List ℕ)) (next prev mark : List ℕ) (out : List ℤ) (records groups : List (List ℕ)) → Each p cs ss next prev mark out records groups
    → Grouping rule p cs ss out records groups (record { shapes = 0; progress = none_yet }) out records groups 0
grouping_none rule p cs ss next prev mark out records groups e = record { low = omega arith; groups_long = refl; room = e.room; is = refl }

module _ {rule : Rule} {p : List ℤ} {cs ss : List (List ℕ)} {out₀ : List ℤ} {records₀ groups₀ : List (List ℕ)} {at : Total} {out : List ℤ} {records groups : List (List ℕ)} {i : ℕ}
    (x : Grouping rule p cs ss out₀ records₀ groups₀ at out records groups i) where
  module _ {next₀ prev₀ mark₀ : List ℕ} (g : Each p cs ss next₀ prev₀ mark₀ out₀ records₀ groups₀) (h : i < length ss) where
    a : ℕ
    a = (span (get_or ss i [])).start

    k : ℕ
    k = (span (get_or ss i [])).end - (span (get_or ss i [])).start

    part_named : Named p (mid_of a k cs)
    unfolding a k
    part_named = named_part p cs g.named a k (omega (arith, (g.within i h).forward, (g.within i h).ends))

    next_is : shapes p (spans cs) (spans (drop i ss)) ≡ contours p (spans (mid_of a k cs)) ∷ shapes p (spans cs) (spans (drop (suc i) ss))
    unfolding a k
    next_is = ap (λ (l : List (List ℕ)). shapes p (spans cs) (spans l)) (drop-cons ss i [] h) ∙ ap (λ (c : List (List ℤ)). c ∷ shapes p (spans cs) (spans (drop (suc i) ss))) (sym (shape_part p cs a k))

    next_room : Room (contours p (spans (mid_of a k cs)) ++ joined (shapes p (spans cs) (spans (drop (suc i) ss)))) at.progress out records
    unfolding joined
    next_room = rw next_is at x.room

    pub grouping_addable : (own : List (List ℕ)) → own ≡ cut cs (span (get_or ss i [])) → (next prev mark : List ℕ) → length next ≡ length next₀ → length prev ≡ length prev₀ → length mark ≡ length mark₀
        → Addable p own at next prev mark out records groups
    unfolding a k
    grouping_addable own q next prev mark e f m =
        rw q (record {
          going = record {
            named = part_named;
            scratch = record { in_next = omega (arith, g.scratch.in_next); in_prev = omega (arith, g.scratch.in_prev); in_mark = omega (arith, g.scratch.in_mark) };
            room = room_front _ _ at.progress out records next_room;
          };
          groupable = record { space = omega (arith, g.space, x.low, x.groups_long); narrow = omega (arith, g.narrow, x.low) };
        })

    pub grouping_more : (own : List (List ℕ)) → own ≡ cut cs (span (get_or ss i [])) → (t : Total) (out' : List ℤ) (records' groups' : List (List ℕ))
        → grouped t.shapes (reached t.progress out' records') groups' ≡ added (run_shape rule (contours p (spans own)) (reached at.progress out records)) (grouped at.shapes (reached at.progress out records) groups)
        → Grouping rule p cs ss out₀ records₀ groups₀ t out' records' groups' (i + 1)
    unfolding a k run_shapes
    grouping_more own own_is t out' records' groups' said =
        let e = rw own_is at said in
        let s = reached at.progress out records in
        let l = contours p (spans (mid_of a k cs)) in
        let u = run_shape rule l s in
        let y = shape_leaves rule (joined (shapes p (spans cs) (spans (drop (suc i) ss)))) l s (all_named p (mid_of a k cs) part_named) next_room in
        let q : reached t.progress out' records' ≡ u.reached = ap (λ (w : Grouped). w.reached) e ∙ adding_reached u.stands u.reached _ in
        record {
          low = omega (arith, x.low, ap (λ (w : Grouped). w.written) e, adding_few u.stands u.reached (grouped at.shapes s groups));
          groups_long = ap (λ (w : Grouped). length w.shapes) e ∙ adding_long u.stands u.reached (grouped at.shapes s groups) ∙ x.groups_long;
          room = rw (add-one i) (rw (sym q) at (leaves_room y));
          is = rw (add-one i) (ap (run_shapes rule (shapes p (spans cs) (spans (drop (suc i) ss)))) e ∙ ap (λ (l : List (List (List ℤ))). run_shapes rule l (grouped at.shapes s groups)) (sym next_is) ∙ x.is);
        }
      where
        leaves_room : {rest : List (List ℤ)} {s t : Reached} → Leaves rest s t → Room rest t.progress t.points t.contours
        leaves_room y = y.room

  pub grouping_all : length ss ≤ i → grouped at.shapes (reached at.progress out records) groups ≡ run_shapes rule (shapes p (spans cs) (spans ss)) (grouped 0 (reached none_yet out₀ records₀) groups₀)
  unfolding run_shapes
  grouping_all h =
      ap (λ (l : List (List ℕ)). run_shapes rule (shapes p (spans cs) (spans l)) (grouped at.shapes (reached at.progress out records) groups)) (sym (drop_of_length-le ss {i = i} h)) ∙ x.is

-- one shape, as the only one of a set
module _ (p : List ℤ) (cs : List (List ℕ)) where
  abbrev pub alone : List (List ℕ)
  alone = row (every cs) ∷ []

  all_is : cut (contours p (spans cs)) (every cs) ≡ contours p (spans cs)
  all_is = all_of (contours p (spans cs)) (every cs) refl (sym (length-map (spans cs) (contour p) ∙ spans-length cs))

  module _ (out : List ℤ) (records groups : List (List ℕ)) where
    pub alone_each : (next prev mark : List ℕ) → Going p cs none_yet next prev mark out records → length groups ≡ 1 → Each p cs alone next prev mark out records groups
    unfolding joined
    alone_each next prev mark g e = record {
      named = g.named;
      scratch = g.scratch;
      within = λ k h. let z : k ≡ 0 = omega arith in rw z (record { forward = omega arith; ends = omega arith });
      room = subst (λ (l : List (List ℤ)). Room l none_yet out records) (sym (ap (λ (c : List (List ℤ)). joined (c ∷ [])) all_is ∙ append-nil (contours p (spans cs)))) g.room;
      space = omega arith;
      narrow = omega arith;
    }

    pub alone_tested : (rule : Rule) (t : Total) (out' : List ℤ) (records' groups' : List (List ℕ))
        → grouped t.shapes (reached t.progress out' records') groups' ≡ run_shapes rule (shapes p (spans cs) (spans alone)) (grouped 0 (reached none_yet out records) groups)
        → (r : Tried) → r ≡ only t → tested r.stays (reached r.progress out' records') ≡ run_shape rule (contours p (spans cs)) (reached none_yet out records)
    unfolding run_shapes
    alone_tested rule t out' records' groups' e r o =
        let start = grouped 0 (reached none_yet out records) groups in
        let u = run_shape rule (contours p (spans cs)) (reached none_yet out records) in
        ap (λ (r : Tried). tested r.stays (reached r.progress out' records')) o
        ∙ go u.stands u.reached (e ∙ ap (λ (c : List (List ℤ)). run_shapes rule (c ∷ []) start) all_is)
      where
        go : (b : Bool) (r : Reached) → grouped t.shapes (reached t.progress out' records') groups' ≡ adding b r (grouped 0 (reached none_yet out records) groups)
            → tested (eqb t.shapes 1) (reached t.progress out' records') ≡ tested b r
        go true r f = ap₂ tested (eq-eqb t.shapes 1 (ap (λ (w : Grouped). w.written) f)) (ap (λ (w : Grouped). w.reached) f)
        go false r f = ap₂ tested (ne_eqb t.shapes 1 (λ h. absurd (omega (arith, h, ap (λ (w : Grouped). w.written) f)))) (ap (λ (w : Grouped). w.reached) f)
