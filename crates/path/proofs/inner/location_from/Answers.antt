-- `path::inner::location_from` meets its contract: from one edge that may have p to the next.
use borrow.Author.Rules.{sfits_of}
use mathlib.Core.Path.{◌≡◌, sym, ◌∙◌, ap, ap₂}
use mathlib.Core.Bool.{Bool, true, false, xor}
use lib.IntN.{ℤ, pos}
use lib.Signed.{lt_z}
use mir.Syntax.{w32}
use mir.Val.{SFits, to_z, of_z}
use mir.Facts.{to_z-of_z, sfits_lit}
use Rattle.integers.proofs.Equal.{bits_eq}
use Rattle.grid.specs.Limits.{limit}
use Rattle.grid.specs.declared.Point.{Point}
use Rattle.grid.specs.Points.{at}
use Rattle.grid.specs.Edges.{between, turn}
use Rattle.grid.proofs.PointLaws.{at_on}
use Rattle.path.specs.Contains.{above, crosses}
use Rattle.path.specs.Locate.{on_edge}
use Rattle.path.proofs.ContainsLaws.{crosses_up, crosses_down}
use Rattle.path.proofs.OnEdge.{on_edge_swap, turn_met, turn_missed, turn_counts}
use Rattle.path.proofs.LocateLaws.{place_by, untouched_met, untouched_above, untouched_falling, untouched_low, untouched_done}
use Rattle.path.proofs.inner.location_from.Goals as goal

-- what is known of the edge from a to b where one of its ends lies above p's horizontal: z says how the way along it, upward, turns on to p
record Rising (p a b : Point) (z : ℤ) : Type 0 where
  high : above p b ≡ true
  low : above p a ≡ false
  turned : z ≡ turn (between a b) (between b p)
  counts : lt_z (pos 0) (to_z w32 (of_z w32 z)) ≡ crosses p a b

record Falling (p a b : Point) (z : ℤ) : Type 0 where
  low : above p b ≡ false
  high : above p a ≡ true
  turned : z ≡ turn (between b a) (between a p)
  counts : lt_z (pos 0) (to_z w32 (of_z w32 z)) ≡ crosses p a b

module _ (p a b : Point) {q r : Point} {up : Bool} {z : ℤ} (start : q ≡ a) (end : r ≡ b) (fits : SFits w32 z) where
  rising : up ≡ above p r → up ≡ true → (above p b ≡ true → above p a ≡ false) → z ≡ turn (between q r) (between r p) → Rising p a b z
  rising e t low turns =
      let h : above p b ≡ true = sym (e ∙ ap (above p) end) ∙ t in
      let k : z ≡ turn (between a b) (between b p) = turns ∙ ap₂ (λ (l h : Point). turn (between l h) (between h p)) start end in
      record {
        high = h;
        low = low h;
        turned = k;
        counts = ap (lt_z (pos 0)) (to_z-of_z fits ∙ k) ∙ turn_counts p a b ∙ crosses_up p a b (low h) h;
      }

  falling : {first : Bool} → up ≡ above p r → up ≡ false → first ≡ above p q → first ≡ true → z ≡ turn (between r q) (between q p) → Falling p a b z
  falling e f e' t turns =
      let l : above p b ≡ false = sym (e ∙ ap (above p) end) ∙ f in
      let h : above p a ≡ true = sym (e' ∙ ap (above p) start) ∙ t in
      let k : z ≡ turn (between b a) (between a p) = turns ∙ ap₂ (λ (l h : Point). turn (between l h) (between h p)) end start in
      record {
        low = l;
        high = h;
        turned = k;
        counts = ap (lt_z (pos 0)) (to_z-of_z fits ∙ k) ∙ turn_counts p b a ∙ crosses_down p a b h l;
      }

pub turn_on-turn-requires : goal.turn_on-turn-requires
turn_on-turn-requires c =
    let row = c.args.points.now in
    (c.requires.1, rw c.point_at-start.ensures (at_on limit row c.loop-i.a c.requires.0.on), rw c.point_at-end.ensures (at_on limit row c.loop-i.i c.requires.0.on))

pub returns-then-turn-eq0 : goal.returns-then-turn-eq0
returns-then-turn-eq0 c =
    let h = rising c.args.p (at c.args.points.now c.loop-i.a) (at c.args.points.now c.loop-i.i) c.point_at-start.ensures c.point_at-end.ensures (sfits_of c.turn_on-turn.type_inv)
    c.lies_above.ensures c.if-lies_above.true (c.loop-i.invariant.not_above c.loop-i-test.true) c.turn_on-turn.ensures in
    untouched_met c.args.points.now c.args.p c.requires.0 c.loop-i.invariant c.loop-i-test.true
    (turn_met _ _ _ h.low h.high (sym h.turned ∙ bits_eq w32 {b = pos 0} (sfits_of c.turn_on-turn.type_inv) (sfits_lit tt) c.if-turn-eq0.true))

pub loop-i-preserved-then-lies_above : goal.loop-i-preserved-then-lies_above
unfolding xor
loop-i-preserved-then-lies_above c =
    let h = rising c.args.p (at c.args.points.now c.loop-i.a) (at c.args.points.now c.loop-i.i) c.point_at-start.ensures c.point_at-end.ensures (sfits_of c.turn_on-turn.type_inv)
    c.lies_above.ensures c.if-lies_above.true (c.loop-i.invariant.not_above c.loop-i-test.true) c.turn_on-turn.ensures in
    untouched_above c.args.points.now c.args.p c.requires.0 c.loop-i.invariant c.loop-i-test.true
    (turn_missed _ _ _ h.low h.high (λ e. c.if-turn-eq0.false (ap (of_z w32) (h.turned ∙ e)))) h.counts h.high c.next_across-i.ensures

pub turn_on-turn-requires-then-lies_above-2 : goal.turn_on-turn-requires-then-lies_above-2
turn_on-turn-requires-then-lies_above-2 c =
    let row = c.args.points.now in
    (c.requires.1, rw c.point_at-end.ensures (at_on limit row c.loop-i.i c.requires.0.on), rw c.point_at-start.ensures (at_on limit row c.loop-i.a c.requires.0.on))

pub returns-then-turn-eq0-2 : goal.returns-then-turn-eq0-2
returns-then-turn-eq0-2 c =
    let h = falling c.args.p (at c.args.points.now c.loop-i.a) (at c.args.points.now c.loop-i.i) c.point_at-start.ensures c.point_at-end.ensures (sfits_of c.turn_on-turn-then-lies_above-2.type_inv)
    c.lies_above.ensures c.if-lies_above.false c.lies_above-else-lies_above.ensures c.if-lies_above-2.true c.turn_on-turn-then-lies_above-2.ensures in
    untouched_met c.args.points.now c.args.p c.requires.0 c.loop-i.invariant c.loop-i-test.true
    (on_edge_swap _ _ _ ∙ turn_met _ _ _ h.low h.high (sym h.turned ∙ bits_eq w32 {b = pos 0} (sfits_of c.turn_on-turn-then-lies_above-2.type_inv) (sfits_lit tt) c.if-turn-eq0-2.true))

pub loop-i-preserved-then-lies_above-2 : goal.loop-i-preserved-then-lies_above-2
unfolding xor
loop-i-preserved-then-lies_above-2 c =
    let h = falling c.args.p (at c.args.points.now c.loop-i.a) (at c.args.points.now c.loop-i.i) c.point_at-start.ensures c.point_at-end.ensures (sfits_of c.turn_on-turn-then-lies_above-2.type_inv)
    c.lies_above.ensures c.if-lies_above.false c.lies_above-else-lies_above.ensures c.if-lies_above-2.true c.turn_on-turn-then-lies_above-2.ensures in
    untouched_falling c.args.points.now c.args.p c.requires.0 c.loop-i.invariant c.loop-i-test.true
    (on_edge_swap _ _ _ ∙ turn_missed _ _ _ h.low h.high (λ e. c.if-turn-eq0-2.false (ap (of_z w32) (h.turned ∙ e)))) h.counts h.low c.next_reached-i.ensures

pub touches-requires : goal.touches-requires
touches-requires c =
    let row = c.args.points.now in
    (c.requires.1, rw c.point_at-start.ensures (at_on limit row c.loop-i.a c.requires.0.on), rw c.point_at-end.ensures (at_on limit row c.loop-i.i c.requires.0.on))

pub returns-then-touches : goal.returns-then-touches
returns-then-touches c =
    untouched_met c.args.points.now c.args.p c.requires.0 c.loop-i.invariant c.loop-i-test.true (sym (c.touches.ensures ∙ ap₂ (on_edge c.args.p) c.point_at-start.ensures c.point_at-end.ensures) ∙ c.if-touches.true)

pub loop-i-preserved : goal.loop-i-preserved
loop-i-preserved c =
    untouched_low c.args.points.now c.args.p c.requires.0 c.loop-i.invariant c.loop-i-test.true (sym (c.touches.ensures ∙ ap₂ (on_edge c.args.p) c.point_at-start.ensures c.point_at-end.ensures) ∙ c.if-touches.false)
    (sym (c.lies_above-else-lies_above.ensures ∙ ap (above c.args.p) c.point_at-start.ensures) ∙ c.if-lies_above-2.false) (sym (c.lies_above.ensures ∙ ap (above c.args.p) c.point_at-end.ensures) ∙ c.if-lies_above.false) c.next_reached-i-else-lies_above-2.ensures

pub returns-then-odd : goal.returns-then-odd
returns-then-odd c =
    sym (ap (place_by false) c.if-odd.true) ∙ untouched_done c.args.points.now c.args.p c.requires.0 c.loop-i.invariant c.loop-i-test.false

pub returns-else-odd : goal.returns-else-odd
returns-else-odd c =
    sym (ap (place_by false) c.if-odd.false) ∙ untouched_done c.args.points.now c.args.p c.requires.0 c.loop-i.invariant c.loop-i-test.false
