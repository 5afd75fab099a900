-- `shift::inner::asking::has` meets its contract.
use Rattle.std.proofs.Common.{◌≡◌, ℕ, ◌<◌, ◌≤◌, List, [], length, take, get_or, sym, ◌∙◌, ap, arith, length-take-le, get_or-take}
use Rattle.grid.specs.Points.{points}
use Rattle.path.specs.Locate.{location}
use Rattle.sifting.specs.inside.Sifting.{lying}
use Rattle.shift.specs.inside.Asking.{ruled_by}
use Rattle.shift.proofs.AskingLaws.{deciding_past, deciding_out, deciding_more, deciding_none}
use Rattle.shift.proofs.inner.asking.has.Goals as goal
use Rattle.shift.proofs.inner.asking.has.Goals.{then-own-press+else-rules_out, else-own-press}

-- a record among the first n
among : (records : List (List ℕ)) (n i : ℕ) → n ≤ length records → i < length (take n records) → (i < n) × (get_or (take n records) i [] ≡ get_or records i [])
among records n i fit h =
    let l : i < n = omega (arith, length-take-le n records fit) in
    (l, get_or-take n records i [] l)

pub returns-then-rules_out : goal.returns-then-rules_out
returns-then-rules_out c =
    let a = c.args in
    let k = among a.records.now a.n c.loop-start.start-index c.requires.there c.loop-start-test.true in
    deciding_out a.points.now a.records.now a.n a.press a.p c.requires.there (c.loop-start.invariant c.requires.there) k.0
    (sym (ap (λ (r : List ℕ). get_or r 3 0) k.1) ∙ c.if-own-press.true)
    (ap (ruled_by c.loop-start.met) (sym (c.location.ensures ∙ ap (λ (r : List ℕ). location a.p (points (lying a.points.now (get_or r 0 0) (get_or r 1 0)))) k.1))
    ∙ sym c.rules_out.ensures ∙ c.if-rules_out.true)

pub loop-start-preserved : goal.loop-start-preserved
loop-start-preserved c =
    let a = c.args in
    let there = c.requires.there in
    let k = among a.records.now a.n c.loop-start.start-index there c.loop-start-test.true in
    let so_far = c.loop-start.invariant in
    elim c.if-own-press.branch [
      | then-own-press+else-rules_out w ↦ λ fit. rw w.met-is
          (deciding_more a.points.now a.records.now a.n a.press a.p fit (so_far fit) k.0
          (sym (ap (λ (r : List ℕ). get_or r 3 0) k.1) ∙ w.if-own-press.true)
          (ap (ruled_by c.loop-start.met) (sym (w.location.ensures ∙ ap (λ (r : List ℕ). location a.p (points (lying a.points.now (get_or r 0 0) (get_or r 1 0)))) k.1))
          ∙ sym w.rules_out.ensures ∙ w.if-rules_out.false))
      | else-own-press w ↦ λ fit. rw w.met-is
          (deciding_past a.points.now a.records.now a.n a.press a.p fit (so_far fit) k.0 (λ e. w.if-own-press.false (ap (λ (r : List ℕ). get_or r 3 0) k.1 ∙ e)))
    ]

pub returns : goal.returns
returns c =
    let a = c.args in
    deciding_none a.points.now a.records.now a.n a.press a.p c.requires.there (c.loop-start.invariant c.requires.there)
    (omega (arith, c.loop-start-test.false, length-take-le a.n a.records.now c.requires.there))
