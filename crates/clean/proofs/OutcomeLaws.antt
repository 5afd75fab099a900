-- What a cleaning comes to.
use mathlib.Core.Path.{◌≡◌, refl, sym, ◌∙◌, ap, ap₂}
use mathlib.Core.Bool.{Bool, true, false}
use mathlib.Core.List.{List, [], ◌++◌}
use Prim.Native.Nat.{ℕ, zero, suc, ◌<◌}
use native.Mathlib.Omega.{arith}
use lib.IntN.{ℤ}
use lib.ListN.{length, take, drop, replicate, length-replicate}
use lib.Seq.{length-take-le}
use borrow.Author.Tests.{ltb-false, le-ltb}
use Rattle.replies.specs.Ladder.{Rung}
use Rattle.grid.specs.Limits.{limit}
use Rattle.grid.specs.Domain.{count, domain, Contour}
use Rattle.rows.specs.Rows.{front}
use Rattle.grid.specs.Corners.{Corner}
use Rattle.replies.proofs.LadderLaws.{first_is, clear, onward, cleared}
use Rattle.replies.proofs.LadderLaws.First.{past, foot}
use Rattle.grid.proofs.DomainLaws.{in_domain, contour_clear}
use Rattle.ring.specs.declared.Rule.{Rule}
use Rattle.ring.specs.declared.Ending.{Ending}
use Rattle.ring.specs.Walk.{Tally, End, survivors, tally, ending, walk}
use Rattle.ring.specs.Walk.End.{kept, collapsed}
use Rattle.ring.specs.Rule.{goes_at, goes}
use Rattle.ring.specs.inside.Rows.{turns_of, ended_as, Ended}
use Rattle.ring.proofs.Ends.{walk_few}
use Rattle.clean.specs.declared.cleaning.Cleaned.{Cleaned}
use Rattle.clean.specs.Outcome.{scratch, room, walked_by, walked, chosen, answer, Lent, lent, leaving, swept, finished, refusal, outcome_by, outcome}
use Rattle.clean.specs.Promises.{NotRefused, InDomainWithRoom}
use Rattle.clean.specs.inside.Settling.{Ready, Settled, Swept}

-- what no rung refuses is in the domain, with room
pub accepted : (row : List ℤ) (l : Lent) → NotRefused row l → InDomainWithRoom row l
accepted row l e =
    let rest : List Rung = scratch (count row) (length l.next) (length l.prev) (length l.mark) ++ room (count row) (length l.out) in
    let d = cleared (domain limit row) rest tt e in
    let x = in_domain row d.0 in
    let c = clear rest tt d.1 in
    record {
      even_count = x.even;
      at_most_65536 = x.few;
      on_the_grid = x.on;
      room_in_next = ltb-false _ _ c.0;
      room_in_prev = ltb-false _ _ c.1.0;
      room_in_mark = ltb-false _ _ c.1.1.0;
      room_in_out = ltb-false _ _ c.1.1.1.0;
    }

module _ {row : List ℤ} {l : Lent} (x : InDomainWithRoom row l) where
  pub contour : Contour row (count row)
  contour = record { even = x.even_count; few = x.at_most_65536; on = x.on_the_grid }

  -- and what is in the domain, with room, no rung refuses
  pub not_refused : NotRefused row l
  not_refused =
      sym
      (first_is _ 0
      (onward (domain limit row) _ 0 tt (contour_clear row contour)
      (past (le-ltb _ _ x.room_in_next)
      (past (le-ltb _ _ x.room_in_prev)
      (past (le-ltb _ _ x.room_in_mark)
      (past (le-ltb _ _ x.room_in_out) foot))))))

-- a contour's points are counted by its length
pub contour_count : {row : List ℤ} {n : ℕ} → Contour row n → count row ≡ n
contour_count c = omega (arith, c.even)

module _ (rule : Rule) (row out : List ℤ) {n : ℕ} (c : Contour row n) where
  pub settled_few : n < 3 → Settled rule row out (answer 7 0 0 0) out
  settled_few h =
      let w : walked rule row ≡ ending collapsed (tally 0 0) = walk_few (goes rule row) (count row) (omega (arith, contour_count c)) in
      record { answer = rw w; output = rw w }

  module _ (w : Ending) (mark prev : List ℕ) (e : Ended (goes rule row) n mark prev w) where
    ended_is : walked rule row ≡ ended_as w mark
    ended_is = ap (walk (goes rule row)) (contour_count c) ∙ e.is

    pub settled_fallen : w.kept ≡ false → Settled rule row out (answer 7 0 w.decisions w.decisions) out
    settled_fallen t = record { answer = rw (ended_is, t); output = rw (ended_is, t) }

    pub settled_kept : w.kept ≡ true → (k v : ℕ) (exit : List ℤ) → k ≡ length (survivors mark) → v ≡ turns_of w mark → exit ≡ front (chosen row (survivors mark)) out
        → Settled rule row out (answer 0 k w.decisions v) exit
    settled_kept t k v exit f h g = record { answer = rw (ended_is, t) (ap₂ (λ (i j : ℕ). answer 0 i w.decisions j) f h); output = rw (ended_is, t) g }

-- the parts that are lent on
pub ready_parts : (row : List ℤ) (l : Lent) → InDomainWithRoom row l
    → Ready row (take (count row) l.next) (take (count row) l.prev) (take (count row) l.mark) l.out
ready_parts row l a =
    let m = length-take-le (count row) l.mark a.room_in_mark in
    record {
      contour = rw m (contour a);
      next_long = length-take-le (count row) l.next a.room_in_next ∙ sym m;
      prev_long = length-take-le (count row) l.prev a.room_in_prev ∙ sym m;
      room = omega (arith, a.even_count, a.room_in_out);
    }

module _ (goes : Corner → Bool) (row : List ℤ) (l : Lent) where
  pub outcome_refused : (k : ℕ) → k ≡ refusal row l → (k ≡ 0 → ⊥) → leaving (answer k 0 0 0) l ≡ outcome_by goes row l
  unfolding outcome_by
  outcome_refused zero e n = absurd (n refl)
  outcome_refused (suc k) e n = rw (← e, outcome_by)

  pub outcome_done : NotRefused row l → outcome_by goes row l ≡ finished row (walked_by goes row).end (walked_by goes row).tally l
  unfolding outcome_by
  outcome_done e = rw (e, outcome_by)

-- a walk that has ended leaves the scratch zeroed, and the answer and the output that it has alone
in_parts : (row : List ℤ) (e : End) (t : Tally) (l : Lent) →
    let o = finished row e t (lent [] [] [] l.out) in
    finished row e t l ≡ leaving o.answer (swept (count row) (lent l.next l.prev l.mark o.rows.out))
in_parts row (kept s) t l = refl
in_parts row collapsed t l = refl

-- and put together again
pub joined : (rule : Rule) (row : List ℤ) (l : Lent) → NotRefused row l → (r : Cleaned) (exit : List ℤ) (next prev mark : List ℕ)
    → Settled rule row l.out r exit → Swept (length (take (count row) l.mark)) next prev mark
    → leaving r (lent (next ++ drop (count row) l.next) (prev ++ drop (count row) l.prev) (mark ++ drop (count row) l.mark) exit) ≡ outcome rule row l
joined rule row l e r exit next prev mark t s =
    let n : length (take (count row) l.mark) ≡ count row = length-take-le (count row) l.mark (accepted row l e).room_in_mark in
    let z : length {A = ℕ} (replicate (count row) 0) ≡ count row = length-replicate (count row) 0 in
    rw (t.answer, t.output, s.next-zero, s.prev-zero, s.mark-zero, n)
    (sym (outcome_done (goes_at rule) row l e ∙ in_parts row (walked rule row).end (walked rule row).tally l ∙ rw z))
