-- What a turn of the walk's loop does, for the code that has a rule. The loop stops at the first marked position, where nothing goes any more.
use Prim.Native.Nat.{ℕ, suc, ◌+◌, ◌-◌, ◌*◌, ◌^◌, ◌<◌, ◌≤◌}
use native.Mathlib.Omega.{arith}
use mathlib.Core.Path.{◌≡◌, sym, ap, ap₂, ◌∙◌}
use mathlib.Core.List.{List}
use mathlib.Core.Bool.{Bool, true, false, true≢false}
use lib.ListN.{length, get_or, set}
use Rattle.ring.specs.Walk.{unmarked, marked, removed, mark_at, Survivor, survivors, successor, predecessor, occurrences, tally, ending, to_go}
use Rattle.ring.specs.Walk.End.{kept, collapsed}
use Rattle.ring.specs.Promises.{idle_round}
use Rattle.ring.specs.inside.Rows.{Linked, AllLinked, first_marked, FirstStand, Begun, Removable, Removed, Ended}
use Rattle.rows.proofs.RowLaws.{any_default}
use Rattle.ring.proofs.Marks.{first_unmarked}
use Rattle.ring.proofs.Survivors.{same_survivors, survivor_count, fresh_count}
use Rattle.ring.proofs.Changes.{same_set, first_same, mark_counts, remove_counts}
use Rattle.ring.proofs.Moments.{Reached, reached_first, stayed, went, moment}
use Rattle.ring.proofs.Ahead.{idle, visits_room}
use Rattle.ring.proofs.Ends.{walk_is, none_to_go_answer, fallen_after}
use Rattle.ring.proofs.Links.{Here, here, linked_same}

module _ (goes : ℕ → ℕ → ℕ → Bool) (n : ℕ) where
  -- At a moment of the walk up to which every visit has decided, the rows are linked, so many positions are remaining, and the total is what was decided and what is not marked.
  pub record Turn (next prev mark : List ℕ) (remaining total p : ℕ) : Type 0 where
    pub made : ℕ
    pub reached : Reached goes n made mark p made
    pub linked : Linked mark next prev
    pub remaining_is : remaining ≡ length (survivors mark)
    pub total_is : total ≡ made + occurrences unmarked mark

  -- The code begins where the first k positions stand and are marked.
  pub turn_start : {k : ℕ} {next prev mark : List ℕ} → Begun goes n k mark next prev → Turn next prev mark n n k
  turn_start {k} x =
      let h = x.inside in
      record {
        made = k;
        reached = rw x.marks (reached_first goes n k h x.stand);
        linked = x.linked;
        remaining_is = rw x.marks (sym (ap length (sym (same_survivors 0 (first_same n k (omega arith)))) ∙ fresh_count n));
        total_is = rw x.marks (omega (arith, first_unmarked n k (omega arith)));
      }

  module _ (big : 3 ≤ n) where
    module _ {next prev mark : List ℕ} {remaining total p : ℕ} (x : Turn next prev mark remaining total p) where
      -- What a turn can rely on: its places lie inside the rows, its numbers stay small, and it reads the mark that the walk has.
      pub record Known : Type 0 where
        pub at : Here mark next prev p
        pub survives : Survivor mark p
        pub mark_long : length mark ≡ n
        pub next_long : length next ≡ n
        pub prev_long : length prev ≡ n
        pub read : get_or mark p 0 ≡ mark_at mark p
        pub three : 3 ≤ remaining
        pub few : occurrences unmarked mark ≤ total
        pub fewer : occurrences unmarked mark ≤ remaining
        pub paid : total + 3 * remaining ≤ 4 * n

      pub known : Known
      known =
          let y = moment goes n big x.reached in
          let h = here x.linked p y.on in
          record {
            at = h;
            survives = y.on;
            mark_long = y.long;
            next_long = x.linked.next_long ∙ y.long;
            prev_long = x.linked.prev_long ∙ y.long;
            read = any_default mark p 0 removed h.inside_marks;
            three = omega (arith, y.many, x.remaining_is);
            few = omega (arith, x.total_is);
            fewer = omega (arith, x.remaining_is, survivor_count 0 mark);
            paid = omega (arith, y.paid, x.remaining_is, x.total_is);
          }

      -- The mark that is read is the walk's, and the rule speaks of the neighbours that are read.
      pub due_here : get_or mark p 0 ≡ unmarked → mark_at mark p ≡ unmarked
      due_here e = sym known.read ∙ e

      pub said : {before after : ℕ} {r : Bool} → before ≡ get_or prev p 0 → after ≡ get_or next p 0 → r ≡ goes before p after → to_go goes mark p ≡ r
      said b a e = sym (rw (b ∙ known.at.prev_is, a ∙ known.at.next_is) at e)

      -- At a marked position all that survives is kept, what isn't marked is decided once, and the last round ends there.
      pub turn_ends : mark_at mark p ≡ marked → n * 5 < 2 ^ 64 → Ended goes n mark prev (record { kept = true; decisions = total; at = p })
      turn_ends e fits =
          let made : ℕ = x.made in
          let y = moment goes n big x.reached in
          let k : made + occurrences unmarked mark ≡ total = sym x.total_is in
          let v : made + idle_round mark p ≡ total - occurrences unmarked mark + idle_round mark p = omega arith in
          record {
            is = none_to_go_answer goes n big x.reached (idle goes n big x.reached e) ∙ ap₂ (λ (k v : ℕ). ending (kept (survivors mark)) (tally k v)) k v;
            halted = λ t. record {
              prev_long = x.linked.prev_long;
              to_predecessor = x.linked.to_predecessor;
              met = e;
              due = omega arith;
              small = omega (arith, known.paid, y.long);
            };
          }

      module _ (due : mark_at mark p ≡ unmarked) where
        pub turn_stay : to_go goes mark p ≡ false → (q : ℕ) → q ≡ successor mark p → Turn next prev (set mark p marked) remaining total q
        turn_stay t q e =
            let c = mark_counts mark p due in
            record {
              made = suc x.made;
              reached = rw e (stayed x.reached due t);
              linked = linked_same (same_set mark p marked (omega arith) (omega arith)) x.linked;
              remaining_is = x.remaining_is ∙ sym c.0;
              total_is = omega (arith, x.total_is);
            }

        -- Each turn leaves less to do.
        pub stay_less : 3 * remaining + occurrences unmarked (set mark p marked) < 3 * remaining + occurrences unmarked mark
        stay_less = omega (arith, mark_counts mark p due)

        pub turn_removable : 3 < remaining → Removable mark next prev p
        turn_removable h = record { due = due; others = omega (arith, x.remaining_is); linked = x.linked }

        module _ {next' prev' mark' : List ℕ} {taken : ℕ} (y : Removed mark p mark' next' prev' taken) where
          one_less : length (survivors mark') + 1 ≡ length (survivors mark)
          one_less = omega (arith, remove_counts mark p due, ap (λ l. length (survivors l)) y.marks)

          pub turn_go : to_go goes mark p ≡ true → 3 < remaining → (q : ℕ) → q ≡ predecessor mark p → Turn next' prev' mark' (remaining - 1) (total + taken) q
          turn_go t h q e = record {
            made = suc x.made;
            reached = rw (y.marks, e) (went x.reached due t (omega (arith, x.remaining_is)));
            linked = y.linked;
            remaining_is = omega (arith, x.remaining_is, one_less);
            total_is = omega (arith, x.total_is, y.fewer, one_less, survivor_count 0 mark, survivor_count 0 mark');
          }

          pub go_less : 3 < remaining → 3 * (remaining - 1) + occurrences unmarked mark' < 3 * remaining + occurrences unmarked mark
          go_less h = omega (arith, remove_counts mark p due, ap (occurrences unmarked) y.marks)

        pub turn_fall : to_go goes mark p ≡ true → remaining ≤ 3 → (u : ℕ) → u ≡ occurrences unmarked mark → Ended goes n mark prev (record { kept = false; decisions = total + 1 - u; at = p })
        turn_fall t h u e =
            let v = visits_room goes n big x.reached in
            let last : suc x.made ≡ total + 1 - u = omega (arith, x.total_is) in
            record {
              is = walk_is goes n big (fallen_after goes n big x.reached due t (omega (arith, x.remaining_is)) (suc (3 * n)) (omega arith)) ∙ ap (λ (k : ℕ). ending collapsed (tally k k)) last;
              halted = λ z. absurd (true≢false (sym z));
            }

-- A ring that is linked, and then marked from the front.
pub begun_first : {goes : ℕ → ℕ → ℕ → Bool} {n k : ℕ} {mark next prev mark' : List ℕ} → AllLinked n mark next prev → k < n → FirstStand goes n k
    → mark' ≡ first_marked n k → Begun goes n k mark' next prev
begun_first {n = n} {k = k} x h f e = record {
  inside = h;
  stand = f;
  marks = e;
  linked = rw e (linked_same (first_same n k (omega arith)) (rw x.marks at x.linked));
}
