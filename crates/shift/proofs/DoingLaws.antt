-- Requests that are done on rows.
use mathlib.Core.Path.{◌≡◌, refl, sym, ◌∙◌, ap, ap₂, subst}
use mathlib.Core.Bool.{Bool, true, false, ◌&&◌}
use mathlib.Core.List.{List, [], ◌∷◌, ◌++◌, map}
use Prim.Native.Nat.{ℕ, zero, suc, ◌+◌, ◌-◌, ◌*◌, ◌≤◌, ◌<◌}
use native.Mathlib.Omega.{arith}
use lib.Dec.{leb, eqb}
use lib.ListN.{length, get_or, take, drop, length-drop}
use lib.Seq.{split_at, get_or-drop}
use lib.IntN.{ℤ}
use borrow.Author.Tests.{leb-true, eq-eqb, ne_eqb}
use Rattle.integers.proofs.Logic.{and_left, and_right}
use Rattle.replies.specs.declared.refusal.Refusal.{Refusal}
use Rattle.replies.specs.Ladder.{Rung, first_of}
use Rattle.replies.specs.Refusals.{number as refusal}
use Rattle.replies.proofs.RefusalLaws.{refusals_have_numbers}
use Rattle.rows.specs.Rows.{front}
use Rattle.rows.proofs.RowLaws.{front_length}
use Rattle.grid.specs.Limits.{limit}
use Rattle.grid.specs.declared.Point.{Point}
use Rattle.grid.specs.Points.{on}
use Rattle.grid.specs.Domain.{count, Contour}
use Rattle.ring.specs.declared.Rule.TheVariants.{Collinear}
use Rattle.buffer.specs.Sets.{contour}
use Rattle.sets.specs.Contains.{has as has_point}
use Rattle.sifting.specs.inside.Sifting.{InPlace}
use Rattle.shift.specs.inside.Asking.{has_from, shape_from, Askable}
use Rattle.ring.specs.declared.Rule.{Rule}
use Rattle.pool.specs.Lists.{Entry, entry, capacity, holding, held, if_so, own, other, has, removed, Every, Even, Fair}
use Rattle.pool.specs.Calls.{Call, refusals, done, unless}
use Rattle.pool.specs.Calls as Calls
use Rattle.pool.specs.Calls.Call.{add, remove}
use Rattle.pool.specs.Promises.{Fit}
use Rattle.pool.specs.Rows.{Slot, slot, span_of, Lent, lent, used, named, numbers, slots_from, slot_at, contents, laid_out, sound}
use Rattle.pool.specs.Outcome.{Outcome, outcome, leaving, number, enough, refused, called, own_slots}
use Rattle.pool.specs.inside.Records.{total, Lies, Newest}
use Rattle.pool.specs.inside.Surveys.{Surveyed, share_of, with_more, grown}
use Rattle.pool.specs.declared.inner.survey.Survey.{Survey}
use Rattle.pool.proofs.ListLaws.{every_removed, own-append, held-append, total-append, total_held, length_held, held_both, removed_is}
use Rattle.pool.proofs.FairLaws.{held_all}
use Rattle.pool.proofs.LayoutLaws.{slots_length, numbers-length, contours_are, slot_is, slot_at_is, press_is}
use Rattle.pool.proofs.SoundLaws.{sound_lies, sound_fair, sound_tooled, read_own}
use Rattle.pool.proofs.CallLaws.{grown_not, all_held, shares_small, records_there, remove_none}
use Rattle.pool.proofs.RowTheorems.{read_laid, sound_laid, called_told, called_list, called_sound, called_enough, surveyed_more}
use Rattle.shift.specs.Steps.{Request}
use Rattle.shift.specs.Steps.Request.{adds, removes, cleans, asks}
use Rattle.shift.specs.States.{telling, shape, yes_or_no, asked, told, after}
use Rattle.sifting.specs.Cleaned.{cleaned}
use Rattle.sifting.specs.inside.Cleaning.{field, InDomain}
use Rattle.shift.specs.inside.Doing.{Held, Ended, Did, with_less}
use Rattle.shift.proofs.Theorems.{the_pool_stays_in_the_domain}
use Rattle.sifting.proofs.GoingLaws.{own_held, all_long, domain_parts, total_parts, this_is, slot_there}
use Rattle.sifting.proofs.CleanedLaws.{cleaned_in_domain, cleaned_tools, cleaned_fair, domain_even}

-- every number of a ladder is small
abbrev Small : List Rung → Type 0
Small [] = Unit {0}
Small (r ∷ l) = (r.1 ≤ 255) × Small l

first_small : (l : List Rung) → Small l → first_of l ≤ 255
unfolding first_of
first_small [] h = omega arith
first_small (r ∷ l) h = go r.0 (first_small l h.1)
  where
    go : (b : Bool) → first_of l ≤ 255 → elim b [ true ↦ r.1 | false ↦ first_of l ] ≤ 255
    go true k = h.0
    go false k = k

told_small : (p : ℕ) (c : Call) (l : List Entry) → Calls.told true p l c ≤ 255
told_small p (add tool contour) l = first_small _ (omega arith, (omega arith, (omega arith, (omega arith, (omega arith, (omega arith, tt))))))
told_small p remove l = first_small _ (omega arith, (omega arith, tt))

number_few : (b : Bool) → number b ≤ 1
number_few false = omega arith
number_few true = omega arith

-- no contour is a press's
none_is : (p : ℕ) (d : Entry) (l : List Entry) → ((j : ℕ) → j < length l → (get_or l j d).press ≡ p → ⊥) → has p l ≡ false
unfolding has
none_is p d [] f = refl
none_is p d (e ∷ l) f =
    rw (ne_eqb p e.press (λ h. f 0 (omega arith) (sym h))) (none_is p d l (λ j k h. f (suc j) (omega arith) h))

abbrev nobody : Entry
nobody = entry 0 0 []

-- rows that hold a pool
module _ (s : Lent) (f : Survey) (h : Held s f) where
  abbrev pool : List Entry
  pool = contents s

  is_sound : sound s ≡ true
  is_sound = sym h.surveyed.sound_is ∙ h.sound

  pub lies : Lies pool s
  lies = sound_lies s is_sound

  pub fair : Fair pool
  fair = sound_fair s is_sound

  -- a request that leaves the rows as they are
  pub did_nothing : (request : Request) → after request pool ≡ pool → (r : Ended) → telling r.reply r.result ≡ told request pool → r.found ≡ f → r.reply ≤ 255 → r.result ≤ 4 * capacity
      → Did request s r s
  did_nothing request a r t g m k = record {
    told_is = t;
    rows_are = lies.is ∙ ap (λ (l : List Entry). laid_out l s) (sym a);
    pool_is = sym a;
    held = subst (Held s) (sym g) h;
    reply_few = m;
    result_few = k;
  }

  -- a call of a press
  module _ (b : Bool) (c : Call) (fit : Fit c) where
    abbrev p : ℕ
    p = number b

    told_now : Calls.told (enough s) p pool c ≡ Calls.told true p pool c
    told_now = ap (λ (e : Bool). Calls.told e p pool c) h.room

    asked_now : refused p c s ≡ Calls.told true p pool c
    asked_now = ap (λ (t : Bool). first_of (refusals t (enough s) (own p pool) (held (own (other p) pool)) c)) is_sound ∙ told_now

    reply_now : (called p c s).reply ≡ Calls.told true p pool c
    reply_now = called_told s is_sound p c ∙ told_now

    list_now : contents (called p c s).pool ≡ Calls.after true p c pool
    list_now = called_list s is_sound p c ∙ ap (λ (e : Bool). Calls.after e p c pool) h.room

    laid_now : (called p c s).pool ≡ laid_out (Calls.after true p c pool) s
    unfolding called
    laid_now = go (refused p c s) ∙ ap (λ (r : ℕ). laid_out (unless r (done p c pool) pool) s) asked_now
      where
        go : (r : ℕ) → (outcome r (done p c pool) s).pool ≡ laid_out (unless r (done p c pool) pool) s
        go zero = refl
        go (suc r) = lies.is

    -- where it is refused the rows are as they were
    refused_now : ((called p c s).reply ≡ 0 → ⊥) → (called p c s).pool ≡ s
    unfolding called
    refused_now n = go (refused p c s) n
      where
        go : (r : ℕ) → ((outcome r (done p c pool) s).reply ≡ 0 → ⊥) → (outcome r (done p c pool) s).pool ≡ s
        go zero n = absurd (n refl)
        go (suc r) n = refl

    module _ (request : Request) (told-as : telling (Calls.told true p pool c) 0 ≡ told request pool) (after-as : Calls.after true p c pool ≡ after request pool)
        (t : Lent) (r : Ended) (g : ◌≡◌ {A = Outcome} (record { reply = r.reply; pool = t }) (called p c s)) (z : r.result ≡ 0) where
      reply_is : r.reply ≡ (called p c s).reply
      reply_is = ap (λ (o : Outcome). o.reply) g

      pool_now : t ≡ (called p c s).pool
      pool_now = ap (λ (o : Outcome). o.pool) g

      pub did_call : Surveyed t r.found → r.found.sound ≡ true → Every InDomain (after request pool) → Did request s r t
      did_call u e d = record {
        told_is = ap₂ telling (reply_is ∙ reply_now) z ∙ told-as;
        rows_are = pool_now ∙ laid_now ∙ ap (λ (l : List Entry). laid_out l s) after-as;
        pool_is = ap contents pool_now ∙ list_now ∙ after-as;
        held = record {
          surveyed = u;
          sound = e;
          room = ap enough pool_now ∙ called_enough s is_sound p (number_few b) c ∙ h.room;
          in_domain = subst (Every InDomain) (sym (ap contents pool_now ∙ list_now ∙ after-as)) d;
        };
        reply_few = omega (arith, reply_is, reply_now, told_small p c pool);
        result_few = omega (arith, z);
      }

      pub did_refused : (r.reply ≡ 0 → ⊥) → r.found ≡ f → Every InDomain (after request pool) → Did request s r t
      did_refused n k d =
          let same : t ≡ s = pool_now ∙ refused_now (λ q. n (reply_is ∙ q)) in
          did_call (subst (λ (x : Lent). Surveyed x r.found) (sym same) (subst (Surveyed s) (sym k) h.surveyed)) (ap (λ (x : Survey). x.sound) k ∙ h.sound) d

  pub added_surveyed : (b : Bool) (contour : List ℤ) → (called (number b) (add 0 contour) s).reply ≡ 0 → Surveyed (called (number b) (add 0 contour) s).pool (with_more b (count contour) f)
  added_surveyed b contour z = surveyed_more s f h.surveyed 0 contour (omega arith) h.sound b z

  -- a pool that was cleaned
  module _ (rule : Rule) where
    abbrev left : List Entry
    left = (cleaned rule pool).pool

    left_even : Every Even left
    left_even = domain_even left (cleaned_in_domain rule pool h.in_domain)

    left_fair : Fair left
    left_fair = cleaned_fair rule pool h.in_domain fair

    room_of : (2 * capacity ≤ length s.points) × (capacity ≤ length s.records)
    room_of = (leb-true _ _ (and_left (leb (2 * capacity) (length s.points)) _ h.room), leb-true _ _ (and_right (leb (2 * capacity) (length s.points)) _ h.room))

    left_enough : enough (laid_out left s) ≡ true
    left_enough =
        let w = held_all left left_fair in
        let x : length (front (numbers left) s.points) ≡ length s.points = front_length s.points (numbers left) (omega (arith, numbers-length left left_even, total_held left, room_of.0)) in
        let y : length (front (slots_from 0 left) s.records) ≡ length s.records = front_length s.records (slots_from 0 left) (omega (arith, slots_length 0 left, length_held left, room_of.1)) in
        ap₂ (λ (m n : ℕ). leb (2 * capacity) m && leb capacity n) x y ∙ h.room

    pub did_clean : (t : Lent) (decisions points all second contours : ℕ) → t ≡ laid_out left s → points ≡ total left → all ≡ held left → second ≡ held (own 1 left)
        → decisions ≡ (cleaned rule pool).decisions → decisions ≤ 4 * capacity
        → Did (cleans rule) s (record { reply = 0; result = decisions; contours = contours; found = record { sound = true; points = points; first = all - second; second = second } }) t
    did_clean t decisions points all second contours e a b c d m =
        let again : contents t ≡ left = ap contents e ∙ read_laid left s left_even in
        record {
          told_is = ap (telling 0) d;
          rows_are = e;
          pool_is = again;
          held = record {
            surveyed = record {
              sound_is = sym (ap sound e ∙ sound_laid left s left_fair left_even (cleaned_tools rule pool (sound_tooled s is_sound)));
              points_are = λ z. a ∙ ap total (sym again);
              first_holds = λ z. omega (arith, b, c, held_both left left_fair.pressed, ap (λ (l : List Entry). held (own 0 l)) again);
              second_holds = λ z. c ∙ ap (λ (l : List Entry). held (own 1 l)) (sym again);
            };
            sound = refl;
            room = ap enough e ∙ left_enough;
            in_domain = subst (Every InDomain) (sym again) (cleaned_in_domain rule pool h.in_domain);
          };
          reply_few = omega arith;
          result_few = m;
        }

-- what a press holds of a list with one contour in it, and of the list without it
module _ (p q : ℕ) (a : List Entry) (e : Entry) (b : List Entry) where
  abbrev part : ℕ
  part = held (if_so (eqb q e.press) e [])

  held_without : held (own q (a ++ e ∷ b)) ≡ held (own q (a ++ b)) + part
  unfolding held own
  held_without =
      ap held (own-append q a (e ∷ b)) ∙ held-append (own q a) (own q (e ∷ b)) ∙ ap (λ (n : ℕ). held (own q a) + n) (either (eqb q e.press))
      ∙ sym (ap (λ (n : ℕ). n + part) (ap held (own-append q a b) ∙ held-append (own q a) (own q b)) ∙ omega arith)
    where
      either : (t : Bool) → held (if_so t e (own q b)) ≡ held (own q b) + held (if_so t e [])
      either true = omega arith
      either false = omega arith

-- what a survey found is small
pub found_small : (s : Lent) (f : Survey) → Held s f → (b : Bool) → (f.points ≤ capacity) × (share_of b f ≤ capacity)
found_small s f h b = (
  omega (arith, h.surveyed.points_are h.sound, total_held (contents s), all_held s f h.surveyed h.sound),
  (shares_small s f h.surveyed b h.sound).0,
)

-- a contour was refused, and the count is as it was
pub did_not_add : (s : Lent) (f : Survey) → Held s f → (b : Bool) (contour points : List ℤ) (records : List (List ℕ)) (n : ℕ) (r : Refusal)
    → leaving (refusal r) points records (grown (refusal r) n) ≡ called (number b) (add 0 contour) s
    → Did (adds b contour) s (record { reply = refusal r; result = 0; contours = n; found = f }) (lent points records n)
did_not_add s f h b contour points records n r g =
    did_refused s f h b (add 0 contour) (omega arith) (adds b contour) refl refl _ _
    (ap (leaving (refusal r) points records) (sym (grown_not (refusal r) n (refusals_have_numbers r))) ∙ g) refl (refusals_have_numbers r) refl
    (the_pool_stays_in_the_domain (adds b contour) (contents s) h.in_domain)

-- a contour was added
pub did_add : (s : Lent) (f : Survey) → Held s f → (b : Bool) (contour : List ℤ) (t : Lent) (reply contours : ℕ) (m : Survey)
    → ◌≡◌ {A = Outcome} (record { reply = reply; pool = t }) (called (number b) (add 0 contour) s) → reply ≡ 0 → m ≡ with_more b (count contour) f
    → Did (adds b contour) s (record { reply = reply; result = 0; contours = contours; found = m }) t
did_add s f h b contour t reply contours m g z e =
    did_call s f h b (add 0 contour) (omega arith) (adds b contour) refl refl t _ g refl
    (subst (λ (x : Lent). Surveyed x m) (sym (ap (λ (o : Outcome). o.pool) g))
    (subst (Surveyed (called (number b) (add 0 contour) s).pool) (sym e) (added_surveyed s f h b contour (sym (ap (λ (o : Outcome). o.reply) g) ∙ z))))
    (ap (λ (x : Survey). x.sound) e ∙ more-sound b)
    (the_pool_stays_in_the_domain (adds b contour) (contents s) h.in_domain)
  where
    more-sound : (x : Bool) → (with_more x (count contour) f).sound ≡ true
    more-sound false = h.sound
    more-sound true = h.sound

-- the newest contour of a press is taken out
module _ (points : List ℤ) (records : List (List ℕ)) (n : ℕ) (f : Survey) (h : Held (lent points records n) f) where
  abbrev rows : Lent
  rows = lent points records n

  abbrev all : List Entry
  all = contents rows

  pub n_there : n ≤ length records
  n_there = records_there points records n f h.surveyed h.sound

  module _ (b : Bool) (press r : ℕ) (g : press ≡ number b) (w : Newest press n records r) where
    pub did_none : r ≡ 0 → (contours : ℕ) → contours ≡ n → Did (removes b) rows (record { reply = 18; result = 0; contours = contours; found = f }) (lent points records contours)
    did_none z contours q =
        did_refused rows f h b remove tt (removes b) refl refl (lent points records contours) _
        (ap (λ (m : ℕ). leaving 18 points records m) q ∙ remove_none points records n b f h.surveyed h.sound press r g w z) refl (λ x. omega arith) refl
        (the_pool_stays_in_the_domain (removes b) all h.in_domain)

    module _ (some : r ≡ 0 → ⊥) where
      abbrev k : ℕ
      k = r - 1

      abbrev this : Entry
      this = get_or all k nobody

      abbrev earlier : List Entry
      earlier = take k all

      abbrev behind : List Entry
      behind = drop (suc k) all

      inside : k < n
      inside = omega (arith, w.within)

      n_is : n ≡ length all
      n_is = contours_are all points records n (lies rows f h)

      apart : all ≡ earlier ++ this ∷ behind
      apart = split_at all k nobody (omega (arith, n_is, inside))

      this_mine : number b ≡ this.press
      this_mine = sym (sym (press_is all points records n (lies rows f h) k inside) ∙ w.there (omega arith) ∙ g)

      none_behind : has (number b) behind ≡ false
      none_behind =
          none_is (number b) nobody behind
          (λ j m e.
          w.later (suc k + j) (omega arith) (omega (arith, n_is, length-drop (suc k) all))
          (press_is all points records n (lies rows f h) (suc k + j) (omega (arith, n_is, length-drop (suc k) all)) ∙ ap (λ (x : Entry). x.press) (sym (get_or-drop (suc k) all j nobody)) ∙ e ∙ sym g))

      removed_so : removed (number b) all ≡ earlier ++ behind
      removed_so = ap (removed (number b)) apart ∙ removed_is (number b) earlier this behind (eq-eqb (number b) this.press this_mine) none_behind

      slot_so : slot (get_or records k []) ≡ slot_at (0 + total earlier) this
      slot_so = slot_is all points records n (lies rows f h) k inside ∙ slot_at_is 0 all k (slot []) nobody (omega (arith, n_is, inside))

      pub size_is : field records k 1 - field records k 0 ≡ count this.contour
      size_is = omega (arith, ap (λ (x : Slot). x.start) slot_so, ap (λ (x : Slot). x.end) slot_so)

      pub forward : field records k 0 ≤ field records k 1
      forward = omega (arith, ap (λ (x : Slot). x.start) slot_so, ap (λ (x : Slot). x.end) slot_so)

      points_so : total all ≡ total (removed (number b) all) + count this.contour
      points_so = ap total apart ∙ total-append earlier (this ∷ behind) ∙ omega (arith, ap total removed_so, total-append earlier behind)

      held_so : (q : ℕ) → held (own q all) ≡ held (own q (removed (number b) all)) + held (if_so (eqb q (number b)) this [])
      held_so q =
          ap (λ (l : List Entry). held (own q l)) apart ∙ held_without (number b) q earlier this behind
          ∙ ap₂ (λ (l : List Entry) (x : ℕ). held (own q l) + held (if_so (eqb q x) this [])) (sym removed_so) (sym this_mine)

      less_than : (c : Bool) → c ≡ b → (count this.contour ≤ f.points) × (holding (count this.contour) ≤ share_of c f)
      unfolding held
      less_than false e = (omega (arith, points_so, h.surveyed.points_are h.sound), omega (arith, h.surveyed.first_holds h.sound, ap (λ (x : Bool). held (if_so (eqb 0 (number x)) this [])) e, held_so 0))
      less_than true e = (omega (arith, points_so, h.surveyed.points_are h.sound), omega (arith, h.surveyed.second_holds h.sound, ap (λ (x : Bool). held (if_so (eqb 1 (number x)) this [])) e, held_so 1))

      pub less_fits : (size : ℕ) → size ≡ field records k 1 - field records k 0 → (size ≤ f.points) × (holding size ≤ share_of b f)
      less_fits size e = subst (λ (m : ℕ). (m ≤ f.points) × (holding m ≤ share_of b f)) (sym (e ∙ size_is)) (less_than b refl)

      module _ (t : Lent) (laid : t ≡ laid_out (removed press all) rows) (contours : ℕ) (call : ◌≡◌ {A = Outcome} (record { reply = 0; pool = t }) (called (number b) remove rows)) where
        holds_then : contents t ≡ removed (number b) all
        holds_then =
            ap contents laid ∙ read_laid (removed press all) rows (every_removed Even press all (lies rows f h).even) ∙ ap (λ (i : ℕ). removed i all) g

        less_surveyed : (c : Bool) → c ≡ b → Surveyed t (with_less c (count this.contour) f)
        unfolding held
        less_surveyed false e =
            let u = h.surveyed in
            let o = h.sound in
            record {
              sound_is = o ∙ sym (ap (λ (x : Outcome). sound x.pool) call ∙ called_sound rows (is_sound rows f h) (number b) (number_few b) remove tt);
              points_are = λ z. omega (arith, u.points_are o, points_so, ap total holds_then);
              first_holds = λ z. omega (arith, u.first_holds o, held_so 0, ap (λ (x : Bool). held (if_so (eqb 0 (number x)) this [])) e, ap (λ (l : List Entry). held (own 0 l)) holds_then);
              second_holds = λ z. omega (arith, u.second_holds o, held_so 1, ap (λ (x : Bool). held (if_so (eqb 1 (number x)) this [])) e, ap (λ (l : List Entry). held (own 1 l)) holds_then);
            }
        less_surveyed true e =
            let u = h.surveyed in
            let o = h.sound in
            record {
              sound_is = o ∙ sym (ap (λ (x : Outcome). sound x.pool) call ∙ called_sound rows (is_sound rows f h) (number b) (number_few b) remove tt);
              points_are = λ z. omega (arith, u.points_are o, points_so, ap total holds_then);
              first_holds = λ z. omega (arith, u.first_holds o, held_so 0, ap (λ (x : Bool). held (if_so (eqb 0 (number x)) this [])) e, ap (λ (l : List Entry). held (own 0 l)) holds_then);
              second_holds = λ z. omega (arith, u.second_holds o, held_so 1, ap (λ (x : Bool). held (if_so (eqb 1 (number x)) this [])) e, ap (λ (l : List Entry). held (own 1 l)) holds_then);
            }

        less_sound : (c : Bool) (size : ℕ) → (with_less c size f).sound ≡ true
        less_sound false size = h.sound
        less_sound true size = h.sound

        pub did_remove : (size : ℕ) → size ≡ field records k 1 - field records k 0 → (m : Survey) → m ≡ with_less b size f
            → Did (removes b) rows (record { reply = 0; result = 0; contours = contours; found = m }) t
        did_remove size e m q =
            did_call rows f h b remove tt (removes b) refl refl t _ call refl
            (subst (Surveyed t) (sym (q ∙ ap (λ (i : ℕ). with_less b i f) (e ∙ size_is))) (less_surveyed b refl))
            (ap (λ (x : Survey). x.sound) q ∙ less_sound b size)
            (the_pool_stays_in_the_domain (removes b) all h.in_domain)

-- what the second press holds is no more than what both do
pub second_within : (l : List Entry) (all second : ℕ) → all ≡ held l → second ≡ held (own 1 l) → second ≤ all
second_within l all second a b = omega (arith, own_held l 1)

-- the contours of a press, by its records
contours_named : (points : List ℤ) (l : List Slot) → map (λ (e : Entry). e.contour) (map (named points) l) ≡ map (λ (s : Slot). contour points (span_of s)) l
contours_named points [] = refl
contours_named points (s ∷ l) = ap (λ (k : List (List ℤ)). contour points (span_of s) ∷ k) (contours_named points l)

-- a point is asked
module _ (points : List ℤ) (records : List (List ℕ)) (n : ℕ) (f : Survey) (h : Held (lent points records n) f) (b : Bool) (p : Point) where
  abbrev asked_rows : Lent
  asked_rows = lent points records n

  in_place : (i : ℕ) → i < n → InPlace points (field records i 0) (field records i 1)
  in_place i k =
      let lie = lies asked_rows f h in
      let just = fair asked_rows f h in
      let dom = h.in_domain in
      let at = slot_there Collinear points records n lie just dom i k in
      let parts = total_parts Collinear points records n lie just dom i k in
      let size : field records i 1 - field records i 0 ≡ count (get_or (contents asked_rows) i nobody).contour =
      omega (arith, ap (λ (x : Slot). x.start) at, ap (λ (x : Slot). x.end) at) in
      record {
        forward = omega (arith, ap (λ (x : Slot). x.start) at, ap (λ (x : Slot). x.end) at);
        within = omega (arith, ap (λ (x : Slot). x.end) at, parts, all_long Collinear points records n lie just dom);
        contour = subst (λ (c : List ℤ). Contour c (field records i 1 - field records i 0)) (ap (λ (e : Entry). e.contour) (this_is Collinear points records n lie just dom i k))
            (subst (Contour (get_or (contents asked_rows) i nobody).contour) (sym size) (domain_parts Collinear points records n lie just dom i k).1.0);
      }

  pub askable : on limit p ≡ true → Askable points records n p
  askable e = record { there = n_there points records n f h; lies = in_place; on_grid = e }

  shape_is : shape b (contents asked_rows) ≡ shape_from points records n (number b) 0
  shape_is =
      ap (map (λ (e : Entry). e.contour)) (read_own points (number b) (used asked_rows)) ∙ contours_named points (own_slots (number b) (used asked_rows))

  pub did_ask_off : (on-it : Bool) → on-it ≡ on limit p → on-it ≡ false → Did (asks b p) asked_rows (record { reply = 3; result = 0; contours = n; found = f }) asked_rows
  did_ask_off on-it e o =
      did_nothing asked_rows f h (asks b p) refl _ (ap (λ (t : Bool). asked t (has_point p (shape b (contents asked_rows)))) (sym (sym e ∙ o))) refl (omega arith) (omega arith)

  pub did_ask : (on-it : Bool) → on-it ≡ on limit p → on-it ≡ true → (press : ℕ) → press ≡ number b → (it : Bool) → it ≡ has_from false p (shape_from points records n press 0)
      → (result : ℕ) → result ≡ yes_or_no it → Did (asks b p) asked_rows (record { reply = 0; result = result; contours = n; found = f }) asked_rows
  did_ask on-it e o press g it y result r =
      let is-so : it ≡ has_point p (shape b (contents asked_rows)) = y ∙ ap (λ (q : ℕ). has_from false p (shape_from points records n q 0)) g ∙ ap (has_point p) (sym shape_is) in
      did_nothing asked_rows f h (asks b p) refl _
      (ap (telling 0) (r ∙ ap yes_or_no is-so) ∙ ap (λ (t : Bool). asked t (has_point p (shape b (contents asked_rows)))) (sym (sym e ∙ o)))
      refl (omega arith) (omega (arith, r, small it))
    where
      small : (t : Bool) → yes_or_no t ≤ 1
      small true = omega arith
      small false = omega arith
