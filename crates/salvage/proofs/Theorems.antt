-- What a user may count on.
use mathlib.Core.Path.{◌≡◌, refl, sym, ◌∙◌, ap, ap₂}
use mathlib.Core.Bool.{Bool, true, false, not, ◌&&◌, ◌||◌, true≢false}
use mathlib.Core.List.{List, [], ◌∷◌, ◌++◌, map}
use Prim.Native.Nat.{ℕ, zero, suc, ◌+◌, ◌-◌, ◌/◌, ◌≤◌}
use native.Mathlib.Omega.{arith}
use lib.Dec.{eqb, ltb, leb}
use lib.ListN.{length, take, drop, length-append, length-take}
use lib.Seq.{take_at, get_or-take}
use borrow.Author.Tests.{ltb-false, le-ltb, le-leb, not-false}
use Rattle.integers.proofs.Logic.{and_left, and_right}
use Rattle.grid.specs.Limits.{narrow, all_on_grid}
use Rattle.replies.specs.Ladder.{first_of}
use Rattle.rows.specs.Rows.{front}
use Rattle.replies.proofs.LadderLaws.{Clear, clear, first_is}
use Rattle.replies.proofs.LadderLaws.First.{past, foot}
use Rattle.buffer.specs.Sets.{joined}
use Rattle.setfile.specs.Entries.{Entry, contours_of, shapes_of, Parsed, damage, read_contours}
use Rattle.setfile.specs.Layouts.{promised}
use Rattle.setfile.specs.Format.{file, bad_head, come, parsed}
use Rattle.setfile.specs.Entries.Parsed.{carries}
use Rattle.bits.specs.Bits.{Bytes}
use Rattle.bits.specs.inside.Words.{spelled}
use Rattle.bits.proofs.WordLaws.{spelled-length}
use Rattle.setfile.specs.inside.Bytes.{in_bytes, coded_contour, coded}
use Rattle.setfile.specs.Editions as Either
use Rattle.setfile.specs.Editions.{bound, is_second}
use Rattle.setfile.specs.Reading as R
use Rattle.setfile.specs.Promises.{Started}
use Rattle.grid.proofs.LimitLaws.{on_joined}
use Rattle.bits.proofs.BitLaws.{bytes_are}
use Rattle.setfile.proofs.ByteLaws.{come_by_bytes}
use Rattle.setfile.proofs.CodedLaws.{contours_joined}
use Rattle.setfile.proofs.RoundTrip.{come_matched, Whole, read_whole, read_carried, read_back, written_back}
use Rattle.setfile.proofs.EitherLaws.{first_parsed, first_taken}
use Rattle.setfile.proofs.Theorems.{right, whole}
use Rattle.salvage.specs.Fates.{reason, open_behind, fates, keep, kept, note, dropped}
use Rattle.salvage.specs.Outcome.{fates_of, kept_of, dropped_of, mended, refusals, Outcome, leaving, salvaged, answered, outcome}
use Rattle.salvage.specs.Promises.{written_file, written_list, Parted, SameBytes, sound_shapes, as_long, length_of, all_within}
use Rattle.salvage.specs.Promises.Parted.{all-parted, one_kept, one-dropped}
use Rattle.salvage.proofs.FileLaws.{the_counts, kept_carried, kept_on, mended_is, kept_within}
use Rattle.salvage.proofs.ShapeLaws.{kept_shapes}
use Rattle.salvage.proofs.CutLaws.{drop-take, edition_cut, promised_cut, Cut, arrived_cut}

-- where nothing is refused
not_refused : (f out : List ℕ) (list : List (List ℕ)) → Clear (refusals f out list) → outcome f out list ≡ answered 0 f out list
unfolding outcome
not_refused f out list c = ap (λ (k : ℕ). answered k f out list) (sym (first_is (refusals f out list) 0 (past c.0 (past c.1.0 (past c.1.1.0 (past c.1.1.1.0 foot))))))

-- contours of which each is kept
abbrev AllKept : Bool → List Entry → Type 0
AllKept b [] = Unit {0}
AllKept b (e ∷ l) = (reason b e ≡ 0) × AllKept (open_behind e.begins (all_on_grid narrow e.points) b) l

all_kept : (b : Bool) (l : List Entry) → AllKept b l → kept (fates b l) l ≡ l
unfolding fates kept
all_kept b [] h = refl
all_kept b (e ∷ l) h =
    ap (λ (r : ℕ). keep r e (kept (fates (open_behind e.begins (all_on_grid narrow e.points) b) l) l)) h.0
    ∙ ap (λ (m : List Entry). e ∷ m) (all_kept (open_behind e.begins (all_on_grid narrow e.points) b) l h.1)

none_dropped : (b : Bool) (k : ℕ) (l : List Entry) → AllKept b l → dropped k (fates b l) ≡ []
unfolding fates dropped
none_dropped b k [] h = refl
none_dropped b k (e ∷ l) h =
    ap (λ (r : ℕ). note k r (dropped (suc k) (fates (open_behind e.begins (all_on_grid narrow e.points) b) l))) h.0
    ∙ none_dropped (open_behind e.begins (all_on_grid narrow e.points) b) (suc k) l h.1

within_kept : (b : Bool) (n : ℕ) (l : List Entry) → AllKept b l → AllKept b (all_within n l)
unfolding all_within
within_kept b n [] h = tt
within_kept b n (e ∷ l) h = go (leb (length_of e) n) (within_kept (open_behind e.begins (all_on_grid narrow e.points) b) (n - length_of e) l h.1)
  where
    go : (t : Bool) → AllKept (open_behind e.begins (all_on_grid narrow e.points) b) (all_within (n - length_of e) l) → AllKept b (as_long t (e ∷ all_within (n - length_of e) l))
    go true w = (h.0, w)
    go false w = tt

or_begun : (begins b : Bool) → (b ≡ false → begins ≡ true) → (begins || b) ≡ true
or_begun true b h = refl
or_begun false true h = refl
or_begun false false h = h refl

stays_open : (begins on b : Bool) → on ≡ true → (begins || b) ≡ true → open_behind begins on b ≡ true
stays_open true on b p q = p
stays_open false on b p q = q

-- contours on the grid, of which the first begins a shape
sound_kept : (b : Bool) (l : List Entry) → (b ≡ false → Started l) → all_on_grid narrow (joined (contours_of l)) ≡ true → AllKept b l
unfolding joined reason
sound_kept b [] s h = tt
sound_kept b (e ∷ l) s h =
    let both : (all_on_grid narrow e.points && all_on_grid narrow (joined (contours_of l))) ≡ true = sym (on_joined narrow e.points (joined (contours_of l))) ∙ h in
    let on = and_left (all_on_grid narrow e.points) _ both in
    let shape = or_begun e.begins b s in
    let still = stays_open e.begins (all_on_grid narrow e.points) b on shape in (
      sym (first_is ((not (all_on_grid narrow e.points), 3) ∷ (not (e.begins || b), 11) ∷ []) 0 (past (ap not on) (past (ap not shape) foot))),
      sound_kept (open_behind e.begins (all_on_grid narrow e.points) b) l (λ z. absurd (true≢false (sym still ∙ z))) (and_right (all_on_grid narrow e.points) _ both),
    )

-- what is answered, by what is known of the file
answered_so : (f out : List ℕ) (list : List (List ℕ)) {m : List ℕ} {d : List (List ℕ)} {a b : ℕ} → mended f ≡ m → dropped_of f ≡ d → (come f).missing ≡ a → (come f).past / 8 ≡ b
    → answered 0 f out list ≡ leaving (salvaged 0 (length m) (length d) a b) (front m out) (front d list)
answered_so f out list p q r s = cc

room_enough : (a b c d : ℕ) → a ≤ b → c ≤ d → not (leb a b && leb c d) ≡ false
room_enough a b c d h k = rw (le-leb a b h, le-leb c d k)

kept_map : {A B : Type 0} (g : A → B) (fs : List ℕ) (l : List A) → kept fs (map g l) ≡ map g (kept fs l)
unfolding kept
kept_map g [] l = refl
kept_map g (r ∷ fs) [] = refl
kept_map {A} {B} g (zero ∷ fs) (a ∷ l) = ap (λ (m : List B). g a ∷ m) (kept_map g fs l)
kept_map g (suc r ∷ fs) (a ∷ l) = kept_map g fs l

parted : (b : Bool) (k : ℕ) (l : List Entry) → Parted k l (kept (fates b l) l) (dropped k (fates b l))
unfolding fates kept dropped
parted b k [] = all-parted
parted b k (e ∷ l) = go (reason b e) (parted (open_behind e.begins (all_on_grid narrow e.points) b) (suc k) l)
  where
    behind : List ℕ
    behind = fates (open_behind e.begins (all_on_grid narrow e.points) b) l

    go : (r : ℕ) → Parted (suc k) l (kept behind l) (dropped (suc k) behind) → Parted k (e ∷ l) (keep r e (kept behind l)) (note k r (dropped (suc k) behind))
    go zero p = one_kept p
    go (suc r) p = one-dropped (suc r) p

-- a file of edition 1 that the reader takes
module _ (f : List ℕ) (h : Bytes f) (ok : first_of (R.refusals f) ≡ 0) (first : is_second f ≡ false) where
  abbrev read : List Entry
  read = read_contours (parsed f)

  same : Either.parsed f ≡ parsed f
  same = first_parsed f first

  reads_so : parsed f ≡ carries read
  reads_so = sym same ∙ whole f h ok ∙ ap (λ (w : Parsed). carries (read_contours w)) same

  taken : Whole f read
  taken = read_whole f read reads_so

  short : length f ≤ R.most_bytes
  short = ltb-false R.most_bytes (length f) (right f h ok).0

  head_clear : Clear (bad_head f)
  head_clear = clear (bad_head f) tt taken.head

  headed : 2 ≤ length f
  headed = ltb-false (length f) 2 head_clear.0

  each_kept : AllKept false read
  each_kept =
      sound_kept false read (λ z. (read_carried f h read reads_so).started)
      (ap₂ (λ (b : Bool) (w : Parsed). all_on_grid (bound b) (joined (contours_of (read_contours w)))) (sym first) (sym same) ∙ not-false _ (right f h ok).1.1.0)

  pub a_sound_file_comes_back_byte_for_byte : (out : List ℕ) (list : List (List ℕ)) → length f ≤ length out → promised f ≤ length list
      → outcome f out list ≡ leaving (salvaged 0 (length f) 0 0 0) (front f out) list
  a_sound_file_comes_back_byte_for_byte out list p q =
      let e : (come f).contours ≡ read = sym taken.is in
      not_refused f out list (le-ltb R.most_bytes (length f) short, (head_clear.0, (head_clear.1.0, (room_enough (length f) (length out) (promised f) (length list) p q, tt))))
      ∙ answered_so f out list
      (ap (λ (l : List Entry). file (kept (fates false l) l)) e ∙ ap file (all_kept false read each_kept) ∙ written_back f h read reads_so)
      (ap (λ (l : List Entry). dropped 0 (fates false l)) e ∙ none_dropped false 0 read each_kept)
      taken.none_missing (omega (arith, taken.none_past))

-- a call that is not refused
module _ (f : List ℕ) (h : Bytes f) (out : List ℕ) (list : List (List ℕ)) (o : Outcome) (e : o ≡ outcome f out list) (done : o.answer.reply ≡ 0) where
  pass : Clear (refusals f out list)
  unfolding outcome
  pass = go (first_of (refusals f out list)) refl e
    where
      go : (r : ℕ) → first_of (refusals f out list) ≡ r → o ≡ answered r f out list → Clear (refusals f out list)
      go zero z g = clear (refusals f out list) tt z
      go (suc r) z g = let n : suc r ≡ 0 = ap (λ (o : Outcome). o.answer.reply) (sym g) ∙ done in absurd (omega arith)

  outcome_is : o ≡ answered 0 f out list
  outcome_is = e ∙ not_refused f out list pass

  with_head : 2 ≤ length f
  with_head = ltb-false (length f) 2 pass.1.0

  file_is : written_file o ≡ mended f
  file_is = ap written_file outcome_is ∙ take_at (mended f) (drop (length (mended f)) out) (length (mended f)) refl

  list_is : written_list o ≡ dropped_of f
  list_is = ap written_list outcome_is ∙ take_at (dropped_of f) (drop (length (dropped_of f)) list) (length (dropped_of f)) refl

  reads : parsed (written_file o) ≡ carries (kept_of f)
  reads = ap parsed file_is ∙ read_back (kept_of f) (kept_carried f h with_head)

  kept_is : read_contours (parsed (written_file o)) ≡ kept_of f
  kept_is = ap read_contours reads

  in_bytes_is : written_file o ≡ coded (kept_of f)
  in_bytes_is = file_is ∙ mended_is f h with_head

  no_longer : length (written_file o) ≤ length f
  no_longer = omega (arith, ap length in_bytes_is ∙ length-append (spelled 2 (4096 + length (kept_of f))) _, spelled-length 2 (4096 + length (kept_of f)), kept_within f h with_head)

  pub what_is_written_is_of_edition_1 : is_second (written_file o) ≡ false
  what_is_written_is_of_edition_1 = first_taken (written_file o) (kept_of f) reads

  pub what_is_written_is_always_taken_by_the_reader : first_of (R.refusals (written_file o)) ≡ 0
  what_is_written_is_always_taken_by_the_reader =
      let a : ltb R.most_bytes (length (written_file o)) ≡ false = le-ltb R.most_bytes (length (written_file o)) (omega (arith, no_longer, ltb-false R.most_bytes (length f) pass.0)) in
      let so : Either.parsed (written_file o) ≡ carries (kept_of f) = first_parsed (written_file o) what_is_written_is_of_edition_1 ∙ reads in
      let b : not (eqb (damage (Either.parsed (written_file o))) 0) ≡ false = rw so in
      let c : not (all_on_grid (bound (is_second (written_file o))) (joined (contours_of (read_contours (Either.parsed (written_file o)))))) ≡ false =
      ap₂ (λ (b : Bool) (w : Parsed). not (all_on_grid (bound b) (joined (contours_of (read_contours w))))) what_is_written_is_of_edition_1 so ∙ ap not (kept_on false (come f).contours) in
      sym (first_is (R.refusals (written_file o)) 0 (past a (past b (past c foot))))

  pub every_contour_is_kept_or_dropped_once_and_in_order : Parted 0 (come f).contours (read_contours (parsed (written_file o))) (written_list o)
  every_contour_is_kept_or_dropped_once_and_in_order = rw (kept_is, list_is) (parted false 0 (come f).contours)

  pub kept_dropped_and_missing_are_as_many_as_promised : length (read_contours (parsed (written_file o))) + o.answer.dropped + o.answer.missing ≡ promised f
  kept_dropped_and_missing_are_as_many_as_promised = rw (kept_is, outcome_is) (the_counts f h with_head)

  pub every_kept_contour_has_the_bytes_it_had : SameBytes f o
  unfolding spelled
  every_kept_contour_has_the_bytes_it_had =
      let m = come_matched f h in
      record {
        rest = m.rest;
        before = sym m.same ∙ ap (λ (l : List ℕ). l ++ m.rest) (sym (contours_joined (come f).contours));
        after = ap (drop 2) in_bytes_is ∙ sym (contours_joined (kept_of f)) ∙ ap joined (sym (kept_map coded_contour (fates_of f) (come f).contours));
      }

  pub a_hole_never_follows_another_outline : shapes_of (read_contours (parsed (written_file o))) ≡ sound_shapes (shapes_of (come f).contours)
  a_hole_never_follows_another_outline = ap shapes_of kept_is ∙ kept_shapes false (come f).contours

  bytes_written : Bytes (written_file o)
  unfolding file
  bytes_written = rw file_is (bytes_are _ _)

  pub what_is_written_needs_no_more_room : (length (written_file o) ≤ length f) × (promised (written_file o) ≤ promised f)
  what_is_written_needs_no_more_room =
      let t = read_whole (written_file o) (kept_of f) reads in
      let n = (come_matched (written_file o) bytes_written).number in
      (no_longer, omega (arith, n, t.none_missing, ap length t.is, the_counts f h with_head))

  pub salvaging_what_was_salvaged_changes_nothing : (out' : List ℕ) (list' : List (List ℕ)) → length (written_file o) ≤ length out' → promised (written_file o) ≤ length list'
      → outcome (written_file o) out' list' ≡ leaving (salvaged 0 (length (written_file o)) 0 0 0) (front (written_file o) out') list'
  salvaging_what_was_salvaged_changes_nothing = a_sound_file_comes_back_byte_for_byte (written_file o) bytes_written what_is_written_is_always_taken_by_the_reader what_is_written_is_of_edition_1

-- a file that is cut off behind its head
module _ (f : List ℕ) (h : Bytes f) (e : 2 ≤ length f) (n : ℕ) (m : 2 ≤ n) where
  bytes_cut : Bytes (take n f)
  bytes_cut i l = rw (get_or-take n f i 0 (omega (arith, length-take n f, l))) (h i (omega (arith, length-take n f, l)))

  head_cut : 2 ≤ length (take n f)
  head_cut = omega (arith, length-take n f)

  same_promise : promised (take n f) ≡ promised f
  same_promise = promised_cut f n m

  cut_off : Cut (n - 2) (in_bytes (come f)) (in_bytes (come (take n f)))
  cut_off =
      let k : n ≡ 2 + (n - 2) = omega arith in
      let d : drop 2 (take n f) ≡ take (n - 2) (drop 2 f) = ap (λ (k : ℕ). drop 2 (take k f)) k ∙ drop-take 2 (n - 2) f in
      rw (come_by_bytes f, come_by_bytes (take n f), same_promise, d) (arrived_cut (promised f) (n - 2) (drop 2 f))

  pub a_file_that_is_cut_off_yields_the_contours_whose_bytes_are_all_there : (come (take n f)).contours ≡ all_within (n - 2) (come f).contours
  a_file_that_is_cut_off_yields_the_contours_whose_bytes_are_all_there = cut_off.contours

-- a file of edition 1 that the reader takes, and that is cut off
module _ (f : List ℕ) (h : Bytes f) (ok : first_of (R.refusals f) ≡ 0) (first : is_second f ≡ false) (n : ℕ) (m : 2 ≤ n) where
  abbrev there : List Entry
  there = all_within (n - 2) (read f h ok first)

  pub a_sound_file_that_is_cut_off_loses_no_other_contour : (out : List ℕ) (list : List (List ℕ)) → length f ≤ length out → promised f ≤ length list
      → outcome (take n f) out list ≡ leaving (salvaged 0 (length (file there)) 0 (length (read f h ok first) - length there) 0) (front (file there) out) list
  a_sound_file_that_is_cut_off_loses_no_other_contour out list p q =
      let x = headed f h ok first in
      let t = taken f h ok first in
      let g : List ℕ = take n f in
      let b = bytes_cut f h x n m in
      let hl = head_cut f h x n m in
      let c = cut_off f h x n m in
      let is : (come g).contours ≡ there = c.contours ∙ ap (all_within (n - 2)) (sym t.is) in
      let all = within_kept false (n - 2) (read f h ok first) (each_kept f h ok first) in
      let number = (come_matched g b).number in
      let all-came = (come_matched f h).number in
      let l : length g ≤ length f = omega (arith, length-take n f) in
      let a : ltb R.most_bytes (length g) ≡ false = le-ltb R.most_bytes (length g) (omega (arith, short f h ok first)) in
      let hd : Clear (bad_head g) = (le-ltb (length g) 2 hl, (ap (λ (k : ℕ). not (eqb k 1)) (edition_cut f n m) ∙ (head_clear f h ok first).1.0, tt)) in
      not_refused g out list (a, (hd.0, (hd.1.0, (room_enough (length g) (length out) (promised g) (length list) (omega arith) (omega (arith, same_promise f h x n m)), tt))))
      ∙ answered_so g out list
      (ap (λ (l : List Entry). file (kept (fates false l) l)) is ∙ ap file (all_kept false there all))
      (ap (λ (l : List Entry). dropped 0 (fates false l)) is ∙ none_dropped false 0 there all)
      (omega (arith, number, all-came, same_promise f h x n m, t.none_missing, ap length is, ap length t.is))
      (omega (arith, c.past, t.none_past))
