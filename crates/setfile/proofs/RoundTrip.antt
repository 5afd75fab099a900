-- What is written is read, and what is read was written.
use Rattle.std.proofs.Common.{◌≡◌, ℕ, zero, suc, ◌+◌, ◌-◌, ◌*◌, ◌^◌, ◌≤◌, Bool, true, false, not, leb, List, [], ◌∷◌, ◌++◌, length, take, drop, ℤ, sym, refl, ap, ◌∙◌, subst, ap₂, true≢false, append_assoc, arith, length-drop, take-append-drop, length-take, get_or-take, w32, SFits, ltb-false, ltb-true, le-ltb, lt-ltb, eq-eqb, le-leb, leb-true}
use lib.Signed.{mag}
use borrow.Author.Rules.{sfits_of}
use Rattle.integers.proofs.Logic.{and_left, and_right, and_both}
use Rattle.replies.proofs.LadderLaws.{clear, first_is}
use Rattle.replies.proofs.LadderLaws.First.{past, foot}
use Rattle.grid.specs.Domain.{count}
use Rattle.buffer.specs.Sets.{Even}
use Rattle.bits.specs.Bits.{Bytes, bits, padded}
use Rattle.bits.specs.Signs.{fits, all_fit}
use Rattle.bits.proofs.BitLaws.{bits-length, bits_taken, padded_bits}
use Rattle.setfile.specs.Entries.{Entry, contours_of, Parsed, damage, read_contours}
use Rattle.setfile.specs.Entries.Parsed.{carries, damaged}
use Rattle.setfile.specs.Layouts.{file_in, contours_in, edition_of, promised}
use Rattle.setfile.specs.Format.{points_in, contour_size, contour_in, edition_1, file, head_damage, parsed, is_complete, Come, come_next, complete, come}
use Rattle.setfile.specs.inside.Bytes.{held, front_entry, all_there, arrived, in_bytes, coded_contour, coded_contours}
use Rattle.setfile.specs.Writing.{most_points}
use Rattle.setfile.specs.Promises.{Each, Short, Started, Carried}
use Rattle.setfile.proofs.LayoutLaws.{Numbered, All, next_read, none_read, the_file_has_its_edition, the_file_has_a_head, the_file_is_read_back, what_is_read_can_be_held, what_is_read_is_few, the_file_is_written_back}
use Rattle.setfile.proofs.EditionLaws.{Held, edition_1_is_faithful, even_read, count_read, count_short, points_fit, contour_same}
use Rattle.setfile.proofs.ByteLaws.{dropped, front_is, size_in_bytes, none_arrived, next_arrived, come_by_bytes}
use Rattle.setfile.proofs.ReadLaws.{Right, parsed_right, parsed_numbered}
use Rattle.setfile.proofs.CodedLaws.{none_coded, coded_next}
use Rattle.setfile.proofs.HoldLaws.{all_even, all_short, first_started}

-- a coordinate fits 32 bits
each_fits : (c : List ℤ) → Each (SFits w32) c → all_fit 32 c ≡ true
unfolding all_fit
each_fits [] h = refl
each_fits (z ∷ c) h = and_both (fits 32 z) (all_fit 32 c) (lt-ltb (mag z) (2 ^ 31) h.0.sfits) (each_fits c h.1)

fits_each : (c : List ℤ) → all_fit 32 c ≡ true → Each (SFits w32) c
unfolding all_fit
fits_each [] e = tt
fits_each (z ∷ c) e = (sfits_of (ltb-true (mag z) (2 ^ 31) (and_left (fits 32 z) (all_fit 32 c) e)), fits_each c (and_right (fits 32 z) (all_fit 32 c) e))

never_first : {A : Type 0} → false ≡ true → A
never_first e = absurd (true≢false (sym e))

-- contours that a file can carry are those that edition 1 can hold one behind the other
all_held : (l : List Entry) (first : Bool) (n : ℕ) → Even (contours_of l) → Short (contours_of l) → (first ≡ true → Started l) → Each (Each (SFits w32)) (contours_of l) → All Held first n l
all_held [] first n a b s h = tt
all_held (e ∷ l) first n a b s h = (
  record { even = a.0; short = b.0; begun = s; fitting = each_fits e.points h.0 },
  all_held l false (n + count e.points) a.1 b.1 never_first h.1,
)

all_fitting : (l : List Entry) (first : Bool) (n : ℕ) → All Held first n l → Each (Each (SFits w32)) (contours_of l)
all_fitting [] first n h = tt
all_fitting (e ∷ l) first n h = (fits_each e.points h.0.fitting, all_fitting l false (n + count e.points) h.1)

pub read_back : (l : List Entry) → Carried l → parsed (file l) ≡ carries l
unfolding file parsed
read_back l h =
    let few = h.small.few in
    let y = edition_1_is_faithful in
    let e : head_damage (file l) ≡ 0 =
    sym
    (first_is _ 0
    (past (le-ltb (length (file l)) 2 (the_file_has_a_head edition_1 Held y 1 l (omega arith) few))
    (past (ap not (eq-eqb (edition_of (file l)) 1 (the_file_has_its_edition edition_1 Held y 1 l (omega arith) few))) foot))) in
    rw (e, parsed) (the_file_is_read_back edition_1 Held y 1 l (omega arith) few (all_held l true 0 h.small.even h.small.short (λ z. h.started) h.fitting))

-- what is read of a file can be written, and is that file
module _ (f : List ℕ) (h : Bytes f) (l : List Entry) (e : parsed f ≡ carries l) where
  right : Right f l
  right = parsed_right f l e

  all : All Held true 0 l
  all = what_is_read_can_be_held edition_1 Held edition_1_is_faithful f h right.long l right.reads

  pub read_carried : Carried l
  read_carried = record {
    small = record {
      few = what_is_read_is_few edition_1 Held edition_1_is_faithful f h right.long l right.reads;
      even = all_even false l true 0 all;
      short = all_short false l true 0 all;
    };
    started = first_started false l 0 all;
    fitting = all_fitting l true 0 all;
  }

  pub written_back : file l ≡ f
  unfolding file
  written_back =
      ap (λ (v : ℕ). file_in v edition_1 l) (sym right.edition)
      ∙ the_file_is_written_back edition_1 Held edition_1_is_faithful f h right.long l right.reads

pub undamaged : (f : List ℕ) → damage (parsed f) ≡ 0 → parsed f ≡ carries (read_contours (parsed f))
undamaged f e = go (parsed f) (parsed_numbered f) e
  where
    go : (p : Parsed) → Numbered p → damage p ≡ 0 → p ≡ carries (read_contours p)
    go (carries l) h e = refl
    go (damaged zero) h e = absurd h
    go (damaged (suc r)) h e = absurd (omega arith)

-- a file that is read: all its contours have come, and nothing stands past them
come_all : (k : ℕ) (first : Bool) (n m : ℕ) (b : List Bool) (l : List Entry) → length b ≡ 8 * m → contours_in edition_1 k first n b ≡ carries l
    → complete k b ≡ record { contours = l; missing = 0; past = 0 }
unfolding complete
come_all zero first n m b l w h =
    let x = none_read edition_1 first n b l h in
    let z : length b ≡ 0 = omega (arith, x.0.few) in
    ap₂ (λ (p : ℕ) (c : List Entry). record { contours = c; missing = 0; past = p }) z (sym x.1)
come_all (suc k) first n m b l w h =
    let x = next_read edition_1 first n b l k h in
    let c = clear _ tt x.right in
    let a : 16 ≤ length b = ltb-false (length b) 16 c.0 in
    let s : contour_size b ≤ length b = ltb-false (length b) (contour_size b) c.1.1.0 in
    let t : is_complete b ≡ true = and_both (leb 16 (length b)) _ (le-leb 16 (length b) a) (le-leb (contour_size b) (length b) s) in
    let rest : List Bool = drop (contour_size b) b in
    ap (λ (t : Bool). come_next t (contour_in b) k (complete k rest)) t
    ∙ ap (come_next true (contour_in b) k)
    (come_all k false (n + count (contour_in b).points) (m - (2 + 8 * points_in b)) rest x.others (length-drop (contour_size b) b ∙ omega arith) x.there)
    ∙ ap (λ (l : List Entry). record { contours = l; missing = 0; past = 0 }) (sym x.is)

pub record Whole (f : List ℕ) (l : List Entry) : Type 0 where
  pub head : head_damage f ≡ 0
  pub is : l ≡ (come f).contours
  pub none_missing : (come f).missing ≡ 0
  pub none_past : (come f).past ≡ 0

pub read_whole : (f : List ℕ) (l : List Entry) → parsed f ≡ carries l → Whole f l
read_whole f l e =
    let r = parsed_right f l e in
    let c = come_all (promised f) true 0 (length f - 2) (drop 16 (bits f)) l (length-drop 16 (bits f) ∙ omega (arith, bits-length f)) r.reads in
    record { head = r.head; is = sym (ap (λ (c : Come). c.contours) c); none_missing = ap (λ (c : Come). c.missing) c; none_past = ap (λ (c : Come). c.past) c }

-- a contour that is there has the bytes that it is written in
module _ (f : List ℕ) (h : Bytes f) (e : 2 + 8 * held f ≤ length f) where
  headed : 16 ≤ length (bits f)
  headed = omega (arith, bits-length f)

  there : contour_size (bits f) ≤ length (bits f)
  there = omega (arith, bits-length f)

  taken : Bytes (take (2 + 8 * held f) f)
  taken i l = rw (get_or-take (2 + 8 * held f) f i 0 (omega (arith, length-take (2 + 8 * held f) f, l))) (h i (omega (arith, length-take (2 + 8 * held f) f, l)))

  pub contour_read : coded_contour (front_entry f) ≡ take (2 + 8 * held f) f
  contour_read =
      ap coded_contour (sym (front_is f)) ∙ ap padded (contour_same (bits f) headed there)
      ∙ ap (λ (n : ℕ). padded (take n (bits f))) (size_in_bytes f) ∙ ap padded (bits_taken (2 + 8 * held f) f) ∙ padded_bits (take (2 + 8 * held f) f) taken

  even_front : length (front_entry f).points ≡ 2 * count (front_entry f).points
  even_front = subst (λ (e : Entry). length e.points ≡ 2 * count e.points) (front_is f) (even_read (bits f) headed there)

  short_front : count (front_entry f).points ≤ most_points
  short_front = subst (λ (e : Entry). count e.points ≤ most_points) (front_is f) (omega (arith, count_read (bits f) headed there, count_short (bits f) headed))

  fitting_front : Each (SFits w32) (front_entry f).points
  fitting_front = subst (λ (e : Entry). Each (SFits w32) e.points) (front_is f) (fits_each _ (points_fit (bits f) headed there))

-- contours that have come were written, in front of the rest, and a file can hold them
pub record Matched (k : ℕ) (f : List ℕ) (c : Come) : Type 0 where
  pub number : length c.contours + c.missing ≡ k
  pub even : Even (contours_of c.contours)
  pub short : Short (contours_of c.contours)
  pub fitting : Each (Each (SFits w32)) (contours_of c.contours)
  pub rest : List ℕ
  pub same : coded_contours c.contours ++ rest ≡ f
  pub past : c.missing ≡ 0 → c.past ≡ length rest

arrived_matched : (k : ℕ) (f : List ℕ) → Bytes f → Matched k f (arrived k f)
arrived_matched zero f h = rw (none_arrived f) (record { number = refl; even = tt; short = tt; fitting = tt; rest = f; same = ap (λ (l : List ℕ). l ++ f) none_coded; past = λ z. refl })
arrived_matched (suc k) f h = rw (next_arrived k f) (go (all_there f) refl (arrived_matched k more (dropped (2 + 8 * held f) f h)))
  where
    more : List ℕ
    more = drop (2 + 8 * held f) f

    go : (t : Bool) → all_there f ≡ t → Matched k more (arrived k more) → Matched (suc k) f (come_next t (front_entry f) k (arrived k more))
    go true t m =
        let n : 2 + 8 * held f ≤ length f = leb-true (2 + 8 * held f) (length f) t in
        record {
          number = omega (arith, m.number);
          even = (even_front f h n, m.even);
          short = (short_front f h n, m.short);
          fitting = (fitting_front f h n, m.fitting);
          rest = m.rest;
          same =
              ap (λ (l : List ℕ). l ++ m.rest) (coded_next (front_entry f) (arrived k more).contours)
              ∙ append_assoc (coded_contour (front_entry f)) (coded_contours (arrived k more).contours) m.rest
              ∙ ap₂ (λ (a b : List ℕ). a ++ b) (contour_read f h n) m.same ∙ take-append-drop (2 + 8 * held f) f;
          past = m.past;
        }
    go false t m = record { number = omega arith; even = tt; short = tt; fitting = tt; rest = f; same = ap (λ (l : List ℕ). l ++ f) none_coded; past = λ z. absurd (omega (arith, z)) }

-- what has come of a file's contours
pub come_matched : (f : List ℕ) → Bytes f → Matched (promised f) (drop 2 f) (in_bytes (come f))
come_matched f h = rw (come_by_bytes f) (arrived_matched (promised f) (drop 2 f) (dropped 2 f h))
