-- What is written is read, and what is read was written, in every layout of which that holds contour by contour.
use Rattle.std.proofs.Common.{◌≡◌, ℕ, zero, suc, ◌+◌, ◌*◌, ◌/◌, ◌%◌, ◌^◌, ◌<◌, ◌≤◌, Bool, true, false, eqb, leb, List, [], ◌∷◌, ◌++◌, length, take, drop, sym, refl, ap, ◌∙◌, ap₂, append_assoc, arith, length-append, length-drop, take-append-drop, drop-drop, take-add, drop_at, ne_eqb, leb-false}
use lib.Pow.{shr_le}
use borrow.Author.Tests.{lt-leb}
use Rattle.integers.proofs.Logic.{or_left, or_right}
use Rattle.replies.proofs.LadderLaws.{first_is, clear}
use Rattle.replies.proofs.LadderLaws.First.{past, foot}
use Rattle.grid.specs.Domain.{count}
use Rattle.buffer.specs.Sets.{joined}
use Rattle.bits.specs.Bits.{value, field, Bytes, bits, fill}
use Rattle.bits.proofs.BitLaws.{field-length, front_value, front_gone, field_back, taken_below, bits-length, bits_padded, padded_filled}
use Rattle.setfile.specs.Entries.{Entry, Parsed, and_then, read_contours}
use Rattle.setfile.specs.Entries.Parsed.{carries, damaged}
use Rattle.setfile.specs.Layouts.{Layout, all_coded, file_bits, file_in, some_set, end_damage, contours_in, edition_of, promised, read_in}

-- the fill
unset_bit : (w : ℕ) → eqb (0 / 2 ^ w % 2) 1 ≡ false
unset_bit w = ne_eqb (0 / 2 ^ w % 2) 1 (λ e. omega (arith, shr_le 0 w, e))

fill_unset : (z : ℕ) → some_set (field z 0) ≡ false
unfolding some_set field
fill_unset zero = refl
fill_unset (suc z) = rw (unset_bit z) (fill_unset z)

unset_fill : (l : List Bool) → some_set l ≡ false → l ≡ field (length l) 0
unfolding some_set field
unset_fill [] e = refl
unset_fill (b ∷ l) e = ap₂ (λ (a : Bool) (m : List Bool). a ∷ m) (or_left b (some_set l) e ∙ sym (unset_bit (length l))) (unset_fill l (or_right b (some_set l) e))

filled : (z : ℕ) → z < 8 → end_damage (field z 0) ≡ 0
filled z h = sym (first_is _ 0 (past (lt-leb 8 (length (field z 0)) (omega (arith, field-length z 0))) (past (fill_unset z) foot)))

-- bits that only fill the last byte
pub record Ends (l : List Bool) : Type 0 where
  pub few : length l < 8
  pub unset : l ≡ field (length l) 0

pub nothing_behind : (l : List Bool) → end_damage l ≡ 0 → Ends l
nothing_behind l e = let c = clear ((leb 8 (length l), 10) ∷ (some_set l, 16) ∷ []) tt e in record { few = leb-false 8 (length l) c.0; unset = unset_fill l c.1.0 }

-- contours are read one by one
module _ (y : Layout) (first : Bool) (n : ℕ) (l : List Bool) where
  pub contours_on : (k : ℕ) → y.wrong first n l ≡ 0 → contours_in y (suc k) first n l ≡ and_then (y.read l) (contours_in y k false (n + count (y.read l).points) (drop (y.size l) l))
  unfolding contours_in
  contours_on k e = rw (e, contours_in)

  pub contours_stop : (k r : ℕ) → y.wrong first n l ≡ suc r → contours_in y (suc k) first n l ≡ damaged (suc r)
  unfolding contours_in
  contours_stop k r e = rw (e, contours_in)

  pub contours_end : end_damage l ≡ 0 → contours_in y 0 first n l ≡ carries []
  unfolding contours_in
  contours_end e = rw (e, contours_in)

  pub contours_past : (r : ℕ) → end_damage l ≡ suc r → contours_in y 0 first n l ≡ damaged (suc r)
  unfolding contours_in
  contours_past r e = rw (e, contours_in)

-- where contours are read, nothing is wrong with the first of them, and the others are read behind it
pub record Next (y : Layout) (k : ℕ) (first : Bool) (n : ℕ) (b : List Bool) (l : List Entry) : Type 0 where
  pub right : y.wrong first n b ≡ 0
  pub others : List Entry
  pub there : contours_in y k false (n + count (y.read b).points) (drop (y.size b) b) ≡ carries others
  pub is : l ≡ y.read b ∷ others

module _ (y : Layout) (first : Bool) (n : ℕ) (b : List Bool) (l : List Entry) where
  pub next_read : (k : ℕ) → contours_in y (suc k) first n b ≡ carries l → Next y k first n b l
  next_read k h = go (y.wrong first n b) refl
    where
      behind : (w : Parsed) → contours_in y k false (n + count (y.read b).points) (drop (y.size b) b) ≡ w → y.wrong first n b ≡ 0 → and_then (y.read b) w ≡ carries l → Next y k first n b l
      behind (carries m) e z g = record { right = z; others = m; there = e; is = ap read_contours (sym g) }
      behind (damaged r) e z g = let o : ◌≡◌ {A = ℕ} 0 1 = cc in absurd (omega arith)

      go : (r : ℕ) → y.wrong first n b ≡ r → Next y k first n b l
      go zero e = behind _ refl e (sym (contours_on y first n b k e) ∙ h)
      go (suc r) e = let a = contours_stop y first n b k r e in let o : ◌≡◌ {A = ℕ} 0 1 = cc in absurd (omega arith)

  pub none_read : contours_in y 0 first n b ≡ carries l → Ends b × (l ≡ [])
  none_read h = go (end_damage b) refl
    where
      go : (r : ℕ) → end_damage b ≡ r → Ends b × (l ≡ [])
      go zero e = (nothing_behind b e, ap read_contours (sym h ∙ contours_end y first n b e))
      go (suc r) e = let a = contours_past y first n b r e in let o : ◌≡◌ {A = ℕ} 0 1 = cc in absurd (omega arith)

-- what a layout has to show of one contour that it can hold: it is read as it was written, and written as it was read
pub record Back (y : Layout) (first : Bool) (n : ℕ) (e : Entry) (more : List Bool) : Type 0 where
  pub right : y.wrong first n (y.coded e ++ more) ≡ 0
  pub size : y.size (y.coded e ++ more) ≡ length (y.coded e)
  pub read : y.read (y.coded e ++ more) ≡ e

pub record Forth (y : Layout) (Holds : Bool → ℕ → Entry → Type 0) (first : Bool) (n : ℕ) (l : List Bool) : Type 0 where
  pub held : Holds first n (y.read l)
  pub same : y.coded (y.read l) ≡ take (y.size l) l

pub record Faithful (y : Layout) (Holds : Bool → ℕ → Entry → Type 0) : Type 0 where
  pub back : (first : Bool) (n : ℕ) (e : Entry) (more : List Bool) → Holds first n e → Back y first n e more
  pub forth : (first : Bool) (n : ℕ) (l : List Bool) → y.wrong first n l ≡ 0 → Forth y Holds first n l

-- contours that it can hold one behind the other, behind n points
abbrev pub All : (Bool → ℕ → Entry → Type 0) → Bool → ℕ → List Entry → Type 0
All Holds first n [] = Unit {0}
All Holds first n (e ∷ l) = Holds first n e × All Holds false (n + count e.points) l

-- contours as they stood in the bits that they were read from
pub record Matches (y : Layout) (Holds : Bool → ℕ → Entry → Type 0) (k : ℕ) (first : Bool) (n : ℕ) (b : List Bool) (l : List Entry) : Type 0 where
  pub number : length l ≡ k
  pub all : All Holds first n l
  pub fill : ℕ
  pub few : fill < 8
  pub same : b ≡ all_coded y l ++ field fill 0

module _ (y : Layout) (Holds : Bool → ℕ → Entry → Type 0) (faithful : Faithful y Holds) where
  contours_read_back : (l : List Entry) (first : Bool) (n z : ℕ) → z < 8 → All Holds first n l → contours_in y (length l) first n (all_coded y l ++ field z 0) ≡ carries l
  unfolding joined
  contours_read_back [] first n z h g = contours_end y first n (field z 0) (filled z h)
  contours_read_back (e ∷ l) first n z h g =
      let more : List Bool = all_coded y l ++ field z 0 in
      let s : (y.coded e ++ all_coded y l) ++ field z 0 ≡ y.coded e ++ more = append_assoc (y.coded e) (all_coded y l) (field z 0) in
      let b = faithful.back first n e more g.0 in
      ap (contours_in y (suc (length l)) first n) s
      ∙ contours_on y first n (y.coded e ++ more) (length l) b.right
      ∙ ap₂ (λ (a : Entry) (m : List Bool). and_then a (contours_in y (length l) false (n + count a.points) m)) b.read (drop_at (y.coded e) more (y.size (y.coded e ++ more)) (sym b.size))
      ∙ ap (and_then e) (contours_read_back l false (n + count e.points) z h g.1)

  contours_written_back : (k : ℕ) (first : Bool) (n : ℕ) (b : List Bool) (l : List Entry) → contours_in y k first n b ≡ carries l → Matches y Holds k first n b l
  unfolding joined
  contours_written_back zero first n b l h =
      let e = none_read y first n b l h in
      rw e.1 (record { number = refl; all = tt; fill = length b; few = e.0.few; same = e.0.unset })
  contours_written_back (suc k) first n b l h =
      let x = next_read y first n b l k h in
      let w = faithful.forth first n b x.right in
      let m = contours_written_back k false (n + count (y.read b).points) (drop (y.size b) b) x.others x.there in
      rw x.is
      (record {
        number = ap suc m.number;
        all = (w.held, m.all);
        fill = m.fill;
        few = m.few;
        same =
            sym (take-append-drop (y.size b) b)
            ∙ ap₂ (λ (p q : List Bool). p ++ q) (sym w.same) m.same
            ∙ sym (append_assoc (y.coded (y.read b)) (all_coded y x.others) (field m.fill 0));
      })

  -- the file of contours in an edition
  module _ (v : ℕ) (l : List Entry) (small : v < 16) (few : length l ≤ 4095) where
    abbrev more : List Bool
    more = all_coded y l ++ field (fill (length (file_bits v y l))) 0

    laid_out : bits (file_in v y l) ≡ field 4 v ++ (field 12 (length l) ++ more)
    laid_out =
        bits_padded (file_bits v y l) ∙ append_assoc (field 4 v) (field 12 (length l) ++ all_coded y l) _
        ∙ ap (λ (b : List Bool). field 4 v ++ b) (append_assoc (field 12 (length l)) (all_coded y l) _)

    behind_edition : drop 4 (bits (file_in v y l)) ≡ field 12 (length l) ++ more
    behind_edition = ap (drop 4) laid_out ∙ front_gone 4 v (field 12 (length l) ++ more)

    behind_head : drop 16 (bits (file_in v y l)) ≡ more
    behind_head = sym (drop-drop 12 4 (bits (file_in v y l))) ∙ ap (drop 12) behind_edition ∙ front_gone 12 (length l) more

    pub the_file_has_its_edition : edition_of (file_in v y l) ≡ v
    the_file_has_its_edition = ap (λ (b : List Bool). value (take 4 b)) laid_out ∙ front_value 4 v (field 12 (length l) ++ more) small

    pub the_file_has_a_head : 2 ≤ length (file_in v y l)
    the_file_has_a_head =
        omega (
          arith,
          bits-length (file_in v y l),
          ap length laid_out,
          length-append (field 4 v) (field 12 (length l) ++ more),
          field-length 4 v,
          length-append (field 12 (length l)) more,
          field-length 12 (length l),
        )

    pub the_file_is_read_back : All Holds true 0 l → read_in y (file_in v y l) ≡ carries l
    the_file_is_read_back g =
        let n : promised (file_in v y l) ≡ length l = ap (λ (b : List Bool). value (take 12 b)) behind_edition ∙ front_value 12 (length l) more (omega arith) in
        ap₂ (λ (k : ℕ) (b : List Bool). contours_in y k true 0 b) n behind_head ∙ contours_read_back l true 0 (fill (length (file_bits v y l))) (omega arith) g

  -- a file that is read in the layout
  module _ (f : List ℕ) (h : Bytes f) (head : 2 ≤ length f) (l : List Entry) (e : read_in y f ≡ carries l) where
    matched : Matches y Holds (promised f) true 0 (drop 16 (bits f)) l
    matched = contours_written_back (promised f) true 0 (drop 16 (bits f)) l e

    pub what_is_read_can_be_held : All Holds true 0 l
    what_is_read_can_be_held = matched.all

    pub what_is_read_is_few : length l ≤ 4095
    what_is_read_is_few = omega (arith, matched.number, taken_below 12 (drop 4 (bits f)) (omega (arith, length-drop 4 (bits f), bits-length f)))

    pub the_file_is_written_back : file_in (edition_of f) y l ≡ f
    the_file_is_written_back =
        let b : List Bool = bits f in
        let n : length b ≡ 8 * length f = bits-length f in
        let whole : b ≡ file_bits (edition_of f) y l ++ field matched.fill 0 =
        sym (take-append-drop 16 b)
        ∙ ap₂ (λ (x z : List Bool). x ++ z)
        (take-add 4 12 b ∙ ap₂ (λ (x z : List Bool). x ++ z) (sym (field_back 4 b (omega arith))) (sym (field_back 12 (drop 4 b) (omega (arith, length-drop 4 b))) ∙ ap (field 12) (sym matched.number)))
        matched.same
        ∙ append_assoc (field 4 (edition_of f)) (field 12 (length l)) (all_coded y l ++ field matched.fill 0)
        ∙ ap (λ (x : List Bool). field 4 (edition_of f) ++ x) (sym (append_assoc (field 12 (length l)) (all_coded y l) (field matched.fill 0)))
        ∙ sym (append_assoc (field 4 (edition_of f)) (field 12 (length l) ++ all_coded y l) (field matched.fill 0)) in
        padded_filled f h (file_bits (edition_of f) y l) matched.fill matched.few whole

-- damage has a number
abbrev pub Numbered : Parsed → Type 0
Numbered (carries l) = Unit {0}
Numbered (damaged zero) = ⊥
Numbered (damaged (suc r)) = Unit {0}

then_numbered : (e : Entry) (w : Parsed) → Numbered w → Numbered (and_then e w)
then_numbered e (carries l) h = tt
then_numbered e (damaged zero) h = h
then_numbered e (damaged (suc r)) h = h

pub contours_numbered : (y : Layout) (k : ℕ) (first : Bool) (n : ℕ) (l : List Bool) → Numbered (contours_in y k first n l)
unfolding contours_in
contours_numbered y zero first n l = go (end_damage l)
  where
    go : (r : ℕ) → Numbered (elim r [ suc r ↦ damaged (suc r) | zero ↦ carries [] ])
    go zero = tt
    go (suc r) = tt
contours_numbered y (suc k) first n l = go (y.wrong first n l) (contours_numbered y k false (n + count (y.read l).points) (drop (y.size l) l))
  where
    rest : Parsed
    rest = contours_in y k false (n + count (y.read l).points) (drop (y.size l) l)

    go : (r : ℕ) → Numbered rest → Numbered (elim r [ suc r ↦ damaged (suc r) | zero ↦ and_then (y.read l) rest ])
    go zero h = then_numbered (y.read l) rest h
    go (suc r) h = tt

-- k contours are k
pub contours_long : (y : Layout) (k : ℕ) (first : Bool) (n : ℕ) (b : List Bool) (l : List Entry) → contours_in y k first n b ≡ carries l → length l ≡ k
contours_long y zero first n b l h = ap length (none_read y first n b l h).1
contours_long y (suc k) first n b l h =
    let x = next_read y first n b l k h in
    ap length x.is ∙ ap suc (contours_long y k false (n + count (y.read b).points) (drop (y.size b) b) x.others x.there)
