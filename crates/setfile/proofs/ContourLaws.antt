-- A contour at a position of a file, in either edition.
use Rattle.std.proofs.Common.{◌≡◌, ℕ, zero, suc, ◌+◌, ◌*◌, ◌/◌, ◌<◌, ◌≤◌, Bool, true, false, List, length, drop, sym, refl, ap, ◌∙◌, ap₂, arith, length-drop, drop-drop, ltb-false, eqb-true}
use borrow.Author.Tests.{not-false}
use Rattle.replies.proofs.LadderLaws.{clear}
use Rattle.grid.specs.Domain.{count}
use Rattle.bits.specs.Bits.{bits}
use Rattle.bits.specs.Signs.{numbers}
use Rattle.bits.specs.Widths.{width_of}
use Rattle.bits.proofs.BitLaws.{bits-length, bits_dropped, taken_below}
use Rattle.bits.proofs.SignLaws.{numbers-length}
use Rattle.steps.specs.Bodies.{body_size, steps_in, points_of_width}
use Rattle.steps.specs.inside.Asked.{Width}
use Rattle.steps.proofs.BodyLaws.{points-length, width_some, width_within_32}
use Rattle.setfile.specs.declared.inner.headers.Header.{Header}
use Rattle.setfile.specs.Entries.{entry}
use Rattle.setfile.specs.Format.{begins, points_in}
use Rattle.setfile.specs.Edition2.{width_in}
use Rattle.setfile.specs.Editions.{layout}
use Rattle.setfile.specs.inside.Bytes.{decoded}
use Rattle.steps.specs.inside.Asked.{Stands}
use Rattle.setfile.specs.inside.Reading.{from_bit, At, header_size, number_width, header_in, size_of, front_points, Whole}
use Rattle.setfile.proofs.EditionLaws.{clear_begun, count_short}

pub size_is : (s : Bool) (l : List Bool) → (layout s).size l ≡ size_of s (header_in s l)
size_is true l = refl
size_is false l = refl

-- the contour in front, by its header and its points
pub front_is : (s : Bool) (l : List Bool) → (layout s).read l ≡ entry (begins l) (front_points s l)
front_is true l = refl
front_is false l = refl

pub front_begins : (s : Bool) (l : List Bool) → ((layout s).read l).begins ≡ begins l
front_begins true l = refl
front_begins false l = refl

pub front_length : (s : Bool) (l : List Bool) → length (front_points s l) ≡ 2 * points_in l
front_length true l = points-length (width_in l) (drop 22 l) (points_in l)
front_length false l = numbers-length 32 (2 * points_in l) (drop 16 l)

pub front_count : (s : Bool) (l : List Bool) → count (front_points s l) ≡ points_in l
front_count s l = omega (arith, front_length s l)

-- a header that is there
module _ (s : Bool) (l : List Bool) (h : header_size s ≤ length l) where
  pub points_few : points_in l ≤ 32767
  points_few = go s h
    where
      go : (s : Bool) → header_size s ≤ length l → points_in l ≤ 32767
      go true h = count_short l (omega arith)
      go false h = count_short l (omega arith)

  pub width_few : number_width s l ≤ 63
  width_few = go s h
    where
      go : (s : Bool) → header_size s ≤ length l → number_width s l ≤ 63
      go true h = omega (arith, taken_below 6 (drop 16 l) (omega (arith, length-drop 16 l)))
      go false h = omega arith

pub header_small : (s : Bool) (l : List Bool) → header_size s ≤ length l → (h : Header) → h ≡ header_in s l → (h.count ≤ 32767) × (h.width ≤ 63)
header_small s l g h e = rw e (points_few s l g, width_few s l g)

-- a contour with which nothing is wrong
pub record Right (s first : Bool) (l : List Bool) : Type 0 where
  pub headed : header_size s ≤ length l
  pub ends : (layout s).size l ≤ length l
  pub begun : first ≡ true → begins l ≡ true
  pub wide : s ≡ true → Width (width_in l)
  pub counted : points_in l ≤ (layout s).size l
  pub some : 0 < (layout s).size l

many : (k w : ℕ) → 0 < w → k ≤ body_size k w
many zero w h = omega arith
many (suc k) (suc v) h = omega (arith, grows k v)
  where
    grows : (k v : ℕ) → 2 * k ≤ suc v * (2 * k)
    grows k v = omega arith
many (suc k) zero h = absurd (omega arith)

pub right : (s first : Bool) (n : ℕ) (l : List Bool) → (layout s).wrong first n l ≡ 0 → Right s first l
right true first n l e =
    let c = clear _ tt e in
    let w : width_in l ≡ width_of (steps_in (points_in l) (width_in l) (drop 22 l)) = eqb-true _ _ (not-false _ c.1.1.1.1.0) in
    let some : 0 < width_in l = rw w (width_some (steps_in (points_in l) (width_in l) (drop 22 l))) in
    record {
      headed = ltb-false _ _ c.0;
      ends = ltb-false _ _ c.1.1.1.0;
      begun = clear_begun first (begins l) c.1.0;
      wide = λ z. record { some = some; few = rw w (width_within_32 (steps_in (points_in l) (width_in l) (drop 22 l))) };
      counted = omega (arith, many (points_in l) (width_in l) some);
      some = omega arith;
    }
right false first n l e =
    let c = clear _ tt e in
    record {
      headed = ltb-false _ _ c.0;
      ends = ltb-false _ _ c.1.1.0;
      begun = clear_begun first (begins l) c.1.0;
      wide = λ z. let o : ◌≡◌ {A = Bool} false true = z in absurd (differ o);
      counted = omega arith;
      some = omega arith;
    }
  where
    differ : false ≡ true → ⊥
    differ z = let o : ◌≡◌ {A = ℕ} 0 1 = cc in omega arith

-- the bits from a position on
pub from-length : (f : List ℕ) (at : ℕ) → at ≤ 8 * length f → at + length (from_bit f at) ≡ 8 * length f
from-length f at h = omega (arith, length-drop at (bits f), bits-length f)

-- whole bytes from a position on
pub from_byte : (f : List ℕ) (at : ℕ) → 8 * (at / 8) ≡ at → from_bit f at ≡ bits (drop (at / 8) f)
from_byte f at e = ap (λ (k : ℕ). drop k (bits f)) (sym e) ∙ bits_dropped (at / 8) f

module _ {s : Bool} {f : List ℕ} {at : ℕ} (here : At s f at) where
  abbrev l : List Bool
  l = from_bit f at

  pub whole : (first : Bool) (n : ℕ) → (layout s).wrong first n l ≡ 0 → Whole s f at
  whole first n e =
      let r = right s first n l e in
      let n : at + length l ≡ 8 * length f = from-length f at here.within in
      record { here = here; headed = omega (arith, r.headed); ends = omega (arith, r.ends); wide = r.wide }

-- a contour that is all there, by its header
module _ {s : Bool} {f : List ℕ} {at : ℕ} (w : Whole s f at) where
  pub whole_headed : header_size s ≤ length (from_bit f at)
  whole_headed = omega (arith, from-length f at w.here.within, w.headed)

  pub whole_small : (h : Header) → h ≡ header_in s (from_bit f at) → (h.count ≤ 32767) × (h.width ≤ 63)
  whole_small = header_small s (from_bit f at) whole_headed

  pub whole_ends : (h : Header) → h ≡ header_in s (from_bit f at) → (z : ℕ) → z ≡ size_of s h → at + z ≤ 8 * length f
  whole_ends h e z q = omega (arith, w.ends, size_is s (from_bit f at) ∙ ap (size_of s) (sym e) ∙ sym q)

-- the position behind a contour
pub behind : {s : Bool} {f : List ℕ} {at : ℕ} → Whole s f at → At s f (at + (layout s).size (from_bit f at))
behind {s} {f} {at} w = record { short = w.here.short; within = w.ends; whole = go s w.here.whole }
  where
    go : (s : Bool) → (s ≡ false → 8 * (at / 8) ≡ at) → s ≡ false → 8 * ((at + (layout s).size (from_bit f at)) / 8) ≡ at + (layout s).size (from_bit f at)
    go true h e = let o : ◌≡◌ {A = ℕ} 0 1 = cc in absurd (omega arith)
    go false h e = omega (arith, h refl)

-- the points of a contour of edition 1, where a byte begins
pub first_points : (f : List ℕ) (at : ℕ) → 8 * (at / 8) ≡ at → front_points false (from_bit f at) ≡ decoded (2 * points_in (from_bit f at)) (drop (at / 8 + 2) f)
first_points f at e =
    ap (numbers 32 (2 * points_in (from_bit f at)))
    (ap (drop 16) (from_byte f at e) ∙ bits_dropped 2 (drop (at / 8) f) ∙ ap bits (drop-drop 2 (at / 8) f))

-- a contour of edition 1 that is all there, as its bytes are read
pub record First (s : Bool) (f : List ℕ) (at : ℕ) (h : Header) : Type 0 where
  pub room : at / 8 + 2 + 4 * (2 * h.count) ≤ length f
  pub points : decoded (2 * h.count) (drop (at / 8 + 2) f) ≡ front_points s (from_bit f at)

pub first_there : {s : Bool} {f : List ℕ} {at : ℕ} → Whole s f at → {h : Header} → h ≡ header_in s (from_bit f at) → s ≡ false → First s f at h
first_there {s} {f} {at} w {h} e z = go s z w e
  where
    go : (s : Bool) → s ≡ false → Whole s f at → h ≡ header_in s (from_bit f at) → First s f at h
    go true z w e = let o : ◌≡◌ {A = ℕ} 0 1 = cc in absurd (omega arith)
    go false z w e =
        let k : h.count ≡ points_in (from_bit f at) = ap (λ (h : Header). h.count) e in
        let b : 8 * (at / 8) ≡ at = w.here.whole refl in
        record {
          room = omega (arith, w.ends);
          points = ap (λ (n : ℕ). decoded (2 * n) (drop (at / 8 + 2) f)) k ∙ sym (first_points f at b);
        }

-- and one of edition 2, as its bits are
pub record Second (s : Bool) (f : List ℕ) (at : ℕ) (h : Header) : Type 0 where
  pub stands : Stands f (at + 22) h.width h.count
  pub width : Width h.width
  pub points : points_of_width h.count h.width (from_bit f (at + 22)) ≡ front_points s (from_bit f at)

pub second_there : {s : Bool} {f : List ℕ} {at : ℕ} → Whole s f at → {h : Header} → h ≡ header_in s (from_bit f at) → s ≡ true → Second s f at h
second_there {s} {f} {at} w {h} e z = go s z w e
  where
    go : (s : Bool) → s ≡ true → Whole s f at → h ≡ header_in s (from_bit f at) → Second s f at h
    go false z w e = let o : ◌≡◌ {A = ℕ} 0 1 = cc in absurd (omega arith)
    go true z w e =
        let l : List Bool = from_bit f at in
        let k : h.count ≡ points_in l = ap (λ (h : Header). h.count) e in
        let v : h.width ≡ width_in l = ap (λ (h : Header). h.width) e in
        let b : body_size h.count h.width ≡ body_size (points_in l) (width_in l) = ap₂ body_size k v in
        record {
          stands = record { few = (whole_small w h e).0; short = w.here.short; room = omega (arith, b, w.ends) };
          width = rw v (w.wide refl);
          points = ap₂ (λ (n i : ℕ). points_of_width n i (from_bit f (at + 22))) k v ∙ ap (points_of_width (points_in l) (width_in l)) (sym (drop-drop 22 at (bits f)));
        }
