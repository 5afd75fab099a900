-- How much a file can carry.
use Rattle.std.proofs.Common.{◌≡◌, ℕ, zero, suc, ◌+◌, ◌*◌, ◌^◌, ◌<◌, ◌≤◌, Bool, true, false, leb, List, [], ◌∷◌, map, length, take, drop, ℤ, sym, refl, subst, arith, lit<, length-append, length-drop, length-take, leb-true}
use native.Mathlib.Nat.{pow-le-pow_right}
use Rattle.integers.proofs.Logic.{and_right}
use Rattle.grid.specs.Domain.{count}
use Rattle.buffer.specs.Spans.{total}
use Rattle.buffer.specs.Sets.{joined, Even}
use Rattle.buffer.proofs.Theorems.{points_total}
use Rattle.bits.specs.Bits.{bits}
use Rattle.setfile.specs.Entries.{Entry, contours_of, shapes_of, gather, gathered, Parsed, read_contours}
use Rattle.setfile.specs.Layouts.{promised}
use Rattle.setfile.specs.Format.{points_in, contour_size, contour_in, is_complete, Come, come_next, complete, come, parsed}
use Rattle.bits.proofs.BitLaws.{value_below, bits-length}
use Rattle.setfile.specs.Entries.Parsed.{carries, damaged}
use Rattle.bits.specs.Signs.{numbers}
use Rattle.bits.proofs.SignLaws.{numbers-length}
use Rattle.setfile.proofs.RoundTrip.{read_whole}

-- what has come of k contours, each with an even count of numbers, in n bits
pub record Sized (n k : ℕ) (c : Come) : Type 0 where
  pub number : length c.contours + c.missing ≡ k
  pub room : 16 * length c.contours + 32 * length (joined (contours_of c.contours)) + c.past ≤ n
  pub even : Even (contours_of c.contours)

pub complete_sized : (k : ℕ) (l : List Bool) → Sized (length l) k (complete k l)
unfolding complete joined
complete_sized zero l = record { number = refl; room = omega arith; even = tt }
complete_sized (suc k) l = go (is_complete l) refl (complete_sized k rest)
  where
    rest : List Bool
    rest = drop (contour_size l) l

    go : (t : Bool) → is_complete l ≡ t → Sized (length rest) k (complete k rest) → Sized (length l) (suc k) (come_next t (contour_in l) k (complete k rest))
    go true t s =
        let c : List ℤ = numbers 32 (2 * points_in l) (drop 16 l) in
        let n : length c ≡ 2 * points_in l = numbers-length 32 (2 * points_in l) (drop 16 l) in
        let h : contour_size l ≤ length l = leb-true (contour_size l) (length l) (and_right (leb 16 (length l)) _ t) in
        record {
          number = omega (arith, s.number);
          room = omega (arith, s.room, length-drop (contour_size l) l, length-append c (joined (contours_of (complete k rest).contours)));
          even = (omega arith, s.even);
        }
    go false t s = record { number = omega arith; room = omega arith; even = tt }

-- the contours of a file, which are so few
pub record Carried (l : List Entry) : Type 0 where
  pub contours_few : length l ≤ 4095
  pub numbers_few : length (joined (contours_of l)) ≤ 16382
  pub shapes_few : length (shapes_of l) ≤ 4095
  pub even : Even (contours_of l)

pub shapes_few : (l : List Entry) → length (shapes_of l) ≤ length l
unfolding gathered
shapes_few [] = omega arith
shapes_few (e ∷ l) = go e.begins (shapes_few l)
  where
    go : (b : Bool) → length (shapes_of l) ≤ length l → length (gather b e.points (gathered l)).shapes ≤ suc (length l)
    go true h = omega arith
    go false h = omega arith

sized_carried : (n k : ℕ) (c : Come) → Sized n k c → k < 4096 → n ≤ 524272 → Carried c.contours
sized_carried n k c s h m =
    let l : List Entry = c.contours in
    let e = points_total (contours_of l) s.even in
    let t : 64 * total (map count (contours_of l)) ≤ 524272 = omega (arith, s.room) in
    let u : total (map count (contours_of l)) ≤ 8191 = omega arith in
    record {
      contours_few = omega (arith, s.number);
      numbers_few = omega arith;
      shapes_few = omega (arith, s.number, shapes_few l);
      even = s.even;
    }

pub promised_few : (f : List ℕ) → promised f < 4096
promised_few f =
    let a : 2 ^ length (take 12 (drop 4 (bits f))) ≤ 2 ^ 12 = pow-le-pow_right (lit< tt) {i = length (take 12 (drop 4 (bits f)))} {j = 12} (omega (arith, length-take 12 (drop 4 (bits f)))) in
    omega (arith, value_below (take 12 (drop 4 (bits f))))

-- and under two bytes fewer yet
pub promised_fewer : (f : List ℕ) → length f < 2 → promised f < 16
promised_fewer f h =
    let a : 2 ^ length (take 12 (drop 4 (bits f))) ≤ 2 ^ 4 =
    pow-le-pow_right (lit< tt) {i = length (take 12 (drop 4 (bits f)))} {j = 4} (omega (arith, length-take 12 (drop 4 (bits f)), length-drop 4 (bits f), bits-length f)) in
    omega (arith, value_below (take 12 (drop 4 (bits f))))

pub come_carried : (f : List ℕ) → length f ≤ 65536 → Carried (come f).contours
come_carried f h =
    sized_carried (length (drop 16 (bits f))) (promised f) (come f) (complete_sized (promised f) (drop 16 (bits f))) (promised_few f) (omega (arith, length-drop 16 (bits f), bits-length f))

-- the contours that are read are those that have come, or none
read_come : (P : List Entry → Type 0) (f : List ℕ) → P [] → P (come f).contours → P (read_contours (parsed f))
read_come P f none all = go (parsed f) refl
  where
    go : (w : Parsed) → parsed f ≡ w → P (read_contours w)
    go (carries l) e = subst P (sym (read_whole f l e).is) all
    go (damaged r) e = none

pub carried : (f : List ℕ) → length f ≤ 65536 → Carried (read_contours (parsed f))
unfolding joined gathered
carried f h =
    read_come Carried f (record { contours_few = omega arith; numbers_few = omega arith; shapes_few = omega arith; even = tt }) (come_carried f h)

-- and no more than are promised
pub carried_promised : (f : List ℕ) → length (read_contours (parsed f)) ≤ promised f
carried_promised f =
    read_come (λ (l : List Entry). length l ≤ promised f) f (omega arith) (omega (arith, (complete_sized (promised f) (drop 16 (bits f))).number))
