-- Bytes and bits that are written part by part, each behind the one before it.
use Rattle.std.proofs.Common.{◌≡◌, ℕ, ◌+◌, ◌-◌, ◌*◌, ◌/◌, ◌%◌, ◌^◌, ◌<◌, ◌≤◌, Bool, List, [], ◌∷◌, ◌++◌, length, take, drop, sym, refl, ap, ◌∙◌, subst, ap₂, append_assoc, append-nil, arith, length-append, take-append-drop, length-take, length-take-le, get_or-take, drop-drop, take_at, drop_at}
use Rattle.std.specs.Int.{w16, to_be_bytes}
use Rattle.rows.specs.Rows.{front, placed}
use Rattle.bits.specs.declared.inner.pens.Pen.{Pen}
use Rattle.bits.specs.Bits.{field, Bytes, bits, fill, padded}
use Rattle.bits.specs.inside.Words.{spelled}
use Rattle.bits.specs.inside.Pens.{pen, inked, reached, Wrote, Lifted}
use Rattle.bits.proofs.BitLaws.{bits-append, bits_padded, bytes-length, padded_filled, padded-length}
use Rattle.bits.proofs.WordLaws.{EachByte}
use Rattle.bits.proofs.PenLaws.{wrote_none, wrote_both}
use Rattle.rows.proofs.PlacedLaws.{placed_none, placed_long, placed_behind}
use Rattle.setfile.specs.inside.Writing.{Put, Room}

-- what is left starts with a part of it
pub record Parted {A : Type 0} (rest d e : List A) : Type 0 where
  pub is : rest ≡ d ++ e

-- what is left to write, from the position that is reached on, makes what is to stand there
pub record Writing (at : ℕ) (all row₀ : List ℕ) (reached : ℕ) (rest row : List ℕ) : Type 0 where
  pub long : length row ≡ length row₀
  pub ends : reached + length rest ≡ at + length all
  pub room : Room reached rest row
  pub is : placed reached rest row ≡ placed at all row₀

pub none_written : (at : ℕ) (all row : List ℕ) → Room at all row → Writing at all row at all row
none_written at all row h = record { long = refl; ends = refl; room = h; is = refl }

module _ {at : ℕ} {all row₀ : List ℕ} {reached : ℕ} {rest row : List ℕ} (w : Writing at all row₀ reached rest row) where
  -- a part in front of what is left
  module _ {d e : List ℕ} (s : Parted rest d e) where
    split : length rest ≡ length d + length e
    split = ap length s.is ∙ length-append d e

    pub part_room : Room reached d row
    part_room = omega (arith, w.room, split)

    pub part_written : {b : ℕ} {exit : List ℕ} → Put reached d row b exit → Writing at all row₀ b e exit
    part_written {b} {exit} p =
        let l : length exit ≡ length row = ap length p.is ∙ placed_long row reached d part_room in
        record {
          long = l ∙ w.long;
          ends = omega (arith, p.behind, w.ends, split);
          room = omega (arith, p.behind, w.room, split);
          is =
              ap (placed b e) p.is
              ∙ placed_behind row reached d e b part_room p.behind
              ∙ ap (λ (k : List ℕ). placed reached k row) (sym s.is)
              ∙ w.is;
        }

  pub all_written : rest ≡ [] → Put at all row₀ reached row
  all_written s = record {
    is = sym (placed_none row reached) ∙ ap (λ (k : List ℕ). placed reached k row) (sym s) ∙ w.is;
    behind = omega (arith, w.ends, ap length s);
  }

-- two parts, one behind the other
pub both_put : {at b c : ℕ} {d e row mid exit : List ℕ} → Room at (d ++ e) row → Put at d row b mid → Put b e mid c exit → Put at (d ++ e) row c exit
both_put {at} {b} {c} {d} {e} {row} {mid} {exit} h p q = record {
  is = q.is ∙ ap (placed b e) p.is ∙ placed_behind row at d e b (omega (arith, h, length-append d e)) p.behind;
  behind = omega (arith, p.behind, q.behind, length-append d e);
}

-- two bytes as std spells them
pub spelled_two : (n : ℕ) → to_be_bytes w16 (n % 65536) ≡ spelled 2 n
unfolding spelled
spelled_two n =
    let high : n % 65536 / 256 % 256 ≡ n / 256 % 256 = omega arith in
    let low : n % 65536 % 256 ≡ n / 1 % 256 = omega arith in
    ap₂ (λ (h l : ℕ). h ∷ l ∷ []) high low

-- bits that are left to write behind the pen
pub record Inking (p : Pen) (all : List Bool) (row₀ : List ℕ) (q : Pen) (rest : List Bool) (row : List ℕ) : Type 0 where
  pub done : List Bool
  pub is : all ≡ done ++ rest
  pub wrote : Wrote p done row₀ q row
  pub room : reached q + length rest ≤ 8 * length row

pub none_inked : (p : Pen) (all : List Bool) (row : List ℕ) → p.kept < 2 ^ p.width → reached p + length all ≤ 8 * length row → Inking p all row p all row
none_inked p all row h r = record { done = []; is = refl; wrote = wrote_none p row h; room = r }

module _ {p q : Pen} {all rest : List Bool} {row₀ row : List ℕ} (w : Inking p all row₀ q rest row) where
  module _ {d e : List Bool} (s : Parted rest d e) where
    cut : length rest ≡ length d + length e
    cut = ap length s.is ∙ length-append d e

    pub bits_room : reached q + length d ≤ 8 * length row
    bits_room = omega (arith, w.room, cut)

    pub bits_inked : {r : Pen} {exit : List ℕ} → Wrote q d row r exit → Inking p all row₀ r e exit
    bits_inked {r} {exit} g = record {
      done = w.done ++ d;
      is = w.is ∙ ap (λ (l : List Bool). w.done ++ l) s.is ∙ sym (append_assoc w.done d e);
      wrote = wrote_both w.wrote g;
      room = omega (arith, w.room, cut, g.behind, g.long);
    }

  pub all_inked : rest ≡ [] → Wrote p all row₀ q row
  all_inked s =
      let e : w.done ≡ all = sym (w.is ∙ ap (λ (l : List Bool). w.done ++ l) s ∙ append-nil w.done) in
      subst (λ (l : List Bool). Wrote p l row₀ q row) e w.wrote

-- bytes that were put behind a pen that keeps nothing are bits that it wrote
module _ (p : Pen) (l : List Bool) (j : ℕ) (row : List ℕ) (small : p.kept < 2 ^ p.width) (none : p.width ≤ 0) (whole : length l ≡ 8 * j) (room : reached p + length l ≤ 8 * length row) where
  as_bytes : length (padded l) ≡ j
  as_bytes = padded-length j l [] whole

  pub whole_room : Room p.at (padded l) row
  whole_room = omega (arith, as_bytes)

  no_fill : bits (padded l) ≡ l
  unfolding field
  no_fill =
      let r : length l % 8 ≡ 0 = omega arith in
      bits_padded l ∙ ap (λ (m : ℕ). l ++ field ((8 - m) % 8) 0) r ∙ append-nil l

  none_kept : inked p row ≡ bits (take p.at row)
  unfolding field
  none_kept =
      let z : p.width ≡ 0 = omega arith in
      ap (λ (w : ℕ). bits (take p.at row) ++ field w p.kept) z ∙ append-nil (bits (take p.at row))

  pub put_wrote : {b : ℕ} {exit : List ℕ} → Put p.at (padded l) row b exit → Wrote p l row (pen b 0 0) exit
  unfolding field
  put_wrote {b} {exit} u =
      let d : List ℕ = padded l in
      let at : ℕ = p.at in
      let front_long : length (take at row ++ d) ≡ b = length-append (take at row) d ∙ omega (arith, length-take-le at row (omega (arith, whole_room)), u.behind) in
      let t : exit ≡ (take at row ++ d) ++ drop (at + length d) row = u.is in
      let f : take b exit ≡ take at row ++ d = ap (take b) t ∙ take_at (take at row ++ d) (drop (at + length d) row) b front_long in
      record {
        small = omega arith;
        is =
            append-nil (bits (take b exit)) ∙ ap bits f ∙ bits-append (take at row) d
            ∙ ap₂ (λ (x y : List Bool). x ++ y) (sym none_kept) no_fill;
        on = omega (arith, u.behind);
        behind = omega (arith, u.behind, as_bytes);
        rest = ap (drop b) t ∙ drop_at (take at row ++ d) (drop (at + length d) row) b front_long ∙ ap (λ (n : ℕ). drop n row) (sym u.behind);
        long = ap length u.is ∙ placed_long row at d whole_room;
      }

-- all bits of a file: a pen that began at the front was lifted
module _ {p : Pen} {all : List Bool} {row mid exit : List ℕ} {n : ℕ} (w : Wrote (pen 0 0 0) all row p mid) (u : Lifted p mid n exit) (known : EachByte exit) where
  reached_all : reached p ≡ length all
  reached_all = omega (arith, w.behind)

  pub lifted_long : n ≡ length (padded all)
  lifted_long = let b : n ≡ (length all + 7) / 8 = omega (arith, u.ends, reached_all) in b ∙ sym (bytes-length ((length all + 7) / 8) _)

  front_bytes : Bytes (take n exit)
  front_bytes i h = rw (get_or-take n exit i 0 (omega (arith, length-take n exit))) (known i)

  behind_it : drop n mid ≡ drop n row
  behind_it =
      let s : p.at + (n - p.at) ≡ n = omega (arith, u.ends) in
      rw (← s, ← drop-drop (n - p.at) p.at mid, ← drop-drop (n - p.at) p.at row) (ap (drop (n - p.at)) w.rest)

  pub lifted_front : exit ≡ front (padded all) row
  unfolding field bits
  lifted_front =
      let b : bits (take n exit) ≡ all ++ field (fill (length all)) 0 =
      u.is ∙ ap₂ (λ (x : List Bool) (m : ℕ). x ++ field (fill m) 0) w.is reached_all in
      let f : padded all ≡ take n exit = padded_filled (take n exit) front_bytes all (fill (length all)) (omega arith) b in
      sym (take-append-drop n exit) ∙ ap₂ (λ (x y : List ℕ). x ++ y) (sym f) (u.rest ∙ behind_it ∙ ap (λ (k : ℕ). drop k row) lifted_long)
