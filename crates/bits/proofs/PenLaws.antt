-- What a pen writes, field behind field.
use mathlib.Core.Path.{◌≡◌, refl, sym, ◌∙◌, ap, ap₂, subst}
use mathlib.Core.Bool.{Bool}
use mathlib.Core.List.{List, [], ◌∷◌, ◌++◌, append_assoc, append-nil}
use Prim.Native.Nat.{ℕ, ◌+◌, ◌-◌, ◌*◌, ◌/◌, ◌%◌, ◌^◌, ◌<◌, ◌≤◌}
use native.Mathlib.Nat.{mod-lt, mul-le-mul_right}
use native.Mathlib.Omega.{arith}
use lib.ListN.{length, take, drop, set, length-append}
use lib.Seq.{take_at, drop_at, drop-drop, length-take-le}
use lib.Pow.{pow-add, pow_pos, shl_exact, shr_lt}
use borrow.Rule.Slice.PartMut.{put_mid}
use Rattle.std.proofs.lemmas.Nat.{one_shl}
use Rattle.bits.specs.declared.inner.pens.Pen.{Pen}
use Rattle.rows.specs.Rows.{placed}
use Rattle.rows.proofs.PlacedLaws.{placed_long, set_placed}
use Rattle.bits.specs.Bits.{field, bits, fill}
use Rattle.bits.specs.inside.Words.{spelled}
use Rattle.bits.specs.inside.Pens.{pen, inked, reached, Ready, Space, Wrote, Lifted}
use Rattle.bits.proofs.BitLaws.{field-length, field_low, field-append, field_joined, bits-append}
use Rattle.bits.proofs.WordLaws.{spelled-length, spelled_bits}

-- a row in which d was placed at `at`
module _ (row d : List ℕ) (at : ℕ) (room : at + length d ≤ length row) where
  head-length : length (take at row ++ d) ≡ at + length d
  head-length = length-append (take at row) d ∙ omega (arith, length-take-le at row (omega arith))

  placed_front : take (at + length d) (placed at d row) ≡ take at row ++ d
  placed_front = take_at (take at row ++ d) (drop (at + length d) row) (at + length d) head-length

  placed_back : drop (at + length d) (placed at d row) ≡ drop (at + length d) row
  placed_back = drop_at (take at row ++ d) (drop (at + length d) row) (at + length d) head-length

-- nothing is written yet
pub wrote_none : (p : Pen) (row : List ℕ) → p.kept < 2 ^ p.width → Wrote p [] row p row
wrote_none p row h = record {
  small = h;
  is = sym (append-nil (inked p row));
  on = omega arith;
  behind = omega arith;
  rest = refl;
  long = refl;
}

-- what is left behind a later place
later : (a b : List ℕ) (m n : ℕ) → m ≤ n → drop m a ≡ drop m b → drop n a ≡ drop n b
later a b m n h e =
    let s : m + (n - m) ≡ n = omega arith in
    rw (← s, ← drop-drop (n - m) m a, ← drop-drop (n - m) m b) (ap (drop (n - m)) e)

-- one behind the other
pub wrote_both : {p q r : Pen} {l m : List Bool} {row mid exit : List ℕ} → Wrote p l row q mid → Wrote q m mid r exit → Wrote p (l ++ m) row r exit
wrote_both {p} {q} {r} {l} {m} {row} {mid} {exit} f g = record {
  small = g.small;
  is = g.is ∙ ap (λ (b : List Bool). b ++ m) f.is ∙ append_assoc (inked p row) l m;
  on = omega (arith, f.on, g.on);
  behind = omega (arith, f.behind, g.behind, length-append l m);
  rest = g.rest ∙ later mid row q.at r.at g.on f.rest;
  long = g.long ∙ f.long;
}

-- bits that the pen takes up
module _ (p : Pen) (row : List ℕ) (w n : ℕ) (small : p.kept < 2 ^ p.width) (within : n < 2 ^ w) where
  pub up_below : p.kept * 2 ^ w + n < 2 ^ (p.width + w)
  up_below = more p.kept (2 ^ p.width) (2 ^ w) (2 ^ (p.width + w)) n (pow-add 2 p.width w) small within
    where
      more : (h a b ab n : ℕ) → ab ≡ a * b → h < a → n < b → h * b + n < ab
      more h a b ab n e l k =
          let m : (h + 1) * b ≤ a * b = mul-le-mul_right b (omega arith) in
          omega (arith, m, e, k)

  pub wrote_up : Wrote p (field w n) row (pen p.at (p.kept * 2 ^ w + n) (p.width + w)) row
  wrote_up = record {
    small = up_below;
    is =
        ap (λ (b : List Bool). bits (take p.at row) ++ b) (sym (field_joined p.width w p.kept n within))
        ∙ sym (append_assoc (bits (take p.at row)) (field p.width p.kept) (field w n));
    on = omega arith;
    behind = omega (arith, field-length w n);
    rest = refl;
    long = refl;
  }

-- of 32 at the most
module _ (p : Pen) (row : List ℕ) (w n : ℕ) (ready : Ready p) (within_32 : w ≤ 32) (within : n < 2 ^ w) where
  -- the shift loses nothing
  pub taken_up : p.kept * 2 ^ w % 2 ^ 64 ≡ p.kept * 2 ^ w
  taken_up = shl_exact p.width w 64 ready.small (omega (arith, ready.few))

-- bytes that are full go to the row
pub wrote_out : {p q : Pen} {l : List Bool} {row mid : List ℕ} (d : List ℕ) (rest : ℕ) → Wrote p l row q mid → q.width ≡ 8 * length d + rest
    → bits d ≡ field (8 * length d) (q.kept / 2 ^ rest) → q.at + length d ≤ length row
    → Wrote p l row (pen (q.at + length d) (q.kept % 2 ^ rest) rest) (placed q.at d mid)
wrote_out {p} {q} {l} {row} {mid} d rest f e s room =
    let r : q.at + length d ≤ length mid = omega (arith, f.long) in
    let b : List Bool = bits (take q.at mid) in
    record {
      small = mod-lt q.kept (pow_pos rest);
      is =
          ap₂ (λ (x y : List Bool). x ++ y) (ap bits (placed_front mid d q.at r) ∙ bits-append (take q.at mid) d ∙ ap (λ (x : List Bool). b ++ x) s) (field_low rest q.kept)
          ∙ append_assoc b (field (8 * length d) (q.kept / 2 ^ rest)) (field rest q.kept)
          ∙ ap (λ (x : List Bool). b ++ x) (field-append (8 * length d) rest q.kept ∙ ap (λ (w : ℕ). field w q.kept) (sym e))
          ∙ f.is;
      on = omega (arith, f.on);
      behind = omega (arith, f.behind);
      rest = placed_back mid d q.at r ∙ later mid row q.at (q.at + length d) (omega arith) f.rest;
      long = placed_long mid q.at d r ∙ f.long;
    }

-- a part of a row that is written over
pub written : {A : Type 0} (row d : List A) (at n : ℕ) → n ≡ length d → put_mid at n row d ≡ placed at d row
written row d at n e =
    ap (λ (k : ℕ). take at row ++ (d ++ drop k (drop at row))) e
    ∙ ap (λ (l : List _). take at row ++ (d ++ l)) (drop-drop (length d) at row)
    ∙ sym (append_assoc (take at row) d (drop (at + length d) row))

-- a field that fills four bytes
pub wrote_four : (p : Pen) (row exit : List ℕ) (w n h r : ℕ) → Ready p → Space row p w → n < 2 ^ w → h ≡ p.kept * 2 ^ w % 2 ^ 64 + n → p.width + w ≡ 32 + r
    → exit ≡ placed p.at (spelled 4 (h / 2 ^ r)) row → Wrote p (field w n) row (pen (p.at + 4) (h % (1 * 2 ^ r % 2 ^ 64)) r) exit
wrote_four p row exit w n h r ready space within e f g =
    let within_32 : w ≤ 32 = space.within_32 in
    let same : h ≡ p.kept * 2 ^ w + n = e ∙ ap (λ (m : ℕ). m + n) (taken_up p row w n ready within_32 within) in
    let l : length (spelled 4 (h / 2 ^ r)) ≡ 4 = spelled-length 4 (h / 2 ^ r) in
    let up = subst (λ (m : ℕ). Wrote p (field w n) row (pen p.at m (p.width + w)) row) (sym same) (wrote_up p row w n ready.small within) in
    let t : 8 * length (spelled 4 (h / 2 ^ r)) ≡ 8 * 4 = ap (λ (m : ℕ). 8 * m) l in
    let out = wrote_out (spelled 4 (h / 2 ^ r)) r up (omega (arith, l, f)) (spelled_bits 4 (h / 2 ^ r) ∙ ap (λ (m : ℕ). field m (h / 2 ^ r)) (sym t)) (omega (arith, l, f, space.room)) in
    rw (g, one_shl r 64 (omega (arith, ready.few))) (subst (λ (m : ℕ). Wrote p (field w n) row (pen (p.at + m) (h % 2 ^ r) r) (placed p.at (spelled 4 (h / 2 ^ r)) row)) l out)

-- one byte
pub top_byte : (q : Pen) (r : ℕ) → q.kept < 2 ^ q.width → q.width ≡ 8 + r → q.kept / 2 ^ r < 256
top_byte q r h e = shr_lt 8 r (rw (← e) h)

pub wrote_one : {p q : Pen} {l : List Bool} {row mid : List ℕ} (r : ℕ) → Wrote p l row q mid → q.width ≡ 8 + r → r < 64 → q.at < length row
    → Wrote p l row (pen (q.at + 1) (q.kept % (1 * 2 ^ r % 2 ^ 64)) r) (set mid q.at (q.kept / 2 ^ r))
unfolding bits
wrote_one {p} {q} {l} {row} {mid} r f e s room =
    rw (one_shl r 64 s, set_placed mid q.at (q.kept / 2 ^ r) (omega (arith, f.long)))
    (wrote_out (q.kept / 2 ^ r ∷ []) r f e (append-nil (field 8 (q.kept / 2 ^ r))) (omega arith))

-- filled to whole bytes, and spilled
pub lifted : {p q r : Pen} {row mid exit : List ℕ} (k : ℕ) → k ≡ fill (reached p) → Wrote p (field k 0) row q mid → Wrote q [] mid r exit → r.width < 8 → Lifted p row r.at exit
unfolding field
lifted {p} {q} {r} {row} {mid} {exit} k e f g h =
    let w = wrote_both f g in
    let n : length (field k 0 ++ []) ≡ k = ap length (append-nil (field k 0)) ∙ field-length k 0 in
    let z : r.width ≡ 0 = omega (arith, w.behind, n, e) in
    let empty : field r.width r.kept ≡ [] = ap (λ (j : ℕ). field j r.kept) z in
    record {
      is =
          sym (append-nil (bits (take r.at exit)))
          ∙ ap (λ (b : List Bool). bits (take r.at exit) ++ b) (sym empty)
          ∙ w.is ∙ ap (λ (b : List Bool). inked p row ++ b) (append-nil (field k 0) ∙ ap (λ (j : ℕ). field j 0) e);
      rest = w.rest;
      ends = omega (arith, w.behind, n, e, z);
      long = w.long;
    }
