-- What the functions that put a contour or a file hand to each other.
use Rattle.std.proofs.Common.{◌≡◌, ℕ, ◌+◌, ◌*◌, ◌/◌, ◌^◌, ◌<◌, ◌≤◌, Bool, true, false, List, [], ◌++◌, length, slice_index, slice_index_or, Bor, ℤ, refl, sym, ap, ◌∙◌, subst, arith, length-append}
use Rattle.std.specs.Prelude.{Option, Some, None, option_map, IfSome}
use Rattle.std.specs.Option.{is_some}
use Rattle.grid.specs.Domain.{count}
use Rattle.rows.specs.Rows.{front}
use Rattle.rows.proofs.PlacedLaws.{placed_long}
use Rattle.bits.specs.declared.inner.pens.Pen.{Pen}
use Rattle.bits.specs.Bits.{digit, field}
use Rattle.bits.specs.inside.Words.{spelled}
use Rattle.bits.specs.inside.Pens.{pen, reached, Ready, Space, Wrote, Lifted}
use Rattle.bits.proofs.BitLaws.{field-length, bytes-length}
use Rattle.bits.proofs.WordLaws.{EachByte, spelled-length, padded_field}
use Rattle.bits.proofs.PenLaws.{wrote_both}
use Rattle.steps.specs.Bodies.{contour_width, body}
use Rattle.steps.specs.inside.Asked.{Writable}
use Rattle.buffer.specs.Spans.{span, spans}
use Rattle.buffer.specs.Sets.{contour, shapes}
use Rattle.setfile.specs.Entries.{Entry, entries}
use Rattle.setfile.specs.Layouts.{file_bits}
use Rattle.setfile.specs.Format as C1
use Rattle.setfile.specs.Edition2 as C2
use Rattle.setfile.specs.inside.Bytes.{coded_contour}
use Rattle.setfile.specs.Editions.{number, layout}
use Rattle.setfile.specs.inside.Writing.{Put, Room, most_kept, Penned, Inked, Countable, Widths, shapes_bits, file_with, Ripe}
use Rattle.setfile.proofs.WriteLaws.{whole_room, put_wrote, lifted_long, lifted_front}
use Rattle.setfile.proofs.CodedLaws.{whole_bytes, header_2, header_small, contour_is, head_number, file_is}

-- a contour of edition 2, its header and behind that its points
module _ (e : Entry) (p : Pen) (row : List ℕ) (c : Countable e.points) (h : Penned true p (C2.contour_bits e) row) {w : ℕ} (is : w ≡ contour_width e.points) where
  abbrev head : ℕ
  head = digit e.begins * 2097152 + (count e.points * 64 + w)

  same_head : head ≡ header_2 e
  same_head = ap (λ (w : ℕ). digit e.begins * 2097152 + (count e.points * 64 + w)) is

  both_long : length (C2.contour_bits e) ≡ 22 + length (body e.points)
  both_long =
      ap length (contour_is e c.short) ∙ length-append (field 22 (header_2 e)) (body e.points) ∙ ap (λ (n : ℕ). n + length (body e.points)) (field-length 22 (header_2 e))

  pub header_ready : Ready p × Space row p 22 × (head < 2 ^ 22)
  header_ready = (
    record { small = h.small; few = omega (arith, h.few) },
    record { within_32 = omega arith; room = omega (arith, h.room, both_long) },
    rw same_head (header_small e c.short),
  )

  module _ {q : Pen} {mid : List ℕ} (u : Wrote p (field 22 head) row q mid × (q.width < 32)) where
    pub body_ready : Writable mid q e.points w
    body_ready = record {
      ready = record { small = u.0.small; few = u.1 };
      even = c.even;
      on = c.on;
      is = is;
      room = omega (arith, h.room, both_long, u.0.behind, u.0.long, field-length 22 head);
    }

    pub body_inked : {r : Pen} {exit : List ℕ} → Wrote q (body e.points) mid r exit × (r.width < 32) → Inked true p (C2.contour_bits e) row r exit
    body_inked {r} {exit} v =
        let whole : field 22 head ++ body e.points ≡ C2.contour_bits e = ap (λ (n : ℕ). field 22 n ++ body e.points) same_head ∙ sym (contour_is e c.short) in
        record { wrote = subst (λ (l : List Bool). Wrote p l row r exit) whole (wrote_both u.0 v.0); few = omega (arith, v.1) }

-- a contour of edition 1, in whole bytes
module _ (e : Entry) (p : Pen) (row : List ℕ) (h : Penned false p (C1.contour_bits e) row) where
  pub contour_room : Room p.at (coded_contour e) row
  contour_room = whole_room p (C1.contour_bits e) _ row h.small h.few (whole_bytes e) h.room

  pub contour_inked : {b : ℕ} {exit : List ℕ} → Put p.at (coded_contour e) row b exit → Inked false p (C1.contour_bits e) row (pen b 0 0) exit
  contour_inked u = record { wrote = put_wrote p (C1.contour_bits e) _ row h.small h.few (whole_bytes e) h.room u; few = omega arith }

-- a file, its head and behind that its shapes
module _ {second : Bool} {p : List ℤ} {cs ss : List (List ℕ)} {row : List ℕ} (h : Ripe second p cs ss row) where
  abbrev carried : List Entry
  carried = entries (shapes p (spans cs) (spans ss))

  abbrev n : ℕ
  n = head_number second (length cs)

  abbrev all : List Bool
  all = file_bits (number second) (layout second) carried

  all_is : all ≡ field 16 n ++ shapes_bits second p cs ss
  all_is =
      file_is second carried (omega (arith, h.all, h.few))
      ∙ ap (λ (m : ℕ). field 16 (head_number second m) ++ shapes_bits second p cs ss) h.all

  all_long : length all ≡ 16 + length (shapes_bits second p cs ss)
  all_long = ap length all_is ∙ length-append (field 16 n) (shapes_bits second p cs ss) ∙ ap (λ (m : ℕ). m + length (shapes_bits second p cs ss)) (field-length 16 n)

  all_room : length all ≤ 8 * length row
  all_room =
      let b : length (file_with second p cs ss) ≡ (length all + 7) / 8 = bytes-length ((length all + 7) / 8) _ in
      omega (arith, h.room)

  pub head_room : Room 0 (spelled 2 n) row
  head_room = omega (arith, all_room, all_long, spelled-length 2 n)

  module _ {b : ℕ} {mid : List ℕ} (u : Put 0 (spelled 2 n) row b mid) where
    at_two : b ≡ 2
    at_two = omega (arith, u.behind, spelled-length 2 n)

    mid_long : length mid ≡ length row
    mid_long = ap length u.is ∙ placed_long row 0 (spelled 2 n) head_room

    pub shapes_penned : Penned second (pen b 0 0) (shapes_bits second p cs ss) mid
    shapes_penned = record { small = omega arith; few = omega arith; room = omega (arith, all_room, all_long, at_two, mid_long) }

    head_wrote : Wrote (pen 0 0 0) (field 16 n) row (pen b 0 0) mid
    head_wrote =
        put_wrote (pen 0 0 0) (field 16 n) 2 row (omega arith) (omega arith) (field-length 16 n) (omega (arith, all_room, all_long, field-length 16 n))
        (subst (λ (f : List ℕ). Put 0 f row b mid) (sym (padded_field 2 n)) u)

    module _ {q : Pen} {last : List ℕ} (v : Inked second (pen b 0 0) (shapes_bits second p cs ss) mid q last) where
      kept_few : (s : Bool) → q.width ≤ most_kept s → q.width < 32
      kept_few true h = omega arith
      kept_few false h = omega arith

      pub all_reached : Ready q × (reached q ≤ 8 * length last)
      all_reached = (
        record { small = v.wrote.small; few = kept_few second v.few },
        omega (arith, all_room, all_long, at_two, mid_long, v.wrote.behind, v.wrote.long),
      )

      all_wrote : Wrote (pen 0 0 0) all row q last
      all_wrote = subst (λ (l : List Bool). Wrote (pen 0 0 0) l row q last) (sym all_is) (wrote_both head_wrote v.wrote)

      module _ {k : ℕ} {exit : List ℕ} (d : Lifted q last k exit) (known : EachByte exit) where
        pub file_front : exit ≡ front (file_with second p cs ss) row
        file_front = lifted_front all_wrote d known

        pub file_ends : k ≡ length (file_with second p cs ss)
        file_ends = lifted_long all_wrote d known

-- where the widths of n contours are given, those of fewer are
pub fewer : (o : Option (Bor (List ℕ))) (p : List ℤ) (cs : List (List ℕ)) {m n : ℕ} → IfSome o (λ b. Widths p cs n b.now) → m ≤ n → IfSome o (λ b. Widths p cs m b.now)
fewer None p cs h l = tt
fewer (Some b) p cs h l = record { all = omega (arith, h.all); is = λ k q. h.is k (omega arith) }

-- and that of each stands in its place
pub width_there : (o : Option (Bor (List ℕ))) (p : List ℤ) (cs : List (List ℕ)) {k n : ℕ} → IfSome o (λ b. Widths p cs n b.now) → k < n → IfSome o (λ b. k < length b.now)
width_there None p cs h l = tt
width_there (Some b) p cs h l = omega (arith, h.all)

-- the width that the code takes from there
module _ (o : Option (Bor (List ℕ))) (k : ℕ) {w : Option ℕ} (e : w ≡ option_map (λ (b : Bor (List ℕ)). slice_index b.now k) o) where
  pub width_kept : is_some w ≡ is_some o
  width_kept = ap is_some e ∙ go o
    where
      go : (o : Option (Bor (List ℕ))) → is_some (option_map (λ (b : Bor (List ℕ)). slice_index b.now k) o) ≡ is_some o
      go None = refl
      go (Some b) = refl

  pub width_right : (p : List ℤ) (cs : List (List ℕ)) {n : ℕ} {c : List ℤ} → IfSome o (λ b. Widths p cs n b.now) → k < n → c ≡ contour p (span (slice_index_or cs k [])) → IfSome w (λ v. v ≡ contour_width c)
  width_right p cs {n} {c} h l part = subst (λ (w : Option ℕ). IfSome w (λ v. v ≡ contour_width c)) (sym e) (go o h)
    where
      go : (o : Option (Bor (List ℕ))) → IfSome o (λ b. Widths p cs n b.now) → IfSome (option_map (λ (b : Bor (List ℕ)). slice_index b.now k) o) (λ v. v ≡ contour_width c)
      go None h = tt
      go (Some b) h = h.is k l ∙ ap contour_width (sym part)
