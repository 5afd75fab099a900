-- Contours and shapes in bytes, met one after the other.
use Rattle.std.proofs.Common.{◌≡◌, ℕ, suc, ◌+◌, ◌-◌, ◌*◌, ◌^◌, ◌<◌, ◌≤◌, Bool, true, false, eqb, List, [], ◌∷◌, ◌++◌, map, length, get_or, drop, ℤ, pos, sym, refl, ap, ◌∙◌, append_assoc, add-one, arith, length-append, drop_of_length-le, drop-cons, to_z-of_z, w32, to_z, of_z, eq-eqb, ne_eqb}
use lib.ListN.{length-map}
use lib.Signed.{mag}
use Rattle.grid.specs.Domain.{count}
use Rattle.bits.specs.Bits.{digit, field, padded}
use Rattle.bits.specs.Signs.{unsigned, fields}
use Rattle.bits.specs.inside.Words.{spelled}
use Rattle.bits.proofs.BitLaws.{digit_below, field-length, field_joined, padded-append, padded-length, padded_none}
use Rattle.bits.proofs.WordLaws.{spelled-length, padded_field}
use Rattle.bits.proofs.SignLaws.{unsigned_word}
use Rattle.steps.specs.Steps.{differences}
use Rattle.steps.specs.Bodies.{contour_width, body}
use Rattle.steps.proofs.BodyLaws.{width_within_32}
use Rattle.buffer.specs.Spans.{span, spans, total}
use Rattle.buffer.specs.Sets.{joined, cut, contour, contours, shapes, Even}
use Rattle.buffer.proofs.PartLaws.{contours_at}
use Rattle.rows.proofs.PlacedLaws.{placed_long}
use Rattle.setfile.specs.Entries.{Entry, entry, contours_of, shape_entries, entries}
use Rattle.setfile.specs.Layouts.{Layout, all_coded, file_bits}
use Rattle.setfile.specs.Format.{contour_bits, edition_1, file_length, file}
use Rattle.setfile.specs.Edition2 as C2
use Rattle.setfile.specs.Writing.{most_contours, most_points}
use Rattle.setfile.specs.inside.Bytes.{coded_coordinates, coded_contour, coded_contours, coded}
use Rattle.setfile.specs.Editions.{number, layout}
use Rattle.setfile.specs.inside.Writing.{Put, Room, between, shape_bits, shapes_bits}
use Rattle.setfile.proofs.EditionLaws.{contour-length}
use Rattle.setfile.proofs.WriteLaws.{Parted, both_put}

-- two fields in front of more are one
two_fields : (j k h n : ℕ) (more : List Bool) → n < 2 ^ k → field j h ++ (field k n ++ more) ≡ field (j + k) (h * 2 ^ k + n) ++ more
two_fields j k h n more l = sym (append_assoc (field j h) (field k n) more) ∙ ap (λ (b : List Bool). b ++ more) (field_joined j k h n l)

-- and where they are 16 bits together, one number of two bytes
two_bytes : (j k h n : ℕ) (more : List Bool) → j + k ≡ 16 → n < 2 ^ k → padded (field j h ++ (field k n ++ more)) ≡ spelled 2 (h * 2 ^ k + n) ++ padded more
two_bytes j k h n more e l =
    let m : ℕ = h * 2 ^ k + n in
    ap padded (two_fields j k h n more l ∙ ap (λ (w : ℕ). field w m ++ more) e)
    ∙ padded-append 2 (field 16 m) more (field-length 16 m) ∙ ap (λ (f : List ℕ). f ++ padded more) (padded_field 2 m)

-- coordinates in bytes, and one more in front
coordinates_next : (z : ℤ) (c : List ℤ) → coded_coordinates (z ∷ c) ≡ spelled 4 (of_z w32 z) ++ coded_coordinates c
unfolding fields
coordinates_next z c =
    padded-append 4 (field 32 (unsigned 32 z)) (fields 32 c) (field-length 32 (unsigned 32 z))
    ∙ ap (λ (f : List ℕ). f ++ coded_coordinates c) (padded_field 4 (unsigned 32 z) ∙ ap (spelled 4) (unsigned_word z))

-- the coordinates from number i on: the next of them, or none
module _ (c : List ℤ) (i : ℕ) where
  pub next_coordinate : {n : ℕ} → n ≡ of_z w32 (to_z w32 (of_z w32 (get_or c i (pos 0)))) → mag (get_or c i (pos 0)) < 2 ^ 31 → i < length c
      → Parted (coded_coordinates (drop i c)) (spelled 4 n) (coded_coordinates (drop (i + 1) c))
  next_coordinate {n} e f h =
      let z : n ≡ of_z w32 (get_or c i (pos 0)) = e ∙ ap (of_z w32) (to_z-of_z {w = w32} {z = get_or c i (pos 0)} (record { sfits = f })) in
      record { is = rw (drop-cons c i (pos 0) h, add-one i, z) (coordinates_next (get_or c i (pos 0)) (drop (suc i) c)) }

  pub no_coordinate : length c ≤ i → coded_coordinates (drop i c) ≡ []
  unfolding fields
  no_coordinate h = rw (drop_of_length-le c {i = i} h) padded_none

-- the header of a contour in bytes: its two fields are one number of two
abbrev header : Entry → List ℕ
header e = spelled 2 (digit e.begins * 32768 + count e.points)

coded_contour_is : (e : Entry) → count e.points ≤ most_points → coded_contour e ≡ header e ++ coded_coordinates e.points
coded_contour_is e h = two_bytes 1 15 (digit e.begins) (count e.points) (fields 32 e.points) refl (omega arith)

pub whole_bytes : (e : Entry) → length (contour_bits e) ≡ 8 * (2 + 4 * length e.points)
whole_bytes e = contour-length e ∙ omega arith

-- a contour that is put: there is room for its header, and behind that for its coordinates
module _ (e : Entry) (at : ℕ) (row : List ℕ) (short : count e.points ≤ most_points) (h : Room at (coded_contour e) row) where
  both_room : Room at (header e ++ coded_coordinates e.points) row
  both_room = rw (coded_contour_is e short) at h

  pub header_room : Room at (header e) row
  header_room = omega (arith, both_room, length-append (header e) (coded_coordinates e.points))

  module _ {b : ℕ} {mid : List ℕ} (p : Put at (header e) row b mid) where
    pub coordinates_room : Room b (coded_coordinates e.points) mid
    coordinates_room =
        omega (
          arith,
          both_room,
          length-append (header e) (coded_coordinates e.points),
          p.behind,
          ap length p.is ∙ placed_long row at (header e) header_room,
        )

    pub contour_put : {c : ℕ} {exit : List ℕ} → Put b (coded_coordinates e.points) mid c exit → Put at (coded_contour e) row c exit
    contour_put q = rw (coded_contour_is e short) (both_put both_room p q)

-- contours in bytes, and one more in front
pub none_coded : coded_contours [] ≡ []
unfolding joined
none_coded = padded_none

pub coded_next : (e : Entry) (l : List Entry) → coded_contours (e ∷ l) ≡ coded_contour e ++ coded_contours l
unfolding joined
coded_next e l = padded-append (2 + 4 * length e.points) (contour_bits e) (all_coded edition_1 l) (whole_bytes e)

pub contours_joined : (l : List Entry) → joined (map coded_contour l) ≡ coded_contours l
unfolding joined
contours_joined [] = sym none_coded
contours_joined (e ∷ l) = ap (λ (f : List ℕ). coded_contour e ++ f) (contours_joined l) ∙ sym (coded_next e l)

contours-length : (l : List Entry) → Even (contours_of l) → length (coded_contours l) ≡ 2 * length l + 8 * total (map count (contours_of l))
contours-length [] h = ap length none_coded
contours-length (e ∷ l) h =
    ap length (coded_next e l) ∙ length-append (coded_contour e) (coded_contours l)
    ∙ omega (arith, h.0, padded-length (2 + 4 * length e.points) (contour_bits e) [] (whole_bytes e), contours-length l h.1)

pub coded-length : (l : List Entry) → Even (contours_of l) → length (coded l) ≡ file_length (length l) (total (map count (contours_of l)))
coded-length l h =
    length-append (spelled 2 (4096 + length l)) (coded_contours l) ∙ omega (arith, spelled-length 2 (4096 + length l), contours-length l h)

pub file_is_coded : (l : List Entry) → length l ≤ most_contours → file l ≡ coded l
unfolding file
file_is_coded l h = two_bytes 4 12 1 (length l) (all_coded edition_1 l) refl (omega arith)

-- contours of which the first begins a shape or not, and the others do not
abbrev pub marked : Bool → List (List ℤ) → List Entry
marked begins [] = []
marked begins (c ∷ l) = entry begins c ∷ map (entry false) l

first_begins : (l : List (List ℤ)) → marked true l ≡ shape_entries l
first_begins [] = refl
first_begins (c ∷ l) = refl

others_follow : (l : List (List ℤ)) → map (entry false) l ≡ marked false l
others_follow [] = refl
others_follow (c ∷ l) = refl

coded-append : (y : Layout) (a b : List Entry) → all_coded y (a ++ b) ≡ all_coded y a ++ all_coded y b
unfolding joined
coded-append y [] b = refl
coded-append y (e ∷ a) b =
    ap (λ (l : List Bool). y.coded e ++ l) (coded-append y a b) ∙ sym (append_assoc (y.coded e) (all_coded y a) (all_coded y b))

-- a shape's contours from number k to number n, of which the first is number `from`: the next of them, or none
module _ (y : Layout) (p : List ℤ) (cs : List (List ℕ)) (from k n : ℕ) where
  next_between : k < n → k < length cs → between p cs k n ≡ contour p (span (get_or cs k [])) ∷ between p cs (k + 1) n
  next_between h g =
      let l : List (List ℤ) = contours p (spans cs) in
      let m : length l ≡ length cs = length-map (spans cs) (contour p) ∙ length-map cs span in
      let d : n - k ≡ suc (n - (k + 1)) = omega arith in
      rw (d, drop-cons l k [] (omega arith), contours_at p cs k g, add-one k)

  pub next_contour : from ≤ k → k < n → k < length cs → (c : List ℤ) → c ≡ contour p (span (get_or cs k []))
      → Parted (all_coded y (marked (eqb k from) (between p cs k n))) (y.coded (entry (eqb k from) c)) (all_coded y (marked (eqb (k + 1) from) (between p cs (k + 1) n)))
  unfolding joined
  next_contour f h g c e =
      let b : eqb (k + 1) from ≡ false = ne_eqb (k + 1) from (λ z. omega arith) in
      record {
        is =
            rw (next_between h g, e, b)
            (ap (λ (l : List Entry). y.coded (entry (eqb k from) (contour p (span (get_or cs k [])))) ++ all_coded y l) (others_follow (between p cs (k + 1) n)));
      }

  pub no_contour : n ≤ k → all_coded y (marked (eqb k from) (between p cs k n)) ≡ []
  unfolding joined
  no_contour h = let z : n - k ≡ 0 = omega arith in rw z

pub first_contour : (y : Layout) (p : List ℤ) (cs : List (List ℕ)) (from n : ℕ) → all_coded y (marked (eqb from from) (between p cs from n)) ≡ all_coded y (shape_entries (between p cs from n))
first_contour y p cs from n = rw (eq-eqb from from refl) (ap (all_coded y) (first_begins (between p cs from n)))

-- the shapes from number i on: the next of them, or none
module _ (second : Bool) (p : List ℤ) (cs ss : List (List ℕ)) (i : ℕ) where
  pub next_shape : i < length ss
      → Parted (shapes_bits second p cs (drop i ss)) (shape_bits second p cs (get_or (get_or ss i []) 0 0) (get_or (get_or ss i []) 1 0)) (shapes_bits second p cs (drop (i + 1) ss))
  unfolding joined
  next_shape h = record {
    is =
        rw (drop-cons ss i [] h, add-one i)
        (coded-append (layout second) (shape_entries (cut (contours p (spans cs)) (span (get_or ss i [])))) (entries (shapes p (spans cs) (spans (drop (suc i) ss)))));
  }

  pub no_shape : length ss ≤ i → shapes_bits second p cs (drop i ss) ≡ []
  unfolding joined
  no_shape h = rw (drop_of_length-le ss {i = i} h)

-- the header of a contour of the second edition: its three fields are one number of 22 bits
abbrev pub header_2 : Entry → ℕ
header_2 e = digit e.begins * 2097152 + (count e.points * 64 + contour_width e.points)

module _ (e : Entry) (short : count e.points ≤ most_points) where
  width_small : contour_width e.points < 64
  width_small = omega (arith, width_within_32 (differences e.points))

  pub header_small : header_2 e < 2 ^ 22
  header_small = omega (arith, width_small, digit_below e.begins)

  pub contour_is : C2.contour_bits e ≡ field 22 (header_2 e) ++ body e.points
  contour_is =
      let w : ℕ = contour_width e.points in
      let n : ℕ = count e.points in
      ap (λ (l : List Bool). field 1 (digit e.begins) ++ l) (two_fields 15 6 n w (body e.points) width_small)
      ∙ two_fields 1 21 (digit e.begins) (n * 64 + w) (body e.points) (omega (arith, width_small))

-- and of a file, in either edition
abbrev pub head_number : Bool → ℕ → ℕ
head_number second n = number second * 4096 + n

pub file_is : (second : Bool) (l : List Entry) → length l ≤ most_contours
    → file_bits (number second) (layout second) l ≡ field 16 (head_number second (length l)) ++ all_coded (layout second) l
file_is second l h = two_fields 4 12 (number second) (length l) (all_coded (layout second) l) (omega arith)
