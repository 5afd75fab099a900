-- How far a contour's differences are measured, and written.
use mathlib.Core.Path.{◌≡◌, refl, sym, ◌∙◌, ap, ap₂, subst}
use mathlib.Core.Bool.{Bool, true, false, ◌&&◌, and_assoc, and-true}
use mathlib.Core.List.{List, [], ◌∷◌, ◌++◌, append_assoc, append-nil}
use Prim.Native.Nat.{ℕ, suc, ◌+◌, ◌-◌, ◌*◌, ◌%◌, ◌^◌, ◌≤◌, ◌<◌}
use native.Mathlib.Decide.{dec_le}
use native.Mathlib.Nat.{mod-eq_of_lt, mul-le-mul_right}
use native.Mathlib.Omega.{arith}
use lib.Dec.{ltb, eqb}
use lib.Bits.{bit_or, or_lt, or_add_and, and_le_l, and_le_r}
use lib.Pow.{pow-add, pow_pos, low}
use lib.ListN.{length, get_or, take, drop, length-append, length-drop}
use lib.Seq.{length-take-le}
use lib.IntN.{ℤ, pos, negsuc}
use lib.Signed.{mag}
use mir.Syntax.{w32}
use mir.Val.{of_z}
use borrow.Author.Tests.{ltb-true, lt-ltb, le-ltb, eqb-false}
use Rattle.integers.proofs.Logic.{and_left, and_right}
use Rattle.bits.specs.declared.inner.pens.Pen.{Pen}
use Rattle.bits.specs.Bits.{field}
use Rattle.bits.specs.Signs.{unsigned, fits, all_fit, fields}
use Rattle.bits.specs.Widths.{width_for}
use Rattle.bits.specs.inside.Pens.{reached, Space, Wrote}
use Rattle.bits.proofs.BitLaws.{field-length, field_joined}
use Rattle.bits.proofs.PenLaws.{wrote_none, wrote_both}
use Rattle.bits.proofs.SignLaws.{halves, unsigned_below, unsigned_word, fields-length}
use Rattle.bits.proofs.WidthLaws.{smallest_same}
use Rattle.grid.specs.Limits.{limit, all_on_grid}
use Rattle.steps.specs.Steps.{differences}
use Rattle.steps.specs.Bodies.{contour_width, body}
use Rattle.grid.proofs.LimitLaws.{on_dropped}
use Rattle.steps.specs.inside.Asked.{step, Writable, Fitting, point_bits}
use Rattle.steps.proofs.StepLaws.{differences_more, differences_none}
use Rattle.steps.proofs.BodyLaws.{width_some, width_within_32, width_fitting, differences_fit}

-- an or is below a power of two exactly where both are
or_below : (k a b : ℕ) → ltb (bit_or a b) (2 ^ k) ≡ (ltb a (2 ^ k) && ltb b (2 ^ k))
or_below k a b = go (dec_le (suc a) q) (dec_le (suc b) q)
  where
    q : ℕ
    q = 2 ^ k

    go : Dec (suc a ≤ q) → Dec (suc b ≤ q) → ltb (bit_or a b) q ≡ (ltb a q && ltb b q)
    go (yes x) (yes y) = lt-ltb (bit_or a b) q (or_lt k a b x y) ∙ sym (ap₂ ◌&&◌ (lt-ltb a q x) (lt-ltb b q y))
    go (no x) y = le-ltb (bit_or a b) q (omega (arith, or_add_and a b, and_le_r a b)) ∙ sym (ap (λ (c : Bool). c && ltb b q) (le-ltb a q (omega arith)))
    go (yes x) (no y) = le-ltb (bit_or a b) q (omega (arith, or_add_and a b, and_le_l a b)) ∙ sym (ap₂ ◌&&◌ (lt-ltb a q x) (le-ltb b q (omega arith)))

-- the widths that all differences fit, by what those before position k reach, or-ed, and by those that are left
abbrev pub Reached : List ℤ → ℕ → ℕ → Type 0
Reached c all k = (w : ℕ) → all_fit w (differences c) ≡ (ltb all (2 ^ (w - 1)) && all_fit w (differences (drop k c)))

module _ (c : List ℤ) (all k : ℕ) (so : Reached c all k) where
  pub reached_more : k + 2 < length c → Reached c (bit_or all (mag (step c k))) (k + 1)
  unfolding all_fit
  reached_more h w =
      let q : ℕ = 2 ^ (w - 1) in
      let left : Bool = all_fit w (differences (drop (k + 1) c)) in
      so w
      ∙ ap (λ (l : List ℤ). ltb all q && all_fit w l) (differences_more c k h)
      ∙ sym (and_assoc (ltb all q) (fits w (step c k)) left)
      ∙ ap (λ (b : Bool). b && left) (sym (or_below (w - 1) all (mag (step c k))))

  pub reached_all : length c ≤ k + 2 → width_for all ≡ contour_width c
  unfolding all_fit
  reached_all h =
      sym
      (smallest_same (λ (w : ℕ). all_fit w (differences c)) (λ (w : ℕ). ltb all (2 ^ (w - 1)))
      (λ w. so w ∙ ap (λ (l : List ℤ). ltb all (2 ^ (w - 1)) && all_fit w l) (differences_none c k h) ∙ and-true (ltb all (2 ^ (w - 1)))) 31)

  pub reached_below : all_on_grid limit c ≡ true → all < 2 ^ 31
  reached_below e = ltb-true all (2 ^ 31) (and_left (ltb all (2 ^ 31)) (all_fit 32 (differences (drop k c))) (sym (so 32) ∙ differences_fit c e))

-- the bits of a number that fits a width are the low ones of its 32
pub low_word : (w : ℕ) → 0 < w → w ≤ 32 → (z : ℤ) → fits w z ≡ true → of_z w32 z % 2 ^ w ≡ unsigned w z
low_word w some few (pos n) h = mod-eq_of_lt (unsigned_below w some (pos n) h)
low_word w some few (negsuc n) h =
    let p : ℕ = 2 ^ w in
    let g : ℕ = 2 ^ (32 - w) - 1 in
    let e : 2 ^ (32 - w) ≡ g + 1 = omega (arith, pow_pos (32 - w)) in
    let k : 32 - w + w ≡ 32 = omega arith in
    let whole : (g + 1) * p ≡ 2 ^ 32 = ap (λ (m : ℕ). m * p) (sym e) ∙ sym (pow-add 2 (32 - w) w) ∙ ap (λ (m : ℕ). 2 ^ m) k in
    let l : n < 2 ^ (w - 1) = ltb-true n (2 ^ (w - 1)) h in
    let r : of_z w32 (negsuc n) ≡ g * p + (p - suc n) = sym (unsigned_word (negsuc n)) ∙ omega (arith, whole, halves w some) in
    ap (λ (m : ℕ). m % p) r ∙ low g w (omega (arith, pow_pos w))

-- the differences from position k on in a width: the next, and those behind it
module _ (c : List ℤ) (w k : ℕ) (h : k + 2 < length c) where
  pub fields_more : fields w (differences (drop k c)) ≡ field w (unsigned w (step c k)) ++ fields w (differences (drop (k + 1) c))
  unfolding fields
  fields_more = ap (fields w) (differences_more c k h)

  fit_both : all_fit w (differences (drop k c)) ≡ true → (fits w (step c k) && all_fit w (differences (drop (k + 1) c))) ≡ true
  unfolding all_fit
  fit_both e = ap (all_fit w) (sym (differences_more c k h)) ∙ e

  pub fit_next : all_fit w (differences (drop k c)) ≡ true → fits w (step c k) ≡ true
  fit_next e = and_left (fits w (step c k)) (all_fit w (differences (drop (k + 1) c))) (fit_both e)

  pub fit_behind : all_fit w (differences (drop k c)) ≡ true → all_fit w (differences (drop (k + 1) c)) ≡ true
  fit_behind e = and_right (fits w (step c k)) (all_fit w (differences (drop (k + 1) c))) (fit_both e)

-- two numbers behind each other
pub side_by_side : (j i x y : ℕ) → x < 2 ^ j → y < 2 ^ i → x * 2 ^ i + y < 2 ^ (j + i)
side_by_side j i x y h l =
    let m : (x + 1) * 2 ^ i ≤ 2 ^ j * 2 ^ i = mul-le-mul_right (2 ^ i) (omega arith) in
    omega (arith, m, l, pow-add 2 j i)

-- both differences of a point
module _ (c : List ℤ) (w k : ℕ) (some : 0 < w) (h : k + 3 < length c) (fit : all_fit w (differences (drop k c)) ≡ true) where
  next_fit : all_fit w (differences (drop (k + 1) c)) ≡ true
  next_fit = fit_behind c w k (omega arith) fit

  pub first_fits : fits w (step c k) ≡ true
  first_fits = fit_next c w k (omega arith) fit

  pub second_fits : fits w (step c (k + 1)) ≡ true
  second_fits = fit_next c w (k + 1) (omega arith) next_fit

  pub fit_point : all_fit w (differences (drop (k + 2) c)) ≡ true
  fit_point =
      let e : k + 1 + 1 ≡ k + 2 = omega arith in
      subst (λ (j : ℕ). all_fit w (differences (drop j c)) ≡ true) e (fit_behind c w (k + 1) (omega arith) next_fit)

  pub point_below : point_bits w c k < 2 ^ (2 * w)
  point_below =
      let e : 2 * w ≡ w + w = omega arith in
      rw e (side_by_side w w (unsigned w (step c k)) (unsigned w (step c (k + 1))) (unsigned_below w some (step c k) first_fits) (unsigned_below w some (step c (k + 1)) second_fits))

  pub point_fields : fields w (differences (drop k c)) ≡ field (2 * w) (point_bits w c k) ++ fields w (differences (drop (k + 2) c))
  point_fields =
      let e : k + 1 + 1 ≡ k + 2 = omega arith in
      let d : w + w ≡ 2 * w = omega arith in
      let x : ℕ = unsigned w (step c k) in
      let y : ℕ = unsigned w (step c (k + 1)) in
      fields_more c w k (omega arith)
      ∙ ap (λ (l : List Bool). field w x ++ l) (fields_more c w (k + 1) (omega arith))
      ∙ sym (append_assoc (field w x) (field w y) (fields w (differences (drop (k + 1 + 1) c))))
      ∙ ap₂ (λ (l : List Bool) (j : ℕ). l ++ fields w (differences (drop j c)))
      (field_joined w w x y (unsigned_below w some (step c (k + 1)) second_fits) ∙ ap (λ (v : ℕ). field v (point_bits w c k)) d) e

-- what is written of the differences, and those that are left from position k on
pub record Writing (p₀ : Pen) (row₀ : List ℕ) (c : List ℤ) (w k : ℕ) (p : Pen) (row : List ℕ) : Type 0 where
  pub fit : all_fit w (differences (drop k c)) ≡ true
  pub put : List Bool
  pub wrote : Wrote p₀ put row₀ p row
  pub is : put ++ fields w (differences (drop k c)) ≡ fields w (differences c)

pub writing_none : {p : Pen} {row : List ℕ} {c : List ℤ} {w : ℕ} → Fitting row p c w → Writing p row c w 0 p row
writing_none {p} {row} f = record { fit = f.fit; put = []; wrote = wrote_none p row f.ready.small; is = refl }

module _ {p₀ p : Pen} {row₀ row : List ℕ} {c : List ℤ} {w k : ℕ} (s : Writing p₀ row₀ c w k p row) where
  -- there is room for what is left
  pub room_left : reached p₀ + length (fields w (differences c)) ≤ 8 * length row₀ → reached p + length (fields w (differences (drop k c))) ≤ 8 * length row
  room_left room =
      omega (arith, room, s.wrote.behind, s.wrote.long, ap length s.is, length-append s.put (fields w (differences (drop k c))))

  -- bits more are written that stand before those behind position j
  writing_on : (j : ℕ) (l : List Bool) → fields w (differences (drop k c)) ≡ l ++ fields w (differences (drop j c)) → all_fit w (differences (drop j c)) ≡ true
      → {q : Pen} {exit : List ℕ} → Wrote p l row q exit → Writing p₀ row₀ c w j q exit
  writing_on j l e fit g = record {
    fit = fit;
    put = s.put ++ l;
    wrote = wrote_both s.wrote g;
    is = append_assoc s.put l (fields w (differences (drop j c))) ∙ ap (λ (m : List Bool). s.put ++ m) (sym e) ∙ s.is;
  }

  -- one difference
  module _ (h : k + 2 < length c) where
    pub step_fits : fits w (step c k) ≡ true
    step_fits = fit_next c w k h s.fit

    pub step_space : w ≤ 32 → reached p₀ + length (fields w (differences c)) ≤ 8 * length row₀ → Space row p w
    step_space few room =
        let left = fields_more c w k h in record {
          within_32 = few;
          room =
              omega (
                arith,
                room_left room,
                ap length left,
                length-append (field w (unsigned w (step c k))) (fields w (differences (drop (k + 1) c))),
                field-length w (unsigned w (step c k)),
              );
        }

    pub writing_more : {n : ℕ} {q : Pen} {exit : List ℕ} → n ≡ unsigned w (step c k) → Wrote p (field w n) row q exit → Writing p₀ row₀ c w (k + 1) q exit
    writing_more e g = writing_on (k + 1) (field w _) (fields_more c w k h ∙ ap (λ (m : ℕ). field w m ++ fields w (differences (drop (k + 1) c))) (sym e)) (fit_behind c w k h s.fit) g

  -- those of two points
  module _ (h : k + 5 < length c) (some : 0 < w) where
    abbrev both : ℕ
    both = point_bits w c k * 2 ^ (2 * w) + point_bits w c (k + 2)

    behind_one : all_fit w (differences (drop (k + 2) c)) ≡ true
    behind_one = fit_point c w k some (omega arith) s.fit

    pair_fields : fields w (differences (drop k c)) ≡ field (4 * w) both ++ fields w (differences (drop (k + 4) c))
    pair_fields =
        let a : k + 2 + 2 ≡ k + 4 = omega arith in
        let d : 2 * w + 2 * w ≡ 4 * w = omega arith in
        point_fields c w k some (omega arith) s.fit
        ∙ ap (λ (l : List Bool). field (2 * w) (point_bits w c k) ++ l) (point_fields c w (k + 2) some (omega arith) behind_one)
        ∙ sym (append_assoc (field (2 * w) (point_bits w c k)) (field (2 * w) (point_bits w c (k + 2))) (fields w (differences (drop (k + 2 + 2) c))))
        ∙ ap₂ (λ (l : List Bool) (j : ℕ). l ++ fields w (differences (drop j c)))
        (field_joined (2 * w) (2 * w) (point_bits w c k) (point_bits w c (k + 2)) (point_below c w (k + 2) some (omega arith) behind_one) ∙ ap (λ (v : ℕ). field v both) d) a

    pub pair_below : both < 2 ^ (4 * w)
    pair_below =
        let d : 2 * w + 2 * w ≡ 4 * w = omega arith in
        rw (← d) (side_by_side (2 * w) (2 * w) (point_bits w c k) (point_bits w c (k + 2)) (point_below c w k some (omega arith) s.fit) (point_below c w (k + 2) some (omega arith) behind_one))

    pub pair_room : reached p₀ + length (fields w (differences c)) ≤ 8 * length row₀ → reached p + 4 * w ≤ 8 * length row
    pair_room room =
        omega (arith, room_left room, ap length pair_fields, length-append (field (4 * w) both) (fields w (differences (drop (k + 4) c))), field-length (4 * w) both)

    pub writing_pair : {n : ℕ} {q : Pen} {exit : List ℕ} → n ≡ both → Wrote p (field (4 * w) n) row q exit → Writing p₀ row₀ c w (k + 4) q exit
    writing_pair e g =
        let a : k + 2 + 2 ≡ k + 4 = omega arith in
        writing_on (k + 4) (field (4 * w) _) (pair_fields ∙ ap (λ (m : ℕ). field (4 * w) m ++ fields w (differences (drop (k + 4) c))) (sym e))
        (subst (λ (j : ℕ). all_fit w (differences (drop j c)) ≡ true) a (fit_point c w (k + 2) some (omega arith) behind_one)) g

  -- nothing more is written
  pub writing_same : {q : Pen} {exit : List ℕ} → Wrote p [] row q exit → Writing p₀ row₀ c w k q exit
  writing_same g = writing_on k [] refl s.fit g

  -- those that are left are a contour's too
  pub rest_fitting : Fitting row₀ p₀ c w → k % 2 ≡ 0 → k ≤ length c → p.width < 32 → Fitting row p (drop k c) w
  rest_fitting f even within few = record {
    ready = record { small = s.wrote.small; few = few };
    width = f.width;
    even = omega (arith, f.even, length-drop k c);
    on = on_dropped limit k c f.on;
    fit = s.fit;
    room = room_left f.room;
  }

  pub writing_rest : {q : Pen} {exit : List ℕ} → Wrote p (fields w (differences (drop k c))) row q exit → Wrote p₀ (fields w (differences c)) row₀ q exit
  writing_rest {q} {exit} g = subst (λ (l : List Bool). Wrote p₀ l row₀ q exit) s.is (wrote_both s.wrote g)

  pub writing_all : length c ≤ k + 2 → Wrote p₀ (fields w (differences c)) row₀ p row
  unfolding fields
  writing_all h =
      let e : s.put ≡ fields w (differences c) = sym (append-nil s.put) ∙ ap (λ (l : List ℤ). s.put ++ fields w l) (sym (differences_none c k h)) ∙ s.is in
      subst (λ (l : List Bool). Wrote p₀ l row₀ p row) e s.wrote

-- a contour's first point
pub first_fields : (c : List ℤ) → 2 ≤ length c → field 32 (unsigned 32 (get_or c 0 (pos 0))) ++ field 32 (unsigned 32 (get_or c 1 (pos 0))) ≡ fields 32 (take 2 c)
unfolding fields
first_fields [] h = absurd (omega arith)
first_fields (x ∷ []) h = absurd (omega arith)
first_fields (x ∷ y ∷ l) h = ap (λ (b : List Bool). field 32 (unsigned 32 x) ++ b) (sym (append-nil (field 32 (unsigned 32 y))))

-- no point
pub body_none : (c : List ℤ) → length c ≡ 0 → body c ≡ []
unfolding fields
body_none [] e = refl
body_none (x ∷ c) e = absurd (omega arith)

-- a contour that has points has two coordinates
pub writable_some : {row : List ℕ} {p : Pen} {c : List ℤ} {w : ℕ} → Writable row p c w → eqb (length c) 0 ≡ false → 2 ≤ length c
writable_some {row} {p} {c} s e = omega (arith, s.even, eqb-false (length c) 0 e)

-- the first point, and the differences behind it
module _ {row : List ℕ} {p : Pen} {c : List ℤ} {w : ℕ} (s : Writable row p c w) (some : 2 ≤ length c) where
  two : length (fields 32 (take 2 c)) ≡ 64
  two = fields-length 32 (take 2 c) ∙ ap (λ (n : ℕ). 32 * n) (length-take-le 2 c some)

  parts : length (body c) ≡ 64 + length (fields w (differences c))
  parts =
      length-append (fields 32 (take 2 c)) (fields (contour_width c) (differences c))
      ∙ ap₂ (λ (m v : ℕ). m + length (fields v (differences c))) two (sym s.is)

  pub first_room : reached p + 64 ≤ 8 * length row
  first_room = omega (arith, parts, s.room)

  module _ {q : Pen} {mid : List ℕ} (f : Wrote p (fields 32 (take 2 c)) row q mid) where
    pub steps_fitting : q.width < 32 → Fitting mid q c w
    steps_fitting few = record {
      ready = record { small = f.small; few = few };
      even = s.even;
      width = rw s.is (record { some = width_some (differences c); few = width_within_32 (differences c) });
      on = s.on;
      fit = rw s.is (width_fitting (differences c) (differences_fit c s.on));
      room = omega (arith, parts, s.room, two, f.behind, f.long);
    }

    pub body_wrote : {r : Pen} {exit : List ℕ} → Wrote q (fields w (differences c)) mid r exit → Wrote p (body c) row r exit
    body_wrote {r} {exit} g =
        subst (λ (v : ℕ). Wrote p (fields 32 (take 2 c) ++ fields v (differences c)) row r exit) s.is (wrote_both f g)
