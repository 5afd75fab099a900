-- Differences that are read one behind the other, by the rest of them.
use mathlib.Core.Path.{◌≡◌, refl, sym, ◌∙◌, ap, ap₂}
use mathlib.Core.Bool.{Bool, true, false, not, ◌&&◌, and-false}
use mathlib.Core.List.{List, [], ◌∷◌}
use Prim.Native.Nat.{ℕ, zero, suc, ◌+◌, ◌-◌, ◌*◌, ◌%◌, ◌^◌, ◌<◌, ◌≤◌}
use native.Mathlib.Nat.{mul-le-mul_left, lt_of_lt_of_le, le_refl}
use native.Mathlib.Omega.{arith}
use lib.Dec.{leb}
use lib.ListN.{length, get_or, take, drop, length-drop}
use lib.Seq.{drop-drop, get_or-drop}
use lib.Pow.{pow_mono}
use lib.IntN.{ℤ, pos, nat_abs, ◌+ℤ◌}
use lib.Signed.{mag, nat_abs-le}
use mir.Syntax.{w32}
use mir.Val.{SFits, to_z, of_z}
use mir.Facts.{to_z-of_z}
use borrow.Author.Tests.{not-true, not-false, ltb-false, ltb-true, leb-true, lt-ltb, le-ltb, le-leb, lt-leb}
use Rattle.std.specs.Bool.{MatchBool}
use Rattle.std.specs.List.{range_with_len, HoldsAt, AllWithin}
use Rattle.std.proofs.lemmas.List.FromFn.{length-range_with_len, get_or-range_with_len}
use Rattle.integers.specs.Bound.{In}
use Rattle.integers.proofs.Bound.{in_add}
use Rattle.integers.proofs.Logic.{and_left, and_right, and_both}
use Rattle.bits.specs.Bits.{value, bits}
use Rattle.bits.specs.Signs.{signed, fits, all_fit, numbers}
use Rattle.bits.specs.inside.Words.{Within, leading, Ahead}
use Rattle.bits.proofs.BitLaws.{bits-length, taken_below}
use Rattle.bits.proofs.SignLaws.{signed_fits, numbers_fit, numbers-length}
use Rattle.grid.specs.Limits.{limit, on_grid, all_on_grid}
use Rattle.grid.proofs.LimitLaws.{on_grid_size, all_on_grid_at}
use Rattle.steps.proofs.StepLaws.{sums-length}
use Rattle.steps.specs.Steps.{sums}
use Rattle.steps.specs.inside.Asked.{Width, There}

-- the difference of w bits at bit `at` of a file
abbrev pub difference : List ℕ → ℕ → ℕ → ℤ
difference f at w = signed w (value (take w (drop at (bits f))))

-- the number in a field is a number of its width
pub number_below : {f : List ℕ} {at w : ℕ} → Within f at w → value (take w (drop at (bits f))) < 2 ^ w
number_below {f} {at} {w} h = taken_below w (drop at (bits f)) (omega (arith, length-drop at (bits f), bits-length f, h.room))

-- every i32, and every difference, is within 2^31
pub in_32 : (z : ℤ) → mag z < 2 ^ 31 → In 2147483648 z
in_32 z h = record { abs = nat_abs-le z h }

pub signed_small : {w : ℕ} (n : ℕ) → Width w → n < 2 ^ w → mag (signed w n) < 2 ^ 31
signed_small {w} n s h = lt_of_lt_of_le (ltb-true (mag (signed w n)) (2 ^ (w - 1)) (signed_fits w s.some n h)) (pow_mono {i = w - 1} {j = 31} (omega (arith, s.few)))

room_for_one : (w i k : ℕ) → i < k → w * i + w ≤ w * k
room_for_one w i k h =
    let e : w * (i + 1) ≤ w * k = mul-le-mul_left w (omega arith) in
    omega (arith, e)

-- each of k differences is there
pub step_there : {f : List ℕ} {at w k i : ℕ} → There f at w k → i < k → Within f (at + w * i) w
step_there {f} {at} {w} {k} {i} t h =
    record { some = t.width.some; few = omega (arith, t.width.few); room = omega (arith, room_for_one w i k h, t.room) }

-- both differences of a point, in a word that begins with them
pub first_leading : {f : List ℕ} {at r : ℕ} (w : ℕ) → Ahead f at (2 * w) r → signed w (leading r w) ≡ difference f at w
first_leading {f} {at} {r} w a =
    let n : r * 2 ^ 0 % 2 ^ 64 ≡ r = omega (arith, a.below) in
    let e : at + 0 ≡ at = omega arith in
    ap (signed w) (ap (λ (m : ℕ). leading m w) (sym n) ∙ a.is 0 w (omega arith) ∙ ap (λ (m : ℕ). value (take w (drop m (bits f)))) e)

pub second_leading : {f : List ℕ} {r : ℕ} (at w i : ℕ) → Ahead f (at + w * i) (2 * w) r → signed w (leading (r * 2 ^ w % 2 ^ 64) w) ≡ difference f (at + w * (i + 1)) w
second_leading {f} {r} at w i a =
    let e : at + w * i + w ≡ at + w * (i + 1) = omega arith in
    ap (signed w) (a.is w w (omega arith) ∙ ap (λ (n : ℕ). value (take w (drop n (bits f)))) e)

-- so near that it can be counted
pub step_near : {f : List ℕ} {at w k i : ℕ} → There f at w k → i < k → at + w * i ≤ 524288
step_near {f} {at} {w} {k} {i} t h = omega (arith, room_for_one w i k h, t.room, t.short)

-- and all of them fit their width
pub all_there : {f : List ℕ} {at w k : ℕ} → There f at w k → all_fit w (numbers w k (drop at (bits f))) ≡ true
all_there {f} {at} {w} {k} t = numbers_fit w t.width.some k (drop at (bits f)) (omega (arith, length-drop at (bits f), bits-length f, t.room))

-- the rest of k differences, behind the first i
abbrev pub rest : List ℕ → ℕ → ℕ → ℕ → ℕ → List ℤ
rest f at w k i = numbers w (k - i) (drop (at + w * i) (bits f))

module _ (f : List ℕ) (at w k : ℕ) where
  pub rest_all : rest f at w k 0 ≡ numbers w k (drop at (bits f))
  rest_all =
      let a : k - 0 ≡ k = omega arith in
      let b : at + w * 0 ≡ at = omega arith in
      rw (a, b)

  pub rest_more : (i : ℕ) → i < k → rest f at w k i ≡ difference f (at + w * i) w ∷ rest f at w k (i + 1)
  unfolding numbers
  rest_more i h =
      let a : k - i ≡ suc (k - (i + 1)) = omega arith in
      let b : at + w * i + w ≡ at + w * (i + 1) = omega arith in
      let d : drop w (drop (at + w * i) (bits f)) ≡ drop (at + w * (i + 1)) (bits f) = drop-drop w (at + w * i) (bits f) ∙ ap (λ (n : ℕ). drop n (bits f)) b in
      rw (a, ← d)

  pub rest_none : (i : ℕ) → k ≤ i → rest f at w k i ≡ []
  unfolding numbers
  rest_none i h = let z : k - i ≡ 0 = omega arith in rw z

  -- whether all fit is told by the next, or by those behind it
  module _ (v i : ℕ) (h : i < k) where
    pub next_unfit : 2 ^ (v - 1) ≤ mag (difference f (at + w * i) w) → all_fit v (rest f at w k i) ≡ false
    unfolding all_fit
    next_unfit e = ap (all_fit v) (rest_more i h) ∙ rw (le-ltb (mag (difference f (at + w * i) w)) (2 ^ (v - 1)) e)

    pub next_fits : mag (difference f (at + w * i) w) < 2 ^ (v - 1) → all_fit v (rest f at w k i) ≡ all_fit v (rest f at w k (i + 1))
    unfolding all_fit
    next_fits e = ap (all_fit v) (rest_more i h) ∙ rw (lt-ltb (mag (difference f (at + w * i) w)) (2 ^ (v - 1)) e)

  pub none_unfit : (v i : ℕ) → k ≤ i → all_fit v (rest f at w k i) ≡ true
  unfolding all_fit
  none_unfit v i h = ap (all_fit v) (rest_none i h)

  -- one of them that does not fit, and none
  module _ (v : ℕ) where
    one_unfit : (m i n : ℕ) → i + m ≡ n → n < k → not (fits v (difference f (at + w * n) w)) ≡ true → all_fit v (rest f at w k i) ≡ false
    unfolding all_fit
    one_unfit zero i n e h u =
        let s : i ≡ n = omega arith in
        rw s (next_unfit v n h (ltb-false _ _ (not-true _ u)))
    one_unfit (suc m) i n e h u =
        let d : ℤ = difference f (at + w * i) w in
        ap (all_fit v) (rest_more i (omega arith)) ∙ ap (λ (b : Bool). fits v d && b) (one_unfit m (i + 1) n (omega arith) h u) ∙ and-false (fits v d)

    all_fitting : (m i : ℕ) → i + m ≡ k → ((n : ℕ) → n < k → not (fits v (difference f (at + w * n) w)) ≡ false) → all_fit v (rest f at w k i) ≡ true
    all_fitting zero i e h = none_unfit v i (omega arith)
    all_fitting (suc m) i e h = next_fits v i (omega arith) (ltb-true _ _ (not-false _ (h i (omega arith)))) ∙ all_fitting m (i + 1) (omega arith) h

    -- as `any` tells it
    pub unfit_told : (r : Bool) → MatchBool r
        ((n : ℕ) × (n < length (range_with_len 0 k)) × HoldsAt (λ i. not (fits v (difference f (at + w * i) w)) ≡ true) (range_with_len 0 k) n)
        (AllWithin (λ i. not (fits v (difference f (at + w * i) w)) ≡ false) (range_with_len 0 k) 0 (length (range_with_len 0 k)))
        → r ≡ not (all_fit v (numbers w k (drop at (bits f))))
    unfit_told true h =
        let n : ℕ = h.0 in
        let l : n < k = omega (arith, h.1, length-range_with_len 0 k) in
        let z : 0 + n ≡ n = omega arith in
        let u = rw (get_or-range_with_len 0 k n 0 l, z) at (h.2 0) in
        sym (ap not (ap (all_fit v) (sym rest_all) ∙ one_unfit n 0 n z l u))
    unfit_told false h = sym (ap not (ap (all_fit v) (sym rest_all) ∙ all_fitting k 0 (omega arith) each))
      where
        each : (n : ℕ) → n < k → not (fits v (difference f (at + w * n) w)) ≡ false
        each n l =
            let z : 0 + n ≡ n = omega arith in
            rw (get_or-range_with_len 0 k n 0 l, z) at (h n 0 (omega arith) (omega (arith, l, length-range_with_len 0 k)))

  -- the numbers that they make: the next, of x, and those behind it
  module _ (x y : ℤ) (i : ℕ) (h : i < k) where
    abbrev u : ℤ
    u = x +ℤ difference f (at + w * i) w

    pub sums_rest : sums x y (rest f at w k i) ≡ u ∷ sums y u (rest f at w k (i + 1))
    unfolding sums
    sums_rest = ap (sums x y) (rest_more i h)

    -- where they are the rest of all
    pub next_is : (all : List ℤ) → drop i all ≡ sums x y (rest f at w k i) → get_or all i (pos 0) ≡ u
    next_is all e =
        let z : i + 0 ≡ i = omega arith in
        ap (λ (n : ℕ). get_or all n (pos 0)) (sym z) ∙ sym (get_or-drop i all 0 (pos 0)) ∙ ap (λ (l : List ℤ). get_or l 0 (pos 0)) (e ∙ sums_rest)

    pub next_behind : (all : List ℤ) → drop i all ≡ sums x y (rest f at w k i) → drop (i + 1) all ≡ sums y u (rest f at w k (i + 1))
    next_behind all e = sym (drop-drop 1 i all) ∙ ap (drop 1) (e ∙ sums_rest)

    -- whether they are on the grid is told by the next, or by those behind it
    pub next_off : (bound : ℕ) → bound < nat_abs u → all_on_grid bound (sums x y (rest f at w k i)) ≡ false
    unfolding all_on_grid
    next_off bound e = ap (all_on_grid bound) sums_rest ∙ rw (on_grid_size bound u, lt-leb (nat_abs u) bound e)

    pub next_on : (bound : ℕ) → nat_abs u ≤ bound → all_on_grid bound (sums x y (rest f at w k i)) ≡ all_on_grid bound (sums y u (rest f at w k (i + 1)))
    unfolding all_on_grid
    next_on bound e = ap (all_on_grid bound) sums_rest ∙ rw (on_grid_size bound u, le-leb (nat_abs u) bound e)

  pub no_sums : (x y : ℤ) (i : ℕ) → k ≤ i → sums x y (rest f at w k i) ≡ []
  unfolding sums
  no_sums x y i h = ap (sums x y) (rest_none i h)

  pub none_off : (x y : ℤ) (i bound : ℕ) → k ≤ i → all_on_grid bound (sums x y (rest f at w k i)) ≡ true
  unfolding all_on_grid
  none_off x y i bound h = ap (all_on_grid bound) (no_sums x y i h)

-- the numbers that follow x and y, by the bits of both
abbrev pub asked : List ℕ → ℕ → ℕ → ℕ → ℕ → ℕ → List ℤ
asked f at w k x y = sums (to_z w32 x) (to_z w32 y) (numbers w k (drop at (bits f)))

module _ (f : List ℕ) (at w k : ℕ) where
  pub asked_long : (x y : ℕ) → length (asked f at w k x y) ≡ k
  asked_long x y = sums-length _ _ (numbers w k (drop at (bits f))) ∙ numbers-length w k (drop at (bits f))

  pub asked_are : {x y : ℤ} → SFits w32 x → SFits w32 y → asked f at w k (of_z w32 x) (of_z w32 y) ≡ sums x y (numbers w k (drop at (bits f)))
  asked_are p q = ap₂ (λ (x y : ℤ). sums x y (numbers w k (drop at (bits f)))) (to_z-of_z p) (to_z-of_z q)

  pub asked_on : {x y : ℤ} → SFits w32 x → SFits w32 y → all_on_grid limit (sums x y (numbers w k (drop at (bits f)))) ≡ true → (i : ℕ)
      → on_grid limit (get_or (asked f at w k (of_z w32 x) (of_z w32 y)) i (pos 0)) ≡ true
  asked_on p q on i = all_on_grid_at limit (asked f at w k _ _) i (ap (all_on_grid limit) (asked_are p q) ∙ on)

-- so far within the bound that no a and b differences of a width pass it: the numbers that follow are within it
pub sums_near : (bound w a b : ℕ) (x y : ℤ) (l : List ℤ) → all_fit w l ≡ true → length l ≤ a + b → b ≤ a → a ≤ b + 1 → nat_abs x + a * 2 ^ (w - 1) ≤ bound → nat_abs y + b * 2 ^ (w - 1) ≤ bound
    → all_on_grid bound (sums x y l) ≡ true
unfolding sums all_fit all_on_grid
sums_near bound w a b x y [] f n p q s t = refl
sums_near bound w zero b x y (d ∷ l) f n p q s t = absurd (omega arith)
sums_near bound w (suc a) b x y (d ∷ l) f n p q s t =
    let h : ℕ = 2 ^ (w - 1) in
    let u : ℤ = x +ℤ d in
    let near : In h d = record { abs = nat_abs-le d (ltb-true (mag d) h (and_left (fits w d) (all_fit w l) f)) } in
    let far : In (nat_abs x) x = record { abs = le_refl (nat_abs x) } in
    let next : In (nat_abs x + h) u = in_add far near in
    let on : nat_abs u + a * h ≤ bound = omega (arith, next.abs, s) in
    and_both (on_grid bound u) (all_on_grid bound (sums y u l))
    (on_grid_size bound u ∙ le-leb (nat_abs u) bound (omega arith))
    (sums_near bound w b a y u l (and_right (fits w d) (all_fit w l) f) (omega arith) (omega arith) (omega arith) t on)

-- so are k points that follow one
pub points_near : {f : List ℕ} {at w : ℕ} (k : ℕ) → There f at w (2 * k) → (bound : ℕ) (x y : ℤ) → leb (nat_abs x + k * 2 ^ (w - 1)) bound ≡ true → leb (nat_abs y + k * 2 ^ (w - 1)) bound ≡ true
    → all_on_grid bound (x ∷ y ∷ sums x y (numbers w (2 * k) (drop at (bits f)))) ≡ true
unfolding all_on_grid
points_near {f} {at} {w} k t bound x y p q =
    let h : ℕ = 2 ^ (w - 1) in
    let l : List ℤ = numbers w (2 * k) (drop at (bits f)) in
    let a : nat_abs x + k * h ≤ bound = leb-true (nat_abs x + k * h) bound p in
    let b : nat_abs y + k * h ≤ bound = leb-true (nat_abs y + k * h) bound q in
    let rest : all_on_grid bound (sums x y l) ≡ true = sums_near bound w k k x y l (all_there t) (omega (arith, numbers-length w (2 * k) (drop at (bits f)))) (omega arith) (omega arith) a b in
    and_both (on_grid bound x) (on_grid bound y && all_on_grid bound (sums x y l)) (on_grid_size bound x ∙ le-leb (nat_abs x) bound (omega arith))
    (and_both (on_grid bound y) (all_on_grid bound (sums x y l)) (on_grid_size bound y ∙ le-leb (nat_abs y) bound (omega arith)) rest)
