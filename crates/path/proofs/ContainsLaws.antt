-- Which edges count, and their parity along a contour.
use mathlib.Core.Path.{◌≡◌, refl, sym, ◌∙◌, ap}
use mathlib.Core.Bool.{Bool, true, false, not, xor, true≢false}
use mathlib.Core.List.{List, [], ◌∷◌}
use Prim.Native.Nat.{ℕ, zero, suc, ◌+◌, ◌-◌, ◌<◌, ◌≤◌}
use native.Mathlib.Omega.{arith}
use lib.ListN.{length, drop}
use lib.IntN.{ℤ, pos, ◌-ℤ◌, ◌*ℤ◌}
use lib.Signed.{lt_z}
use Rattle.integers.specs.Polynomial.{#, ◌:-◌, ◌:*◌}
use Rattle.integers.specs.Linear.{at as of}
use Rattle.integers.proofs.Linear.{lt_z_difference, lt_holds, lt_fails, lt_means, lt_denies}
use Rattle.integers.proofs.Polynomial.{ring}
use Rattle.grid.specs.Limits.{limit}
use Rattle.grid.specs.declared.Point.{Point}
use Rattle.grid.specs.Points.{at, on, points}
use Rattle.grid.specs.Edges.{between, cross, turns_left}
use Rattle.grid.specs.Corners.{last}
use Rattle.grid.specs.Domain.{count, domain, Contour}
use Rattle.replies.specs.declared.refusal.Refusal.{Refusal}
use Rattle.replies.specs.Ladder.{first_of}
use Rattle.replies.specs.Refusals.{number}
use Rattle.replies.specs.Verdicts.{answered}
use Rattle.std.proofs.Common.{Err, SFits, w32, to_z, of_z, to_z-of_z}
use Rattle.grid.proofs.RowLaws.{points_count, points_more, points_done}
use Rattle.replies.proofs.LadderLaws.{first_is, stopped, onward, clear, cleared}
use Rattle.replies.proofs.RefusalLaws.{refusals_have_numbers}
use Rattle.replies.proofs.LadderLaws.First.{here, past, foot}
use Rattle.replies.proofs.VerdictLaws.{verdict_refused, verdict_given}
use Rattle.grid.proofs.CornerLaws.{last_from}
use Rattle.path.specs.Contains.{above, meets_right, crosses, odd, contained, refusals, contains}
use Rattle.path.specs.inside.Contains.{Across, Changing, before}

-- the edge is met to the right of p where the way along it and on to p turns left
pub meets_is : (p l h : Point) → turns_left (between l h) (between h p) ≡ meets_right p l h
unfolding cross
meets_is p l h =
    sym
    (lt_z_difference ((p.x -ℤ l.x) *ℤ (h.y -ℤ l.y)) ((p.y -ℤ l.y) *ℤ (h.x -ℤ l.x))
    ∙ ap (lt_z (pos 0))
    (ring
    ((# 5 :- # 1) :* (# 2 :- # 0) :- (# 4 :- # 0) :* (# 3 :- # 1))
    ((# 2 :- # 0) :* (# 5 :- # 3) :- (# 3 :- # 1) :* (# 4 :- # 2))
    (l.x ∷ l.y ∷ h.x ∷ h.y ∷ p.x ∷ p.y ∷ []) refl))

xor_self : (t : Bool) → xor t t ≡ false
unfolding xor
xor_self true = refl
xor_self false = refl

module _ (p a b : Point) where
  pub crosses_not : above p a ≡ above p b → crosses p a b ≡ false
  unfolding crosses
  crosses_not e = rw (e, xor_self (above p b))

  -- an edge that rises over p's horizontal, and one that falls below it
  pub crosses_up : above p a ≡ false → above p b ≡ true → meets_right p a b ≡ crosses p a b
  unfolding crosses xor
  crosses_up e f =
      let t : lt_z a.y b.y ≡ true = lt_holds (of a.y) (of b.y) (omega (arith, lt_denies (of p.y) (of a.y) e, lt_means (of p.y) (of b.y) f)) in
      rw (e, f, t)

  pub crosses_down : above p a ≡ true → above p b ≡ false → meets_right p b a ≡ crosses p a b
  unfolding crosses xor
  crosses_down e f =
      let t : lt_z a.y b.y ≡ false = lt_fails (of a.y) (of b.y) (omega (arith, lt_means (of p.y) (of a.y) e, lt_denies (of p.y) (of b.y) f)) in
      rw (e, f, t)

pub xor_assoc : (a b c : Bool) → xor (xor a b) c ≡ xor a (xor b c)
unfolding xor
xor_assoc true true true = refl
xor_assoc true true false = refl
xor_assoc true false true = refl
xor_assoc true false false = refl
xor_assoc false true true = refl
xor_assoc false true false = refl
xor_assoc false false true = refl
xor_assoc false false false = refl

pub xor_swap : (a b : Bool) → xor a b ≡ xor b a
unfolding xor
xor_swap true true = refl
xor_swap true false = refl
xor_swap false true = refl
xor_swap false false = refl

xor_false : (a : Bool) → xor a false ≡ a
unfolding xor
xor_false true = refl
xor_false false = refl

pub false_xor : (a : Bool) → xor false a ≡ a
unfolding xor
false_xor true = refl
false_xor false = refl

-- what an edge from the last point on begins with, of a contour that is not empty
pub from_last : {row : List ℤ} {n : ℕ} → Contour row n → 0 < n → (f : Point → List Point → Bool) (g : List Point → Bool) → ((o : Point) (l : List Point) → g (o ∷ l) ≡ f (last o l) (o ∷ l)) → g (points row) ≡ f (at row (n - 1)) (points row)
from_last {row} {n} c h f g is =
    let e = points_more c 0 h in
    ap g e ∙ is _ _ ∙ ap (λ (l : Point). f l (at row 0 ∷ drop 1 (points row))) (last_from c (n - 1) 0 (omega arith)) ∙ ap (f (at row (n - 1))) (sym e)

module _ (row : List ℤ) (p : Point) where
  -- the parity so far, and that of the edges from a by position i on
  pub record Counted (n : ℕ) (sofar : Bool) (a : Point) (i : ℕ) : Type 0 where
    pub within : i ≤ n
    pub is : contained p (points row) ≡ xor sofar (odd p a (drop i (points row)))

  module _ {n : ℕ} (c : Contour row n) where
    pub counted_none : 0 < n → Counted n false (at row (n - 1)) 0
    unfolding contained
    counted_none h = record {
      within = omega arith;
      is = from_last c h (odd p) (contained p) (λ o l. refl) ∙ sym (false_xor (odd p (at row (n - 1)) (points row)));
    }

    module _ {sofar : Bool} {a : Point} {i : ℕ} (k : Counted n sofar a i) where
      pub counted_more : i < n → Counted n (xor sofar (crosses p a (at row i))) (at row i) (i + 1)
      unfolding odd
      counted_more h = record {
        within = omega arith;
        is = k.is ∙ ap (λ (l : List Point). xor sofar (odd p a l)) (points_more c i h) ∙ sym (xor_assoc sofar (crosses p a (at row i)) (odd p (at row i) (drop (i + 1) (points row))));
      }

      -- a point on the same side
      pub counted_beside : i < n → above p a ≡ above p (at row i) → Counted n sofar (at row i) (i + 1)
      counted_beside h e = rw (xor_false sofar) at (rw (crosses_not p a (at row i) e) at (counted_more h))

      pub counted_all : n ≤ i → sofar ≡ contained p (points row)
      unfolding odd
      counted_all h =
          let e : i ≡ n = omega (arith, k.within) in
          sym (k.is ∙ ap (λ (l : List Point). xor sofar (odd p a l)) (points_done c i e) ∙ xor_false sofar)

pub before_in : (n r : ℕ) → 0 < n → r ≤ n → before n r < n
unfolding before
before_in n zero h l = omega arith
before_in n (suc k) h l = omega arith

-- what is known of a point, and of the edges from it by a position on, along a run of points on one side of q's horizontal
module _ (row : List ℤ) {n : ℕ} (q : Point) (up : Bool) (Known : Point → ℕ → Type 0) (step : (a : Point) (i : ℕ) → Known a i → i < n → above q (at row i) ≡ up → Known (at row i) (i + 1)) where
  run : (k i : ℕ) → Known (at row i) (i + 1) → i + 1 + k ≤ n → ((j : ℕ) → i + 1 ≤ j → j < i + 1 + k → above q (at row j) ≡ up) → Known (at row (i + k)) (i + k + 1)
  run zero i x h s = let f : i + 0 ≡ i = omega arith in rw f x
  run (suc k) i x h s =
      let f : i + 1 + k ≡ i + suc k = omega arith in
      rw f at (run k (i + 1) (step _ _ x (omega arith) (s (i + 1) (omega arith) (omega arith))) (omega arith) (λ j l m. s j (omega arith) (omega arith)))

  pub past_run : {r : ℕ} (i : ℕ) → Known (at row i) (i + 1) → Across row n (i + 1) q up r → Known (at row (r - 1)) r
  past_run {r} i x y =
      let k = r - (i + 1) in
      let f : i + k ≡ r - 1 = omega (arith, y.from) in
      let g : r - 1 + 1 ≡ r = omega (arith, y.from) in
      rw g at (rw f at (run k i x (omega (arith, y.from, y.within)) (λ j l m. y.skipped j l (omega (arith, y.from)))))

  -- one that begins with the closing edge
  pub past_first_run : 0 < n → Known (at row (n - 1)) 0 → (r : ℕ) → Across row n 0 q up r → Known (at row (before n r)) r
  unfolding before
  past_first_run h x zero y = x
  past_first_run h x (suc k) y =
      let e : suc k - 1 ≡ k = omega arith in
      rw e at
      (past_run 0 (step _ _ x h (y.skipped 0 (omega arith) (omega arith)))
      (record { from = omega arith; within = y.within; skipped = λ j l m. y.skipped j (omega arith) m; changed = y.changed }))

module _ (row : List ℤ) (p : Point) {n : ℕ} (c : Contour row n) where
  -- the parity so far, and the side of the last point
  abbrev Sided : Bool → Bool → Point → ℕ → Type 0
  Sided sofar up a i = Counted row p n sofar a i × (above p a ≡ up)

  sided_beside : {sofar up : Bool} (a : Point) (i : ℕ) → Sided sofar up a i → i < n → above p (at row i) ≡ up → Sided sofar up (at row i) (i + 1)
  sided_beside a i x h e = (counted_beside row p c x.0 h (x.1 ∙ sym e), e)

  pub changing_first : 0 < n → (r : ℕ) → Across row n 0 p (above p (at row (n - 1))) r → Changing row n p false (before n r) r
  changing_first h r y =
      let x = past_first_run row p (above p (at row (n - 1))) (Sided false (above p (at row (n - 1)))) sided_beside h (counted_none row p c h, refl) r y in
      record { a_in = before_in n r h y.within; within = y.within; changes = λ l. y.changed l ∙ ap not (sym x.1); is = x.0.is }

  module _ {sofar : Bool} {a i : ℕ} (x : Changing row n p sofar a i) where
    counted : Counted row p n sofar (at row a) i
    counted = record { within = x.within; is = x.is }

    pub changing_next : {t up : Bool} {r : ℕ} → i < n → t ≡ crosses p (at row a) (at row i) → above p (at row i) ≡ up → Across row n (i + 1) p up r → Changing row n p (xor sofar t) (r - 1) r
    changing_next {t} {up} {r} h e f y =
        let z = past_run row p up (Sided (xor sofar t) up) sided_beside i (rw (sym e) at (counted_more row p c counted h), f) y in
        record { a_in = omega (arith, y.from, y.within); within = y.within; changes = λ l. y.changed l ∙ ap not (sym z.1); is = z.0.is }

    pub changing_done : n ≤ i → sofar ≡ contained p (points row)
    changing_done h = counted_all row p c counted h

-- the refusals of an asked point, one by one
pub refused_domain : (row : List ℤ) (p : Point) (k : ℕ) → k ≡ first_of (domain limit row) → (k ≡ 0 → ⊥) → k ≡ first_of (refusals p row)
refused_domain row p k e n = first_is _ k (stopped _ _ k e n)

module _ (row : List ℤ) (p : Point) (e : first_of (domain limit row) ≡ 0) where
  pub refused_off : on limit p ≡ false → 3 ≡ first_of (refusals p row)
  refused_off f = first_is _ 3 (onward (domain limit row) _ 3 tt e (here (ap not f)))

  pub refused_none : on limit p ≡ true → 0 ≡ first_of (refusals p row)
  refused_none f = first_is _ 0 (onward (domain limit row) _ 0 tt e (past (ap not f) foot))

-- what is asked of a contour that is not refused
pub asked_of_none : (row : List ℤ) (p : Point) → first_of (refusals p row) ≡ 0 → (first_of (domain limit row) ≡ 0) × (on limit p ≡ true)
asked_of_none row p e =
    let d = cleared (domain limit row) ((not (on limit p), 3) ∷ []) tt e in
    (d.0, not_false (on limit p) (clear ((not (on limit p), 3) ∷ []) tt d.1).0)
  where
    not_false : (b : Bool) → not b ≡ false → b ≡ true
    not_false true f = refl
    not_false false f = absurd (true≢false f)

-- the asked point, as it is passed on
pub passed_on : (x y : ℤ) → SFits w32 x → SFits w32 y → ◌≡◌ {A = Point} (record { x = to_z w32 (of_z w32 x); y = to_z w32 (of_z w32 y) }) (record { x = x; y = y })
passed_on x y f g = rw (to_z-of_z f, to_z-of_z g)

-- the question as a whole
module _ (row : List ℤ) (x y : ℤ) where
  abbrev asked : Point
  asked = record { x = x; y = y }

  -- what is answered
  module _ (p : Point) (q : p ≡ asked) where
    pub contains_refused : (r : Refusal) → number r ≡ first_of (refusals p row) → answered (Err r) ≡ contains row x y
    unfolding contains
    contains_refused r e = verdict_refused (refusals asked row) _ (number r) (e ∙ ap (λ (s : Point). first_of (refusals s row)) q) (refusals_have_numbers r)

    pub contains_given : (b : Bool) → first_of (refusals p row) ≡ 0 → b ≡ contained p (points row) → record { reply = 0; yes = b } ≡ contains row x y
    unfolding contains
    contains_given b e g = verdict_given (refusals asked row) _ b (sym (ap (λ (s : Point). first_of (refusals s row)) q) ∙ e) (g ∙ ap (λ (s : Point). contained s (points row)) q)

pub nothing_contained : (p : Point) (row : List ℤ) → count row ≡ 0 → false ≡ contained p (points row)
unfolding contained
nothing_contained p row h = go (points row) (omega (arith, points_count row))
  where
    go : (l : List Point) → length l ≡ 0 → false ≡ contained p l
    go [] e = refl
    go (o ∷ l) e = absurd (omega arith)

-- the side of a point, read as another that it equals
pub side_is : (p : Point) {a b : Point} {r : Bool} → r ≡ above p a → a ≡ b → r ≡ above p b
side_is p e f = e ∙ ap (above p) f
