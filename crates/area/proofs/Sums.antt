-- The sum of the shares along a contour, as a loop gathers it modulo 2^64: what it has, and what is left to add.
use Rattle.std.proofs.Common.{◌≡◌, ℕ, zero, suc, ◌+◌, ◌-◌, ◌<◌, ◌≤◌, List, [], ◌∷◌, drop, ℤ, pos, negsuc, ◌+ℤ◌, ◌-ℤ◌, ◌*ℤ◌, sym, refl, ap, ◌∙◌, arith, w64, to_z}
use Rattle.std.specs.Int.{int_wrap}
use Rattle.std.proofs.lemmas.Int.{int_wrap-add_left}
use Rattle.integers.specs.Modulo.{mod64}
use Rattle.integers.specs.Polynomial.{#, ◌:+◌, ◌:-◌, ◌:*◌}
use Rattle.integers.proofs.Polynomial.{ring}
use Rattle.grid.specs.Points.{at, points}
use Rattle.grid.specs.Edges.{cross}
use Rattle.grid.specs.Area.{around, exact, wrapped, reported}
use Rattle.grid.specs.Domain.{Contour}
use Rattle.grid.proofs.RowLaws.{points-length, points_more, points_done}
use Rattle.area.specs.Shares.{share}
use Rattle.area.proofs.Removal.{few_points}

-- what the way from position j on adds
abbrev onward : List ℤ → ℕ → ℤ
onward row j = around (at row 0) (at row j) (drop (j + 1) (points row))

-- what the shares of the positions after i add: the way, less what the share of i has of it, and what the first share lacks
abbrev after : List ℤ → ℕ → ℕ → ℤ
after row n i = onward row (i + 1) -ℤ (at row (i + 1)).x *ℤ (at row i).y +ℤ (at row 0).x *ℤ (at row (n - 1)).y

-- a loop's sum, which lacks the shares of the positions from 1 to i
pub record Gathered (row : List ℤ) (n : ℕ) (sum : ℤ) (i : ℕ) : Type 0 where
  pub high : i + 2 ≤ n
  pub is : sum ≡ int_wrap w64 (exact (points row) -ℤ (after row n 0 -ℤ after row n i))

-- the library's name for what is left of an integer in 64 bits
wrap_is : (z : ℤ) → int_wrap w64 z ≡ wrapped z
unfolding int_wrap wrapped mod64
wrap_is (pos n) = refl
wrap_is (negsuc n) = ap (to_z w64) (omega arith)

module _ {row : List ℤ} {n : ℕ} (c : Contour row n) where
  pub gathered_few : n < 3 → pos 0 ≡ reported (points row)
  unfolding wrapped mod64
  gathered_few h = ap wrapped (sym (few_points (points row) (omega (arith, points-length c))))

  -- the first share, and the others
  whole : 2 ≤ n → exact (points row) ≡ share row (n - 1) 0 1 +ℤ after row n 0
  unfolding exact around cross
  whole h =
      let a = at row 0 in
      let b = at row 1 in
      let last = at row (n - 1) in
      ap exact (points_more c 0 (omega arith)) ∙ ap (around a a) (points_more c 1 (omega arith))
      ∙ ring
      (# 0 :* # 3 :- # 1 :* # 2 :+ # 5)
      (# 0 :* (# 3 :- # 4) :+ (# 5 :- # 2 :* # 1 :+ # 0 :* # 4))
      (a.x ∷ a.y ∷ b.x ∷ b.y ∷ last.y ∷ onward row 1 ∷ []) refl

  -- the share of position i + 1, and those after it
  next : (i : ℕ) → i + 2 < n → after row n i ≡ share row i (i + 1) (i + 2) +ℤ after row n (i + 1)
  unfolding around cross
  next i h =
      let a = at row i in
      let b = at row (i + 1) in
      let d = at row (i + 2) in
      let last = at row (n - 1) in
      let o = at row 0 in
      let two : i + 1 + 1 ≡ i + 2 = omega arith in
      rw (two, points_more c (i + 2) h)
      (ring
      ((# 2 :* # 5 :- # 3 :* # 4 :+ # 8) :- # 2 :* # 1 :+ # 6 :* # 7)
      (# 2 :* (# 5 :- # 1) :+ (# 8 :- # 4 :* # 3 :+ # 6 :* # 7))
      (a.x ∷ a.y ∷ b.x ∷ b.y ∷ d.x ∷ d.y ∷ o.x ∷ last.y ∷ onward row (i + 2) ∷ []) refl)

  -- the closing share is the last
  closing : 2 ≤ n → after row n (n - 2) ≡ share row (n - 2) (n - 1) 0
  unfolding around cross
  closing h =
      let a = at row (n - 2) in
      let b = at row (n - 1) in
      let o = at row 0 in
      let one : n - 2 + 1 ≡ n - 1 = omega arith in
      let all : n - 1 + 1 ≡ n = omega arith in
      rw (one, points_done c (n - 1 + 1) all)
      (ring
      ((# 2 :* # 5 :- # 3 :* # 4) :- # 2 :* # 1 :+ # 4 :* # 3)
      (# 2 :* (# 5 :- # 1))
      (a.x ∷ a.y ∷ b.x ∷ b.y ∷ o.x ∷ o.y ∷ []) refl)

  pub gathered_ends : 2 ≤ n → Gathered row n (int_wrap w64 (share row (n - 1) 0 1 +ℤ share row (n - 2) (n - 1) 0)) (n - 2)
  gathered_ends h =
      let first = share row (n - 1) 0 1 in
      let end = share row (n - 2) (n - 1) 0 in
      let all = after row n 0 in
      record {
        high = omega arith;
        is = ap (int_wrap w64) (rw (whole (omega arith), closing (omega arith)) (ring (# 0 :+ # 1) ((# 0 :+ # 2) :- (# 2 :- # 1)) (first ∷ end ∷ all ∷ []) refl));
      }

  pub gathered_more : (i : ℕ) (sum : ℤ) → Gathered row n sum i → 0 < i → Gathered row n (int_wrap w64 (sum +ℤ share row (i - 1) (i - 1 + 1) (i - 1 + 2))) (i - 1)
  gathered_more zero sum g h = absurd (omega arith)
  gathered_more (suc j) sum g h =
      let back : suc j - 1 ≡ j = omega arith in
      let here : suc j ≡ j + 1 = omega arith in
      let s = share row j (j + 1) (j + 2) in
      let whole = exact (points row) in
      let all = after row n 0 in
      let rest = after row n (j + 1) in
      rw back
      (record {
        high = omega (arith, g.high);
        is = ap (λ (z : ℤ). int_wrap w64 (z +ℤ s)) (rw here at g.is) ∙ int_wrap-add_left w64 (whole -ℤ (all -ℤ rest)) s
            ∙ ap (int_wrap w64) (rw (next j (omega (arith, g.high))) (ring ((# 0 :- (# 1 :- # 2)) :+ # 3) (# 0 :- (# 1 :- (# 3 :+ # 2))) (whole ∷ all ∷ rest ∷ s ∷ []) refl));
      })

  pub gathered_all : (i : ℕ) (sum : ℤ) → Gathered row n sum i → i ≤ 0 → sum ≡ reported (points row)
  gathered_all i sum g h =
      let e : i ≡ 0 = omega arith in
      rw e at g.is ∙ ap (int_wrap w64) (ring (# 0 :- (# 1 :- # 1)) (# 0) (exact (points row) ∷ after row n 0 ∷ []) refl) ∙ wrap_is (exact (points row))
