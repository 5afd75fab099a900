-- The loops that write the rows.
use mathlib.Core.Path.{◌≡◌, refl, sym, ◌∙◌, ap}
use mathlib.Core.List.{List, [], ◌∷◌, ◌++◌, append_assoc, append-nil}
use Prim.Native.Nat.{ℕ, suc, ◌+◌, ◌-◌, ◌*◌, ◌<◌, ◌≤◌}
use native.Mathlib.Omega.{arith}
use native.Mathlib.Numerals.{add-one}
use lib.IntN.{ℤ, pos}
use lib.ListN.{length, get_or, set, drop, replicate, length-set, length-append, length-replicate, drop_of_length-le}
use lib.Seq.{drop-cons, take_at, drop_at}
use Rattle.rows.specs.Rows.{front, zeroed}
use Rattle.ring.specs.Walk.{unmarked, survivors_from, survivors, occurrences}
use Rattle.ring.proofs.Survivors.{survivors_yes, survivors_no, survivor_count}
use Rattle.clean.specs.Outcome.{chosen}
use Rattle.clean.specs.declared.inner.settling.Survived.{Survived}
use Rattle.clean.specs.Promises.{Zeroed}
use Rattle.clean.specs.inside.Settling.{WrittenOut}

pub length_chosen : (row : List ℤ) (s : List ℕ) → length (chosen row s) ≡ 2 * length s
unfolding chosen
length_chosen row [] = refl
length_chosen row (i ∷ s) = omega (arith, length_chosen row s)

pub chosen-append : (row : List ℤ) (a b : List ℕ) → chosen row (a ++ b) ≡ chosen row a ++ chosen row b
unfolding chosen
chosen-append row [] b = refl
chosen-append row (i ∷ a) b = ap (λ (l : List ℤ). get_or row (2 * i) (pos 0) ∷ get_or row (2 * i + 1) (pos 0) ∷ l) (chosen-append row a b)

-- two numbers more in front
two_more : (new out : List ℤ) (x y : ℤ) → length new + 2 ≤ length out → set (set (front new out) (length new) x) (suc (length new)) y ≡ front (new ++ x ∷ y ∷ []) out
two_more [] [] x y h = absurd (omega arith)
two_more [] (a ∷ []) x y h = absurd (omega arith)
two_more [] (a ∷ b ∷ out) x y h = refl
two_more (u ∷ new) [] x y h = absurd (omega arith)
two_more (u ∷ new) (a ∷ out) x y h = ap (λ (l : List ℤ). u ∷ l) (two_more new out x y (omega arith))

-- the survivors below position i are written, so many of them
pub record Writing (row : List ℤ) (mark : List ℕ) (out₀ out : List ℤ) (kept i : ℕ) : Type 0 where
  pub done : List ℕ
  pub is : done ++ survivors_from i (drop i mark) ≡ survivors mark
  pub kept_is : kept ≡ length done
  pub low : kept ≤ i
  pub high : i ≤ length mark
  pub long : length out ≡ length out₀
  pub output : out ≡ front (chosen row done) out₀

pub writing_none : (row : List ℤ) (mark : List ℕ) (out : List ℤ) → Writing row mark out out 0 0
unfolding chosen
writing_none row mark out = record { done = []; is = refl; kept_is = refl; low = omega arith; high = omega arith; long = refl; output = refl }

module _ {row : List ℤ} {mark : List ℕ} {out₀ out : List ℤ} {kept i : ℕ} (x : Writing row mark out₀ out kept i) (h : i < length mark) where
  pub writing_more : 2 * length mark ≤ length out₀ → get_or mark i 0 < 2
      → (out' : List ℤ) → out' ≡ set (set out (2 * kept) (get_or row (2 * i) (pos 0))) (2 * kept + 1) (get_or row (2 * i + 1) (pos 0)) → Writing row mark out₀ out' (kept + 1) (i + 1)
  unfolding chosen
  writing_more room survives out' e =
      let c : List ℤ = chosen row x.done in
      let n : 2 * kept ≡ length c = omega (arith, x.kept_is, length_chosen row x.done) in
      let next : survivors_from i (drop i mark) ≡ i ∷ survivors_from (suc i) (drop (suc i) mark) = ap (survivors_from i) (drop-cons mark i 0 h) ∙ survivors_yes i (get_or mark i 0) (drop (suc i) mark) survives in
      record {
        done = x.done ++ i ∷ [];
        is = rw (add-one i) (append_assoc x.done (i ∷ []) _ ∙ ap (λ (l : List ℕ). x.done ++ l) (sym next) ∙ x.is);
        kept_is = omega (arith, x.kept_is, length-append x.done (i ∷ []));
        low = omega (arith, x.low);
        high = omega arith;
        long = ap length e ∙ simp length-set x.long;
        output = e ∙ rw (x.output, add-one (2 * kept), n) (two_more c out₀ _ _ (omega (arith, x.low)))
            ∙ ap (λ (l : List ℤ). front l out₀) (sym (chosen-append row x.done (i ∷ [])));
      }

  pub writing_past : 2 ≤ get_or mark i 0 → Writing row mark out₀ out kept (i + 1)
  writing_past gone =
      let next : survivors_from i (drop i mark) ≡ survivors_from (suc i) (drop (suc i) mark) = ap (survivors_from i) (drop-cons mark i 0 h) ∙ survivors_no i (get_or mark i 0) (drop (suc i) mark) gone in
      record {
        done = x.done;
        is = rw (add-one i) (ap (λ (l : List ℕ). x.done ++ l) (sym next) ∙ x.is);
        kept_is = x.kept_is;
        low = omega (arith, x.low);
        high = omega arith;
        long = x.long;
        output = x.output;
      }

pub writing_all : {row : List ℤ} {mark : List ℕ} {out₀ out : List ℤ} {kept i : ℕ} → Writing row mark out₀ out kept i → length mark ≤ i
    → (kept ≡ length (survivors mark)) × (out ≡ front (chosen row (survivors mark)) out₀)
unfolding survivors_from
writing_all {row} {mark} {out₀} {out} {kept} {i} x h =
    let e : x.done ≡ survivors mark = sym (append-nil x.done) ∙ ap (λ (l : List ℕ). x.done ++ survivors_from i l) (sym (drop_of_length-le mark h)) ∙ x.is in
    (x.kept_is ∙ ap length e, x.output ∙ ap (λ (s : List ℕ). front (chosen row s) out₀) e)

-- those that survive and are not marked are unmarked
pub pending_unmarked : {row : List ℤ} {mark : List ℕ} {out : List ℤ} {r : Survived} {exit : List ℤ} → WrittenOut row mark out r exit
    → (r.marked ≤ r.points) × (r.points - r.marked ≡ occurrences unmarked mark)
pending_unmarked {mark = mark} w =
    let n = survivor_count 0 mark in
    (omega (arith, w.points_are, w.marked_are), omega (arith, w.points_are, w.marked_are))

-- so much of a zeroed row is 0, and the rest as it was
pub zeroed_is : (n : ℕ) (row : List ℕ) → Zeroed n row (zeroed n row)
zeroed_is n row =
    let e : length {A = ℕ} (replicate n 0) ≡ n = length-replicate n 0 in
    record { first_n = take_at (replicate n 0) _ n e; later = drop_at (replicate n 0) _ n e ∙ rw e }
