-- A row that is written from a position on, by what is still to be written.
use Rattle.std.proofs.Common.{◌≡◌, ℕ, ◌+◌, ◌<◌, ◌≤◌, List, [], ◌∷◌, ◌++◌, length, set, sym, refl, ap, ◌∙◌, subst, arith, length-append}
use Rattle.rows.specs.Rows.{placed}
use Rattle.rows.proofs.PlacedLaws.{placed_none, placed_long, placed_behind, set_placed}

-- with l from position at on the row, which is as long as at first, becomes the one that is wanted
pub record Ahead {A : Type 0} (row₀ wanted : List A) (at : ℕ) (l row : List A) : Type 0 where
  pub room : at + length l ≤ length row
  pub long : length row ≡ length row₀
  pub is : placed at l row ≡ wanted

module _ {A : Type 0} where
  pub ahead_all : (row₀ l : List A) (at : ℕ) → at + length l ≤ length row₀ → Ahead row₀ (placed at l row₀) at l row₀
  ahead_all row₀ l at h = record { room = h; long = refl; is = refl }

  module _ {row₀ wanted : List A} {at : ℕ} {row : List A} where
    pub ahead_more : (d e : List A) (b : ℕ) → b ≡ at + length d → Ahead row₀ wanted at (d ++ e) row → Ahead row₀ wanted b e (placed at d row)
    ahead_more d e b q a =
        let n : length (d ++ e) ≡ length d + length e = length-append d e in
        let h : at + length d ≤ length row = omega (arith, a.room) in
        let k : length (placed at d row) ≡ length row = placed_long row at d h in
        record {
          room = omega (arith, a.room);
          long = k ∙ a.long;
          is = placed_behind row at d e b h q ∙ a.is;
        }

    pub ahead_one : (v w : A) (e : List A) (b : ℕ) → v ≡ w → b ≡ at + 1 → Ahead row₀ wanted at (w ∷ e) row → Ahead row₀ wanted b e (set row at v)
    ahead_one v w e b q r a =
        let h : at < length row = omega (arith, a.room) in
        subst (Ahead row₀ wanted b e) (sym (ap (set row at) q ∙ set_placed row at w h)) (ahead_more (w ∷ []) e b r a)

    pub ahead_none : Ahead row₀ wanted at [] row → row ≡ wanted
    ahead_none a = sym (placed_none row at) ∙ a.is
