-- How long a listing can be.
use mathlib.Core.Path.{◌≡◌, refl}
use mathlib.Core.Bool.{Bool, true, false}
use mathlib.Core.List.{List, [], ◌∷◌}
use Prim.Native.Nat.{ℕ, suc, ◌+◌, ◌*◌, ◌≤◌, ◌<◌, ◌^◌}
use native.Mathlib.Omega.{arith}
use lib.Dec.{eqb}
use lib.ListN.{length, length-append}
use lib.IntN.{ℤ}
use mir.Facts.{sfits_to_z}
use mir.Syntax.{w64}
use mir.Val.{SFits}
use Rattle.integers.proofs.Modulo.{mod64_lt}
use Rattle.grid.specs.Limits.{most}
use Rattle.grid.specs.Points.{points}
use Rattle.grid.specs.Area.{exact, wrapped, reported}
use Rattle.grid.specs.Domain.{count, Contour}
use Rattle.ring.specs.declared.Rule as R
use Rattle.ring.specs.Walk.{End}
use Rattle.ring.specs.Walk.End.{kept, collapsed}
use Rattle.ring.specs.Rule.{goes}
use Rattle.ring.proofs.Listed.{rising_few}
use Rattle.ring.proofs.Theorems.{ends_in_4n_9, kept_rising}
use Rattle.report.specs.Text.{decimal, signed, dash}
use Rattle.clean.specs.Outcome.{walked}
use Rattle.report.specs.Listing.{after, area2, line, lines}
use Rattle.report.specs.inside.Lines.{Contours}
use Rattle.report.proofs.TextLaws.{decimal-length, signed-length}

module _ (rule : R.Rule) (c : List ℤ) (x : Contour c (count c)) where
  few : count c < 65537
  unfolding most
  few = omega (arith, x.few)

  after-length : length (after (walked rule c).end) ≤ 5
  after-length = go (walked rule c).end refl
    where
      go : (w : End) → (walked rule c).end ≡ w → length (after w) ≤ 5
      go (kept s) e =
          let r = rising_few 0 (count c) s (kept_rising (goes rule c) (count c) e) in
          decimal-length (length s) 5 (omega arith) (omega arith) (omega (arith, few))
      go collapsed e = omega arith

  decisions-length : length (decimal (walked rule c).tally.decisions) ≤ 6
  decisions-length =
      let h : (walked rule c).tally.decisions < 10 ^ 6 = omega (arith, few, ends_in_4n_9 (goes rule c) (count c)) in
      decimal-length _ 6 (omega arith) (omega arith) h

  reported_fits : SFits w64 (reported (points c))
  unfolding wrapped
  reported_fits = sfits_to_z (record { fits = mod64_lt (exact (points c)) })

  area-length : length (area2 c) ≤ 20
  area-length = go (eqb (count c) 0)
    where
      go : (b : Bool) → length {A = ℕ} (elim b [ true ↦ dash | false ↦ signed (reported (points c)) ]) ≤ 20
      go true = omega arith
      go false = signed-length (reported (points c)) reported_fits

  -- a line has at most 45 characters
  pub line-length : (k : ℕ) → k < 10 ^ 4 → length (line rule k c) ≤ 45
  unfolding line
  line-length k h = simp length-append
      (omega (arith, decimal-length k 4 (omega arith) (omega arith) h, decimal-length (count c) 5 (omega arith) (omega arith) (omega (arith, few)), after-length, decisions-length, area-length))

pub lines-length : (rule : R.Rule) (k : ℕ) (l : List (List ℤ)) → Contours l → k + length l ≤ 10 ^ 4 → length (lines rule k l) ≤ 45 * length l
unfolding lines
lines-length rule k [] x h = omega arith
lines-length rule k (c ∷ l) x h =
    omega (arith, length-append (line rule k c) (lines rule (suc k) l), line-length rule c x.0 k (omega arith), lines-length rule (suc k) l x.1 (omega arith))
