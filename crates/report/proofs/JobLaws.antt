-- The contours of a file of either edition: they are no more than it promises, and have two numbers for each point.
use mathlib.Core.Path.{◌≡◌, refl, sym, subst}
use mathlib.Core.Bool.{Bool, true, false}
use mathlib.Core.List.{List, []}
use Prim.Native.Nat.{ℕ, zero, suc, ◌≤◌}
use native.Mathlib.Omega.{arith}
use lib.ListN.{length}
use Rattle.buffer.specs.Sets.{Even}
use Rattle.setfile.specs.Entries.{Entry, contours_of, Parsed, read_contours}
use Rattle.setfile.specs.Entries.Parsed.{carries, damaged}
use Rattle.setfile.specs.Layouts.{contours_in, promised}
use Rattle.setfile.specs.Editions.{layout, is_second, head_damage, parsed}
use Rattle.setfile.specs.inside.Reading.{from_bit}
use Rattle.setfile.proofs.LayoutLaws.{next_read, none_read}
use Rattle.setfile.proofs.ContourLaws.{front_length, front_count}
use Rattle.setfile.proofs.EitherLaws.{parsed_faulty, parsed_on}

-- at most k contours, each with an even count of numbers
pub record Sized (k : ℕ) (l : List Entry) : Type 0 where
  pub few : length l ≤ k
  pub even : Even (contours_of l)

read_sized : (s : Bool) (k : ℕ) (first : Bool) (n : ℕ) (b : List Bool) (l : List Entry) → contours_in (layout s) k first n b ≡ carries l → Sized k l
read_sized s zero first n b l h = rw (none_read (layout s) first n b l h).1 (record { few = omega arith; even = tt })
read_sized s (suc k) first n b l h =
    let x = next_read (layout s) first n b l k h in
    let z = read_sized s k false _ _ x.others x.there in
    rw x.is (record { few = omega (arith, z.few); even = (omega (arith, front_length s b, front_count s b), z.even) })

pub job_sized : (f : List ℕ) → Sized (promised f) (read_contours (parsed f))
job_sized f = go (head_damage f) refl
  where
    none : Sized (promised f) []
    none = record { few = omega arith; even = tt }

    behind : (w : Parsed) → contours_in (layout (is_second f)) (promised f) true 0 (from_bit f 16) ≡ w → Sized (promised f) (read_contours w)
    behind (carries l) e = read_sized (is_second f) (promised f) true 0 (from_bit f 16) l e
    behind (damaged r) e = none

    go : (r : ℕ) → r ≡ head_damage f → Sized (promised f) (read_contours (parsed f))
    go zero e = subst (λ (w : Parsed). Sized (promised f) (read_contours w)) (sym (parsed_on (is_second f) f refl e)) (behind _ refl)
    go (suc r) e = rw (parsed_faulty f (suc r) e (λ z. omega arith)) none
