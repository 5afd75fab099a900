-- What is dumped of a file, by its first refusal.
use mathlib.Core.Path.{◌≡◌, refl, sym, ap}
use mathlib.Core.Bool.{Bool}
use mathlib.Core.List.{List, ◌++◌}
use Prim.Native.Nat.{ℕ, zero, suc}
use Rattle.replies.specs.Ladder.{first_of}
use Rattle.setfile.specs.Editions.{is_second}
use Rattle.setfile.specs.Reading.{refusals}
use Rattle.setfile.specs.inside.Reading.{contained}
use Rattle.report.specs.Text.{decimal, line_end, refused}
use Rattle.jobtext.specs.Text.{text, dumped_by, dumped}

pub dumped_refused : (f : List ℕ) (k : ℕ) → k ≡ first_of (refusals f) → (k ≡ 0 → ⊥) → dumped f ≡ refused ++ decimal k ++ line_end
unfolding dumped
dumped_refused f zero e n = absurd (n refl)
dumped_refused f (suc k) e n = ap (λ (r : ℕ). dumped_by r f) (sym e)

pub dumped_done : (f : List ℕ) → first_of (refusals f) ≡ 0 → dumped f ≡ text (is_second f) (contained f)
unfolding dumped
dumped_done f e = ap (λ (r : ℕ). dumped_by r f) e

pub dumped_as : {s : Bool} (f : List ℕ) → s ≡ is_second f → 0 ≡ first_of (refusals f) → dumped f ≡ text s (contained f)
dumped_as f own e = rw own (dumped_done f (sym e))
