-- A text that is read from a character on.
use mathlib.Core.Path.{◌≡◌, refl}
use mathlib.Core.List.{List, [], ◌∷◌, ◌++◌}
use Prim.Native.Nat.{ℕ, ◌+◌, ◌≤◌, ◌<◌}
use native.Mathlib.Numerals.{add-one}
use lib.ListN.{length, get_or, drop, drop_of_length-le}
use lib.Seq.{drop-cons}
use Rattle.jobread.specs.Reading.{State, step, run}

pub run_next : (s : State) (t : List ℕ) (i : ℕ) → i < length t → run s (drop i t) ≡ run (step s (get_or t i 0)) (drop (i + 1) t)
unfolding run
run_next s t i h = rw (drop-cons t i 0 h, add-one i)

pub run_done : (s : State) (t : List ℕ) (i : ℕ) → length t ≤ i → s ≡ run s (drop i t)
unfolding run
run_done s t i h = rw (drop_of_length-le t {i = i} h)

pub run-append : (s : State) (a b : List ℕ) → run s (a ++ b) ≡ run (run s a) b
unfolding run
run-append s [] b = refl
run-append s (c ∷ a) b = run-append (step s c) a b
