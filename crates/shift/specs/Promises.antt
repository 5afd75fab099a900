-- What the theorems speak of: the requests of a shift, one after the other.
use mathlib.Core.List.{List, [], ◌∷◌}
use Rattle.pool.specs.Lists.{Entry}
use Rattle.shift.specs.Steps.{Request}
use Rattle.shift.specs.States.{after}
use Rattle.shift.specs.Replay.{State, next}

-- the plain list after requests
unfoldable pub run : List Request → List Entry → List Entry
run [] l = l
run (r ∷ h) l = run h (after r l)

-- the state after requests: the list, and the rows
unfoldable pub run_rows : List Request → State → State
run_rows [] s = s
run_rows (r ∷ h) s = run_rows h (next r s)
