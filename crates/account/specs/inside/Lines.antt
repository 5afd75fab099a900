-- What the inner functions say to each other.
use Rattle.std.specs.Prelude.{List, [], ℕ, ◌<◌, length, get_or}

-- a list whose numbers are those of a file's contours
abbrev pub Numbers : List (List ℕ) → Type 0
Numbers list = (i : ℕ) → i < length list → get_or (get_or list i []) 0 0 < 4095
