-- The two editions of the set file, and a file of either, read.
use Rattle.std.specs.Prelude.{ℕ, zero, suc, Bool, true, false, not, ◌&&◌, List, [], ◌∷◌, length, ◌==◌, nat_lt}
use Rattle.replies.specs.Ladder.{Rung, first_of}
use Rattle.grid.specs.Limits.{limit, narrow}
use Rattle.setfile.specs.Entries.{Parsed}
use Rattle.setfile.specs.Entries.Parsed.{damaged}
use Rattle.setfile.specs.Layouts.{Layout, edition_of, read_in}
use Rattle.setfile.specs.Format.{edition_1}
use Rattle.setfile.specs.Edition2.{edition_2}

-- an edition, told by whether it is the second: its number
abbrev pub number : Bool → ℕ
number true = 2
number false = 1

-- how it lays out a contour
abbrev pub layout : Bool → Layout
layout true = edition_2
layout false = edition_1

-- how far its coordinates go: those of the first lie on the narrow grid
abbrev pub bound : Bool → ℕ
bound true = limit
bound false = narrow

-- whether a file is of the second
abbrev pub is_second : List ℕ → Bool
is_second f = edition_of f == 2

-- what is wrong with the head of a file: 10 under two bytes, 9 an edition but 1 and 2
abbrev pub bad_head : List ℕ → List Rung
bad_head f = (nat_lt (length f) 2, 10) ∷ (not (edition_of f == 1) && not (is_second f), 9) ∷ []

abbrev pub head_damage : List ℕ → ℕ
head_damage f = first_of (bad_head f)

-- a file, read
unfoldable pub parsed : List ℕ → Parsed
parsed f = elim (head_damage f) [ suc r ↦ damaged (suc r) | zero ↦ read_in (layout (is_second f)) f ]
