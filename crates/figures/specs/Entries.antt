-- What a contour and a refused set add to the figures, an entry each.
use mathlib.Core.List.{List, [], ◌∷◌, ◌++◌, map}
use Prim.Native.Nat.{ℕ, zero, suc}
use lib.ListN.{length}
use lib.IntN.{ℤ, pos}
use Rattle.grid.specs.Points.{points}
use Rattle.grid.specs.Area.{reported}
use Rattle.grid.specs.Domain.{count}
use Rattle.ring.specs.declared.Rule.{Rule}
use Rattle.ring.specs.Walk.{End}
use Rattle.ring.specs.Walk.End.{kept, collapsed}
use Rattle.clean.specs.Outcome.{walked}

-- the reply that it counts under, the points before and after, the decisions, and the doubled area of what is kept
pub record Entry : Type 0 where
  pub reply : ℕ
  pub before : ℕ
  pub after : ℕ
  pub decisions : ℕ
  pub area : ℤ

abbrev pub entry : ℕ → ℕ → ℕ → ℕ → ℤ → Entry
entry reply before after decisions area = record { reply = reply; before = before; after = after; decisions = decisions; area = area }

-- a contour, by the end of its walk: kept, with its reported doubled area, or collapsed
abbrev pub walk_entry : List ℤ → End → ℕ → Entry
walk_entry c (kept s) decisions = entry 0 (count c) (length s) decisions (reported (points c))
walk_entry c collapsed decisions = entry 7 (count c) 0 decisions (pos 0)

-- a contour that is cleaned alone, by the walk asked for
abbrev pub contour_entry : Rule → List ℤ → Entry
contour_entry rule c = walk_entry c (walked rule c).end (walked rule c).tally.decisions

-- a refused set, under its number only
abbrev pub refused_set : ℕ → Entry
refused_set number = entry number 0 0 0 (pos 0)

-- a set as a call finds it: the walk asked for, the number of its refusal, or 0, and its contours
pub record Found : Type 0 where
  pub rule : Rule
  pub refusal : ℕ
  pub contours : List (List ℤ)

-- the entries of a set, by the number of its refusal
abbrev pub entries_by : ℕ → Rule → List (List ℤ) → List Entry
entries_by zero rule cs = map (contour_entry rule) cs
entries_by (suc k) rule cs = refused_set (suc k) ∷ []

abbrev pub entries : Found → List Entry
entries s = entries_by s.refusal s.rule s.contours

-- the entries of a list of sets
unfoldable pub all_entries : List Found → List Entry
all_entries [] = []
all_entries (s ∷ l) = entries s ++ all_entries l
