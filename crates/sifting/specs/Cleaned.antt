-- A pool that is cleaned by a rule, as a plain list of contours.
use mathlib.Core.List.{List, [], ◌∷◌}
use Prim.Native.Nat.{ℕ, ◌+◌}
use Rattle.ring.specs.declared.Rule.{Rule}
use Rattle.pool.specs.Lists.{Entry, entry}
use Rattle.sets.specs.Fates.{Fate, fate}
use Rattle.sets.specs.Fates.Fate.{stays, gone}

-- a pool that is cleaned: the contours that are kept, in their order, after so many decisions
pub record Cleaned : Type 0 where
  pub pool : List Entry
  pub decisions : ℕ

-- a contour's fate in front of the others': one that stays keeps its press and its tool
abbrev pub and_later : Entry → Fate → Cleaned → Cleaned
and_later e (stays c t) k = record { pool = entry e.press e.tool c ∷ k.pool; decisions = t.decisions + k.decisions }
and_later e (gone t) k = record { pool = k.pool; decisions = t.decisions + k.decisions }

-- each contour by itself, of both presses: one that passes is left as it is, one that collapses or is empty leaves
unfoldable pub cleaned : Rule → List Entry → Cleaned
cleaned rule [] = record { pool = []; decisions = 0 }
cleaned rule (e ∷ l) = and_later e (fate rule e.contour) (cleaned rule l)
