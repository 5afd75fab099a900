-- What is said of shapes that are cleaned one after the other.
use Rattle.std.specs.Prelude.{ℕ, ◌+◌, ◌*◌, ◌^◌, ◌<◌, ◌≤◌, Bool, true, false, List, [], ◌∷◌, length, ℤ, ◌==◌, slice_index_or, slice_set}
use Rattle.grid.specs.Domain.{count}
use Rattle.ring.specs.declared.Rule.{Rule}
use Rattle.buffer.specs.declared.ranges.Span.{Span}
use Rattle.buffer.specs.Spans.{span, spans}
use Rattle.buffer.specs.Sets.{joined, shapes}
use Rattle.sets.specs.declared.inner.contour.Tried.{Tried}
use Rattle.sets.specs.declared.inner.shapes.Total.{Total}
use Rattle.sets.specs.inside.Contour.{Scratch, Reached, none_yet}
use Rattle.sets.specs.inside.Shape.{Room, Named, Going, Tested, run_shape}

-- the shapes, how many are written, and how far the cleaning has come
pub record Grouped : Type 0 where
  pub written : ℕ
  pub reached : Reached
  pub shapes : List (List ℕ)

abbrev pub grouped : ℕ → Reached → List (List ℕ) → Grouped
grouped written reached shapes = record { written = written; reached = reached; shapes = shapes }

-- a shape that was tried, behind those that are written
abbrev pub adding : Bool → Reached → Grouped → Grouped
adding true r s = grouped (s.written + 1) r (slice_set s.shapes s.written (s.reached.progress.contours ∷ r.progress.contours ∷ []))
adding false r s = grouped s.written r s.shapes

abbrev pub added : Tested → Grouped → Grouped
added t s = adding t.stands t.reached s

-- shapes one after the other
unfoldable pub run_shapes : Rule → List (List (List ℤ)) → Grouped → Grouped
run_shapes rule [] s = s
run_shapes rule (c ∷ l) s = run_shapes rule l (added (run_shape rule c s.reached) s)

-- a range more
pub record Groupable (at : Total) (groups : List (List ℕ)) : Type 0 where
  pub space : at.shapes < length groups
  pub narrow : (at.shapes + 1) * 16 < 2 ^ 64

-- a shape that can be cleaned behind what is written
pub record Addable (p : List ℤ) (ranges : List (List ℕ)) (at : Total) (next prev mark : List ℕ) (out : List ℤ) (records groups : List (List ℕ)) : Type 0 where
  pub going : Going p ranges at.progress next prev mark out records
  pub groupable : Groupable at groups

-- a span of a row's entries
pub record Within (row : List (List ℕ)) (s : Span) : Type 0 where
  pub forward : s.start ≤ s.end
  pub ends : s.end ≤ length row

-- shapes whose contours can be cleaned one after the other, from the front of the rows on
pub record Each (p : List ℤ) (cs ss : List (List ℕ)) (next prev mark : List ℕ) (out : List ℤ) (records groups : List (List ℕ)) : Type 0 where
  pub named : Named p cs
  pub scratch : Scratch (count p) next prev mark
  pub within : (k : ℕ) → k < length ss → Within cs (span (slice_index_or ss k []))
  pub room : Room (joined (shapes p (spans cs) (spans ss))) none_yet out records
  pub space : length ss ≤ length groups
  pub narrow : length ss * 16 < 2 ^ 64

-- the only shape of a set stands where it is written
abbrev pub only : Total → Tried
only at = record { stays = (at.shapes == 1); progress = at.progress }
