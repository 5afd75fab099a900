-- What the inner functions say to each other.
use Rattle.std.specs.Prelude.{◌≡◌, Bool, true, false, List, [], ◌∷◌, ◌++◌, ℕ, ◌+◌, ◌*◌, ◌≤◌, eqb, length, ℤ}
use Rattle.grid.specs.Domain.{count, Contour}
use Rattle.clean.specs.declared.cleaning.Cleaned.{Cleaned}
use Rattle.rows.specs.Rows.{placed}
use Rattle.buffer.specs.Sets.{joined}
use Rattle.setfile.specs.inside.Reading.{Readable}
use Rattle.report.specs.Text.{decimal, dash, space, line_end}
use Rattle.report.specs.Listing.{area2, most_listed, job}

-- a word was put into a text from position at on, and end is where it ends
pub record Put (at : ℕ) (word text : List ℕ) (end : ℕ) (exit : List ℕ) : Type 0 where
  pub behind : end ≡ at + length word
  pub is : exit ≡ placed at word text

-- a number, and the space behind it
abbrev pub cell : ℕ → List ℕ
cell n = decimal n ++ space

-- how many points a cleaning kept, or - where it answers that none are
unfoldable pub kept_text : Cleaned → List ℕ
kept_text r = elim (eqb r.reply 0) [ true ↦ decimal r.points | false ↦ dash ]

-- the line of a contour, by what was answered of its cleaning
unfoldable pub figures : ℕ → List ℤ → Cleaned → List ℕ
figures k c r = joined (cell k ∷ cell (count c) ∷ (kept_text r ++ space) ∷ cell r.decisions ∷ (area2 c ++ line_end) ∷ [])

-- contours of the domain
abbrev pub Contours : List (List ℤ) → Type 0
Contours [] = Unit {0}
Contours (c ∷ l) = Contour c (count c) × Contours l

-- a contour of the domain, with so few points, and room for cleaning it
pub record Cleanable (c : List ℤ) (next prev mark : List ℕ) : Type 0 where
  pub contour : Contour c (count c)
  pub few : count c ≤ most_listed
  pub in_next : count c ≤ length next
  pub in_prev : count c ≤ length prev
  pub in_mark : count c ≤ length mark

-- a file of n contours that is not refused
pub record Listable (second : Bool) (f : List ℕ) (n : ℕ) : Type 0 where
  pub readable : Readable second f n
  pub few : length (joined (job f)) ≤ 2 * most_listed
  pub sound : Contours (job f)

-- room for the points of such a file, and for cleaning them
pub record Roomy (points : List ℤ) (next prev mark : List ℕ) : Type 0 where
  pub in_points : 2 * most_listed ≤ length points
  pub in_next : most_listed ≤ length next
  pub in_prev : most_listed ≤ length prev
  pub in_mark : most_listed ≤ length mark
