-- What the functions that read a file of either edition say to each other.
use Rattle.std.specs.Prelude.{Result, Ok, Err, ◌≡◌, ℕ, ◌+◌, ◌*◌, ◌/◌, ◌≤◌, Bool, true, false, not, ◌&&◌, List, [], ◌∷◌, ◌++◌, length, drop, ℤ, ◌==◌, nat_lt, slice_set}
use Rattle.grid.specs.Limits.{all_on_grid}
use Rattle.replies.specs.Ladder.{Rung, first_of, so_far}
use Rattle.grid.specs.Domain.{off}
use Rattle.buffer.specs.Sets.{joined}
use Rattle.steps.specs.Bodies.{body_size}
use Rattle.steps.specs.inside.Asked.{Width}
use Rattle.setfile.specs.declared.inner.headers.Header.{Header}
use Rattle.setfile.specs.declared.inner.judging.Met.{Met}
use Rattle.replies.specs.declared.refusal.Refusal.{Refusal}
use Rattle.replies.specs.Refusals.{number}
use Rattle.buffer.specs.declared.answer.Sizes.{Sizes}
use Rattle.setfile.specs.declared.inner.filling.Open.{Open}
use Rattle.bits.specs.Bits.{digit, bits}
use Rattle.setfile.specs.Entries.{Entry, contours_of, shapes_of, Parsed, damage, read_contours}
use Rattle.setfile.specs.Entries.Parsed.{carries, damaged}
use Rattle.setfile.specs.Layouts.{contours_in, edition_of}
use Rattle.setfile.specs.Format as Format
use Rattle.setfile.specs.Format.{begins, points_in}
use Rattle.setfile.specs.Edition2.{width_in}
use Rattle.setfile.specs.Editions.{layout, bound, is_second, bad_head, parsed}
use Rattle.setfile.specs.Reading.{most_bytes, long, refusals}

-- the refusals of a file's length and head, where edition 2 is taken too or not
abbrev pub refusals_where : Bool → List ℕ → List Rung
refusals_where either f =
    long (length f) ++ (nat_lt (length f) 2, 10) ∷ (not (edition_of f == 1) && not (either && is_second f), 9) ∷ []

-- where only edition 1 is taken
abbrev pub head_refusals : List ℕ → List Rung
head_refusals f = long (length f) ++ Format.bad_head f

-- and where either is
abbrev pub either_refusals : List ℕ → List Rung
either_refusals f = long (length f) ++ bad_head f

-- the contours of a file
abbrev pub contained : List ℕ → List Entry
contained f = read_contours (parsed f)

-- the bits of a file from a position on
abbrev pub from_bit : List ℕ → ℕ → List Bool
from_bit f at = drop at (bits f)

-- a position in the bits of a file; those of edition 1 are whole bytes
pub record At (second : Bool) (f : List ℕ) (at : ℕ) : Type 0 where
  pub short : length f ≤ most_bytes
  pub within : at ≤ 8 * length f
  pub whole : second ≡ false → 8 * (at / 8) ≡ at

-- how many bits the header of a contour has
abbrev pub header_size : Bool → ℕ
header_size true = 22
header_size false = 16

-- in how many bits a contour's numbers stand behind its first point
abbrev pub number_width : Bool → List Bool → ℕ
number_width true l = width_in l
number_width false l = 32

-- the header of the contour in front
abbrev pub header_in : Bool → List Bool → Header
header_in second l = record { begins = begins l; count = points_in l; width = number_width second l }

-- how many bits the contour of a header has
abbrev pub size_of : Bool → Header → ℕ
size_of true h = 22 + body_size h.count h.width
size_of false h = 16 + 64 * h.count

-- the points of the contour in front
abbrev pub front_points : Bool → List Bool → List ℤ
front_points second l = ((layout second).read l).points

-- the contour at a position is all there, in a width that is written
pub record Whole (second : Bool) (f : List ℕ) (at : ℕ) : Type 0 where
  pub here : At second f at
  pub headed : at + header_size second ≤ 8 * length f
  pub ends : at + (layout second).size (from_bit f at) ≤ 8 * length f
  pub wide : second ≡ true → Width (width_in (from_bit f at))

-- before the first contour
abbrev pub none_met : Met
none_met = record { at = 16; points = 0; shapes = 0; on = true }

-- one contour more, which stands in front of l
abbrev pub met_more : Bool → List Bool → Met → Met
met_more second l m = record {
  at = m.at + (layout second).size l;
  points = m.points + points_in l;
  shapes = m.shapes + digit (begins l);
  on = m.on && all_on_grid (bound second) (front_points second l);
}

-- what is met so far ends within the file, and its counts are no more than its bits
pub record Within (second : Bool) (f : List ℕ) (m : Met) : Type 0 where
  pub here : At second f m.at
  pub points_few : m.points ≤ m.at
  pub shapes_few : m.shapes ≤ m.at

-- what is judged of a file: its reply number, and its counts of points, contours and shapes
pub record Judged : Type 0 where
  pub reply : ℕ
  pub points : ℕ
  pub contours : ℕ
  pub shapes : ℕ

-- an answer of judging
abbrev pub judged : ℕ → ℕ → ℕ → ℕ → Judged
judged reply points contours shapes = record { reply = reply; points = points; contours = contours; shapes = shapes }

-- the sizes of a set, or its refusal
abbrev pub judged_as : Result Sizes Refusal → Judged
judged_as (Ok s) = judged 0 s.points s.contours s.shapes
judged_as (Err r) = judged (number r) 0 0 0

-- counts, or 3 where a coordinate is off the grid
abbrev pub counted_where : Bool → ℕ → ℕ → ℕ → Judged
counted_where true points contours shapes = judged 0 points contours shapes
counted_where false points contours shapes = judged 3 0 0 0

-- how many points contours have
abbrev pub points_of : List Entry → ℕ
points_of l = length (joined (contours_of l)) / 2

-- the answer, once this many contours are met and what is left is read so
abbrev pub summed : Bool → Met → ℕ → Parsed → Judged
summed second m n (damaged r) = judged r 0 0 0
summed second m n (carries l) =
    counted_where (m.on && all_on_grid (bound second) (joined (contours_of l)))
    (m.points + points_of l) (n + length l) (m.shapes + length (shapes_of l))

-- the refusals of a file of n bytes that is read so
abbrev pub refusals_of : Bool → ℕ → Parsed → List Rung
refusals_of second n w = long n ++ so_far (damage w) ++ off (bound second) (joined (contours_of (read_contours w)))

-- a file with n contours behind its head that can be read, all of them on the grid
pub record Readable (second : Bool) (f : List ℕ) (n : ℕ) : Type 0 where
  pub head : 2 ≤ length f
  pub short : length f ≤ most_bytes
  pub reads : contours_in (layout second) n true 0 (from_bit f 16) ≡ carries (contained f)
  pub on : all_on_grid (bound second) (joined (contours_of (contained f))) ≡ true

-- the counts of such a file
pub record Counts (second : Bool) (f : List ℕ) (r : Judged) : Type 0 where
  pub readable : Readable second f r.contours
  pub points : 2 * r.points ≡ length (joined (contours_of (contained f)))
  pub contours : r.contours ≡ length (contained f)
  pub shapes : r.shapes ≡ length (shapes_of (contained f))

-- the judgement of a file: its first refusal, or its counts
pub record Judgement (second : Bool) (f : List ℕ) (r : Judged) : Type 0 where
  pub reply : r.reply ≡ first_of (refusals f)
  pub counts : r.reply ≡ 0 → Counts second f r

-- the shape that is met, where contour i begins one or not
abbrev pub next_open : Bool → Open → ℕ → Open
next_open true s i = record { number = s.number + 1; from = i }
next_open false s i = s

-- the row, in which the shape before it is written where contour i begins one
abbrev pub closed : Bool → Open → ℕ → List (List ℕ) → List (List ℕ)
closed true s i row = slice_set row s.number (s.from ∷ i ∷ [])
closed false s i row = row
