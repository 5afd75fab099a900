-- What the program `pack` makes of a text: the file of its job, or why there is none, in words.
use Rattle.std.specs.Prelude.{Bool, true, false, List, [], ◌∷◌, ◌++◌, ℕ, zero, suc, ◌+◌, eqb, ltb, length, get_or, ℤ}
use Rattle.replies.specs.Ladder.{first_of}
use Rattle.replies.specs.Refusals.{number}
use Rattle.rows.specs.Rows.{front}
use Rattle.setfile.specs.Promises.{edition_file, write_refusals}
use Rattle.report.specs.Text.{decimal, line_end, refused}
use Rattle.jobpack.specs.declared.Lengths.{Lengths}
use Rattle.jobread.specs.declared.Place.{Place}
use Rattle.jobread.specs.declared.Place.TheVariants.{Head, Start, Word, Space, Dash, Number, NoHead, NoLine, Refused}
use Rattle.jobread.specs.Reading.{State, run, nothing}

-- damaged, a colon, line, and a space
abbrev pub damaged : List ℕ
damaged = 100 ∷ 97 ∷ 109 ∷ 97 ∷ 103 ∷ 101 ∷ 100 ∷ 58 ∷ 32 ∷ 108 ∷ 105 ∷ 110 ∷ 101 ∷ 32 ∷ []

-- a file, and what is said
pub record Packed : Type 0 where
  pub file : List ℕ
  pub words : List ℕ

-- no file: a job is refused with this number
abbrev pub refusing : ℕ → Packed
refusing r = record { file = []; words = refused ++ decimal r ++ line_end }

-- no file: this line is none of a job
abbrev pub damaging : ℕ → Packed
damaging line = record { file = []; words = damaged ++ decimal line ++ line_end }

-- by the number of the writer's first refusal, the file
abbrev pub written : ℕ → List ℕ → Packed
written (suc r) f = refusing (suc r)
written zero f = record { file = f; words = [] }

-- the file of a set in an edition
abbrev pub set_packed : Bool → List ℤ → List (List ℕ) → List (List ℕ) → Packed
set_packed second p cs ss = written (first_of (write_refusals second p cs ss)) (edition_file second p cs ss)

-- by where its reader is at the end of a text: each line but the first is of one contour
abbrev pub packed_at : Place → Bool → State → Packed
packed_at (Head k) second s = damaging 1
packed_at Start second s = set_packed second s.points s.lines.contours s.lines.shapes
packed_at (Word b k) second s = damaging (s.lines.reader.contours + 2)
packed_at Space second s = damaging (s.lines.reader.contours + 2)
packed_at Dash second s = damaging (s.lines.reader.contours + 2)
packed_at (Number below size) second s = damaging (s.lines.reader.contours + 2)
packed_at NoHead second s = damaging 1
packed_at NoLine second s = damaging (s.lines.reader.contours + 2)
packed_at (Refused r) second s = refusing (number r)

-- whether a text says that its edition is the second
abbrev pub says_second : List ℕ → Bool
says_second t = eqb (get_or t 8 0) 50

-- as long as the longest text of a file
abbrev pub longest : ℕ
longest = 1597444

-- what is made of a text; 2 for one that is too long
unfoldable pub packed : List ℕ → Packed
packed t =
    elim (ltb longest (length t)) [
      | true ↦ refusing 2
      | false ↦ packed_at (run nothing t).lines.reader.place (says_second t) (run nothing t)
    ]

-- both lengths, and both rows as they are left
pub record Outcome : Type 0 where
  pub lengths : Lengths
  pub bytes : List ℕ
  pub words : List ℕ

abbrev pub leaving : Lengths → List ℕ → List ℕ → Outcome
leaving r bytes words = record { lengths = r; bytes = bytes; words = words }

-- the file in front of one row, and the words in front of the other
abbrev pub outcome : Packed → List ℕ → List ℕ → Outcome
outcome p out words = leaving (record { bytes = length p.file; words = length p.words }) (front p.file out) (front p.words words)

-- what is left of a text, in front of both rows
unfoldable pub packing : List ℕ → List ℕ → List ℕ → Outcome
packing t out words = outcome (packed t) out words
