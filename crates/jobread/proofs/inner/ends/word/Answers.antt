-- `jobread::inner::ends::word` meets its contract: by the letter that is due.
use mathlib.Core.Path.{sym, ◌∙◌, ap}
use lib.ListN.{get_or}
use borrow.Author.Tests.{eq-eqb, ne_eqb}
use Rattle.jobtext.specs.Text.{word}
use Rattle.jobread.specs.declared.Reader.{Reader}
use Rattle.jobread.specs.Reading.{in_word}
use Rattle.jobread.specs.inside.Rows.{lines_of}
use Rattle.jobread.proofs.PlaceLaws.{letter_is, letter_due, word_ends}
use Rattle.jobread.proofs.inner.ends.word.Goals as goal

pub returns-in_default : goal.returns-in_default
unfolding in_word
returns-in_default c =
    let s = c.args in
    rw (eq-eqb (get_or (word s.begins) s.k 0) 0 (word_ends s.begins s.k c.in_default.ensures), in_word) c.behind.ensures

pub returns-then-c-due : goal.returns-then-c-due
unfolding in_word
returns-then-c-due c =
    let s = c.args in
    let e = c.in-Some.ensures in
    rw (
      ne_eqb (get_or (word s.begins) s.k 0) 0 (letter_due s.begins s.k _ e),
      eq-eqb s.c (get_or (word s.begins) s.k 0) (c.if-c-due.true ∙ sym (letter_is s.begins s.k _ e)),
      in_word,
    )
    (ap (λ (r : Reader). lines_of r s.contours.now s.shapes.now) c.moved.ensures)

pub returns : goal.returns
unfolding in_word
returns c =
    let s = c.args in
    let e = c.in-Some.ensures in
    rw (
      ne_eqb (get_or (word s.begins) s.k 0) 0 (letter_due s.begins s.k _ e),
      ne_eqb s.c (get_or (word s.begins) s.k 0) (λ z. c.if-c-due.false (z ∙ letter_is s.begins s.k _ e)),
      in_word,
    )
    (ap (λ (r : Reader). lines_of r s.contours.now s.shapes.now) c.moved-2.ensures)
