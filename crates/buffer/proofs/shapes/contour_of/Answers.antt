-- `buffer::shapes::contour_of` meets its contract.
use mathlib.Core.Path.{◌∙◌}
use borrow.Author.Rules.{rules}
use Rattle.rows.specs.Parts.{part}
use Rattle.buffer.proofs.PartLaws.{none_held, one_held}
use Rattle.buffer.proofs.shapes.contour_of.Goals as goal

pub returns-then-held-c : goal.returns-then-held-c
returns-then-held-c c =
    let s = c.args in
    none_held (part s.points) s.contours.now s.shapes.now s.s s.c _ c.contours_in.ensures _ c.unwrap_or-held.ensures c.if-held-c.true

pub offset_bounds-shapes-s : goal.offset_bounds-shapes-s
offset_bounds-shapes-s c =
    let s = c.args in
    let h = (one_held (part s.points) s.contours.now s.shapes.now s.s s.c _ c.contours_in.ensures _ c.unwrap_or-held.ensures c.if-held-c.false).shape in
    search rules

pub bounds-shapes-s : goal.bounds-shapes-s
bounds-shapes-s c =
    let s = c.args in
    (one_held (part s.points) s.contours.now s.shapes.now s.s s.c _ c.contours_in.ensures _ c.unwrap_or-held.ensures c.if-held-c.false).shape

pub overflow_add-first : goal.overflow_add-first
overflow_add-first c =
    let s = c.args in
    let h = (one_held (part s.points) s.contours.now s.shapes.now s.s s.c _ c.contours_in.ensures _ c.unwrap_or-held.ensures c.if-held-c.false).names.there in
    search rules

pub named-requires : goal.named-requires
named-requires c =
    let s = c.args in
    (one_held (part s.points) s.contours.now s.shapes.now s.s s.c _ c.contours_in.ensures _ c.unwrap_or-held.ensures c.if-held-c.false).names

pub returns : goal.returns
returns c =
    let s = c.args in
    c.named.ensures ∙ (one_held (part s.points) s.contours.now s.shapes.now s.s s.c _ c.contours_in.ensures _ c.unwrap_or-held.ensures c.if-held-c.false).is
