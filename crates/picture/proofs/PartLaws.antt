-- A picture, word by word.
use mathlib.Core.Path.{◌≡◌, refl, sym, ◌∙◌, ap, ap₂}
use mathlib.Core.Bool.{Bool, true, false}
use mathlib.Core.List.{List, [], ◌∷◌, ◌++◌, append_assoc, append-nil}
use Prim.Native.Nat.{ℕ, zero, suc, ◌+◌, ◌*◌}
use native.Mathlib.Omega.{arith}
use lib.ListN.{length}
use lib.IntN.{ℤ}
use Rattle.report.specs.Text.{decimal, signed, space}
use Rattle.vertices.specs.Vertices.{Vertex, dots}
use Rattle.buffer.specs.Sets.{joined}
use Rattle.buffer.proofs.SetLaws.{joined-append}
use Rattle.picture.specs.declared.inner.frame.Extent.{Extent}
use Rattle.picture.specs.declared.inner.frame.Sizes.{Sizes}
use Rattle.picture.specs.Names.{svg, style, g, path, text, xmlns, view_box, transform, font_size, class, d, y, namespace, from_zero, translate, flipped, closed, in_micrometres, removed, kept, scale, from_here, below, mm, look}
use Rattle.picture.specs.Frame.{to_origin, bar, label}
use Rattle.picture.specs.Picture.{all_spots, drawn, coordinates, outline}
use Rattle.picture.specs.inside.Parts.{before_view, before_placing, ended, offset, opening, before_scaling, before_letters, before_bar, before_label, behind_label, closing, before_removed, before_kept, left, path_begun, before}

-- words in groups
data Group : Type 0 where
  none : Group
  word : List ℕ → Group
  both : Group → Group → Group

-- their text, and the words one by one
abbrev text_of : Group → List ℕ
text_of none = []
text_of (word w) = w
text_of (both a b) = text_of a ++ text_of b

abbrev words_of : Group → List (List ℕ)
words_of none = []
words_of (word w) = w ∷ []
words_of (both a b) = words_of a ++ words_of b

-- however they are grouped, they stand one behind the other
ungrouped : (a : Group) → text_of a ≡ joined (words_of a)
unfolding joined
ungrouped none = refl
ungrouped (word w) = sym (append-nil w)
ungrouped (both a b) = ap₂ (λ (l m : List ℕ). l ++ m) (ungrouped a) (ungrouped b) ∙ sym (joined-append (words_of a) (words_of b))

-- what is drawn stands between its beginning and its end
pub drawn_parts : (e : Extent) (s : Sizes) (inner : List ℕ) → drawn e s inner ≡ joined (opening e s ∷ inner ∷ closing s ∷ [])
unfolding joined
drawn_parts e s inner =
    ungrouped (both (both (both (both (both (both (word (60 ∷ [])) (word svg)) (both (both (both (both (word (32 ∷ [])) (word xmlns)) (both (word (61 ∷ [])) (both (word (34 ∷ [])) (word namespace)))) (word (34 ∷ []))) (both (both (both (both (word (32 ∷ [])) (word view_box)) (both (word (61 ∷ [])) (both (word (34 ∷ [])) (both (both (both (word from_zero) (word (decimal (s.width + 6 * s.letter)))) (word (32 ∷ []))) (word (decimal (s.height + 8 * s.letter))))))) (word (34 ∷ []))) none))) (both (word (62 ∷ [])) (both (both (both (both (both (both (word (10 ∷ [])) (both (both (both (both (both (word (60 ∷ [])) (word style)) none) (both (word (62 ∷ [])) (word look))) (both (word (60 ∷ [])) (both (word (47 ∷ [])) (word style)))) (word (62 ∷ [])))) (word (10 ∷ []))) (both (both (both (both (both (word (60 ∷ [])) (word g)) (both (both (both (both (word (32 ∷ [])) (word transform)) (both (word (61 ∷ [])) (both (word (34 ∷ [])) (both (both (both (both (both (both (both (both (word translate) (word (decimal (3 * s.letter)))) (word (32 ∷ []))) (word (decimal (3 * s.letter)))) (word flipped)) (word (signed (to_origin e).dx))) (word (32 ∷ []))) (word (signed (to_origin e).dy))) (word closed))))) (word (34 ∷ []))) none)) (both (word (62 ∷ [])) (both (word (10 ∷ [])) (word inner)))) (both (word (60 ∷ [])) (both (word (47 ∷ [])) (word g)))) (word (62 ∷ [])))) (word (10 ∷ []))) (both (both (both (both (both (word (60 ∷ [])) (word g)) (both (both (both (both (word (32 ∷ [])) (word transform)) (both (word (61 ∷ [])) (both (word (34 ∷ [])) (both (both (both (both (word translate) (word (decimal s.letter))) (word (32 ∷ []))) (word (decimal (s.height + 5 * s.letter)))) (word in_micrometres))))) (word (34 ∷ []))) (both (both (both (both (word (32 ∷ [])) (word font_size)) (both (word (61 ∷ [])) (both (word (34 ∷ [])) (word (decimal s.letter))))) (word (34 ∷ []))) none))) (both (word (62 ∷ [])) (both (both (both (both (word (10 ∷ [])) (both (both (both (word (60 ∷ [])) (word path)) (both (both (both (both (word (32 ∷ [])) (word class)) (both (word (61 ∷ [])) (both (word (34 ∷ [])) (word scale)))) (word (34 ∷ []))) (both (both (both (both (word (32 ∷ [])) (word d)) (both (word (61 ∷ [])) (both (word (34 ∷ [])) (both (word from_here) (word (decimal (bar s.width))))))) (word (34 ∷ []))) none))) (both (word (47 ∷ [])) (word (62 ∷ []))))) (word (10 ∷ []))) (both (both (both (both (both (word (60 ∷ [])) (word text)) (both (both (both (both (word (32 ∷ [])) (word y)) (both (word (61 ∷ [])) (both (word (34 ∷ [])) (word below)))) (word (34 ∷ []))) none)) (both (word (62 ∷ [])) (both (word (label (bar s.width))) (word mm)))) (both (word (60 ∷ [])) (both (word (47 ∷ [])) (word text)))) (word (62 ∷ [])))) (word (10 ∷ []))))) (both (word (60 ∷ [])) (both (word (47 ∷ [])) (word g)))) (word (62 ∷ [])))) (word (10 ∷ []))))) (both (word (60 ∷ [])) (both (word (47 ∷ [])) (word svg)))) (word (62 ∷ []))) (word (10 ∷ [])))
    ∙ sym (ungrouped (both (both (both (both (both (both (both (both (word (60 ∷ [])) (word svg)) (both (both (both (both (word (32 ∷ [])) (word xmlns)) (both (word (61 ∷ [])) (both (word (34 ∷ [])) (word namespace)))) (word (34 ∷ []))) none)) (both (both (word (32 ∷ [])) (word view_box)) (both (word (61 ∷ [])) (word (34 ∷ []))))) (word from_zero)) (word (decimal (s.width + 6 * s.letter)))) (both (word (32 ∷ [])) (word (decimal (s.height + 8 * s.letter))))) (both (both (both (both (both (both (both (both (both (both (word (34 ∷ [])) (word (62 ∷ []))) (word (10 ∷ []))) (both (both (both (both (both (word (60 ∷ [])) (word style)) none) (both (word (62 ∷ [])) (word look))) (both (word (60 ∷ [])) (both (word (47 ∷ [])) (word style)))) (word (62 ∷ [])))) (word (10 ∷ []))) (both (word (60 ∷ [])) (word g))) (both (both (word (32 ∷ [])) (word transform)) (both (word (61 ∷ [])) (word (34 ∷ []))))) (word translate)) (word (decimal (3 * s.letter)))) (both (word (32 ∷ [])) (word (decimal (3 * s.letter))))) (both (word flipped) (both (both (both (word (signed (to_origin e).dx)) (word (32 ∷ []))) (word (signed (to_origin e).dy))) (both (word closed) (both (both (word (34 ∷ [])) (word (62 ∷ []))) (word (10 ∷ [])))))))) (both (word inner) (both (both (both (both (both (both (both (both (word (60 ∷ [])) (both (word (47 ∷ [])) (word g))) (both (word (62 ∷ [])) (both (word (10 ∷ [])) (both (word (60 ∷ [])) (word g))))) (both (both (word (32 ∷ [])) (word transform)) (both (word (61 ∷ [])) (word (34 ∷ []))))) (word translate)) (word (decimal s.letter))) (both (word (32 ∷ [])) (word (decimal (s.height + 5 * s.letter))))) (both (both (both (both (word in_micrometres) (both (word (34 ∷ [])) (both (both (word (32 ∷ [])) (word font_size)) (both (word (61 ∷ [])) (word (34 ∷ [])))))) (word (decimal s.letter))) (both (both (both (both (both (both (both (word (34 ∷ [])) (word (62 ∷ []))) (word (10 ∷ []))) (both (word (60 ∷ [])) (word path))) (both (both (both (both (word (32 ∷ [])) (word class)) (both (word (61 ∷ [])) (both (word (34 ∷ [])) (word scale)))) (word (34 ∷ []))) none)) (both (both (word (32 ∷ [])) (word d)) (both (word (61 ∷ [])) (word (34 ∷ []))))) (word from_here)) (word (decimal (bar s.width))))) (both (both (both (both (both (both (both (word (34 ∷ [])) (word (47 ∷ []))) (word (62 ∷ []))) (word (10 ∷ []))) (both (word (60 ∷ [])) (word text))) (both (both (both (both (word (32 ∷ [])) (word y)) (both (word (61 ∷ [])) (both (word (34 ∷ [])) (word below)))) (word (34 ∷ []))) none)) (word (62 ∷ []))) (both (word (label (bar s.width))) (both (both (both (both (word mm) (both (word (60 ∷ [])) (both (word (47 ∷ [])) (word text)))) (both (word (62 ∷ [])) (both (word (10 ∷ [])) (both (word (60 ∷ [])) (both (word (47 ∷ [])) (word g)))))) (both (word (62 ∷ [])) (both (word (10 ∷ [])) (both (word (60 ∷ [])) (both (word (47 ∷ [])) (word svg)))))) (both (word (62 ∷ [])) (word (10 ∷ [])))))))) none))))

-- the words of its beginning, and of its end
pub opening_words : (e : Extent) (s : Sizes) → opening e s
    ≡ joined
    (((before_view ++ decimal (s.width + 6 * s.letter)) ++ (space ++ decimal (s.height + 8 * s.letter)))
    ∷ ((before_placing ++ decimal (3 * s.letter)) ++ (space ++ decimal (3 * s.letter)))
    ∷ flipped ∷ offset e ∷ (closed ++ ended) ∷ [])
unfolding joined
opening_words e s = simp append-nil

pub closing_words : (s : Sizes) → closing s
    ≡ joined
    (((before_scaling ++ decimal s.letter) ++ (space ++ decimal (s.height + 5 * s.letter)))
    ∷ ((before_letters ++ decimal s.letter) ++ (before_bar ++ decimal (bar s.width)))
    ∷ before_label ∷ label (bar s.width) ∷ behind_label ∷ [])
unfolding joined
closing_words s = simp append-nil

-- the words of the vertices
pub spot_words : (v : List Vertex) → all_spots v ≡ joined (before_removed ∷ dots false v ∷ before_kept ∷ dots true v ∷ left ∷ [])
unfolding joined
spot_words v =
    ungrouped (both (both (both (both (both (word (60 ∷ [])) (word path)) (both (both (both (both (word (32 ∷ [])) (word class)) (both (word (61 ∷ [])) (both (word (34 ∷ [])) (word removed)))) (word (34 ∷ []))) (both (both (both (both (word (32 ∷ [])) (word d)) (both (word (61 ∷ [])) (both (word (34 ∷ [])) (word (dots false v))))) (word (34 ∷ []))) none))) (both (word (47 ∷ [])) (word (62 ∷ [])))) (word (10 ∷ []))) (both (both (both (both (word (60 ∷ [])) (word path)) (both (both (both (both (word (32 ∷ [])) (word class)) (both (word (61 ∷ [])) (both (word (34 ∷ [])) (word kept)))) (word (34 ∷ []))) (both (both (both (both (word (32 ∷ [])) (word d)) (both (word (61 ∷ [])) (both (word (34 ∷ [])) (word (dots true v))))) (word (34 ∷ []))) none))) (both (word (47 ∷ [])) (word (62 ∷ [])))) (word (10 ∷ []))))
    ∙ sym (ungrouped (both (both (both (both (word (60 ∷ [])) (word path)) (both (both (both (both (word (32 ∷ [])) (word class)) (both (word (61 ∷ [])) (both (word (34 ∷ [])) (word removed)))) (word (34 ∷ []))) none)) (both (both (word (32 ∷ [])) (word d)) (both (word (61 ∷ [])) (word (34 ∷ []))))) (both (word (dots false v)) (both (both (both (both (both (both (both (word (34 ∷ [])) (word (47 ∷ []))) (word (62 ∷ []))) (word (10 ∷ []))) (both (word (60 ∷ [])) (word path))) (both (both (both (both (word (32 ∷ [])) (word class)) (both (word (61 ∷ [])) (both (word (34 ∷ [])) (word kept)))) (word (34 ∷ []))) none)) (both (both (word (32 ∷ [])) (word d)) (both (word (61 ∷ [])) (word (34 ∷ []))))) (both (word (dots true v)) (both (both (both (both (word (34 ∷ [])) (word (47 ∷ []))) (word (62 ∷ []))) (word (10 ∷ []))) none))))))

-- what is drawn, with shapes and vertices
pub shown_parts : (e : Extent) (s : Sizes) (a b : List ℕ) → drawn e s (a ++ b) ≡ joined (opening e s ∷ a ∷ b ∷ closing s ∷ [])
unfolding joined
shown_parts e s a b = drawn_parts e s (a ++ b) ∙ ap (λ (l : List ℕ). opening e s ++ l) (append_assoc a b (closing s ++ []))

-- what stands before a contour
pub before_none : (b : Bool) (i : ℕ) → b ≡ false → before b i ≡ []
unfolding before
before_none b i e = ap (λ (t : Bool). before t i) e

pub before_first : (b : Bool) (i : ℕ) → b ≡ true → i ≡ 0 → before b i ≡ path_begun
unfolding before
before_first b i e z = ap (λ (t : Bool). before t i) e ∙ ap (before true) z

pub before_later : (b : Bool) (i : ℕ) → b ≡ true → (i ≡ 0 → ⊥) → before b i ≡ left ++ path_begun
unfolding before
before_later b zero e z = absurd (z refl)
before_later b (suc i) e z = ap (λ (t : Bool). before t (suc i)) e

-- a contour's part of a path
pub outline_none : (c : List ℤ) → length c ≡ 0 → outline c ≡ []
unfolding outline
outline_none [] e = refl
outline_none (z ∷ c) e = absurd (omega arith)

pub outline_words : (c : List ℤ) → (length c ≡ 0 → ⊥) → outline c ≡ joined ((77 ∷ []) ∷ coordinates c ∷ (90 ∷ []) ∷ [])
unfolding outline joined
outline_words [] e = absurd (e refl)
outline_words (z ∷ c) e = simp (append_assoc, append-nil)
