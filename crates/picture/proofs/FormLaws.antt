-- What is drawn is well formed.
use mathlib.Core.Path.{◌≡◌, refl, sym, ◌∙◌, ap, subst}
use mathlib.Core.Bool.{Bool, true, false, not, cond, ◌||◌}
use mathlib.Core.List.{List, [], ◌∷◌, ◌++◌, append_assoc, append-nil, map}
use Prim.Native.Nat.{ℕ, zero, suc, ◌+◌, ◌*◌, ◌/◌, ◌%◌, ◌≤◌, ◌<◌}
use native.Mathlib.Omega.{arith}
use lib.Dec.{eqb, leb}
use lib.IntN.{ℤ}
use lib.IntN.ℤ.{pos, negsuc}
use borrow.Author.Tests.{lt-ltb, le-leb, ne_eqb}
use Rattle.io.specs.Digits.{last_digits, hex_digit_ascii}
use Rattle.integers.proofs.Logic.{and_left, and_right, and_both}
use Rattle.buffer.specs.Sets.{joined}
use Rattle.report.specs.Text.{places, decimal, dash, space, line_end, signed}
use Rattle.grid.specs.declared.Point.{Point}
use Rattle.vertices.specs.Vertices.{Vertex, dot, asked, dot_if, dots}
use Rattle.picture.specs.declared.inner.frame.Extent.{Extent}
use Rattle.picture.specs.declared.inner.frame.Sizes.{Sizes}
use Rattle.picture.specs.Names.{svg, style, g, path, text, xmlns, view_box, transform, font_size, class, d, y, namespace, from_zero, translate, flipped, closed, in_micrometres, removed, kept, scale, from_here, below, tenth, hundredth, thousandth, mm, look}
use Rattle.picture.specs.Markup.{attribute, element, lone, all, in_text, in_value, Content, WellFormed}
use Rattle.picture.specs.Markup.Content.{nothing, words, alone, holding}
use Rattle.picture.specs.Frame.{to_origin, view, placing, scaling, bar, label}
use Rattle.picture.specs.Picture.{coordinate, coordinates, outline, outlines, shape, shapes, spots, all_spots, placed_job, placed_scale, drawn}

-- a text that may be a value
abbrev Fine : List ℕ → Type 0
Fine l = all in_value l ≡ true

fine_both : (a b : List ℕ) → Fine a → Fine b → Fine (a ++ b)
fine_both [] b h k = k
fine_both (c ∷ a) b h k = and_both (in_value c) _ (and_left (in_value c) _ h) (fine_both a b (and_right (in_value c) _ h) k)

-- it may be a text
fine_text : (l : List ℕ) → Fine l → all in_text l ≡ true
fine_text [] h = refl
fine_text (c ∷ l) h = and_both (in_text c) _ (and_left (in_text c) _ (and_left (in_value c) _ h)) (fine_text l (and_right (in_value c) _ h))

fine_joined : {A : Type 0} (word : A → List ℕ) → ((a : A) → Fine (word a)) → (l : List A) → Fine (joined (map word l))
unfolding joined
fine_joined word h [] = refl
fine_joined word h (a ∷ l) = fine_both (word a) _ (h a) (fine_joined word h l)

-- numbers
digit_fine : (k : ℕ) → 48 ≤ k → k ≤ 57 → in_value k ≡ true
digit_fine k h u =
    and_both _ _
    (and_both _ _ (ap (λ (t : Bool). t || eqb k 10) (and_both (leb 32 k) _ (le-leb 32 k (omega arith)) (le-leb k 126 (omega arith))))
    (and_both _ _ (ap not (ne_eqb k 38 (λ e. omega arith))) (ap not (ne_eqb k 60 (λ e. omega arith)))))
    (ap not (ne_eqb k 34 (λ e. omega arith)))

glyph_fine : (k : ℕ) → k < 10 → in_value (hex_digit_ascii k) ≡ true
glyph_fine k h = ap in_value (ap (λ (t : Bool). cond t (48 + k) (87 + k)) (lt-ltb k 10 h)) ∙ digit_fine (48 + k) (omega arith) (omega arith)

digits_fine : (k n : ℕ) → Fine (last_digits 10 k n)
digits_fine zero n = refl
digits_fine (suc k) n = fine_both (last_digits 10 k (n / 10)) (hex_digit_ascii (n % 10) ∷ []) (digits_fine k (n / 10)) (and_both (in_value (hex_digit_ascii (n % 10))) true (glyph_fine (n % 10) (omega arith)) refl)

decimal_fine : (n : ℕ) → Fine (decimal n)
unfolding decimal
decimal_fine n = digits_fine (places 19 n) n

signed_fine : (z : ℤ) → Fine (signed z)
signed_fine (pos n) = decimal_fine n
signed_fine (negsuc n) = fine_both dash (decimal (suc n)) refl (decimal_fine (suc n))

label_fine : (n : ℕ) → Fine (label n)
unfolding label tenth hundredth thousandth
label_fine n = go (leb 1000 n) (leb 100 n) (leb 10 n)
  where
    go : (a b c : Bool)
        → Fine (elim a [ true ↦ decimal (n / 1000) | false ↦ elim b [ true ↦ tenth | false ↦ elim c [ true ↦ hundredth | false ↦ thousandth ] ] ])
    go true b c = decimal_fine (n / 1000)
    go false true c = refl
    go false false true = refl
    go false false false = refl

-- the values of the attributes
outline_fine : (c : List ℤ) → Fine (outline c)
unfolding outline
outline_fine [] = refl
outline_fine (z ∷ c) =
    fine_both (77 ∷ coordinates (z ∷ c)) (90 ∷ []) (fine_joined coordinate (λ a. fine_both (signed a) space (signed_fine a) refl) (z ∷ c)) refl

view_fine : (s : Sizes) → Fine (view s)
unfolding from_zero
view_fine s =
    let w = decimal (s.width + 6 * s.letter) in
    let one = fine_both from_zero w refl (decimal_fine (s.width + 6 * s.letter)) in
    let two = fine_both (from_zero ++ w) space one refl in
    fine_both (from_zero ++ w ++ space) (decimal (s.height + 8 * s.letter)) two (decimal_fine (s.height + 8 * s.letter))

placing_fine : (e : Extent) (s : Sizes) → Fine (placing e s)
unfolding translate flipped closed
placing_fine e s =
    let m = decimal (3 * s.letter) in
    let x = signed (to_origin e).dx in
    let fine = decimal_fine (3 * s.letter) in
    let one = fine_both translate m refl fine in
    let two = fine_both (translate ++ m) space one refl in
    let three = fine_both (translate ++ m ++ space) m two fine in
    let four = fine_both (translate ++ m ++ space ++ m) flipped three refl in
    let five = fine_both (translate ++ m ++ space ++ m ++ flipped) x four (signed_fine (to_origin e).dx) in
    let six = fine_both (translate ++ m ++ space ++ m ++ flipped ++ x) space five refl in
    let seven = fine_both (translate ++ m ++ space ++ m ++ flipped ++ x ++ space) (signed (to_origin e).dy) six (signed_fine (to_origin e).dy) in
    fine_both (translate ++ m ++ space ++ m ++ flipped ++ x ++ space ++ signed (to_origin e).dy) closed seven refl

scaling_fine : (s : Sizes) → Fine (scaling s)
unfolding translate in_micrometres
scaling_fine s =
    let m = decimal s.letter in
    let v = decimal (s.height + 5 * s.letter) in
    let one = fine_both translate m refl (decimal_fine s.letter) in
    let two = fine_both (translate ++ m) space one refl in
    let three = fine_both (translate ++ m ++ space) v two (decimal_fine (s.height + 5 * s.letter)) in
    fine_both (translate ++ m ++ space ++ v) in_micrometres three refl

bar_fine : (n : ℕ) → Fine (from_here ++ decimal n)
unfolding from_here
bar_fine n = fine_both from_here (decimal n) refl (decimal_fine n)

-- what stands in the elements
on_a_line : {rest : List ℕ} → Content rest → Content (line_end ++ rest)
on_a_line c = words line_end refl c

text_alone : (l : List ℕ) → all in_text l ≡ true → Content l
text_alone l h = subst Content (append-nil l) (words l h nothing)

shape_content : (s : List (List ℤ)) {rest : List ℕ} → Content rest → Content (shape s ++ rest)
unfolding path d
shape_content s {rest} c =
    subst Content (sym (append_assoc (lone path (attribute d (outlines s) ∷ [])) line_end rest))
    (alone path (attribute d (outlines s) ∷ []) (refl, refl) ((refl, refl), fine_joined outline outline_fine s, refl, tt) (on_a_line c))

shapes_content : (l : List (List (List ℤ))) {rest : List ℕ} → Content rest → Content (shapes l ++ rest)
unfolding joined
shapes_content [] c = c
shapes_content (s ∷ l) {rest} c = subst Content (sym (append_assoc (shape s) (shapes l) rest)) (shape_content s (shapes_content l c))

dot_fine : (p : Point) → Fine (dot p)
dot_fine p =
    let x = signed p.x in
    let one = fine_both (77 ∷ x) space (signed_fine p.x) refl in
    let two = fine_both (77 ∷ x ++ space) (signed p.y) one (signed_fine p.y) in
    fine_both (77 ∷ x ++ space ++ signed p.y) (104 ∷ 48 ∷ []) two refl

dot_if_fine : (b : Bool) (v : Vertex) → Fine (dot_if b v)
dot_if_fine b v = go (asked b v)
  where
    go : (t : Bool) → Fine (elim t [ true ↦ dot v.point | false ↦ [] ])
    go true = dot_fine v.point
    go false = refl

spots_content : (name : List ℕ) (b : Bool) (l : List Vertex) {rest : List ℕ} → Fine name → Content rest → Content (spots name b l ++ rest)
unfolding path class d
spots_content name b l {rest} h c =
    subst Content (sym (append_assoc (lone path (attribute class name ∷ attribute d (dots b l) ∷ [])) line_end rest))
    (alone path (attribute class name ∷ attribute d (dots b l) ∷ []) (refl, refl) ((refl, refl), h, refl, ((refl, refl), fine_joined (dot_if b) (dot_if_fine b) l, refl, tt))
    (on_a_line c))

-- what is shown of a job
pub shown_content : (l : List (List (List ℤ))) (v : List Vertex) → Content (shapes l ++ all_spots v)
unfolding removed kept
shown_content l v = shapes_content l (spots_content removed false v refl (subst Content (append-nil (spots kept true v)) (spots_content kept true v refl nothing)))

-- parts one behind the other
five_parts : (a b c e f : List ℕ) → a ++ (b ++ (c ++ (e ++ f))) ≡ a ++ b ++ c ++ e ++ f
five_parts a b c e f = simp append_assoc

seven_parts : (a b c e f h k : List ℕ) → a ++ (b ++ (c ++ (e ++ (f ++ (h ++ k))))) ≡ a ++ b ++ c ++ e ++ f ++ h ++ k
seven_parts a b c e f h k = simp append_assoc

scale_content : (s : Sizes) {rest : List ℕ} → Content rest → Content (placed_scale s ++ rest)
unfolding g transform font_size path class d scale text y below mm
scale_content s c =
    let long = attribute class scale ∷ attribute d (from_here ++ decimal (bar s.width)) ∷ [] in
    let words = text_alone (label (bar s.width) ++ mm) (fine_text (label (bar s.width) ++ mm) (fine_both (label (bar s.width)) mm (label_fine (bar s.width)) refl)) in
    let inner =
    on_a_line
    (alone path long (refl, refl) ((refl, refl), refl, refl, ((refl, refl), bar_fine (bar s.width), refl, tt))
    (on_a_line (holding text (attribute y below ∷ []) (refl, refl) ((refl, refl), refl, refl, tt) words (on_a_line nothing)))) in
    holding g (attribute transform (scaling s) ∷ attribute font_size (decimal s.letter) ∷ []) (refl, refl)
    ((refl, refl), scaling_fine s, refl, ((refl, refl), decimal_fine s.letter, refl, tt))
    (subst Content (five_parts line_end (lone path long) line_end (element text (attribute y below ∷ []) (label (bar s.width) ++ mm)) line_end) inner) c

-- the picture, if what is drawn in it is
pub drawn_formed : (e : Extent) (s : Sizes) (inner : List ℕ) → Content inner → WellFormed (drawn e s inner)
unfolding svg style g xmlns view_box namespace transform look
drawn_formed e s inner c =
    let all_in =
    on_a_line
    (holding style [] (refl, refl) tt (text_alone look refl)
    (on_a_line
    (holding g (attribute transform (placing e s) ∷ []) (refl, refl) ((refl, refl), placing_fine e s, refl, tt) (on_a_line c)
    (on_a_line (scale_content s (on_a_line nothing)))))) in
    record {
      name = svg;
      attrs = attribute xmlns namespace ∷ attribute view_box (view s) ∷ [];
      inner = line_end ++ element style [] look ++ line_end ++ placed_job e s inner ++ line_end ++ placed_scale s ++ line_end;
      is = refl;
      named = (refl, refl);
      sound = ((refl, refl), refl, refl, ((refl, refl), view_fine s, refl, tt));
      content = subst Content (seven_parts line_end (element style [] look) line_end (placed_job e s inner) line_end (placed_scale s) line_end) all_in;
    }
