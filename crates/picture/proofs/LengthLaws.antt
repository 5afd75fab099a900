-- How long a picture can be.
use mathlib.Core.Path.{◌≡◌, refl, ◌∙◌, ap}
use mathlib.Core.Bool.{Bool, true, false}
use mathlib.Core.List.{List, [], ◌∷◌, ◌++◌}
use Prim.Native.Nat.{ℕ, suc, ◌+◌, ◌*◌, ◌/◌, ◌≤◌}
use native.Mathlib.Omega.{arith}
use lib.Dec.{leb}
use lib.ListN.{length, length-append}
use lib.IntN.{ℤ}
use lib.IntN.ℤ.{pos, negsuc}
use Rattle.buffer.specs.Sets.{joined}
use Rattle.buffer.proofs.SetLaws.{joined-append}
use Rattle.setfile.specs.Promises.{Filled}
use Rattle.report.specs.Text.{decimal, space, signed}
use Rattle.report.proofs.TextLaws.{decimal_short}
use Rattle.grid.specs.declared.Point.{Point}
use Rattle.vertices.specs.Vertices.{Vertex, vertices, dot, dot_if, dots}
use Rattle.vertices.proofs.DotLaws.{vertex}
use Rattle.picture.specs.declared.inner.frame.Extent.{Extent}
use Rattle.picture.specs.declared.inner.frame.Sizes.{Sizes}
use Rattle.picture.specs.Names.{svg, style, g, path, text, xmlns, view_box, transform, font_size, class, d, y, namespace, from_zero, translate, flipped, closed, in_micrometres, removed, kept, scale, from_here, below, tenth, hundredth, thousandth, mm, look}
use Rattle.picture.specs.Frame.{to_origin, bar, label}
use Rattle.picture.specs.inside.Parts.{before_view, before_placing, ended, offset, opening, before_scaling, before_letters, before_bar, before_label, behind_label, closing, before_removed, before_kept, left}
use Rattle.picture.specs.Picture.{coordinate, coordinates, outline, outlines, shape, shapes, all_spots}
use Rattle.picture.proofs.PartLaws.{spot_words}

signed_short : (z : ℤ) → length (signed z) ≤ 21
signed_short (pos n) = omega (arith, decimal_short n)
signed_short (negsuc n) = omega (arith, decimal_short (suc n))

coordinates-length : (c : List ℤ) → length (coordinates c) ≤ 22 * length c
unfolding joined
coordinates-length [] = omega arith
coordinates-length (z ∷ c) = omega (arith, length-append (coordinate z) (coordinates c), length-append (signed z) space, signed_short z, coordinates-length c)

outline-length : (c : List ℤ) → length (outline c) ≤ 22 * length c + 2
unfolding outline
outline-length [] = omega arith
outline-length (z ∷ c) = omega (arith, length-append (77 ∷ coordinates (z ∷ c)) (90 ∷ []), coordinates-length (z ∷ c))

outlines-length : (l : List (List ℤ)) → length (outlines l) ≤ 22 * length (joined l) + 2 * length l
unfolding joined
outlines-length [] = omega arith
outlines-length (c ∷ l) = omega (arith, length-append (outline c) (outlines l), outline-length c, outlines-length l, length-append c (joined l))

shape-length : (s : List (List ℤ)) → length (shape s) ≡ 13 + length (outlines s)
unfolding path d
shape-length s = simp length-append (omega arith)

pub shapes-length : (l : List (List (List ℤ))) → length (shapes l) ≤ 22 * length (joined (joined l)) + 2 * length (joined l) + 13 * length l
unfolding joined
shapes-length [] = omega arith
shapes-length (s ∷ l) =
    omega (
      arith,
      length-append (shape s) (shapes l),
      shape-length s,
      outlines-length s,
      shapes-length l,
      ap length (joined-append s (joined l)) ∙ length-append (joined s) (joined (joined l)),
      length-append s (joined l),
    )

pub filled_few : (l : List (List (List ℤ))) → Filled l → length l ≤ length (joined l)
unfolding joined
filled_few [] h = omega arith
filled_few (s ∷ l) h = omega (arith, h.0, filled_few l h.1, length-append s (joined l))

-- how long the beginning and the end are
beginning : (length before_view ≡ 53) × (length before_placing ≡ 327) × (length flipped ≡ 24) × (length (closed ++ ended) ≡ 4)
unfolding svg style g xmlns view_box transform namespace from_zero translate flipped closed look
beginning = (refl, refl, refl, refl)

parts_of_nine : (a w b h c m k o e : List ℕ)
    → length (((a ++ w) ++ (b ++ h)) ++ (((c ++ m) ++ (b ++ m)) ++ (k ++ (o ++ e))))
    ≡ length a + length w + length b + length h + length c + length m + length b + length m + length k + length o + length e
parts_of_nine a w b h c m k o e = simp length-append (omega arith)

pub opening-length : (e : Extent) (s : Sizes) → length (opening e s) ≤ 533
opening-length e s =
    let w = decimal (s.width + 6 * s.letter) in
    let h = decimal (s.height + 8 * s.letter) in
    let m = decimal (3 * s.letter) in
    let x = signed (to_origin e).dx in
    omega (
      arith,
      parts_of_nine before_view w space h before_placing m flipped (offset e) (closed ++ ended),
      beginning.0,
      beginning.1,
      beginning.2,
      beginning.3,
      length-append (x ++ space) (signed (to_origin e).dy),
      length-append x space,
      decimal_short (s.width + 6 * s.letter),
      decimal_short (s.height + 8 * s.letter),
      decimal_short (3 * s.letter),
      signed_short (to_origin e).dx,
      signed_short (to_origin e).dy,
    )

ending : (length before_scaling ≡ 29) × (length before_letters ≡ 27) × (length before_bar ≡ 31) × (length before_label ≡ 20) × (length behind_label ≡ 23)
unfolding svg g path text transform font_size class d y translate in_micrometres scale from_here below mm
ending = (refl, refl, refl, refl, refl)

label_short : (n : ℕ) → length (label n) ≤ 20
unfolding label tenth hundredth thousandth
label_short n = go (leb 1000 n) (leb 100 n) (leb 10 n)
  where
    go : (a b c : Bool)
        → length {A = ℕ} (elim a [ true ↦ decimal (n / 1000) | false ↦ elim b [ true ↦ tenth | false ↦ elim c [ true ↦ hundredth | false ↦ thousandth ] ] ]) ≤ 20
    go true b c = decimal_short (n / 1000)
    go false true c = omega arith
    go false false true = omega arith
    go false false false = omega arith

parts_of_ten : (a m b v c k l n t o : List ℕ)
    → length (((a ++ m) ++ (b ++ v)) ++ (((c ++ m) ++ (k ++ l)) ++ (n ++ (t ++ o))))
    ≡ length a + length m + length b + length v + length c + length m + length k + length l + length n + length t + length o
parts_of_ten a m b v c k l n t o = simp length-append (omega arith)

pub closing-length : (s : Sizes) → length (closing s) ≤ 231
closing-length s =
    omega (
      arith,
      parts_of_ten before_scaling (decimal s.letter) space (decimal (s.height + 5 * s.letter)) before_letters before_bar (decimal (bar s.width)) before_label
          (label (bar s.width)) behind_label,
      ending.0,
      ending.1,
      ending.2,
      ending.3,
      ending.4,
      decimal_short s.letter,
      decimal_short (s.height + 5 * s.letter),
      decimal_short (bar s.width),
      label_short (bar s.width),
    )

-- the dots of vertices, each of which is kept or not
dot-length : (p : Point) → length (dot p) ≤ 46
dot-length p =
    omega (
      arith,
      length-append (77 ∷ signed p.x ++ space ++ signed p.y) (104 ∷ 48 ∷ []),
      length-append (77 ∷ signed p.x ++ space) (signed p.y),
      length-append (77 ∷ signed p.x) space,
      signed_short p.x,
      signed_short p.y,
    )

dots-length : (l : List Vertex) → length (dots true l) + length (dots false l) ≤ 46 * length l
unfolding joined
dots-length [] = omega arith
dots-length (v ∷ l) =
    omega (arith, length-append (dot_if true v) (dots true l), length-append (dot_if false v) (dots false l), go v.stays, dots-length l)
  where
    go : (k : Bool) → length (dot_if true (vertex v.point k)) + length (dot_if false (vertex v.point k)) ≤ 46
    go true = omega (arith, dot-length v.point)
    go false = omega (arith, dot-length v.point)

spot_parts : (length before_removed ≡ 25) × (length before_kept ≡ 26) × (length left ≡ 4)
unfolding path class removed kept d
spot_parts = (refl, refl, refl)

parts_of_five : (a b c e f : List ℕ) → length (joined (a ∷ b ∷ c ∷ e ∷ f ∷ [])) ≡ length a + length b + length c + length e + length f
unfolding joined
parts_of_five a b c e f = simp length-append (omega arith)

pub spots-length : (l : List Vertex) → length (all_spots l) ≤ 55 + 46 * length l
spots-length l =
    omega (
      arith,
      ap length (spot_words l) ∙ parts_of_five before_removed (dots false l) before_kept (dots true l) left,
      spot_parts.0,
      spot_parts.1,
      spot_parts.2,
      dots-length l,
    )

pub vertices_few : (ks : List Bool) (ps : List Point) → length (vertices ks ps) ≤ length ps
unfolding vertices
vertices_few [] ps = omega arith
vertices_few (k ∷ ks) [] = omega arith
vertices_few (k ∷ ks) (p ∷ ps) = omega (arith, vertices_few ks ps)

pub parts_of_four : (a b c e : List ℕ) → length (joined (a ∷ b ∷ c ∷ e ∷ [])) ≡ length a + length b + length c + length e
unfolding joined
parts_of_four a b c e = simp length-append (omega arith)
