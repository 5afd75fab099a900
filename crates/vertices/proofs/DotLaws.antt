-- The dots of vertices, by the marks of their points.
use mathlib.Core.Path.{◌≡◌, refl, sym, ◌∙◌, ap, ap₂}
use mathlib.Core.Bool.{Bool, false}
use mathlib.Core.List.{List, [], ◌∷◌, append_assoc, append-nil}
use Prim.Native.Nat.{ℕ, zero, suc, ◌*◌, ◌<◌}
use native.Mathlib.Omega.{arith}
use lib.Dec.{ltb}
use lib.ListN.{length, get_or, length-map}
use lib.IntN.{ℤ}
use Rattle.grid.specs.declared.Point.{Point}
use Rattle.grid.specs.Points.{at, origin, points}
use Rattle.grid.proofs.RowLaws.{points_count, points_at}
use Rattle.rows.proofs.PlacedLaws.{placed_none}
use Rattle.buffer.specs.Sets.{joined}
use Rattle.ring.specs.Walk.{removed}
use Rattle.report.specs.Text.{signed, space}
use Rattle.report.specs.inside.Lines.{Put}
use Rattle.vertices.specs.Vertices.{Vertex, vertices, dot}
use Rattle.vertices.specs.inside.Marks.{survive}

abbrev pub vertex : Point → Bool → Vertex
vertex p k = record { point = p; stays = k }

pub vertices-length : (ks : List Bool) (ps : List Point) → length ks ≡ length ps → length (vertices ks ps) ≡ length ks
unfolding vertices
vertices-length [] ps h = refl
vertices-length (k ∷ ks) [] h = absurd (omega arith)
vertices-length (k ∷ ks) (p ∷ ps) h = ap suc (vertices-length ks ps (omega arith))

vertices_at : (ks : List Bool) (ps : List Point) (i : ℕ) (d : Vertex) → i < length ks → length ks ≡ length ps → get_or (vertices ks ps) i d ≡ vertex (get_or ps i origin) (get_or ks i false)
unfolding vertices
vertices_at [] ps i d l h = absurd (omega arith)
vertices_at (k ∷ ks) [] i d l h = absurd (omega arith)
vertices_at (k ∷ ks) (p ∷ ps) zero d l h = refl
vertices_at (k ∷ ks) (p ∷ ps) (suc i) d l h = vertices_at ks ps i d (omega arith) (omega arith)

survive_at : (m : List ℕ) (i : ℕ) → i < length m → get_or (survive m) i false ≡ ltb (get_or m i 0) removed
survive_at [] i h = absurd (omega arith)
survive_at (x ∷ m) zero h = refl
survive_at (x ∷ m) (suc i) h = survive_at m i (omega arith)

-- a mark for each point of a row
module _ (row : List ℤ) (mark : List ℕ) (h : length row ≡ 2 * length mark) where
  as_many : length (survive mark) ≡ length (points row)
  as_many = omega (arith, length-map mark (λ (x : ℕ). ltb x removed), points_count row)

  pub marked-length : length (vertices (survive mark) (points row)) ≡ length mark
  marked-length = vertices-length (survive mark) (points row) as_many ∙ length-map mark (λ (x : ℕ). ltb x removed)

  pub marked_at : (i : ℕ) (d : Vertex) → i < length mark → get_or (vertices (survive mark) (points row)) i d ≡ vertex (at row i) (ltb (get_or mark i 0) removed)
  marked_at i d l =
      vertices_at (survive mark) (points row) i d (omega (arith, length-map mark (λ (x : ℕ). ltb x removed))) as_many
      ∙ ap₂ vertex (points_at row i (omega arith)) (survive_at mark i l)

-- nothing is put
pub nothing_put : (at : ℕ) (text : List ℕ) → Put at [] text at text
nothing_put at text = record { behind = omega arith; is = sym (placed_none text at) }

-- the words of a dot
pub dot_words : (p : Point) → dot p ≡ joined ((77 ∷ []) ∷ signed p.x ∷ space ∷ signed p.y ∷ (104 ∷ 48 ∷ []) ∷ [])
unfolding joined
dot_words p = simp (append_assoc, append-nil)
