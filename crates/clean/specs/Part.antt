-- The second call: the contour itself, or the written part of the output.
use Rattle.std.specs.Prelude.{true, false, ◌&&◌, ℕ, ◌*◌, eqb, ltb, leb, length}
use Rattle.rows.specs.Parts.{Part, first, none}

-- the contour itself if it has exactly 2k numbers; the output's first 2k if the contour has more and the output at least 2k; otherwise the empty part of the contour
unfoldable pub kept_part : Part → Part → ℕ → Part
kept_part contour out k =
    elim (eqb (length contour.numbers) (2 * k)) [
      | true ↦ contour
      | false ↦ elim (ltb (2 * k) (length contour.numbers) && leb (2 * k) (length out.numbers)) [ true ↦ first (2 * k) out | false ↦ none contour ]
    ]
