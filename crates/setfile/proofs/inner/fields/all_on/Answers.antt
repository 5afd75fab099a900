-- `setfile::inner::fields::all_on` meets its contract: the bits show it, or each coordinate is asked.
use Rattle.std.proofs.Common.{◌≡◌, ℕ, ◌%◌, ◌<◌, ◌≤◌, ◌*◌, true, List, length, drop, sym, ap, ◌∙◌, subst, arith, length-drop}
use Rattle.std.specs.List.{fold, list_all}
use Rattle.std.specs.Simd.{first_chunks}
use Rattle.bits.proofs.WordLaws.{EachByte, byte_drop}
use Rattle.grid.specs.Limits.{narrow, on_grid, all_on_grid}
use Rattle.setfile.specs.inside.Bytes.{coordinate, raised, decoded}
use Rattle.setfile.proofs.FieldLaws.{decoded_words, all_words, words_on_grid}
use Rattle.setfile.proofs.inner.fields.all_on.Goals as goal

-- the coordinates of the words
module _ (k : ℕ) (f : List ℕ) (bytes : EachByte f) (room : 4 * k ≤ length f) where
  by_bits : (any : ℕ) → any ≡ fold raised 0 (first_chunks 4 k f) → any % 256 < 64 → all_on_grid narrow (decoded k f) ≡ true
  by_bits any e h =
      ap (all_on_grid narrow) (decoded_words k f bytes room) ∙ (words_on_grid 0 k f bytes (subst (λ (n : ℕ). n % 256 < 64) e h)).1

  one_by_one : list_all (λ w. on_grid narrow (coordinate w)) (first_chunks 4 k f) ≡ all_on_grid narrow (decoded k f)
  one_by_one = all_words narrow (first_chunks 4 k f) ∙ ap (all_on_grid narrow) (sym (decoded_words k f bytes room))

pub returns-then-raised_bits-lt64 : goal.returns-then-raised_bits-lt64
returns-then-raised_bits-lt64 c =
    let s = c.args in
    let room : 4 * s.k ≤ length (drop s.at s.bytes.now) = omega (arith, length-drop s.at s.bytes.now, c.requires) in
    sym (by_bits s.k (drop s.at s.bytes.now) (byte_drop s.at s.bytes.now (λ i. (c.type_inv.bytes i).fits)) room _
    (c.raised_bits.ensures ∙ ap (fold raised 0) c.words-words.ensures) c.if-raised_bits-lt64.true)

pub returns : goal.returns
returns c =
    let s = c.args in
    let room : 4 * s.k ≤ length (drop s.at s.bytes.now) = omega (arith, length-drop s.at s.bytes.now, c.requires) in
    c.each_on.ensures ∙ ap (list_all (λ w. on_grid narrow (coordinate w))) c.words-words.ensures
    ∙ one_by_one s.k (drop s.at s.bytes.now) (byte_drop s.at s.bytes.now (λ i. (c.type_inv.bytes i).fits)) room
