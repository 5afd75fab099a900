-- `setfile::inner::fields::words` meets its contract.
use Rattle.std.proofs.Common.{◌≡◌, ℕ, ◌+◌, ◌-◌, ◌*◌, ◌/◌, List, length, take, drop, ◌∙◌, arith, length-drop, length-take}
use Rattle.setfile.proofs.FieldLaws.{part_words}
use Rattle.setfile.proofs.inner.fields.words.Goals as goal

pub returns : goal.returns
returns c =
    let s = c.args in
    let f : List ℕ = drop s.at s.bytes.now in
    let part : s.at + 4 * s.k - s.at ≡ 4 * s.k = omega arith in
    let n : length (take (4 * s.k) f) / 4 ≡ s.k = omega (arith, length-take (4 * s.k) f, length-drop s.at s.bytes.now, c.requires) in
    let h = c.as_chunks.ensures.front in
    rw part at h ∙ rw n (part_words s.k f)
