-- `setfile::inner::fields::coordinates` meets its contract: what is still to be written loses its first.
use Rattle.std.proofs.Common.{◌≡◌, ℕ, ◌+◌, ◌<◌, ◌≤◌, List, [], ◌∷◌, map, length, get_or, drop, ℤ, ap, ◌∙◌, sym, subst, add-one, arith, length-drop, drop-cons, drop_of_length-le}
use lib.ListN.{length-map}
use Rattle.bits.proofs.WordLaws.{byte_drop}
use Rattle.rows.specs.Rows.{placed}
use Rattle.setfile.specs.inside.Bytes.{coordinate}
use Rattle.setfile.proofs.AheadLaws.{Ahead, ahead_all, ahead_none}
use Rattle.setfile.proofs.FieldLaws.{decoded_words, words-length}
use Rattle.setfile.proofs.inner.fields.coordinates.Goals as goal

-- the coordinates of words from number i on: the next of them, or none
next : (l : List (List ℕ)) (i : ℕ) → i < length l → map coordinate (drop i l) ≡ coordinate (get_or l i []) ∷ map coordinate (drop (i + 1) l)
next l i h = rw (drop-cons l i [] h, add-one i)

none : (l : List (List ℕ)) (i : ℕ) → length l ≤ i → map coordinate (drop i l) ≡ []
none l i h = rw (drop_of_length-le l {i = i} h)

pub loop-i-init : goal.loop-i-init
loop-i-init c =
    let s = c.args in
    let l : List (List ℕ) = c.words-words.result.now in
    let n : length l ≡ s.k = ap length c.words-words.ensures ∙ words-length s.k (drop s.at s.bytes.now) in
    let a : s.to ≡ s.to + 0 = omega arith in
    subst (λ (n : ℕ). Ahead s.out.now (placed s.to (map coordinate l) s.out.now) n (map coordinate l) s.out.now) a
    (ahead_all s.out.now (map coordinate l) s.to (omega (arith, length-map l coordinate, n, c.requires.1)))

pub returns : goal.returns
returns c =
    let s = c.args in
    let f : List ℕ = drop s.at s.bytes.now in
    let l : List (List ℕ) = c.words-words.result.now in
    let e = decoded_words s.k f (byte_drop s.at s.bytes.now (λ i. (c.type_inv.bytes i).fits)) (omega (arith, length-drop s.at s.bytes.now, c.requires.0)) in
    ahead_none (subst (λ (p : List ℤ). Ahead s.out.now (placed s.to (map coordinate l) s.out.now) (s.to + c.loop-i.i) p c.loop-i.out) (none l c.loop-i.i (omega arith)) c.loop-i.invariant)
    ∙ ap (λ (p : List ℤ). placed s.to p s.out.now) (ap (map coordinate) c.words-words.ensures ∙ sym e)
