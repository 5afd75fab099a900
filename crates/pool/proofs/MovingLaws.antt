-- Records that move down by one, and their contours with them.
use mathlib.Core.Path.{◌≡◌, sym, ◌∙◌, ap}
use mathlib.Core.List.{List, [], map}
use Prim.Native.Nat.{ℕ, ◌+◌, ◌<◌}
use native.Mathlib.Omega.{arith}
use lib.ListN.{length, get_or, set, take, drop, length-map}
use lib.Seq.{paste}
use Rattle.std.proofs.lemmas.List.{get_or-map}
use Rattle.std.proofs.lemmas.List.Edits.{paste_more}
use Rattle.pool.specs.inside.Records.{lowered, Lowerable}
use Rattle.pool.proofs.RowLaws.{ahead, part_length, part_at}

module _ (row r : List (List ℕ)) (at d n i : ℕ) where
  -- i records have moved
  abbrev pub Lowered : Type 0
  Lowered = r ≡ paste row at (map (lowered d) (take n (drop (at + 1) row))) i

  module _ (l : Lowerable row at d n) (h : i < n) (e : Lowered) where
    long : length (map (lowered d) (take n (drop (at + 1) row))) ≡ n
    long = length-map (take n (drop (at + 1) row)) (lowered d) ∙ part_length row (at + 1) n l.there

    pub next_as_it_was : get_or r (at + 1 + i) [] ≡ get_or row (at + 1 + i) []
    next_as_it_was = rw e (ahead row at _ i (at + 1 + i) [] (omega (arith, l.there)) (omega (arith, long)) (omega arith))

    pub one_lowered : set r (at + i) (lowered d (get_or r (at + 1 + i) [])) ≡ paste row at (map (lowered d) (take n (drop (at + 1) row))) (i + 1)
    one_lowered =
        let read : get_or (map (lowered d) (take n (drop (at + 1) row))) i [] ≡ lowered d (get_or r (at + 1 + i) []) =
        get_or-map (lowered d) (take n (drop (at + 1) row)) i [] [] (omega (arith, part_length row (at + 1) n l.there))
        ∙ ap (lowered d) (part_at row (at + 1) n i [] h ∙ sym next_as_it_was) in
        ap (set r (at + i)) (sym read) ∙ ap (λ (k : List (List ℕ)). set k (at + i) (get_or (map (lowered d) (take n (drop (at + 1) row))) i [])) e
        ∙ paste_more row at _ i [] (omega (arith, l.there)) (omega (arith, long))
