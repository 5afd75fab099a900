-- Contours gathered into shapes, and shapes taken apart again.
use Rattle.std.proofs.Common.{◌≡◌, ◌<◌, Bool, true, false, List, [], ◌∷◌, ◌++◌, map, length, ℤ, refl, ap, ◌∙◌, ap₂, append-nil, arith}
use mathlib.Core.List.{map-append}
use Rattle.buffer.specs.Sets.{joined}
use Rattle.setfile.specs.Entries.{Entry, entry, contours_of, shape_entries, entries, Gathered, gather, gathered, shapes_of}
use Rattle.setfile.specs.Promises.{Filled, Started}

loose_first : (cs : List (List ℤ)) (l : List Entry)
    → gathered (map (entry false) cs ++ l) ≡ record { loose = cs ++ (gathered l).loose; shapes = (gathered l).shapes }
unfolding gathered
loose_first [] l = refl
loose_first (c ∷ cs) l = ap (gather false c) (loose_first cs l)

shape_first : (s : List (List ℤ)) (l : List Entry) → 0 < length s → (gathered l).loose ≡ []
    → gathered (shape_entries s ++ l) ≡ record { loose = []; shapes = s ∷ (gathered l).shapes }
unfolding gathered
shape_first [] l h e = absurd (omega arith)
shape_first (c ∷ cs) l h e =
    ap (gather true c) (loose_first cs l ∙ ap (λ (t : List (List ℤ)). record { loose = cs ++ t; shapes = (gathered l).shapes }) e)
    ∙ ap (λ (t : List (List ℤ)). record { loose = []; shapes = (c ∷ t) ∷ (gathered l).shapes }) (append-nil cs)

pub gathered_entries : (set : List (List (List ℤ))) → Filled set → gathered (entries set) ≡ record { loose = []; shapes = set }
unfolding gathered joined
gathered_entries [] h = refl
gathered_entries (s ∷ set) h =
    let g = gathered_entries set h.1 in
    shape_first s (entries set) h.0 (ap (λ (t : Gathered). t.loose) g)
    ∙ ap (λ (t : Gathered). record { loose = []; shapes = s ∷ t.shapes }) g

laid_out : (l : List Entry) → map (entry false) (gathered l).loose ++ entries (shapes_of l) ≡ l
unfolding gathered joined
laid_out [] = refl
laid_out (e ∷ l) = go e.begins e.points (laid_out l)
  where
    go : (b : Bool) (c : List ℤ) → map (entry false) (gathered l).loose ++ entries (shapes_of l) ≡ l
        → map (entry false) (gather b c (gathered l)).loose ++ entries (gather b c (gathered l)).shapes ≡ entry b c ∷ l
    go true c h = ap (λ (m : List Entry). entry true c ∷ m) h
    go false c h = ap (λ (m : List Entry). entry false c ∷ m) h

none_loose : (l : List Entry) → Started l → (gathered l).loose ≡ []
unfolding gathered
none_loose [] h = refl
none_loose (e ∷ l) h = rw h

pub entries_gathered : (l : List Entry) → Started l → entries (shapes_of l) ≡ l
entries_gathered l h = rw (none_loose l h) at (laid_out l)

pub shapes_filled : (l : List Entry) → Filled (shapes_of l)
unfolding gathered
shapes_filled [] = tt
shapes_filled (e ∷ l) = go e.begins (shapes_filled l)
  where
    go : (b : Bool) → Filled (shapes_of l) → Filled (gather b e.points (gathered l)).shapes
    go true h = (omega arith, h)
    go false h = h

pub contours_entries : (set : List (List (List ℤ))) → contours_of (entries set) ≡ joined set
unfolding joined
contours_entries [] = refl
contours_entries (s ∷ set) = map-append (λ (e : Entry). e.points) (shape_entries s) (entries set) ∙ ap₂ (λ (a b : List (List ℤ)). a ++ b) (shape-points s) (contours_entries set)
  where
    loose-points : (l : List (List ℤ)) → contours_of (map (entry false) l) ≡ l
    loose-points [] = refl
    loose-points (c ∷ l) = ap (λ (k : List (List ℤ)). c ∷ k) (loose-points l)

    shape-points : (l : List (List ℤ)) → contours_of (shape_entries l) ≡ l
    shape-points [] = refl
    shape-points (c ∷ l) = ap (λ (k : List (List ℤ)). c ∷ k) (loose-points l)

pub entries_started : (set : List (List (List ℤ))) → Filled set → Started (entries set)
unfolding joined
entries_started [] h = tt
entries_started ([] ∷ set) h = absurd (omega (arith, h.0))
entries_started ((c ∷ s) ∷ set) h = refl
