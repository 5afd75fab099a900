-- Lists that are made element by element.
use mathlib.Core.Path.{◌≡◌, refl, ◌∙◌, ap}
use mathlib.Core.List.{List, [], ◌∷◌, map}
use Prim.Native.Nat.{ℕ, zero, suc, ◌<◌}
use lib.ListN.{length, get_or, take, drop}
use Rattle.std.proofs.lemmas.List.{get_or-map, take-map, drop-map}
use Rattle.buffer.specs.declared.ranges.Span.{Span}
use Rattle.buffer.specs.Spans.{size}
use Rattle.buffer.specs.Sets.{cut}

module _ {A B : Type 0} (f : A → B) where
  pub map_at : (l : List A) (k : ℕ) (d : B) (e : A) → k < length l → get_or (map f l) k d ≡ f (get_or l k e)
  map_at l k d e h = get_or-map f l k e d h

  -- a part of such a list
  pub map_cut : (l : List A) (s : Span) → cut (map f l) s ≡ map f (cut l s)
  map_cut l s = ap (take (size s)) (drop-map f s.start l) ∙ take-map f (size s) (drop s.start l)

  -- its parts, by number
  pub map_cut_at : (l : List A) (ss : List Span) (k : ℕ) → get_or (map (cut (map f l)) ss) k [] ≡ map f (get_or (map (cut l) ss) k [])
  map_cut_at l [] k = refl
  map_cut_at l (s ∷ ss) zero = map_cut l s
  map_cut_at l (s ∷ ss) (suc k) = map_cut_at l ss k
