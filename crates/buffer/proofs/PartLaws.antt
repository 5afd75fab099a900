-- The parts that are handed out.
use mathlib.Core.Path.{◌≡◌, refl, sym, ◌∙◌, ap}
use mathlib.Core.Bool.{Bool, true, false}
use mathlib.Core.List.{List, [], ◌∷◌, map, map-map}
use Prim.Native.Nat.{ℕ, zero, suc, ◌+◌, ◌-◌, ◌*◌, ◌<◌, ◌≤◌}
use native.Mathlib.Omega.{arith}
use lib.ListN.{length, get_or, drop, length-drop, get_or-eq_default, get_or-map, length-map}
use lib.Seq.{get_or-take, get_or-drop, length-take-le}
use lib.IntN.{ℤ}
use lib.Dec.{ltb}
use borrow.Author.Tests.{ltb-true, ltb-false}
use Rattle.integers.proofs.Logic.{and_left, and_right}
use Rattle.std.proofs.Common.{Err, Ok, Result}
use Rattle.std.specs.Result.{result_unwrap_or}
use Rattle.replies.specs.declared.refusal.Refusal.{Refusal}
use Rattle.replies.specs.Refusals.{number}
use Rattle.replies.specs.Ladder.{first_of}
use Rattle.grid.specs.Limits.{limit}
use Rattle.grid.specs.Domain.{count, domain, Contour}
use Rattle.grid.proofs.LimitLaws.{on_dropped, on_taken}
use Rattle.buffer.specs.declared.answer.Counted.{Counted}
use Rattle.buffer.specs.Spans.{span, spans, sound}
use Rattle.buffer.specs.declared.ranges.Span.{Span}
use Rattle.buffer.specs.Sets.{cut, contour, contours, shapes}
use Rattle.buffer.specs.inside.Ranges.{Names}
use Rattle.rows.specs.Parts.{Part, none}
use Rattle.buffer.specs.Parts.{named, contour_parts, shape_parts, handed}
use Rattle.buffer.specs.Answers.{counted, counted_as}
use Rattle.buffer.proofs.AnswerLaws.{count_refused}
use Rattle.buffer.specs.Contours as C
use Rattle.buffer.specs.Shapes as S
use Rattle.buffer.proofs.ListLaws.{map_at, map_cut_at}
use Rattle.buffer.proofs.SpanLaws.{Within, range_within}
use Rattle.buffer.proofs.RefusalLaws.{accepted}

-- a range of an accepted set names a part of its points
pub names_of : (p : List ℤ) (cs : List (List ℕ)) (k : ℕ) → length p ≡ 2 * count p → sound (spans cs) (count p) ≡ true → k < length cs → Names p cs k
names_of p cs k even sound h =
    let w = range_within cs (count p) k sound h in
    record { there = h; forward = w.forward; fits = omega (arith, w.ends) }

-- and the part that a range names of points in the domain is a contour in the domain
module _ (p : List ℤ) (cs : List (List ℕ)) (k : ℕ) (d : Contour p (count p)) (n : Names p cs k) where
  pub part_long : length (contour p (span (get_or cs k []))) ≡ 2 * (span (get_or cs k [])).end - 2 * (span (get_or cs k [])).start
  part_long = length-take-le _ _ (omega (arith, n.forward, n.fits, length-drop (2 * (span (get_or cs k [])).start) p))

  pub part_contour : Contour (contour p (span (get_or cs k []))) (count (contour p (span (get_or cs k []))))
  part_contour =
      let r = span (get_or cs k []) in
      record {
        even = omega (arith, part_long, n.forward);
        few = omega (arith, part_long, n.fits, d.even, d.few);
        on = on_taken limit (2 * r.end - 2 * r.start) (drop (2 * r.start) p) (on_dropped limit (2 * r.start) p d.on);
      }

-- what a caller who does not ask where a part lies knows of it
pub same_numbers : {p q : Part} → p ≡ q → p.numbers ≡ q.numbers
same_numbers e = ap (λ (p : Part). p.numbers) e

handed_refused : (r : ℕ) (p c : Part) → (r ≡ 0 → ⊥) → none p ≡ handed r p c
handed_refused zero p c n = absurd (n refl)
handed_refused (suc r) p c n = refl

-- what is made of each span of a row, by number
module _ {A : Type 0} (f : Span → A) (cs : List (List ℕ)) (k : ℕ) (d : A) where
  made_at : k < length cs → get_or (map f (spans cs)) k d ≡ f (span (get_or cs k []))
  made_at h = map_at f (spans cs) k d (span []) (omega (arith, length-map cs span)) ∙ ap f (map_at span cs k (span []) [] h)

  made_past : length cs ≤ k → get_or (map f (spans cs)) k d ≡ d
  made_past h =
      let l : length (map f (spans cs)) ≤ k = omega (arith, length-map (spans cs) f, length-map cs span) in
      get_or-eq_default (map f (spans cs)) d l

-- the contours of a flat set, by number
pub contours_at : (p : List ℤ) (cs : List (List ℕ)) (k : ℕ) → k < length cs → get_or (contours p (spans cs)) k [] ≡ contour p (span (get_or cs k []))
contours_at p cs k h = made_at (contour p) cs k [] h

-- the numbers of the parts are the contours
module _ (p : Part) where
  abbrev numbers_of : Part → List ℤ
  numbers_of c = c.numbers

  contours_are : (cs : List Span) → contours p.numbers cs ≡ map numbers_of (contour_parts p cs)
  contours_are cs = sym (map-map numbers_of (named p) cs)

  shape_is : (cs ss : List Span) (s : ℕ) → get_or (shapes p.numbers cs ss) s [] ≡ map numbers_of (get_or (shape_parts p cs ss) s [])
  shape_is cs ss s = ap (λ (l : List (List ℤ)). get_or (map (cut l) ss) s []) (contours_are cs) ∙ map_cut_at numbers_of (contour_parts p cs) ss s

  pub part_holds : (cs : List Span) (k : ℕ) → (get_or (contour_parts p cs) k (none p)).numbers ≡ get_or (contours p.numbers cs) k []
  part_holds cs k =
      sym (get_or-map numbers_of (contour_parts p cs) k (none p))
      ∙ ap (λ (l : List (List ℤ)). get_or l k []) (sym (contours_are cs))

  pub shape_part_holds : (cs ss : List Span) (s c : ℕ) → (get_or (get_or (shape_parts p cs ss) s []) c (none p)).numbers ≡ get_or (get_or (shapes p.numbers cs ss) s []) c []
  shape_part_holds cs ss s c =
      sym (get_or-map numbers_of (get_or (shape_parts p cs ss) s []) c (none p))
      ∙ ap (λ (l : List (List ℤ)). get_or l c []) (sym (shape_is cs ss s))

module _ (p : Part) (cs : List (List ℕ)) (k r : ℕ) (e : r ≡ first_of (C.refusals p.numbers cs)) where
  pub contour_refused : (r ≡ 0 → ⊥) → none p ≡ C.contour_at p cs k
  unfolding C.contour_at
  contour_refused n = rw (← e) (handed_refused r p _ n)

  module _ (z : r ≡ 0) where
    pub contour_absent : length cs ≤ k → none p ≡ C.contour_at p cs k
    unfolding C.contour_at
    contour_absent h = rw (← e, z) (sym (made_past (named p) cs k (none p) h))

    module _ (h : k < length cs) where
      pub contour_there : named p (span (get_or cs k [])) ≡ C.contour_at p cs k
      unfolding C.contour_at
      contour_there = rw (← e, z) (sym (made_at (named p) cs k (none p) h))

module _ (p : List ℤ) (cs : List (List ℕ)) (k r : ℕ) (e : r ≡ first_of (C.refusals p cs)) (z : r ≡ 0) (h : k < length cs) where
  pub contour_named : Names p cs k
  contour_named = let a = accepted limit p (sound (spans cs) (count p)) (sym e ∙ z) in names_of p cs k a.even a.sound h

-- the first contour
pub first_there : (p : Part) (cs : List (List ℕ)) → (length cs ≡ 0 → ⊥) → C.contour_at p cs 0 ≡ C.first_contour p cs
unfolding C.first_contour
first_there p [] n = absurd (n refl)
first_there p (r ∷ cs) n = refl

module _ (p : Part) (cs : List (List ℕ)) (e : length cs ≡ 0) (r : ℕ) (f : r ≡ first_of (domain limit p.numbers)) where
  loose : handed (first_of (domain limit p.numbers)) p p ≡ C.first_contour p cs
  unfolding C.first_contour
  loose = go cs e
    where
      go : (cs : List (List ℕ)) → length cs ≡ 0 → handed (first_of (domain limit p.numbers)) p p ≡ C.first_contour p cs
      go [] e = refl
      go (c ∷ cs) e = absurd (omega arith)

  pub first_refused : (r ≡ 0 → ⊥) → none p ≡ C.first_contour p cs
  first_refused n = handed_refused r p p n ∙ ap (λ (k : ℕ). handed k p p) f ∙ loose

  pub first_loose : r ≡ 0 → p ≡ C.first_contour p cs
  first_loose z = ap (λ (k : ℕ). handed k p p) (sym (sym f ∙ z)) ∙ loose

-- the shapes of a flat shape set, by number: what is made of the spans of each
module _ {A : Type 0} (f : Span → A) (cs ss : List (List ℕ)) (s : ℕ) where
  shape : List A
  shape = get_or (map (cut (map f (spans cs))) (spans ss)) s []

  shapes_past : length ss ≤ s → shape ≡ []
  unfolding shape
  shapes_past h = made_past (cut (map f (spans cs))) ss s [] h

  shapes_at : s < length ss → shape ≡ cut (map f (spans cs)) (span (get_or ss s []))
  unfolding shape
  shapes_at h = made_at (cut (map f (spans cs))) ss s [] h

  module _ (w : Within (length cs) (span (get_or ss s []))) (h : s < length ss) where
    shape-length : length shape ≡ get_or (get_or ss s []) 1 0 - get_or (get_or ss s []) 0 0
    shape-length =
        let l : List A = map f (spans cs) in
        let d : length (drop (get_or (get_or ss s []) 0 0) l) ≡ length cs - get_or (get_or ss s []) 0 0 =
        length-drop (get_or (get_or ss s []) 0 0) l ∙ ap (λ (n : ℕ). n - get_or (get_or ss s []) 0 0) (length-map (spans cs) f ∙ length-map cs span) in
        ap length (shapes_at h) ∙ length-take-le _ _ (omega (arith, w.ends, w.forward))

    shape_at : (c : ℕ) (d : A) → c < get_or (get_or ss s []) 1 0 - get_or (get_or ss s []) 0 0 → get_or shape c d ≡ f (span (get_or cs (get_or (get_or ss s []) 0 0 + c) []))
    shape_at c d l =
        ap (λ (k : List A). get_or k c d) (shapes_at h)
        ∙ get_or-take (get_or (get_or ss s []) 1 0 - get_or (get_or ss s []) 0 0) (drop (get_or (get_or ss s []) 0 0) (map f (spans cs))) c d l
        ∙ get_or-drop (get_or (get_or ss s []) 0 0) (map f (spans cs)) c d
        ∙ made_at f cs (get_or (get_or ss s []) 0 0 + c) d (omega (arith, w.ends))

-- how many contours a shape has
module _ (p : List ℤ) (cs ss : List (List ℕ)) (s : ℕ) where
  pub inside_refused : (r : Refusal) → number r ≡ first_of (S.refusals p cs ss) → counted_as (Err r) ≡ S.contours_in p cs ss s
  unfolding S.contours_in
  inside_refused r e = count_refused r _ _ e

  module _ (e : 0 ≡ first_of (S.refusals p cs ss)) where
    pub inside_absent : length ss ≤ s → record { reply = 0; count = 0 } ≡ S.contours_in p cs ss s
    unfolding S.contours_in shape
    inside_absent h = rw (← e) (ap (λ (l : List (List ℤ)). counted 0 (length l)) (sym (shapes_past (contour p) cs ss s h)))

    module _ (h : s < length ss) where
      pub shape_within : Within (length cs) (span (get_or ss s []))
      shape_within = range_within ss (length cs) s (and_right (sound (spans cs) (count p)) (sound (spans ss) (length cs)) (accepted limit p _ (sym e)).sound) h

      pub inside_there : record { reply = 0; count = get_or (get_or ss s []) 1 0 - get_or (get_or ss s []) 0 0 } ≡ S.contours_in p cs ss s
      unfolding S.contours_in shape
      inside_there = rw (← e) (ap (λ (n : ℕ). counted 0 n) (sym (shape-length (contour p) cs ss s shape_within h)))

-- a contour of a shape
pub record There (p : Part) (cs ss : List (List ℕ)) (s c : ℕ) : Type 0 where
  pub shape : s < length ss
  pub names : Names p.numbers cs (get_or (get_or ss s []) 0 0 + c)
  pub is : named p (span (get_or cs (get_or (get_or ss s []) 0 0 + c) [])) ≡ S.contour_of p cs ss s c

module _ (p : Part) (cs ss : List (List ℕ)) (s c : ℕ) (a : Counted) (e : a ≡ S.contours_in p.numbers cs ss s) where
  not_inside : a.count ≤ c → none p ≡ S.contour_of p cs ss s c
  unfolding S.contours_in S.contour_of
  not_inside h = go (first_of (S.refusals p.numbers cs ss)) (rw (e, shape_is p (spans cs) (spans ss) s, length-map) at h)
    where
      l : List Part
      l = get_or (shape_parts p (spans cs) (spans ss)) s []

      go : (r : ℕ) → (counted r (length l)).count ≤ c → none p ≡ handed r p (get_or l c (none p))
      go zero h = sym (get_or-eq_default l (none p) h)
      go (suc r) h = refl

  inside : c < a.count → There p cs ss s c
  unfolding S.contours_in S.contour_of shape
  inside h = go (first_of (S.refusals p.numbers cs ss)) refl (rw e at h)
    where
      go : (r : ℕ) → r ≡ first_of (S.refusals p.numbers cs ss) → c < (counted r (length (shape (contour p.numbers) cs ss s))).count → There p cs ss s c
      go (suc r) f h = absurd (omega arith)
      go zero f h = there (ltb s (length ss)) refl
        where
          there : (b : Bool) → ltb s (length ss) ≡ b → There p cs ss s c
          there false g = absurd (omega (arith, ap length (shapes_past (contour p.numbers) cs ss s (ltb-false _ _ g))))
          there true g =
              let k = ltb-true s (length ss) g in
              let w = shape_within p.numbers cs ss s f k in
              let l : c < get_or (get_or ss s []) 1 0 - get_or (get_or ss s []) 0 0 = omega (arith, shape-length (contour p.numbers) cs ss s w k) in
              let ok = accepted limit p.numbers _ (sym f) in
              record {
                shape = k;
                names = names_of p.numbers cs _ ok.even (and_left (sound (spans cs) (count p.numbers)) _ ok.sound) (omega (arith, w.ends));
                is = rw (← f) (sym (shape_at (named p) cs ss s w k c (none p) l));
              }

-- a contour of a shape, by how many the shape has, 0 where it is refused
count_or_none : (x : Result ℕ Refusal) → result_unwrap_or x 0 ≡ (counted_as x).count
count_or_none (Ok n) = refl
count_or_none (Err r) = refl

module _ (p : Part) (cs ss : List (List ℕ)) (s c : ℕ) (x : Result ℕ Refusal) (e : counted_as x ≡ S.contours_in p.numbers cs ss s) (held : ℕ) (q : held ≡ result_unwrap_or x 0) where
  pub none_held : held ≤ c → none p ≡ S.contour_of p cs ss s c
  none_held h = not_inside p cs ss s c (counted_as x) e (omega (arith, q, count_or_none x))

  pub one_held : c < held → There p cs ss s c
  one_held h = inside p cs ss s c (counted_as x) e (omega (arith, q, count_or_none x))
