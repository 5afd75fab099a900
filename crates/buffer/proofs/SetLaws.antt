-- Parts cut out of a list, and laid end to end again.
use mathlib.Core.Path.{◌≡◌, refl, sym, ◌∙◌, ap, ap₂}
use mathlib.Core.Bool.{true}
use mathlib.Core.List.{List, [], ◌∷◌, ◌++◌, map, append_assoc}
use Prim.Native.Nat.{ℕ, suc, ◌+◌, ◌-◌, ◌*◌, ◌≤◌}
use native.Mathlib.Omega.{arith}
use lib.ListN.{length, take, drop, length-append, length-drop, take-append-drop}
use lib.Seq.{take-length, drop-length, drop-drop, take-append_seam, drop-append_seam, take-append-le, drop-append-le, drop-append-add, length-take-le}
use lib.IntN.{ℤ}
use borrow.Author.Tests.{eq-eqb, le-leb}
use Rattle.grid.specs.Domain.{count}
use Rattle.buffer.specs.declared.ranges.Span.{Span}
use Rattle.buffer.specs.Spans.{sound_from, moved, size, total, laid}
use Rattle.buffer.specs.Sets.{cut, joined, doubled, contour, contours, Even}
use Rattle.buffer.proofs.SpanLaws.{ends_at, first_starts, first_forward, others_sound, rises}

-- how sound spans are made
pub sound_nothing : (p n : ℕ) → p ≡ n → sound_from p [] n ≡ true
unfolding sound_from
sound_nothing p n e = eq-eqb p n e

pub sound_first : (p n : ℕ) (s : Span) (l : List Span) → p ≡ s.start → s.start ≤ s.end → sound_from s.end l n ≡ true → sound_from p (s ∷ l) n ≡ true
unfolding sound_from
sound_first p n s l e f g = rw (eq-eqb p s.start e, le-leb s.start s.end f, g)

-- a span of all of a list names all of it
pub all_of : {A : Type 0} (l : List A) (s : Span) → s.start ≡ 0 → s.end ≡ length l → cut l s ≡ l
all_of l s e f =
    let n : s.end - s.start ≡ length l = omega arith in
    ap₂ (λ (k m : ℕ). take k (drop m l)) n e ∙ take-length l

-- parts laid end to end
pub laid-length : (p : ℕ) (sizes : List ℕ) → length (laid p sizes) ≡ length sizes
unfolding laid
laid-length p [] = refl
laid-length p (n ∷ sizes) = ap suc (laid-length (p + n) sizes)

pub joined-append : {A : Type 0} (a b : List (List A)) → joined (a ++ b) ≡ joined a ++ joined b
unfolding joined
joined-append [] b = refl
joined-append {A} (c ∷ a) b = ap (λ (l : List A). c ++ l) (joined-append a b) ∙ sym (append_assoc c (joined a) (joined b))

pub laid_sound : (p m : ℕ) (sizes : List ℕ) → m ≡ p + total sizes → sound_from p (laid p sizes) m ≡ true
unfolding laid
laid_sound p m [] e = sound_nothing p m (omega arith)
laid_sound p m (n ∷ sizes) e = sound_first p m _ _ refl (omega arith) (laid_sound (p + n) m sizes (omega arith))

pub sound_laid : (p n : ℕ) (l : List Span) → sound_from p l n ≡ true → laid p (map size l) ≡ l
unfolding laid
sound_laid p n [] e = refl
sound_laid p n (s ∷ l) e =
    let a = first_starts p n s l e in
    let b : p + (s.end - s.start) ≡ s.end = omega (arith, first_forward p n s l e) in
    ap₂ (λ (t : Span) (k : List Span). t ∷ k)
    (ap₂ (λ (u v : ℕ). record { start = u; end = v }) a b)
    (ap (λ (q : ℕ). laid q (map size l)) b ∙ sound_laid s.end n l (others_sound p n s l e))

module _ {A : Type 0} where
  pub cuts_joined : (a : List A) (p : ℕ) (l : List Span) → sound_from p l (length a) ≡ true → joined (map (cut a) l) ≡ drop p a
  unfolding joined
  cuts_joined a p [] e = sym (ap (λ (k : ℕ). drop k a) (ends_at p (length a) e) ∙ drop-length a)
  cuts_joined a p (s ∷ l) e =
      let b : s.start + (s.end - s.start) ≡ s.end = omega (arith, first_forward p (length a) s l e) in
      ap (λ (t : List A). cut a s ++ t) (cuts_joined a s.end l (others_sound p (length a) s l e) ∙ ap (λ (k : ℕ). drop k a) (sym b) ∙ sym (drop-drop (s.end - s.start) s.start a))
      ∙ take-append-drop (s.end - s.start) (drop s.start a)
      ∙ ap (λ (k : ℕ). drop k a) (sym (first_starts p (length a) s l e))

  pub laid_cut : (a : List A) (set : List (List A)) → map (cut (a ++ joined set)) (laid (length a) (map length set)) ≡ set
  unfolding laid joined
  laid_cut a [] = refl
  laid_cut a (b ∷ set) =
      let n : (length a + length b) - length a ≡ length b = omega arith in
      ap₂ (λ (c : List A) (l : List (List A)). c ∷ l)
      (ap₂ (λ (k : ℕ) (l : List A). take k l) n (drop-append_seam a (b ++ joined set)) ∙ take-append_seam b (joined set))
      (ap₂ (λ (l : List A) (k : ℕ). map (cut l) (laid k (map length set))) (sym (append_assoc a b (joined set))) (sym (length-append a b))
      ∙ laid_cut (a ++ b) set)

  -- a part that ends within a list is a part of the longer list
  pub cut_front : (a b : List A) (s : Span) → s.start ≤ s.end → s.end ≤ length a → cut (a ++ b) s ≡ cut a s
  cut_front a b s f e =
      ap (take (s.end - s.start)) (drop-append-le s.start a b (omega arith))
      ∙ take-append-le (s.end - s.start) (drop s.start a) b (omega (arith, length-drop s.start a))

  pub cuts_front : (a b : List A) (p : ℕ) (l : List Span) → sound_from p l (length a) ≡ true → map (cut (a ++ b)) l ≡ map (cut a) l
  cuts_front a b p [] e = refl
  cuts_front a b p (s ∷ l) e =
      let o = others_sound p (length a) s l e in
      ap₂ (λ (c : List A) (l : List (List A)). c ∷ l) (cut_front a b s (first_forward p (length a) s l e) (rises s.end (length a) l o)) (cuts_front a b s.end l o)

  -- and a part that is set off by the length of what stands before it is a part of the list behind
  pub cut_behind : (a b : List A) (s : Span) → cut (a ++ b) (moved (length a) s) ≡ cut b s
  cut_behind a b s =
      let n : (s.end + length a) - (s.start + length a) ≡ s.end - s.start = omega arith in
      let m : s.start + length a ≡ length a + s.start = omega arith in
      ap₂ (λ (k : ℕ) (l : List A). take k l) n (ap (λ (k : ℕ). drop k (a ++ b)) m ∙ drop-append-add a b s.start)

  pub cuts_behind : (a b : List A) (l : List Span) → map (cut (a ++ b)) (map (moved (length a)) l) ≡ map (cut b) l
  cuts_behind a b [] = refl
  cuts_behind a b (s ∷ l) = ap₂ (λ (c : List A) (l : List (List A)). c ∷ l) (cut_behind a b s) (cuts_behind a b l)

-- sound spans behind sound spans
pub sound-append : (p n m : ℕ) (k l : List Span) → sound_from p k n ≡ true → sound_from n l m ≡ true → sound_from p (k ++ l) m ≡ true
sound-append p n m [] l e f = ap (λ (q : ℕ). sound_from q l m) (ends_at p n e) ∙ f
sound-append p n m (s ∷ k) l e f =
    sound_first p m s (k ++ l) (first_starts p n s k e) (first_forward p n s k e) (sound-append s.end n m k l (others_sound p n s k e) f)

pub sound_moved : (p n d : ℕ) (l : List Span) → sound_from p l n ≡ true → sound_from (p + d) (map (moved d) l) (n + d) ≡ true
sound_moved p n d [] e = sound_nothing (p + d) (n + d) (omega (arith, ends_at p n e))
sound_moved p n d (s ∷ l) e =
    sound_first (p + d) (n + d) (moved d s) (map (moved d) l) (omega (arith, first_starts p n s l e)) (omega (arith, first_forward p n s l e)) (sound_moved s.end n d l (others_sound p n s l e))

-- points as numbers
pub sound_doubled : (p n : ℕ) (l : List Span) → sound_from p l n ≡ true → sound_from (2 * p) (map doubled l) (2 * n) ≡ true
sound_doubled p n [] e = sound_nothing (2 * p) (2 * n) (omega (arith, ends_at p n e))
sound_doubled p n (s ∷ l) e =
    sound_first (2 * p) (2 * n) (doubled s) (map doubled l) (omega (arith, first_starts p n s l e)) (omega (arith, first_forward p n s l e)) (sound_doubled s.end n l (others_sound p n s l e))

pub as_cuts : (p : List ℤ) (l : List Span) → contours p l ≡ map (cut p) (map doubled l)
as_cuts p [] = refl
as_cuts p (s ∷ l) = ap (λ (k : List (List ℤ)). contour p s ∷ k) (as_cuts p l)

pub doubled_laid : (p : ℕ) (set : List (List ℤ)) → Even set → map doubled (laid p (map count set)) ≡ laid (2 * p) (map length set)
unfolding laid
doubled_laid p [] h = refl
doubled_laid p (c ∷ set) h =
    let n : 2 * (p + count c) ≡ 2 * p + length c = omega (arith, h.0) in
    ap₂ (λ (s : Span) (l : List Span). s ∷ l)
    (ap (λ (k : ℕ). record { start = 2 * p; end = k }) n)
    (doubled_laid (p + count c) set h.1 ∙ ap (λ (k : ℕ). laid k (map length set)) n)

pub doubled_moved : (n : ℕ) (l : List Span) → map doubled (map (moved n) l) ≡ map (moved (2 * n)) (map doubled l)
doubled_moved n [] = refl
doubled_moved n (s ∷ l) =
    let a : 2 * (s.start + n) ≡ 2 * s.start + 2 * n = omega arith in
    let b : 2 * (s.end + n) ≡ 2 * s.end + 2 * n = omega arith in
    ap₂ (λ (s : Span) (l : List Span). s ∷ l) (ap₂ (λ (u v : ℕ). record { start = u; end = v }) a b) (doubled_moved n l)

pub sizes_are : (p : List ℤ) (q : ℕ) (l : List Span) → length p ≡ 2 * count p → sound_from q l (count p) ≡ true → map count (contours p l) ≡ map size l
sizes_are p q [] even e = refl
sizes_are p q (s ∷ l) even e =
    let o = others_sound q (count p) s l e in
    let f = first_forward q (count p) s l e in
    let h = rises s.end (count p) l o in
    let n : length (contour p s) ≡ 2 * s.end - 2 * s.start = length-take-le _ _ (omega (arith, length-drop (2 * s.start) p)) in
    let m : count (contour p s) ≡ s.end - s.start = omega arith in
    ap₂ (λ (k : ℕ) (t : List ℕ). k ∷ t) m (sizes_are p s.end l even o)

-- the contours of a sound set are even rows of numbers
pub contours_even : (p : List ℤ) (q : ℕ) (l : List Span) → length p ≡ 2 * count p → sound_from q l (count p) ≡ true → Even (contours p l)
contours_even p q [] even e = tt
contours_even p q (s ∷ l) even e =
    let o = others_sound q (count p) s l e in
    let f = first_forward q (count p) s l e in
    let h = rises s.end (count p) l o in
    let n : length (contour p s) ≡ 2 * s.end - 2 * s.start = length-take-le _ _ (omega (arith, length-drop (2 * s.start) p)) in
    (omega arith, contours_even p s.end l even o)
