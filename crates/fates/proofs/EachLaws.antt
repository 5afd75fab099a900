-- Shapes whose contours are told one shape after the other.
use mathlib.Core.Path.{◌≡◌, refl, sym, ◌∙◌, ap, subst}
use mathlib.Core.Bool.{true}
use mathlib.Core.List.{List, [], ◌∷◌, ◌++◌, append_assoc, append-nil}
use Prim.Native.Nat.{ℕ, suc, ◌+◌, ◌-◌, ◌<◌, ◌≤◌}
use native.Mathlib.Omega.{arith}
use native.Mathlib.Numerals.{add-one}
use lib.IntN.{ℤ}
use lib.ListN.{length, get_or, take, drop, length-append, drop_of_length-le}
use lib.Seq.{drop-cons, length-take-le, take_all, take_at}
use borrow.Rule.Slice.PartMut.{mid_of, put_mid, same_len_mid, mid_len}
use Rattle.ring.specs.declared.Rule.{Rule}
use Rattle.buffer.specs.declared.ranges.Span.{Span}
use Rattle.buffer.specs.Spans.{span, spans, sound_from}
use Rattle.buffer.specs.Sets.{contours, shapes}
use Rattle.buffer.proofs.SpanLaws.{first_starts, first_forward, others_sound, ends_at, rises}
use Rattle.sets.proofs.EachLaws.{shape_part, named_part}
use Rattle.fates.specs.Fates.{shape_fates, fates}
use Rattle.fates.specs.inside.Telling.{Tellable, Each}

-- the shapes of the ranges from number i on are left, whose entries begin at position at
pub record Telling (rule : Rule) (p : List ℤ) (cs ss : List (List ℕ)) (row₀ : List ℕ) (at : ℕ) (row : List ℕ) (i : ℕ) : Type 0 where
  pub high : i ≤ length ss
  pub long : length row ≡ length row₀
  pub sound : sound_from at (spans (drop i ss)) (length cs) ≡ true
  pub is : take at row ++ fates rule (shapes p (spans cs) (spans (drop i ss))) ≡ fates rule (shapes p (spans cs) (spans ss))

pub telling_none : (rule : Rule) (p : List ℤ) (cs ss : List (List ℕ)) (next prev mark row : List ℕ) → Each p cs ss next prev mark row → Telling rule p cs ss row 0 row 0
telling_none rule p cs ss next prev mark row e = record { high = omega arith; long = refl; sound = e.sound; is = refl }

-- they begin where the next range does
pub telling_from : {rule : Rule} {p : List ℤ} {cs ss : List (List ℕ)} {row₀ : List ℕ} {at : ℕ} {row : List ℕ} {i : ℕ} → Telling rule p cs ss row₀ at row i → i < length ss → Telling rule p cs ss row₀ (get_or (get_or ss i []) 0 0) row i
telling_from {rule} {p} {cs} {ss} {row₀} {at} {row} {i} x h =
    subst (λ (n : ℕ). Telling rule p cs ss row₀ n row i)
    (first_starts at (length cs) (span (get_or ss i [])) (spans (drop (suc i) ss)) (ap (λ (l : List (List ℕ)). sound_from at (spans l) (length cs)) (sym (drop-cons ss i [] h)) ∙ x.sound))
    x

module _ {rule : Rule} {p : List ℤ} {cs ss : List (List ℕ)} {row₀ : List ℕ} {at : ℕ} {row : List ℕ} {i : ℕ} (x : Telling rule p cs ss row₀ at row i) (long : length row₀ ≡ length cs) where
  module _ (h : i < length ss) where
    own : Span
    own = span (get_or ss i [])

    here : sound_from at (own ∷ spans (drop (suc i) ss)) (length cs) ≡ true
    unfolding own
    here = ap (λ (l : List (List ℕ)). sound_from at (spans l) (length cs)) (sym (drop-cons ss i [] h)) ∙ x.sound

    abbrev to : ℕ
    to = get_or (get_or ss i []) 1 0

    begins : at ≡ get_or (get_or ss i []) 0 0
    unfolding own
    begins = first_starts at (length cs) own (spans (drop (suc i) ss)) here

    pub forward : at ≤ to
    unfolding own
    forward = omega (arith, begins, first_forward at (length cs) own (spans (drop (suc i) ss)) here)

    later_sound : sound_from to (spans (drop (suc i) ss)) (length cs) ≡ true
    unfolding own
    later_sound = others_sound at (length cs) own (spans (drop (suc i) ss)) here

    pub ends : to ≤ length cs
    ends = rises to (length cs) (spans (drop (suc i) ss)) later_sound

    pub ends_in_row : to ≤ length row
    ends_in_row = omega (arith, ends, x.long)

    pub own_tellable : {next₀ prev₀ mark₀ : List ℕ} → Tellable p cs next₀ prev₀ mark₀ row₀ → (next prev mark : List ℕ) → length next ≡ length next₀ → length prev ≡ length prev₀ → length mark ≡ length mark₀
        → Tellable p (mid_of at (to - at) cs) next prev mark (mid_of at (to - at) row)
    own_tellable g next prev mark e f m = record {
      named = named_part p cs g.named at (to - at) (omega (arith, forward, ends));
      scratch = record { in_next = omega (arith, g.scratch.in_next); in_prev = omega (arith, g.scratch.in_prev); in_mark = omega (arith, g.scratch.in_mark) };
      long = mid_len at to row ends_in_row ∙ sym (mid_len at to cs ends);
    }

    next_is : shapes p (spans cs) (spans (drop i ss)) ≡ contours p (spans (mid_of at (to - at) cs)) ∷ shapes p (spans cs) (spans (drop (suc i) ss))
    next_is =
        ap (λ (l : List (List ℕ)). shapes p (spans cs) (spans l)) (drop-cons ss i [] h)
        ∙ ap (λ (a : ℕ). take (to - a) (drop a (contours p (spans cs))) ∷ shapes p (spans cs) (spans (drop (suc i) ss))) (sym begins)
        ∙ ap (λ (c : List (List ℤ)). c ∷ shapes p (spans cs) (spans (drop (suc i) ss))) (sym (shape_part p cs at (to - at)))

    pub telling_more : (new : List ℕ) → length new ≡ length (mid_of at (to - at) row) → new ≡ shape_fates rule (contours p (spans (mid_of at (to - at) cs)))
        → Telling rule p cs ss row₀ to (put_mid at (to - at) row new) (i + 1)
    unfolding fates
    telling_more new n e =
        let m = mid_len at to row ends_in_row in
        let a = length-take-le at row (omega (arith, forward, ends_in_row)) in
        let b = length-append (take at row) new in
        let rest = fates rule (shapes p (spans cs) (spans (drop (suc i) ss))) in
        record {
          high = omega arith;
          long = same_len_mid at (to - at) row new n ∙ x.long;
          sound = rw (add-one i) later_sound;
          is = rw (add-one i)
              (ap (λ (l : List ℕ). l ++ rest) (ap (take to) (sym (append_assoc (take at row) new (drop (to - at) (drop at row)))) ∙ take_at (take at row ++ new) (drop (to - at) (drop at row)) to (omega (arith, forward)))
              ∙ append_assoc (take at row) new rest
              ∙ ap (λ (l : List ℕ). take at row ++ (l ++ rest)) e
              ∙ ap (λ (l : List (List (List ℤ))). take at row ++ fates rule l) (sym next_is)
              ∙ x.is);
        }

  pub telling_all : length ss ≤ i → row ≡ fates rule (shapes p (spans cs) (spans ss))
  unfolding fates
  telling_all h =
      let z = drop_of_length-le ss {i = i} h in
      let e : at ≡ length cs = ends_at at (length cs) (ap (λ (l : List (List ℕ)). sound_from at (spans l) (length cs)) (sym z) ∙ x.sound) in
      sym (append-nil row)
      ∙ ap (λ (l : List ℕ). l ++ []) (sym (take_all at row (omega (arith, x.long))))
      ∙ ap (λ (l : List (List ℕ)). take at row ++ fates rule (shapes p (spans cs) (spans l))) (sym z)
      ∙ x.is
