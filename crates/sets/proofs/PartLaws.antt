-- The contours of a set that no call refuses: each is itself in the domain, and a loop meets them one by one.
use Rattle.std.proofs.Common.{◌≡◌, ℕ, zero, suc, ◌+◌, ◌-◌, ◌<◌, ◌≤◌, Bool, true, false, List, [], ◌∷◌, length, get_or, drop, ℤ, sym, refl, ap, ◌∙◌, add-one, arith, drop_of_length-le, drop-cons}
use lib.ListN.{length-map}
use Rattle.std.specs.List.{list_all, range_with_len}
use Rattle.replies.specs.Ladder.{first_of}
use Rattle.grid.specs.Limits.{limit}
use Rattle.grid.specs.Domain.{count, domain}
use Rattle.buffer.specs.Spans.{span, spans, sound}
use Rattle.buffer.specs.Sets.{contour, contours}
use Rattle.buffer.specs.inside.Ranges.{Names}
use Rattle.buffer.specs.Contours.{refusals}
use Rattle.buffer.proofs.PartLaws.{contours_at, contour_named, part_contour}
use Rattle.grid.proofs.DomainLaws.{contour_clear}
use Rattle.buffer.proofs.RefusalLaws.{accepted}
use Rattle.sets.specs.Verdicts.{every}

module _ (p : List ℤ) (cs : List (List ℕ)) (k : ℕ) where
  all-length : length (contours p (spans cs)) ≡ length cs
  all-length = length-map (spans cs) (contour p) ∙ length-map cs span

  -- the contours from number k on: the next of them, or none
  pub next_part : k < length cs → drop k (contours p (spans cs)) ≡ contour p (span (get_or cs k [])) ∷ drop (k + 1) (contours p (spans cs))
  next_part h = drop-cons (contours p (spans cs)) k [] (omega (arith, all-length)) ∙ rw (contours_at p cs k h, add-one k)

  pub no_part : length cs ≤ k → drop k (contours p (spans cs)) ≡ []
  no_part h = drop_of_length-le (contours p (spans cs)) {i = k} (omega (arith, all-length))

  module _ (z : first_of (refusals p cs) ≡ 0) (h : k < length cs) where
    pub part_named : Names p cs k
    part_named = contour_named p cs k 0 (sym z) refl h

    pub part_in_domain : first_of (domain limit (contour p (span (get_or cs k [])))) ≡ 0
    part_in_domain =
        let a = accepted limit p (sound (spans cs) (count p)) z in
        contour_clear _ (part_contour p cs k (record { even = a.even; few = a.few; on = a.on }) part_named)

-- a loop that asks contour after contour from number n on: those from number i on decide
module _ (test : List ℤ → Bool) (p : List ℤ) (cs : List (List ℕ)) (n i : ℕ) where
  abbrev pub Rest : Type 0
  Rest = every test (drop n (contours p (spans cs))) ≡ every test (drop i (contours p (spans cs)))

  module _ (l : Rest) where
    module _ (h : i < length cs) where
      pub one_fails : test (contour p (span (get_or cs i []))) ≡ false → every test (drop n (contours p (spans cs))) ≡ false
      unfolding every
      one_fails e = l ∙ ap (every test) (next_part p cs i h) ∙ rw e

      pub one_passes : test (contour p (span (get_or cs i []))) ≡ true → every test (drop n (contours p (spans cs))) ≡ every test (drop (i + 1) (contours p (spans cs)))
      unfolding every
      one_passes e = l ∙ ap (every test) (next_part p cs i h) ∙ rw e

    pub all_pass : length cs ≤ i → every test (drop n (contours p (spans cs))) ≡ true
    unfolding every
    all_pass h = l ∙ ap (every test) (no_part p cs i h)

-- every contour from number n on passes a test, asked number by number
module _ (test : List ℤ → Bool) (p : List ℤ) (cs : List (List ℕ)) where
  pub every_named : (m n : ℕ) → length cs - n ≡ m → list_all (λ (k : ℕ). test (contour p (span (get_or cs k [])))) (range_with_len n m) ≡ every test (drop n (contours p (spans cs)))
  unfolding every
  every_named zero n e = rw (no_part p cs n (omega arith)) refl
  every_named (suc m) n e = rw (next_part p cs n (omega arith), every_named m (n + 1) (omega arith)) refl
