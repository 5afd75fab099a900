-- What a contour's fate leaves of it.
use Rattle.std.proofs.Common.{◌≡◌, ℕ, ◌-◌, ◌*◌, ◌<◌, ◌≤◌, Bool, true, false, List, [], length, ℤ, sym, refl, ap, ◌∙◌, arith}
use Rattle.grid.specs.Points.{points}
use Rattle.grid.specs.Domain.{count, Contour}
use Rattle.ring.specs.declared.Rule.{Rule}
use Rattle.ring.specs.Walk.{Tally, End}
use Rattle.ring.specs.Walk.End.{kept, collapsed}
use Rattle.ring.specs.Rule.{goes}
use Rattle.ring.proofs.Listed.{rising_few}
use Rattle.ring.proofs.Theorems.{ends_in_4n_9, turns_at_most_5n, kept_rising}
use Rattle.clean.specs.declared.cleaning.Cleaned.{Cleaned}
use Rattle.clean.specs.Outcome.{walked, answer, lent, finished}
use Rattle.clean.specs.inside.Settling.{Settled}
use Rattle.clean.proofs.RowLaws.{length_chosen}
use Rattle.clean.proofs.OutcomeLaws.{contour_count, settled_few}
use Rattle.clean.proofs.VerdictLaws.{passes_few}
use Rattle.rows.specs.Rows.{placed}
use Rattle.rows.proofs.RowLaws.{placed_front}
use Rattle.sets.specs.Fates.{none_counted, Fate, walk_fate, fate}
use Rattle.sets.specs.Fates.Fate.{stays, gone}
use Rattle.sets.specs.inside.Contour.{answer_of, output_of, Fated}
use Rattle.clean.specs.Verdicts.{passes}

module _ (rule : Rule) (c out : List ℤ) where
  fate_passing : passes rule (points c) ≡ true → fate rule c ≡ stays c none_counted
  unfolding fate
  fate_passing e = rw (e, fate)

  fate_walked : passes rule (points c) ≡ false → fate rule c ≡ walk_fate c (walked rule c).end (walked rule c).tally
  unfolding fate
  fate_walked e = rw (e, fate)

  -- a contour that passes was copied
  pub fated_copied : (b : Bool) → b ≡ passes rule (points c) → b ≡ true → (exit : List ℤ) → exit ≡ placed 0 c out → Fated rule c out (answer 0 (count c) 0 0) exit
  fated_copied b e t exit f =
      let g = fate_passing (sym e ∙ t) in
      record { answer = rw g; output = rw g (f ∙ placed_front out c) }

  -- one that does not was walked
  pub fated_walked : (b : Bool) → b ≡ passes rule (points c) → b ≡ false → (r : Cleaned) (exit : List ℤ) → Settled rule c out r exit → Fated rule c out r exit
  fated_walked b e t r exit s =
      let g = fate_walked (sym e ∙ t) in
      let w = walked rule c in
      record { answer = rw g (s.answer ∙ tells w.end w.tally); output = rw g (s.output ∙ writes w.end w.tally) }
    where
      tells : (e : End) (k : Tally) → (finished c e k (lent [] [] [] out)).answer ≡ answer_of (walk_fate c e k)
      tells (kept s) k = ap (λ (n : ℕ). answer 0 n k.decisions k.turns) (let l = length_chosen c s in omega arith)
      tells collapsed k = refl

      writes : (e : End) (k : Tally) → (finished c e k (lent [] [] [] out)).rows.out ≡ output_of (walk_fate c e k) out
      writes (kept s) k = refl
      writes collapsed k = refl

  -- under three points it collapses
  pub fated_few : {n : ℕ} → Contour c n → n < 3 → Fated rule c out (answer 7 0 0 0) out
  fated_few k h = fated_walked false (passes_few c rule (omega (arith, contour_count k))) refl _ _ (settled_few rule c out k h)

-- a contour does not grow, keeps an even count of numbers, and takes at most four decisions and six turns for each point
abbrev pub Smaller : List ℤ → Fate → Type 0
Smaller c (stays d t) = (length d ≤ length c) × (length d ≡ 2 * count d) × (t.decisions ≤ 2 * length c) × (t.turns ≤ 3 * length c)
Smaller c (gone t) = (t.decisions ≤ 2 * length c) × (t.turns ≤ 3 * length c)

pub fate_smaller : (rule : Rule) (c : List ℤ) → Contour c (count c) → Smaller c (fate rule c)
unfolding fate
fate_smaller rule c x = go (passes rule (points c))
  where
    few : (walked rule c).tally.decisions ≤ 4 * count c - 9
    few = ends_in_4n_9 (goes rule c) (count c)

    short : (walked rule c).tally.turns ≤ 5 * count c
    short = turns_at_most_5n (goes rule c) (count c)

    walks : (e : End) → (walked rule c).end ≡ e → Smaller c (walk_fate c e (walked rule c).tally)
    walks (kept s) e =
        let l = length_chosen c s in
        let r = rising_few 0 (count c) s (kept_rising (goes rule c) (count c) e) in
        (omega (arith, x.even), omega arith, omega (arith, x.even, few), omega (arith, x.even, short))
    walks collapsed e = (omega (arith, x.even, few), omega (arith, x.even, short))

    go : (b : Bool) → Smaller c (elim b [ true ↦ stays c none_counted | false ↦ walk_fate c (walked rule c).end (walked rule c).tally ])
    go true = (omega arith, x.even, omega arith, omega arith)
    go false = walks (walked rule c).end refl
