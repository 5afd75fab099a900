-- What counting a file comes to.
use mathlib.Core.Path.{◌≡◌, refl, sym, ◌∙◌, ap}
use mathlib.Core.Bool.{Bool, true, false, not}
use mathlib.Core.List.{List, [], ◌∷◌}
use Prim.Native.Nat.{ℕ, zero, suc, ◌+◌, ◌*◌, ◌≤◌}
use native.Mathlib.Omega.{arith}
use lib.Dec.{eqb}
use lib.ListN.{length, take, drop}
use lib.IntN.{ℤ}
use borrow.Author.Tests.{le-leb, le-ltb}
use Rattle.replies.specs.Ladder.{first_of}
use Rattle.replies.proofs.LadderLaws.{first_is, onward, first_within}
use Rattle.replies.proofs.LadderLaws.First.{past, foot}
use Rattle.grid.specs.Domain.{count}
use Rattle.ring.specs.declared.Rule.{Rule}
use Rattle.clean.specs.Outcome.{Lent}
use Rattle.buffer.specs.Spans.{spans, sound}
use Rattle.buffer.specs.Sets.{contours}
use Rattle.buffer.specs.Contours.{refusals}
use Rattle.buffer.proofs.WrittenLaws.{accepted_clear}
use Rattle.difference.specs.inside.Sets.{Sound}
use Rattle.setfile.specs.Entries.{Entry, Parsed, and_then, damage}
use Rattle.setfile.specs.Entries.Parsed.{carries, damaged}
use Rattle.setfile.specs.Layouts.{end_damage, contours_in, promised, read_in}
use Rattle.setfile.specs.declared.answer.Read.{Read}
use Rattle.setfile.specs.Editions.{number, layout, is_second, head_damage, parsed}
use Rattle.setfile.specs.inside.Reading.{from_bit}
use Rattle.report.specs.Listing.{rule_of, most_listed, job, listing_refusals}
use Rattle.report.proofs.ReportLaws.{accepted}
use Rattle.changes.proofs.ReadLaws.{HasRead, contours_back, set_sound, accepted_file, edition_is, points_are, ranges_are}
use Rattle.figures.specs.declared.answer.Figures.{Figures}
use Rattle.figures.specs.declared.answer.Added.{Added}
use Rattle.figures.specs.Entries.{Found, entries, refused_set}
use Rattle.figures.specs.Batch.{figures_of}
use Rattle.figures.specs.Joining.{sum, fits, over, answered}
use Rattle.figures.specs.Adding.{lacking, set_refusals, found, adding_refusals, used, outcome, add_outcome}
use Rattle.week.specs.Counting.{taken, found_file, with_found}

-- no damage has a number past 21
then_small : (e : Entry) (w : Parsed) → damage w ≤ 21 → damage (and_then e w) ≤ 21
then_small e (carries l) h = h
then_small e (damaged r) h = h

wrong_small : (s first : Bool) (n : ℕ) (l : List Bool) → (layout s).wrong first n l ≤ 21
wrong_small true first n l = first_within 21 _ refl
wrong_small false first n l = first_within 21 _ refl

contours_small : (s : Bool) (k : ℕ) (first : Bool) (n : ℕ) (l : List Bool) → damage (contours_in (layout s) k first n l) ≤ 21
unfolding contours_in
contours_small s zero first n l = go (end_damage l) (first_within 21 _ refl)
  where
    go : (r : ℕ) → r ≤ 21 → damage (elim r [ suc r ↦ damaged (suc r) | zero ↦ carries [] ]) ≤ 21
    go zero h = h
    go (suc r) h = h
contours_small s (suc k) first n l =
    go ((layout s).wrong first n l) (wrong_small s first n l) (contours_small s k false (n + count ((layout s).read l).points) (drop ((layout s).size l) l))
  where
    rest : Parsed
    rest = contours_in (layout s) k false (n + count ((layout s).read l).points) (drop ((layout s).size l) l)

    go : (r : ℕ) → r ≤ 21 → damage rest ≤ 21 → damage (elim r [ suc r ↦ damaged (suc r) | zero ↦ and_then ((layout s).read l) rest ]) ≤ 21
    go zero h g = then_small ((layout s).read l) rest g
    go (suc r) h g = h

module _ (file : List ℕ) where
  damage_small : damage (parsed file) ≤ 21
  unfolding parsed
  damage_small = go (head_damage file) (first_within 21 _ refl)
    where
      go : (r : ℕ) → r ≤ 21 → damage (elim r [ suc r ↦ damaged (suc r) | zero ↦ read_in (layout (is_second file)) file ]) ≤ 21
      go zero h = contours_small (is_second file) (promised file) true 0 (from_bit file 16)
      go (suc r) h = h

  -- and so no refusal of a file
  pub refusal_small : first_of (listing_refusals file) ≤ 21
  refusal_small = first_within 21 (listing_refusals file) (rw (le-leb (damage (parsed file)) 21 damage_small))

  -- a refused file counts once, under its number
  pub refused_counted : (f : Figures) (r : ℕ) → r ≡ first_of (listing_refusals file) → (r ≡ 0 → ⊥)
      → answered (first_of (over (fits f 1))) f (sum f (figures_of (refused_set r ∷ []))) ≡ with_found f (found_file file)
  unfolding with_found
  refused_counted f zero e n = absurd (n refl)
  refused_counted f (suc k) e n = rw (← e)

-- a sound set of so few points, in rows that have room for it
module _ (p : List ℤ) (ranges : List (List ℕ)) (l : Lent) where
  pub record Brought : Type 0 where
    pub sound : Sound p ranges
    pub in_next : count p ≤ length l.next
    pub in_prev : count p ≤ length l.prev
    pub in_mark : count p ≤ length l.mark
    pub in_out : 2 * count p ≤ length l.out

  module _ (b : Brought) where
    brought_clear : first_of (set_refusals p ranges l) ≡ 0
    brought_clear =
        let d = b.sound.domain in
        sym
        (first_is (set_refusals p ranges l) 0
        (onward (refusals p ranges) (lacking p l) 0 tt
        (accepted_clear p (sound (spans ranges) (count p)) (record { even = d.even; few = d.few; sound = b.sound.tied; on = d.on }))
        (past (le-ltb _ _ b.in_next)
        (past (le-ltb _ _ b.in_prev)
        (past (le-ltb _ _ b.in_mark)
        (past (ap not (le-leb (length p) (length l.out) (omega (arith, d.even, b.in_out)))) foot))))))

    -- it is counted, contour by contour
    pub set_counted : (f : Figures) (rule : Rule) → (add_outcome f rule p ranges l).answer ≡ with_found f (taken rule (contours p (spans ranges)))
    unfolding add_outcome with_found
    set_counted f rule =
        go (first_of (adding_refusals f (found rule p ranges l))) (used (found rule p ranges l).refusal rule (contours p (spans ranges)) (count p) l)
        ∙ ap (λ (k : ℕ). counted (record { rule = rule; refusal = k; contours = contours p (spans ranges) })) brought_clear
      where
        counted : Found → Added
        counted s = answered (first_of (adding_refusals f s)) f (sum f (figures_of (entries s)))

        go : (r : ℕ) (rows : Lent) → (outcome r f (sum f (figures_of (entries (found rule p ranges l)))) l rows).answer ≡ answered r f (sum f (figures_of (entries (found rule p ranges l))))
        go zero rows = refl
        go (suc k) rows = refl

second_is : (s : Bool) (e : ℕ) → e ≡ number s → eqb e 2 ≡ s
second_is true e h = ap (λ (k : ℕ). eqb k 2) h
second_is false e h = ap (λ (k : ℕ). eqb k 2) h

-- a file that is read and not refused
module _ {file : List ℕ} {out : List ℤ} {cs ss : List (List ℕ)} {r : Read} {out' : List ℤ} {cs' ss' : List (List ℕ)} (done : HasRead file out cs ss r out' cs' ss') (z : r.reply ≡ 0) where
  pub read_sound : Sound (take (2 * r.points) out') (take r.contours cs') × (count (take (2 * r.points) out') ≤ most_listed)
  read_sound =
      let few = (accepted file (accepted_file done z)).few in
      rw (points_are done z, ranges_are done z) (set_sound file (accepted_file done z), omega (arith, few))

  pub read_counted : (f : Figures) → with_found f (taken (rule_of (eqb r.edition 2)) (contours (take (2 * r.points) out') (spans (take r.contours cs')))) ≡ with_found f (found_file file)
  read_counted f =
      rw (second_is (is_second file) r.edition (edition_is done z), points_are done z, ranges_are done z, contours_back file)
      (ap (λ (k : ℕ). with_found f (record { rule = rule_of (is_second file); refusal = k; contours = job file })) (sym (accepted_file done z)))
