-- A pool that is cleaned, contour by contour.
use mathlib.Core.Path.{◌≡◌, refl, sym, ◌∙◌, ap, subst}
use mathlib.Core.Bool.{Bool, true, false}
use mathlib.Core.List.{List, [], ◌∷◌, ◌++◌}
use Prim.Native.Nat.{ℕ, ◌+◌, ◌*◌, ◌≤◌}
use native.Mathlib.Omega.{arith}
use lib.Dec.{eqb}
use lib.ListN.{length}
use lib.IntN.{ℤ}
use Rattle.integers.proofs.Logic.{and_both}
use Rattle.grid.specs.Limits.{limit, all_on_grid}
use Rattle.grid.specs.Points.{points}
use Rattle.grid.specs.Domain.{count}
use Rattle.grid.proofs.LimitLaws.{all_on_grid_at}
use Rattle.ring.specs.declared.Rule.{Rule}
use Rattle.ring.specs.Walk.{Tally, End}
use Rattle.ring.specs.Walk.End.{kept, collapsed}
use Rattle.clean.specs.Outcome.{chosen, walked}
use Rattle.clean.specs.Verdicts.{passes}
use Rattle.pool.specs.Lists.{Entry, entry, held, if_so, own, Every, Pressed, Tooled, Even, Fair}
use Rattle.pool.specs.inside.Records.{total}
use Rattle.sets.specs.Fates.{Fate, walk_fate, fate, none_counted}
use Rattle.sets.specs.Fates.Fate.{stays, gone}
use Rattle.sets.proofs.FateLaws.{Smaller, fate_smaller}
use Rattle.sifting.specs.Cleaned.{Cleaned, and_later, cleaned}
use Rattle.sifting.specs.inside.Cleaning.{InDomain}

-- two cleaned pools, one behind the other
abbrev pub both : Cleaned → Cleaned → Cleaned
both a b = record { pool = a.pool ++ b.pool; decisions = a.decisions + b.decisions }

front_both : (e : Entry) (f : Fate) (a b : Cleaned) → and_later e f (both a b) ≡ both (and_later e f a) b
front_both e (stays c t) a b = ap (λ (n : ℕ). record { pool = entry e.press e.tool c ∷ a.pool ++ b.pool; decisions = n }) (omega arith)
front_both e (gone t) a b = ap (λ (n : ℕ). record { pool = a.pool ++ b.pool; decisions = n }) (omega arith)

pub cleaned-append : (rule : Rule) (a b : List Entry) → cleaned rule (a ++ b) ≡ both (cleaned rule a) (cleaned rule b)
unfolding cleaned
cleaned-append rule [] b = ap (λ (n : ℕ). record { pool = (cleaned rule b).pool; decisions = n }) (omega arith)
cleaned-append rule (e ∷ a) b =
    ap (and_later e (fate rule e.contour)) (cleaned-append rule a b) ∙ front_both e (fate rule e.contour) (cleaned rule a) (cleaned rule b)

-- one contour
abbrev pub cleaned_one : Entry → Fate → Cleaned
cleaned_one e f = and_later e f (record { pool = []; decisions = 0 })

pub cleaned_only : (rule : Rule) (e : Entry) → cleaned rule (e ∷ []) ≡ cleaned_one e (fate rule e.contour)
unfolding cleaned
cleaned_only rule e = refl

-- what one list holds is no more than what another does
pub record Fewer (a b : List Entry) : Type 0 where
  pub contours_fewer : length a ≤ length b
  pub points_fewer : total a ≤ total b
  pub held_fewer : held a ≤ held b
  pub own_fewer : (p : ℕ) → held (own p a) ≤ held (own p b)

fewer_none : Fewer [] []
fewer_none = record { contours_fewer = omega arith; points_fewer = omega arith; held_fewer = omega arith; own_fewer = λ p. omega arith }

fewer_gone : (e : Entry) (a b : List Entry) → Fewer a b → Fewer a (e ∷ b)
unfolding held own
fewer_gone e a b f = record {
  contours_fewer = omega (arith, f.contours_fewer);
  points_fewer = omega (arith, f.points_fewer);
  held_fewer = omega (arith, f.held_fewer);
  own_fewer = λ p. either (eqb p e.press) (own p a) (own p b) (f.own_fewer p);
}
  where
    either : (t : Bool) (x y : List Entry) → held x ≤ held y → held x ≤ held (if_so t e y)
    either true x y h = omega arith
    either false x y h = h

fewer_stays : (e : Entry) (c : List ℤ) (a b : List Entry) → count c ≤ count e.contour → Fewer a b → Fewer (entry e.press e.tool c ∷ a) (e ∷ b)
unfolding held own
fewer_stays e c a b n f = record {
  contours_fewer = omega (arith, f.contours_fewer);
  points_fewer = omega (arith, f.points_fewer);
  held_fewer = omega (arith, f.held_fewer);
  own_fewer = λ p. either (eqb p e.press) (own p a) (own p b) (f.own_fewer p);
}
  where
    either : (t : Bool) (x y : List Entry) → held x ≤ held y → held (if_so t (entry e.press e.tool c) x) ≤ held (if_so t e y)
    either true x y h = omega arith
    either false x y h = h

-- a cleaned pool is no larger, and takes at most four decisions for each point
pub record Lessened (rule : Rule) (l : List Entry) : Type 0 where
  pub fewer : Fewer (cleaned rule l).pool l
  pub decisions_few : (cleaned rule l).decisions ≤ 4 * total l

pub lessened : (rule : Rule) (l : List Entry) → Every InDomain l → Lessened rule l
unfolding cleaned
lessened rule [] d = record { fewer = fewer_none; decisions_few = omega arith }
lessened rule (e ∷ l) d =
    let r = go (lessened rule l d.1) (fate rule e.contour) (fate_smaller rule e.contour d.0) in record { fewer = r.0; decisions_few = r.1 }
  where
    go : Lessened rule l → (f : Fate) → Smaller e.contour f
        → Fewer (and_later e f (cleaned rule l)).pool (e ∷ l) × ((and_later e f (cleaned rule l)).decisions ≤ 4 * total (e ∷ l))
    go rest (stays c t) s = (fewer_stays e c _ l (omega (arith, s.0, s.1, d.0.even)) rest.fewer, omega (arith, s.2, d.0.even, rest.decisions_few))
    go rest (gone t) s = (fewer_gone e _ l rest.fewer, omega (arith, s.0, d.0.even, rest.decisions_few))

-- what holds of every contour and of what is kept of one holds of every one that is kept
module _ (rule : Rule) (P : Entry → Type 0) (keeps : (e : Entry) (c : List ℤ) (t : Tally) → P e → fate rule e.contour ≡ stays c t → P (entry e.press e.tool c)) where
  pub every_cleaned : (l : List Entry) → Every P l → Every P (cleaned rule l).pool
  unfolding cleaned
  every_cleaned [] h = tt
  every_cleaned (e ∷ l) h = go (every_cleaned l h.1) (fate rule e.contour) refl
    where
      go : Every P (cleaned rule l).pool → (f : Fate) → fate rule e.contour ≡ f → Every P (and_later e f (cleaned rule l)).pool
      go rest (stays c t) q = (keeps e c t h.0 q, rest)
      go rest (gone t) q = rest

-- what is chosen of a row on the grid is on it
chosen_on : (row : List ℤ) → all_on_grid limit row ≡ true → (s : List ℕ) → all_on_grid limit (chosen row s) ≡ true
unfolding chosen all_on_grid
chosen_on row h [] = refl
chosen_on row h (i ∷ s) = and_both _ _ (all_on_grid_at limit row (2 * i) h) (and_both _ _ (all_on_grid_at limit row (2 * i + 1) h) (chosen_on row h s))

kept_on : (rule : Rule) (c d : List ℤ) (t : Tally) → all_on_grid limit c ≡ true → fate rule c ≡ stays d t → all_on_grid limit d ≡ true
unfolding fate
kept_on rule c d t h = go (passes rule (points c))
  where
    walks : (e : End) (k : Tally) → walk_fate c e k ≡ stays d t → all_on_grid limit d ≡ true
    walks (kept s) k q = let r : chosen c s ≡ d = cc in ap (all_on_grid limit) (sym r) ∙ chosen_on c h s
    walks collapsed k q = let z : ◌≡◌ {A = ℕ} 0 1 = cc in absurd (omega arith)

    go : (b : Bool) → elim b [ true ↦ stays c none_counted | false ↦ walk_fate c (walked rule c).end (walked rule c).tally ] ≡ stays d t → all_on_grid limit d ≡ true
    go true q = let r : c ≡ d = cc in ap (all_on_grid limit) (sym r) ∙ h
    go false q = walks (walked rule c).end (walked rule c).tally q

-- a contour of the domain is kept as one
kept_in_domain : (rule : Rule) (e : Entry) (c : List ℤ) (t : Tally) → InDomain e → fate rule e.contour ≡ stays c t → InDomain (entry e.press e.tool c)
kept_in_domain rule e c t d q =
    let s = subst (Smaller e.contour) q (fate_smaller rule e.contour d) in
    record { even = s.1; few = omega (arith, s.0, s.1, d.even, d.few); on = kept_on rule e.contour c t d.on q }

-- what a cleaned pool keeps of the pool
module _ (rule : Rule) (l : List Entry) where
  pub cleaned_in_domain : Every InDomain l → Every InDomain (cleaned rule l).pool
  cleaned_in_domain = every_cleaned rule InDomain (kept_in_domain rule) l

  pub cleaned_tools : Every Tooled l → Every Tooled (cleaned rule l).pool
  cleaned_tools = every_cleaned rule Tooled (λ e c t h q. h) l

  pub cleaned_fair : Every InDomain l → Fair l → Fair (cleaned rule l).pool
  cleaned_fair d f =
      let n = (lessened rule l d).fewer in
      record {
        pressed = every_cleaned rule Pressed (λ e c t h q. h) l f.pressed;
        first = omega (arith, n.own_fewer 0, n.own_fewer 1, f.first);
        second = omega (arith, n.own_fewer 0, n.own_fewer 1, f.second);
      }

-- a contour of the domain has an even count of numbers
pub domain_even : (l : List Entry) → Every InDomain l → Every Even l
domain_even [] h = tt
domain_even (e ∷ l) h = (h.0.even, domain_even l h.1)
