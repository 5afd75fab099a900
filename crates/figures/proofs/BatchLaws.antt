-- The figures of entries add up.
use mathlib.Core.Path.{◌≡◌, refl, sym, ◌∙◌, ap, ap₂}
use mathlib.Core.List.{List, [], ◌∷◌, ◌++◌, append_assoc}
use Prim.Native.Nat.{ℕ, zero, suc, ◌+◌, ◌<◌}
use native.Mathlib.Omega.{arith}
use native.Mathlib.Nat.{zero-add}
use lib.ListN.{length, get_or, replicate, length-set, length-replicate}
use lib.IntN.{ℤ, ◌+ℤ◌, +ℤ_assoc, +ℤ_idl}
use Rattle.figures.specs.Entries.{Entry, Found, entries, all_entries}
use Rattle.figures.specs.Batch.{numbers, one_more, tally, sum_of, areas, figures_of, batch_figures}
use Rattle.figures.specs.Joining.{added_up, total, in_all, area_sum, sum}
use Rattle.figures.proofs.HalvesLaws.{whole_is}

-- there is one total for each reply number
pub tally-length : (l : List Entry) → length (tally l) ≡ numbers
unfolding tally
tally-length [] = length-replicate {A = ℕ} numbers 0
tally-length (e ∷ l) = length-set (tally l) e.reply (suc (get_or (tally l) e.reply 0)) ∙ tally-length l

added_none : (n : ℕ) (s : List ℕ) → length s ≡ n → added_up (replicate n 0) s ≡ s
unfolding added_up
added_none zero [] e = refl
added_none zero (y ∷ s) e = absurd (omega arith)
added_none (suc n) [] e = absurd (omega arith)
added_none (suc n) (y ∷ s) e = ap₂ {C = List ℕ} (λ (x : ℕ) (r : List ℕ). x ∷ r) (zero-add y) (added_none n s (omega arith))

added_one_more : (k : ℕ) (r s : List ℕ) → length r ≡ length s → added_up (one_more k r) s ≡ one_more k (added_up r s)
unfolding added_up
added_one_more k [] s e = refl
added_one_more k (x ∷ r) [] e = absurd (omega arith)
added_one_more zero (x ∷ r) (y ∷ s) e = ap (λ (z : ℕ). z ∷ added_up r s) (omega arith)
added_one_more (suc k) (x ∷ r) (y ∷ s) e = ap (λ (l : List ℕ). (x + y) ∷ l) (added_one_more k r s (omega arith))

tally-append : (a b : List Entry) → tally (a ++ b) ≡ added_up (tally a) (tally b)
unfolding tally
tally-append [] b = sym (added_none numbers (tally b) (tally-length b))
tally-append (e ∷ a) b = ap (one_more e.reply) (tally-append a b) ∙ sym (added_one_more e.reply (tally a) (tally b) (tally-length a ∙ sym (tally-length b)))

sum-append : (part : Entry → ℕ) (a b : List Entry) → sum_of part (a ++ b) ≡ sum_of part a + sum_of part b
unfolding sum_of
sum-append part [] b = sym (zero-add (sum_of part b))
sum-append part (e ∷ a) b = omega (arith, sum-append part a b)

areas-append : (a b : List Entry) → areas (a ++ b) ≡ areas a +ℤ areas b
unfolding areas
areas-append [] b = sym (+ℤ_idl (areas b))
areas-append (e ∷ a) b = ap (λ (z : ℤ). e.area +ℤ z) (areas-append a b) ∙ sym (+ℤ_assoc e.area (areas a) (areas b))

-- high and low of figures make up the exact sum of the areas
pub area_is : (l : List Entry) → area_sum (figures_of l) ≡ areas l
unfolding figures_of
area_is l = whole_is (areas l)

-- the figures of two lists of entries, added up, are those of both together
pub figures-append : (a b : List Entry) → sum (figures_of a) (figures_of b) ≡ figures_of (a ++ b)
unfolding sum figures_of
figures-append a b =
    let z : area_sum (figures_of a) +ℤ area_sum (figures_of b) ≡ areas (a ++ b) = ap₂ ◌+ℤ◌ (area_is a) (area_is b) ∙ sym (areas-append a b) in
    rw (z, tally-append a b, sum-append (λ e. e.before) a b, sum-append (λ e. e.after) a b, sum-append (λ e. e.decisions) a b)

pub entries-append : (a b : List Found) → all_entries (a ++ b) ≡ all_entries a ++ all_entries b
unfolding all_entries
entries-append [] b = refl
entries-append (s ∷ a) b = ap (λ (l : List Entry). entries s ++ l) (entries-append a b) ∙ sym (append_assoc (entries s) (all_entries a) (all_entries b))

-- and so of two lists of sets
pub batches_add_up : (a b : List Found) → sum (batch_figures a) (batch_figures b) ≡ batch_figures (a ++ b)
batches_add_up a b = figures-append (all_entries a) (all_entries b) ∙ ap figures_of (sym (entries-append a b))

-- how many there are in all
total_one_more : (k : ℕ) (r : List ℕ) → k < length r → total (one_more k r) ≡ suc (total r)
unfolding total
total_one_more k [] h = absurd (omega arith)
total_one_more zero (x ∷ r) h = omega arith
total_one_more (suc k) (x ∷ r) h = omega (arith, total_one_more k r (omega arith))

total_none : (n : ℕ) → total (replicate n 0) ≡ 0
unfolding total
total_none zero = refl
total_none (suc n) = omega (arith, total_none n)

-- each entry has a reply number
pub data Numbered : List Entry → Type 0 where
  none : Numbered []
  more : {e : Entry} {l : List Entry} → e.reply < numbers → Numbered l → Numbered (e ∷ l)

pub counted_is : {l : List Entry} → Numbered l → in_all (figures_of l) ≡ length l
unfolding figures_of tally
counted_is none = total_none numbers
counted_is (more {e = e} {l = l} h r) = total_one_more e.reply (tally l) (omega (arith, tally-length l)) ∙ ap suc (counted_is r)
