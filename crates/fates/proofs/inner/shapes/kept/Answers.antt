-- `fates::inner::shapes::kept` meets its contract.
use Rattle.std.proofs.Common.{◌≡◌, ℕ, suc, ◌+◌, Bool, true, false, eqb, cond, List, sym, refl, ◌∙◌, rules, arith}
use Rattle.std.specs.List.{count_by}
use Rattle.std.proofs.iter.runs.Made.{chains}
use Rattle.std.proofs.lemmas.List.Recursion.{is_count_by}
use Rattle.ring.specs.Walk.{occurrences}
use Rattle.fates.specs.Fates.{kept}
use Rattle.fates.proofs.inner.shapes.kept.Goals as goal

occurrences_counted : (x : ℕ) (row : List ℕ) → occurrences x row ≡ count_by (λ (y : ℕ). eqb y x) row
unfolding occurrences
occurrences_counted x = is_count_by (occurrences x) (λ (y : ℕ). eqb y x) refl (λ y row. go (eqb y x) (occurrences x row))
  where
    go : (b : Bool) (n : ℕ) → elim b as (λ _. ℕ) [ true ↦ suc n | false ↦ n ] ≡ cond b (1 + n) n
    go true n = omega arith
    go false n = refl

pub returns : goal.returns
returns c =
    let fates = c.args.fates.now in
    let counted : c.count.result ≡ count_by (λ (y : ℕ). eqb y kept) fates = search (rules, chains) in
    counted ∙ sym (occurrences_counted kept fates)
