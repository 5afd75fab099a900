-- A shift over rows and over a plain list.
use mathlib.Core.Path.{◌≡◌, refl}
use mathlib.Core.Bool.{true}
use mathlib.Core.List.{List, [], ◌∷◌}
use Prim.Native.Nat.{◌%◌}
use native.Mathlib.Omega.{arith}
use lib.ListN.{length}
use borrow.Author.Tests.{not-false, ltb-false, eqb-false}
use Rattle.replies.proofs.LadderLaws.{clear}
use Rattle.grid.specs.Domain.{count, Contour}
use Rattle.pool.specs.Lists.{Entry, entry, held, own, other, added, removed, Every}
use Rattle.pool.specs.Calls.{refusals}
use Rattle.pool.specs.Calls as Calls
use Rattle.pool.specs.Calls.Call.{add, remove}
use Rattle.pool.specs.Rows.{contents}
use Rattle.pool.specs.Outcome.{number}
use Rattle.pool.proofs.ListLaws.{every_append, every_removed}
use Rattle.pool.proofs.FairLaws.{unless_either}
use Rattle.pool.proofs.RowTheorems.{read_laid}
use Rattle.sifting.specs.inside.Cleaning.{InDomain}
use Rattle.sifting.proofs.CleanedLaws.{cleaned_in_domain, domain_even}
use Rattle.shift.specs.Steps.{Request}
use Rattle.shift.specs.Steps.Request.{adds, removes, cleans, asks}
use Rattle.shift.specs.States.{after}
use Rattle.shift.specs.Replay.{State, next}
use Rattle.shift.specs.Promises.{run, run_rows}

-- whatever is asked for, every contour of the pool is one of the domain
pub the_pool_stays_in_the_domain : (r : Request) (l : List Entry) → Every InDomain l → Every InDomain (after r l)
the_pool_stays_in_the_domain (adds b contour) l d =
    unless_either (Every InDomain) (Calls.told true (number b) l (add 0 contour)) (added (entry (number b) 0 contour) l) l (λ z. every_append InDomain l _ d (domain-of z, tt)) d
  where
    domain-of : Calls.told true (number b) l (add 0 contour) ≡ 0 → Contour contour (count contour)
    domain-of z =
        let c = clear (refusals true true (own (number b) l) (held (own (other (number b)) l)) (add 0 contour)) tt z in
        record { even = omega (arith, eqb-false (length contour % 2) 1 c.0); few = ltb-false _ _ c.1.0; on = not-false _ c.1.1.1.0 }
the_pool_stays_in_the_domain (removes b) l d =
    unless_either (Every InDomain) (Calls.told true (number b) l remove) (removed (number b) l) l (λ z. every_removed InDomain (number b) l d) d
the_pool_stays_in_the_domain (cleans rule) l d = cleaned_in_domain rule l d
the_pool_stays_in_the_domain (asks b p) l d = d

-- the state after any requests is that of the plain list of contours after the same requests
pub the_state_is_that_of_the_list : (h : List Request) (s : State) → (run_rows h s).pool ≡ run h s.pool
unfolding run run_rows
the_state_is_that_of_the_list [] s = refl
the_state_is_that_of_the_list (r ∷ h) s = the_state_is_that_of_the_list h (next r s)

-- and the rows hold that list, for every prefix of a shift
pub the_rows_hold_the_list : (h : List Request) (s : State) → Every InDomain s.pool → contents s.rows ≡ s.pool → contents (run_rows h s).rows ≡ run h s.pool
unfolding run run_rows
the_rows_hold_the_list [] s d e = e
the_rows_hold_the_list (r ∷ h) s d e =
    let k = the_pool_stays_in_the_domain r s.pool d in
    the_rows_hold_the_list h (next r s) k (read_laid (after r s.pool) s.rows (domain_even (after r s.pool) k))
