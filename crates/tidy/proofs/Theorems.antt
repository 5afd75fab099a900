-- What a user may count on.
use mathlib.Core.Path.{◌≡◌, refl}
use mathlib.Core.List.{List, []}
use Prim.Native.Nat.{ℕ, ◌<◌}
use native.Mathlib.Omega.{arith}
use lib.ListN.{length, length-append}
use lib.IntN.{ℤ}
use Rattle.replies.proofs.OneOutcome.{Determined, by_its_definition, four}
use Rattle.buffer.specs.Sets.{joined}
use Rattle.fates.specs.Fates.{kept}
use Rattle.jobpack.specs.Packing.{leaving}
use Rattle.tidy.specs.Words.{line}
use Rattle.tidy.proofs.LineLaws.{line_words}
use Rattle.tidy.proofs.inner.tidying.tidy.Reads as tidy·contract

-- any two outcomes that the contract of `tidy` allows are identical
pub a_file_is_tidied_in_one_way : Determined tidy·contract.Learnt (λ κs r e. four e (λ rule bytes out text. leaving r out.now text.now))
a_file_is_tidied_in_one_way = by_its_definition _ (λ κs a r e h. h)

pub no_contour_goes_without_a_line : (k fate : ℕ) (c : List ℤ) → (fate ≡ kept → ⊥) → 0 < length (line k fate c)
unfolding joined
no_contour_goes_without_a_line k fate c n = rw (line_words k fate c n) (simp length-append (omega arith))

pub of_a_kept_contour_nothing_is_said : (k : ℕ) (c : List ℤ) → line k kept c ≡ []
unfolding line
of_a_kept_contour_nothing_is_said k c = refl
