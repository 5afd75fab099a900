-- How many lines of a listing have each kind, and the words of the counts.
use mathlib.Core.Path.{◌≡◌, refl, ap}
use mathlib.Core.Bool.{Bool, true, false, cond}
use mathlib.Core.List.{List, [], ◌∷◌, ◌++◌, append_assoc, append-nil}
use Prim.Native.Nat.{ℕ, ◌+◌, ◌≤◌}
use native.Mathlib.Omega.{arith}
use lib.Dec.{eqb}
use lib.ListN.{length, get_or, length-append}
use Rattle.std.specs.List.{count_by}
use Rattle.std.proofs.lemmas.List.Sums.{sum_by-cons}
use Rattle.bits.specs.Bits.{digit}
use Rattle.bits.proofs.BitLaws.{digit_below}
use Rattle.buffer.specs.Sets.{joined}
use Rattle.report.specs.Text.{decimal, line_end}
use Rattle.report.proofs.PutLaws.{Going, going_none}
use Rattle.report.proofs.TextLaws.{decimal-length}
use Rattle.changes.specs.Words.{of_kind, are_same, are_elsewhere, are_different, are_in_the_first, are_in_the_second, how_many, counts}

pub of_kind_few : (kind : ℕ) (listing : List (List ℕ)) → of_kind kind listing ≤ length listing
unfolding of_kind
of_kind_few kind [] = omega arith
of_kind_few kind (row ∷ listing) = omega (arith, digit_below (eqb (get_or row 0 0) kind), of_kind_few kind listing)

-- they are those that the library counts
pub of_kind-count : (kind : ℕ) (listing : List (List ℕ)) → of_kind kind listing ≡ count_by (λ (row : List ℕ). eqb (get_or row 0 0) kind) listing
unfolding of_kind
of_kind-count kind [] = refl
of_kind-count kind (row ∷ listing) = go (eqb (get_or row 0 0) kind) refl (of_kind-count kind listing)
  where
    same : List ℕ → Bool
    same row = eqb (get_or row 0 0) kind

    go : (b : Bool) → eqb (get_or row 0 0) kind ≡ b → of_kind kind listing ≡ count_by same listing → digit b + of_kind kind listing ≡ count_by same (row ∷ listing)
    go true e r = omega (arith, r, sum_by-cons (λ (row : List ℕ). cond (same row) 1 0) row listing, ap {B = ℕ} (λ (b : Bool). cond b 1 0) e)
    go false e r = omega (arith, r, sum_by-cons (λ (row : List ℕ). cond (same row) 1 0) row listing, ap {B = ℕ} (λ (b : Bool). cond b 1 0) e)

-- the words of the last line
abbrev pub words : List (List ℕ) → List (List ℕ)
words listing =
    how_many are_same 0 listing ∷ how_many are_elsewhere 1 listing ∷ how_many are_different 2 listing
    ∷ how_many are_in_the_first 3 listing ∷ how_many are_in_the_second 4 listing ∷ line_end ∷ []

six_words : (a b c d e f : List ℕ) → a ++ b ++ c ++ d ++ e ++ f ≡ joined (a ∷ b ∷ c ∷ d ∷ e ∷ f ∷ [])
unfolding joined
six_words a b c d e f = simp (append_assoc, append-nil)

counts_words : (listing : List (List ℕ)) → counts listing ≡ joined (words listing)
unfolding counts
counts_words listing = six_words _ _ _ _ _ _

-- all are to be put
pub counts_begun : (at : ℕ) (listing : List (List ℕ)) (text : List ℕ) → at + length (counts listing) ≤ length text
    → Going at (counts listing) text at text (words listing)
counts_begun at listing text h = going_none at text (words listing) (counts_words listing) h

pub counts-length : (listing : List (List ℕ)) → length listing ≤ 4095 → length (counts listing) ≤ 108
unfolding counts
counts-length listing h =
    simp length-append (omega (arith, digits 0, digits 1, digits 2, digits 3, digits 4))
  where
    digits : (kind : ℕ) → length (decimal (of_kind kind listing)) ≤ 4
    digits kind = decimal-length (of_kind kind listing) 4 (omega arith) (omega arith) (omega (arith, of_kind_few kind listing))
