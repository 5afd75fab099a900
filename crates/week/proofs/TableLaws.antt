-- How long the text of a week is.
use mathlib.Core.Path.{◌≡◌, refl}
use mathlib.Core.Bool.{Bool, true, false}
use mathlib.Core.List.{List, [], ◌∷◌}
use Prim.Native.Nat.{ℕ, suc, ◌+◌, ◌≤◌, ◌/◌, ◌^◌}
use native.Mathlib.Omega.{arith}
use lib.Dec.{ltb}
use lib.ListN.{length, get_or, length-append}
use lib.IntN.{ℤ, pos, negsuc}
use Rattle.io.specs.Digits.{last_digits}
use Rattle.buffer.specs.Sets.{joined}
use Rattle.report.specs.Text.{decimal}
use Rattle.report.proofs.TextLaws.{decimal_short, digits-length}
use Rattle.figures.specs.declared.answer.Figures.{Figures}
use Rattle.figures.specs.Joining.{area_sum}
use Rattle.week.specs.declared.answer.Week.{Week}
use Rattle.week.specs.Words.{files_counted, no_more, not_told}
use Rattle.week.specs.Table.{digits_by, long_decimal, long_signed, line, contour_lines, unread_lines, refused_lines, sum_lines, table, if_so, said}

long-length : (n : ℕ) → length (long_decimal n) ≤ 28
long-length n = go (ltb n (10 ^ 8))
  where
    go : (b : Bool) → length (digits_by b n) ≤ 28
    go true = omega (arith, decimal_short n)
    go false = omega (arith, length-append (decimal (n / 10 ^ 8)) (last_digits 10 8 n), decimal_short (n / 10 ^ 8), digits-length 8 n)

signed-length : (z : ℤ) → length (long_signed z) ≤ 29
signed-length (pos n) = omega (arith, long-length n)
signed-length (negsuc n) = omega (arith, long-length (suc n))

-- the blocks of the table
module _ (t : List ℕ) where
  contours-length : length (joined (contour_lines t)) ≤ 77
  unfolding joined
  contours-length = simp length-append (omega (arith, decimal_short (get_or t 0 0), decimal_short (get_or t 7 0)))

  unread_length : length (joined (unread_lines t)) ≤ 245
  unfolding joined
  unread_length = simp length-append (omega (arith, decimal_short (get_or t 2 0), decimal_short (get_or t 9 0), decimal_short (get_or t 10 0), decimal_short (get_or t 11 0)))

  refused-length : length (joined (refused_lines t)) ≤ 240
  unfolding joined
  refused-length = simp length-append (omega (arith, decimal_short (get_or t 3 0), decimal_short (get_or t 5 0), decimal_short (get_or t 15 0), decimal_short (get_or t 16 0)))

sums-length : (f : Figures) → length (joined (sum_lines f)) ≤ 152
unfolding joined
sums-length f = simp length-append (omega (arith, decimal_short f.before, decimal_short f.after, decimal_short f.decisions, signed-length (area_sum f)))

four-length : (a b c d : List ℕ) → length (joined (a ∷ b ∷ c ∷ d ∷ [])) ≡ length a + (length b + (length c + length d))
unfolding joined
four-length a b c d = simp length-append (omega arith)

pub table-length : (f : Figures) → length (table f) ≤ 714
unfolding table
table-length f =
    let t = f.totals in
    omega (
      arith,
      four-length (joined (contour_lines t)) (joined (unread_lines t)) (joined (refused_lines t)) (joined (sum_lines f)),
      contours-length t,
      unread_length t,
      refused-length t,
      sums-length f,
    )

counted-length : (n : ℕ) → length (line files_counted n) ≤ 36
counted-length n = simp length-append (omega (arith, decimal_short n))

if_length : (so : Bool) (word : List ℕ) → length (if_so so word) ≤ length word
if_length true word = omega arith
if_length false word = omega arith

-- all that is said has room in 1,024 bytes
pub said-length : (w : Week) → length (said w) ≤ 1024
unfolding said
said-length w =
    let more : length (if_so w.full no_more) ≤ 74 = if_length w.full no_more in
    let told : length (if_so w.untold not_told) ≤ 78 = if_length w.untold not_told in
    omega (
      arith,
      four-length (table w.figures) (line files_counted w.files) (if_so w.full no_more) (if_so w.untold not_told),
      table-length w.figures,
      counted-length w.files,
      more,
      told,
    )

-- in words
abbrev pub said_words : Week → List (List ℕ)
said_words w = table w.figures ∷ line files_counted w.files ∷ if_so w.full no_more ∷ if_so w.untold not_told ∷ []

pub said_joined : (w : Week) → said w ≡ joined (said_words w)
unfolding said
said_joined w = refl

abbrev pub table_words : Figures → List (List ℕ)
table_words f = joined (contour_lines f.totals) ∷ joined (unread_lines f.totals) ∷ joined (refused_lines f.totals) ∷ joined (sum_lines f) ∷ []

pub table_joined : (f : Figures) → table f ≡ joined (table_words f)
unfolding table
table_joined f = refl
