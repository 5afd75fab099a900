-- How long the text of a file can be.
use mathlib.Core.Path.{◌≡◌, refl, sym, ◌∙◌}
use mathlib.Core.Bool.{Bool, true, false}
use mathlib.Core.List.{List, [], ◌∷◌, ◌++◌}
use Prim.Native.Nat.{ℕ, zero, suc, ◌+◌, ◌*◌, ◌≤◌}
use native.Mathlib.Omega.{arith}
use lib.ListN.{length, length-append}
use lib.IntN.{ℤ}
use lib.IntN.ℤ.{pos, negsuc}
use borrow.Author.Tests.{leb-true}
use Rattle.integers.proofs.Logic.{and_left, and_right}
use Rattle.grid.specs.Limits.{limit, most, on_grid, all_on_grid}
use Rattle.grid.proofs.LimitLaws.{on_grid_size, all_on_wider, on_joined}
use Rattle.replies.specs.Ladder.{first_of}
use Rattle.bits.specs.Bits.{Bytes}
use Rattle.buffer.specs.Sets.{joined}
use Rattle.setfile.specs.Entries.{Entry, contours_of, read_contours}
use Rattle.setfile.specs.Editions.{bound, is_second, parsed}
use Rattle.setfile.specs.Reading.{refusals}
use Rattle.setfile.specs.Promises.{points_of}
use Rattle.setfile.proofs.SizeLaws.{promised_few}
use Rattle.setfile.proofs.HoldLaws.{bound_within}
use Rattle.setfile.proofs.Theorems.{the_set_that_is_read_can_be_carried}
use Rattle.report.specs.Text.{places, decimal, signed, line_end}
use Rattle.report.proofs.TextLaws.{decimal-length, decimal_short}
use Rattle.report.proofs.JobLaws.{job_sized}
use Rattle.jobtext.specs.Text.{word, spaced, numbers, line, lines, head, dumped}
use Rattle.jobtext.proofs.DumpLaws.{dumped_refused, dumped_done}

-- a coordinate has at most ten digits and its sign
pub signed_short : (z : ℤ) → on_grid limit z ≡ true → length (signed z) ≤ 11
unfolding limit
signed_short (pos n) e = omega (arith, decimal-length n 10 (omega arith) (omega arith) (omega (arith, leb-true n limit (sym (on_grid_size limit (pos n)) ∙ e))))
signed_short (negsuc n) e =
    omega (arith, decimal-length (suc n) 10 (omega arith) (omega arith) (omega (arith, leb-true (suc n) limit (sym (on_grid_size limit (negsuc n)) ∙ e))))

numbers_short : (c : List ℤ) → all_on_grid limit c ≡ true → length (numbers c) ≤ 12 * length c
unfolding numbers all_on_grid
numbers_short [] e = omega arith
numbers_short (z ∷ c) e =
    omega (
      arith,
      length-append (spaced z) (numbers c),
      signed_short z (and_left (on_grid limit z) (all_on_grid limit c) e),
      numbers_short c (and_right (on_grid limit z) (all_on_grid limit c) e),
    )

word_short : (b : Bool) → length (word b) ≤ 5
word_short true = omega arith
word_short false = omega arith

-- six characters for each contour, and twelve for each number
pub lines_short : (l : List Entry) → all_on_grid limit (joined (contours_of l)) ≡ true → length (lines l) ≤ 6 * length l + 12 * length (joined (contours_of l))
unfolding lines joined
lines_short [] e = omega arith
lines_short (a ∷ l) e =
    let o = sym (on_joined limit a.points (joined (contours_of l))) ∙ e in
    omega (
      arith,
      length-append (line a) (lines l),
      length-append (word a.begins ++ numbers a.points) line_end,
      length-append (word a.begins) (numbers a.points),
      length-append a.points (joined (contours_of l)),
      word_short a.begins,
      numbers_short a.points (and_left (all_on_grid limit a.points) (all_on_grid limit (joined (contours_of l))) o),
      lines_short l (and_right (all_on_grid limit a.points) (all_on_grid limit (joined (contours_of l))) o),
    )

head_long : (s : Bool) → length (head s) ≡ 10
unfolding decimal places
head_long true = refl
head_long false = refl

-- the text of any file has room in 1,597,444 characters
pub dumped_short : (f : List ℕ) → Bytes f → length (dumped f) ≤ 1597444
unfolding most
dumped_short f h = go (first_of (refusals f)) refl
  where
    go : (k : ℕ) → first_of (refusals f) ≡ k → length (dumped f) ≤ 1597444
    go (suc k) e = rw (dumped_refused f (suc k) (sym e) (λ z. omega arith)) (simp length-append (omega (arith, decimal_short (suc k))))
    go zero e =
        let r = (the_set_that_is_read_can_be_carried f h e).regular in
        let found : List Entry = read_contours (parsed f) in
        let on = all_on_wider (bound (is_second f)) limit (points_of f) (bound_within (is_second f)) r.on in
        rw (dumped_done f e)
        (omega (
          arith,
          length-append (head (is_second f)) (lines found),
          head_long (is_second f),
          lines_short found on,
          (job_sized f).few,
          promised_few f,
          r.even,
          r.within,
        ))
