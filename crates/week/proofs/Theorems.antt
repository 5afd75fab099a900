-- What stands behind a file does not matter.
use mathlib.Core.Path.{◌≡◌, refl, sym, ◌∙◌, ap, ap₂}
use mathlib.Core.Bool.{Bool, true, false, not, ◌&&◌}
use mathlib.Core.List.{List, [], ◌∷◌, ◌++◌, append_assoc}
use Prim.Native.Nat.{ℕ, zero, suc, ◌+◌, ◌<◌, ◌≤◌}
use native.Mathlib.Omega.{arith}
use lib.Dec.{eqb}
use lib.ListN.{length, take, drop, length-append}
use lib.Seq.{drop_at, drop-drop}
use borrow.Author.Tests.{ltb-false, le-ltb}
use Rattle.bits.specs.Bits.{value, field, bits, fill}
use Rattle.bits.proofs.BitLaws.{field-length, front_value, front_gone, bits-append, bits_padded, bytes-length}
use Rattle.replies.specs.Ladder.{Rung, first_of}
use Rattle.replies.proofs.LadderLaws.{first_is}
use Rattle.replies.proofs.LadderLaws.First.{past, foot}
use Rattle.grid.specs.Domain.{count}
use Rattle.buffer.specs.Sets.{joined}
use Rattle.setfile.specs.Entries.{Entry}
use Rattle.setfile.specs.Layouts.{all_coded, file_bits, edition_of, promised}
use Rattle.setfile.specs.Editions.{number, layout}
use Rattle.setfile.specs.Reading.{most_bytes}
use Rattle.setfile.specs.inside.Reading.{header_size}
use Rattle.setfile.proofs.LayoutLaws.{Faithful, All, the_file_has_a_head}
use Rattle.setfile.proofs.EditionLaws as E1
use Rattle.setfile.proofs.Edition2Laws as E2
use Rattle.setfile.proofs.EditionsLaws.{Holds, file, Carried}
use Rattle.week.specs.Files.{bits_of_next, bit_behind, whole_bytes, head_refusals, own_length}
use Rattle.week.proofs.EndLaws.{all_there, nothing_more, told}

faithful : (s : Bool) → Faithful (layout s) (Holds s)
faithful true = E2.edition_2_is_faithful
faithful false = E1.edition_1_is_faithful

first_rung : (b : Bool) (k : ℕ) (l : List Rung) → first_of ((b, suc k) ∷ l) ≡ 0 → b ≡ false
unfolding first_of
first_rung true k l e = absurd (omega arith)
first_rung false k l e = refl

header_fits : (s first : Bool) (n : ℕ) (l : List Bool) → (layout s).wrong first n l ≡ 0 → header_size s ≤ length l
header_fits true first n l e = ltb-false (length l) 22 (first_rung _ 9 _ e)
header_fits false first n l e = ltb-false (length l) 16 (first_rung _ 9 _ e)

size_some : (s : Bool) (l : List Bool) → (layout s).size l ≡ 0 → ⊥
size_some true l e = omega arith
size_some false l e = omega arith

behind_one : (s : Bool) (k at : ℕ) (l : List Bool) (r : ℕ) → r ≡ bits_of_next s l → (r ≡ 0 → ⊥) → bit_behind s (suc k) at l ≡ bit_behind s k (at + r) (drop r l)
unfolding bit_behind
behind_one s k at l zero e z = absurd (z refl)
behind_one s k at l (suc r) e z = rw (← e)

-- the bit behind contours that were written, whatever stands behind them
contours_passed : (s : Bool) (l : List Entry) (first : Bool) (n at : ℕ) (rest : List Bool) → All (Holds s) first n l
    → bit_behind s (length l) at (all_coded (layout s) l ++ rest) ≡ at + length (all_coded (layout s) l)
unfolding joined
contours_passed s [] first n at rest g = sym (nothing_more s 0 at rest refl) ∙ omega arith
contours_passed s (e ∷ l) first n at rest g =
    let more : List Bool = all_coded (layout s) l ++ rest in
    let own : List Bool = (layout s).coded e in
    let b = (faithful s).back first n e more g.0 in
    let fits : (layout s).size (own ++ more) ≤ length (own ++ more) = omega (arith, b.size, length-append own more) in
    let next : length own ≡ bits_of_next s (own ++ more) = sym b.size ∙ all_there s (own ++ more) (header_fits s first n (own ++ more) b.right) fits in
    ap (bit_behind s (suc (length l)) at) (append_assoc own (all_coded (layout s) l) rest)
    ∙ behind_one s (length l) at (own ++ more) (length own) next (λ z. size_some s (own ++ more) (b.size ∙ z))
    ∙ ap (bit_behind s (length l) (at + length own)) (drop_at own more (length own) refl)
    ∙ contours_passed s l false (n + count e.points) (at + length own) rest g.1
    ∙ omega (arith, length-append own (all_coded (layout s) l))

number_small : (s : Bool) → number s < 16
number_small true = omega arith
number_small false = omega arith

known : (s : Bool) → (not (eqb (number s) 1) && not (eqb (number s) 2)) ≡ false
known true = refl
known false = refl

second_told : (s : Bool) → eqb (number s) 2 ≡ s
second_told true = refl
second_told false = refl

module _ (s : Bool) (l : List Entry) (c : Carried s l) (more : List ℕ) where
  abbrev rest : List Bool
  rest = field (fill (length (file_bits (number s) (layout s) l))) 0 ++ bits more

  abbrev behind : List Bool
  behind = field 12 (length l) ++ (all_coded (layout s) l ++ rest)

  laid_out : bits (file s l ++ more) ≡ field 4 (number s) ++ behind
  laid_out =
      let own : List Bool = all_coded (layout s) l in
      let last : List Bool = field (fill (length (file_bits (number s) (layout s) l))) 0 in
      bits-append (file s l) more ∙ ap (λ (b : List Bool). b ++ bits more) (bits_padded (file_bits (number s) (layout s) l))
      ∙ append_assoc (field 4 (number s) ++ (field 12 (length l) ++ own)) last (bits more)
      ∙ append_assoc (field 4 (number s)) (field 12 (length l) ++ own) (last ++ bits more)
      ∙ ap (λ (b : List Bool). field 4 (number s) ++ b) (append_assoc (field 12 (length l)) own (last ++ bits more))

  edition : edition_of (file s l ++ more) ≡ number s
  edition = ap (λ (b : List Bool). value (take 4 b)) laid_out ∙ front_value 4 (number s) behind (number_small s)

  behind_edition : drop 4 (bits (file s l ++ more)) ≡ behind
  behind_edition = ap (drop 4) laid_out ∙ front_gone 4 (number s) behind

  promise : promised (file s l ++ more) ≡ length l
  promise = ap (λ (b : List Bool). value (take 12 b)) behind_edition ∙ front_value 12 (length l) (all_coded (layout s) l ++ rest) (omega (arith, c.few))

  behind_head : drop 16 (bits (file s l ++ more)) ≡ all_coded (layout s) l ++ rest
  behind_head = sym (drop-drop 12 4 (bits (file s l ++ more))) ∙ ap (drop 12) behind_edition ∙ front_gone 12 (length l) (all_coded (layout s) l ++ rest)

  own_bytes : whole_bytes (16 + length (all_coded (layout s) l)) ≡ length (file s l)
  own_bytes =
      let own : List Bool = all_coded (layout s) l in
      let n : 16 + length own ≡ length (file_bits (number s) (layout s) l) =
      omega (arith, length-append (field 4 (number s)) (field 12 (length l) ++ own), field-length 4 (number s), length-append (field 12 (length l)) own, field-length 12 (length l)) in
      ap whole_bytes n ∙ sym (bytes-length _ _)

  -- a file that a writer wrote is taken off whole, whatever stands behind it
  pub a_file_that_was_written_is_taken_off_whole : length (file s l ++ more) ≤ most_bytes → own_length (file s l ++ more) ≡ length (file s l)
  a_file_that_was_written_is_taken_off_whole short =
      let head = the_file_has_a_head (layout s) (Holds s) (faithful s) (number s) l (number_small s) c.few in
      let clear : 0 ≡ first_of (head_refusals (file s l ++ more)) =
      first_is _ 0
      (past (le-ltb most_bytes (length (file s l ++ more)) short)
      (past (le-ltb (length (file s l ++ more)) 2 (omega (arith, head, length-append (file s l) more)))
      (past (ap (λ (v : ℕ). not (eqb v 1) && not (eqb v 2)) edition ∙ known s) foot))) in
      sym (told (file s l ++ more) 0 clear refl)
      ∙ ap whole_bytes
      (ap₂ (λ (b : Bool) (k : ℕ). bit_behind b k 16 (drop 16 (bits (file s l ++ more)))) (ap (λ (v : ℕ). eqb v 2) edition ∙ second_told s) promise
      ∙ ap (bit_behind s (length l) 16) behind_head
      ∙ contours_passed s l true 0 16 rest c.all)
      ∙ own_bytes
