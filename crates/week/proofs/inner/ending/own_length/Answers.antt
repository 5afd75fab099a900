-- `week::inner::ending::own_length` meets its contract.
use mathlib.Core.Path.{◌≡◌, sym, ◌∙◌, ap, ap₂}
use mathlib.Core.Bool.{Bool}
use mathlib.Core.List.{List}
use Prim.Native.Nat.{ℕ, ◌*◌, ◌≤◌}
use native.Mathlib.Omega.{arith}
use lib.ListN.{length}
use Rattle.replies.specs.Ladder.{first_of}
use Rattle.replies.proofs.RefusalLaws.{told_by}
use Rattle.setfile.specs.Editions.{is_second}
use Rattle.setfile.specs.Layouts.{promised}
use Rattle.setfile.specs.inside.Reading.{from_bit}
use Rattle.setfile.proofs.FaultLaws.{either_long}
use Rattle.setfile.proofs.JudgeLaws.{at_contours}
use Rattle.setfile.proofs.ContourLaws.{from-length}
use Rattle.week.specs.Files.{head_refusals, bit_behind, whole_bytes, own_length}
use Rattle.week.proofs.EndLaws.{none_is, some_is, none_back, some_back, not_told, told, ends_within, filled_bytes}
use Rattle.week.proofs.inner.ending.own_length.Goals as goal

module _ (f : List ℕ) (e : first_of (head_refusals f) ≡ 0) (s : Bool) (g : s ≡ is_second f) where
  -- the length that is told ends the last contour
  ended : (n : ℕ) → n ≡ promised f → (b : ℕ) → b ≡ bit_behind s n 16 (from_bit f 16) → whole_bytes b ≡ own_length f
  ended n h b is =
      ap whole_bytes (is ∙ ap₂ (λ (t : Bool) (k : ℕ). bit_behind t k 16 (from_bit f 16)) g h) ∙ told f 0 (sym e) (omega arith)

  -- which lies within the file
  within : (n b : ℕ) → b ≡ bit_behind s n 16 (from_bit f 16) → b ≤ 8 * length f
  within n b is = omega (arith, is, ends_within s n 16 (from_bit f 16), from-length f 16 (at_contours s f g e).within)

pub returns-then-is_err-clause-value : goal.returns-then-is_err-clause-value
returns-then-is_err-clause-value c =
    none_is _ (not_told c.args.bytes.now _ c.check_either.ensures ((told_by _).0 (sym c.is_err.ensures.value ∙ c.if-is_err.true)))

pub promised-n-requires : goal.promised-n-requires
promised-n-requires c = either_long c.args.bytes.now (sym c.check_either.ensures ∙ (told_by _).1 (sym c.is_err.ensures.value ∙ c.if-is_err.false))

pub bit_behind-requires : goal.bit_behind-requires
bit_behind-requires c =
    at_contours c.is_second-second.result c.args.bytes.now c.is_second-second.ensures (sym c.check_either.ensures ∙ (told_by _).1 (sym c.is_err.ensures.value ∙ c.if-is_err.false))

pub returns-in_err-behind-clause-value : goal.returns-in_err-behind-clause-value
returns-in_err-behind-clause-value c =
    let clear = sym c.check_either.ensures ∙ (told_by _).1 (sym c.is_err.ensures.value ∙ c.if-is_err.false) in
    c.from_residual.ensures
    ∙ none_is _ (ended c.args.bytes.now clear c.is_second-second.result c.is_second-second.ensures c.promised-n.result c.promised-n.ensures 0 (sym (none_back _ c.in_err-behind.ensures)))

pub returns-clause-value : goal.returns-clause-value
returns-clause-value c =
    let clear = sym c.check_either.ensures ∙ (told_by _).1 (sym c.is_err.ensures.value ∙ c.if-is_err.false) in
    let some = some_back _ _ c.in_ok-behind.ensures in
    let is = c.div_ceil.ensures ∙ filled_bytes c.in_ok-behind.behind in
    some_is c.div_ceil.result _ (is ∙ ended c.args.bytes.now clear c.is_second-second.result c.is_second-second.ensures c.promised-n.result c.promised-n.ensures c.in_ok-behind.behind some.0)
    (λ z. some.1 (omega (arith, is)))

pub returns-clause-upper_bound : goal.returns-clause-upper_bound
returns-clause-upper_bound c =
    let clear = sym c.check_either.ensures ∙ (told_by _).1 (sym c.is_err.ensures.value ∙ c.if-is_err.false) in
    let some = some_back _ _ c.in_ok-behind.ensures in
    omega (arith, c.div_ceil.ensures, within c.args.bytes.now clear c.is_second-second.result c.is_second-second.ensures c.promised-n.result c.in_ok-behind.behind some.0)
