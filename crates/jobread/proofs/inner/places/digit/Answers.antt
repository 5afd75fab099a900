-- `jobread::inner::places::digit` meets its contract.
use mathlib.Core.Path.{sym, ◌∙◌}
use Rattle.jobread.specs.Places.{digit}
use Rattle.jobread.proofs.inner.places.digit.Goals as goal

pub returns-then-is_ascii_digit-clause-value : goal.returns-then-is_ascii_digit-clause-value
unfolding digit
returns-then-is_ascii_digit-clause-value c = rw (sym c.is_ascii_digit.ensures.value ∙ c.if-is_ascii_digit.true, digit) c.from.ensures

pub returns-clause-value : goal.returns-clause-value
unfolding digit
returns-clause-value c = rw (sym c.is_ascii_digit.ensures.value ∙ c.if-is_ascii_digit.false, digit)
