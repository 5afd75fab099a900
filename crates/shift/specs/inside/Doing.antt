-- What is said of a request that is done on rows.
use mathlib.Core.Path.{◌≡◌}
use mathlib.Core.Bool.{Bool, true, false}
use Prim.Native.Nat.{ℕ, ◌-◌, ◌*◌, ◌≤◌}
use Rattle.std.specs.Prelude.{Result, Ok, Err}
use Rattle.replies.specs.declared.refusal.Refusal.{Refusal}
use Rattle.replies.specs.Refusals.{number}
use Rattle.pool.specs.Lists.{capacity, holding, Every}
use Rattle.pool.specs.Rows.{Lent, contents, laid_out}
use Rattle.pool.specs.Outcome.{enough}
use Rattle.pool.specs.inside.Surveys.{Surveyed}
use Rattle.pool.specs.declared.inner.survey.Survey.{Survey}
use Rattle.shift.specs.Steps.{Request}
use Rattle.shift.specs.States.{telling, told, after}
use Rattle.sifting.specs.inside.Cleaning.{InDomain}
use Rattle.shift.specs.declared.inner.doing.Done.{Done}

-- rows with room for every pool hold one of contours in the domain, and what is counted of it is known
pub record Held (s : Lent) (f : Survey) : Type 0 where
  pub surveyed : Surveyed s f
  pub sound : f.sound ≡ true
  pub room : enough s ≡ true
  pub in_domain : Every InDomain (contents s)

-- what a request was told, and what is counted of the pool then
pub record Ended : Type 0 where
  pub reply : ℕ
  pub result : ℕ
  pub contours : ℕ
  pub found : Survey

-- a request that is refused on n contours leaves all as it was found
abbrev pub ended : ℕ → Survey → Result Done Refusal → Ended
ended n found (Ok d) = record { reply = 0; result = d.result; contours = d.contours; found = d.found }
ended n found (Err r) = record { reply = number r; result = 0; contours = n; found = found }

-- a request was done on rows: what it was told, what they hold then, and where
pub record Did (request : Request) (s : Lent) (r : Ended) (t : Lent) : Type 0 where
  pub told_is : telling r.reply r.result ≡ told request (contents s)
  pub rows_are : t ≡ laid_out (after request (contents s)) s
  pub pool_is : contents t ≡ after request (contents s)
  pub held : Held t r.found
  pub reply_few : r.reply ≤ 255
  pub result_few : r.result ≤ 4 * capacity

-- a survey of rows from which a contour of n points was taken, of the first press or of the second
abbrev pub with_less : Bool → ℕ → Survey → Survey
with_less false n f = record { sound = f.sound; points = f.points - n; first = f.first - holding n; second = f.second }
with_less true n f = record { sound = f.sound; points = f.points - n; first = f.first; second = f.second - holding n }
