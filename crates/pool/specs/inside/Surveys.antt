-- A look at all records of a pool, and what it tells of the calls.
use Rattle.std.specs.Prelude.{◌≡◌, Bool, true, false, ℕ, zero, suc, ◌+◌}
use Rattle.pool.specs.Lists.{holding, held, own}
use Rattle.pool.specs.Rows.{Lent, contents, sound}
use Rattle.pool.specs.inside.Records.{total}
use Rattle.pool.specs.declared.inner.survey.Survey.{Survey}

-- what a survey finds: whether rows are sound, and then their points and what each press holds
pub record Surveyed (s : Lent) (r : Survey) : Type 0 where
  pub sound_is : r.sound ≡ sound s
  pub points_are : r.sound ≡ true → r.points ≡ total (contents s)
  pub first_holds : r.sound ≡ true → r.first ≡ held (own 0 (contents s))
  pub second_holds : r.sound ≡ true → r.second ≡ held (own 1 (contents s))

-- what a press holds, as a survey found it
abbrev pub share_of : Bool → Survey → ℕ
share_of false r = r.first
share_of true r = r.second

-- the count of records after a call that adds one, or is refused
abbrev pub grown : ℕ → ℕ → ℕ
grown zero n = n + 1
grown (suc k) n = n

-- a survey of rows to which a press added a contour of n points
abbrev pub with_more : Bool → ℕ → Survey → Survey
with_more false n r = record { sound = r.sound; points = r.points + n; first = r.first + holding n; second = r.second }
with_more true n r = record { sound = r.sound; points = r.points + n; first = r.first; second = r.second + holding n }
