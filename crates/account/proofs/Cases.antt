-- Worked accounts.
use mathlib.Core.Path.{◌≡◌, refl}
use mathlib.Core.List.{[], ◌∷◌}
use Rattle.replies.specs.Ladder.{first_of}
use Rattle.grid.specs.Limits.{narrow, on_grid, all_on_grid}
use Rattle.bits.specs.Bits.{value, field, bits}
use Rattle.bits.specs.Signs.{numbers}
use Rattle.setfile.specs.Format.{complete}
use Rattle.salvage.specs.Fates.{reason, fates, dropped}
use Rattle.report.specs.Text.{places, decimal}
use Rattle.account.specs.Words.{why, line, lines, saved, account}

-- refused 10, and no file
refused_10 : account [] ≡ 114 ∷ 101 ∷ 102 ∷ 117 ∷ 115 ∷ 101 ∷ 100 ∷ 32 ∷ 49 ∷ 48 ∷ 10 ∷ []
unfolding account bits field value first_of decimal places
refused_10 = refl

none_saved : saved [] ≡ []
unfolding saved bits field value first_of
none_saved = refl

-- never came: 1, bytes past the count: 0
cut : account (16 ∷ 2 ∷ 128 ∷ 0 ∷ 0 ∷ []) ≡ 110 ∷ 101 ∷ 118 ∷ 101 ∷ 114 ∷ 32 ∷ 99 ∷ 97 ∷ 109 ∷ 101 ∷ 58 ∷ 32 ∷ 49 ∷ 10 ∷ 98 ∷ 121 ∷ 116 ∷ 101 ∷ 115 ∷ 32 ∷ 112 ∷ 97 ∷ 115 ∷ 116 ∷ 32 ∷ 116 ∷ 104 ∷ 101 ∷ 32 ∷ 99 ∷ 111 ∷ 117 ∷ 110 ∷ 116 ∷ 58 ∷ 32 ∷ 48 ∷ 10 ∷ []
unfolding account bits field value first_of decimal places complete numbers reason fates dropped lines narrow on_grid all_on_grid
cut = refl

-- contour 1 dropped: off the grid, contour 2 dropped: no shape, never came: 0, bytes past the count: 1
off_the_grid : account (16 ∷ 3 ∷ 128 ∷ 1 ∷ 32 ∷ 0 ∷ 0 ∷ 1 ∷ 0 ∷ 0 ∷ 0 ∷ 0 ∷ 0 ∷ 0 ∷ 128 ∷ 0 ∷ 7 ∷ []) ≡ 99 ∷ 111 ∷ 110 ∷ 116 ∷ 111 ∷ 117 ∷ 114 ∷ 32 ∷ 49 ∷ 32 ∷ 100 ∷ 114 ∷ 111 ∷ 112 ∷ 112 ∷ 101 ∷ 100 ∷ 58 ∷ 32 ∷ 111 ∷ 102 ∷ 102 ∷ 32 ∷ 116 ∷ 104 ∷ 101 ∷ 32 ∷ 103 ∷ 114 ∷ 105 ∷ 100 ∷ 10 ∷ 99 ∷ 111 ∷ 110 ∷ 116 ∷ 111 ∷ 117 ∷ 114 ∷ 32 ∷ 50 ∷ 32 ∷ 100 ∷ 114 ∷ 111 ∷ 112 ∷ 112 ∷ 101 ∷ 100 ∷ 58 ∷ 32 ∷ 110 ∷ 111 ∷ 32 ∷ 115 ∷ 104 ∷ 97 ∷ 112 ∷ 101 ∷ 10 ∷ 110 ∷ 101 ∷ 118 ∷ 101 ∷ 114 ∷ 32 ∷ 99 ∷ 97 ∷ 109 ∷ 101 ∷ 58 ∷ 32 ∷ 48 ∷ 10 ∷ 98 ∷ 121 ∷ 116 ∷ 101 ∷ 115 ∷ 32 ∷ 112 ∷ 97 ∷ 115 ∷ 116 ∷ 32 ∷ 116 ∷ 104 ∷ 101 ∷ 32 ∷ 99 ∷ 111 ∷ 117 ∷ 110 ∷ 116 ∷ 58 ∷ 32 ∷ 49 ∷ 10 ∷ []
unfolding account bits field value first_of decimal places complete numbers reason fates dropped why line lines narrow on_grid all_on_grid
off_the_grid = refl
