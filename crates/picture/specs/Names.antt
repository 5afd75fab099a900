-- The names and words of a picture, in ASCII.
use Rattle.std.specs.Prelude.{List, [], ◌∷◌, ℕ}

-- svg
unfoldable pub svg : List ℕ
svg = 115 ∷ 118 ∷ 103 ∷ []

-- style
unfoldable pub style : List ℕ
style = 115 ∷ 116 ∷ 121 ∷ 108 ∷ 101 ∷ []

-- g
unfoldable pub g : List ℕ
g = 103 ∷ []

-- path
unfoldable pub path : List ℕ
path = 112 ∷ 97 ∷ 116 ∷ 104 ∷ []

-- text
unfoldable pub text : List ℕ
text = 116 ∷ 101 ∷ 120 ∷ 116 ∷ []

-- xmlns
unfoldable pub xmlns : List ℕ
xmlns = 120 ∷ 109 ∷ 108 ∷ 110 ∷ 115 ∷ []

-- viewBox
unfoldable pub view_box : List ℕ
view_box = 118 ∷ 105 ∷ 101 ∷ 119 ∷ 66 ∷ 111 ∷ 120 ∷ []

-- transform
unfoldable pub transform : List ℕ
transform = 116 ∷ 114 ∷ 97 ∷ 110 ∷ 115 ∷ 102 ∷ 111 ∷ 114 ∷ 109 ∷ []

-- font-size
unfoldable pub font_size : List ℕ
font_size = 102 ∷ 111 ∷ 110 ∷ 116 ∷ 45 ∷ 115 ∷ 105 ∷ 122 ∷ 101 ∷ []

-- class
unfoldable pub class : List ℕ
class = 99 ∷ 108 ∷ 97 ∷ 115 ∷ 115 ∷ []

-- d
unfoldable pub d : List ℕ
d = 100 ∷ []

-- y
unfoldable pub y : List ℕ
y = 121 ∷ []

-- the namespace of SVG
unfoldable pub namespace : List ℕ
namespace = 104 ∷ 116 ∷ 116 ∷ 112 ∷ 58 ∷ 47 ∷ 47 ∷ 119 ∷ 119 ∷ 119 ∷ 46 ∷ 119 ∷ 51 ∷ 46 ∷ 111 ∷ 114 ∷ 103 ∷ 47 ∷ 50 ∷ 48 ∷ 48 ∷ 48 ∷ 47 ∷ 115 ∷ 118 ∷ 103 ∷ []

-- 0 0, and a space
unfoldable pub from_zero : List ℕ
from_zero = 48 ∷ 32 ∷ 48 ∷ 32 ∷ []

-- translate, and a parenthesis
unfoldable pub translate : List ℕ
translate = 116 ∷ 114 ∷ 97 ∷ 110 ∷ 115 ∷ 108 ∷ 97 ∷ 116 ∷ 101 ∷ 40 ∷ []

-- the parenthesis closed, and y turned over before another
unfoldable pub flipped : List ℕ
flipped = 41 ∷ 32 ∷ 115 ∷ 99 ∷ 97 ∷ 108 ∷ 101 ∷ 40 ∷ 49 ∷ 32 ∷ 45 ∷ 49 ∷ 41 ∷ 32 ∷ 116 ∷ 114 ∷ 97 ∷ 110 ∷ 115 ∷ 108 ∷ 97 ∷ 116 ∷ 101 ∷ 40 ∷ []

-- a parenthesis closed
unfoldable pub closed : List ℕ
closed = 41 ∷ []

-- the parenthesis closed, and 1,000 for a millimetre, which has 1,024 units
unfoldable pub in_micrometres : List ℕ
in_micrometres = 41 ∷ 32 ∷ 115 ∷ 99 ∷ 97 ∷ 108 ∷ 101 ∷ 40 ∷ 49 ∷ 46 ∷ 48 ∷ 50 ∷ 52 ∷ 41 ∷ []

-- removed
unfoldable pub removed : List ℕ
removed = 114 ∷ 101 ∷ 109 ∷ 111 ∷ 118 ∷ 101 ∷ 100 ∷ []

-- kept
unfoldable pub kept : List ℕ
kept = 107 ∷ 101 ∷ 112 ∷ 116 ∷ []

-- scale
unfoldable pub scale : List ℕ
scale = 115 ∷ 99 ∷ 97 ∷ 108 ∷ 101 ∷ []

-- a line from here to the right, so far
unfoldable pub from_here : List ℕ
from_here = 77 ∷ 48 ∷ 32 ∷ 48 ∷ 104 ∷ []

-- 1.4em
unfoldable pub below : List ℕ
below = 49 ∷ 46 ∷ 52 ∷ 101 ∷ 109 ∷ []

-- 0.1
unfoldable pub tenth : List ℕ
tenth = 48 ∷ 46 ∷ 49 ∷ []

-- 0.01
unfoldable pub hundredth : List ℕ
hundredth = 48 ∷ 46 ∷ 48 ∷ 49 ∷ []

-- 0.001
unfoldable pub thousandth : List ℕ
thousandth = 48 ∷ 46 ∷ 48 ∷ 48 ∷ 49 ∷ []

-- a space, and mm
unfoldable pub mm : List ℕ
mm = 32 ∷ 109 ∷ 109 ∷ []

-- how it looks: shapes filled by the even-odd rule, lines as wide on any screen, the vertices as dots, those that are removed larger and red
unfoldable pub look : List ℕ
look =
    115 ∷ 118 ∷ 103 ∷ 123 ∷ 98 ∷ 97 ∷ 99 ∷ 107 ∷ 103 ∷ 114 ∷ 111 ∷ 117 ∷ 110 ∷ 100 ∷ 58 ∷ 35 ∷ 102 ∷ 102 ∷ 102 ∷ 125 ∷ 112 ∷ 97 ∷ 116 ∷ 104
    ∷ 123 ∷ 102 ∷ 105 ∷ 108 ∷ 108 ∷ 58 ∷ 35 ∷ 100 ∷ 54 ∷ 101 ∷ 52 ∷ 102 ∷ 48 ∷ 59 ∷ 102 ∷ 105 ∷ 108 ∷ 108 ∷ 45 ∷ 114 ∷ 117 ∷ 108 ∷ 101 ∷ 58
    ∷ 101 ∷ 118 ∷ 101 ∷ 110 ∷ 111 ∷ 100 ∷ 100 ∷ 59 ∷ 115 ∷ 116 ∷ 114 ∷ 111 ∷ 107 ∷ 101 ∷ 58 ∷ 35 ∷ 50 ∷ 52 ∷ 53 ∷ 53 ∷ 55 ∷ 97 ∷ 59 ∷ 115
    ∷ 116 ∷ 114 ∷ 111 ∷ 107 ∷ 101 ∷ 45 ∷ 108 ∷ 105 ∷ 110 ∷ 101 ∷ 106 ∷ 111 ∷ 105 ∷ 110 ∷ 58 ∷ 114 ∷ 111 ∷ 117 ∷ 110 ∷ 100 ∷ 59 ∷ 118 ∷ 101 ∷ 99
    ∷ 116 ∷ 111 ∷ 114 ∷ 45 ∷ 101 ∷ 102 ∷ 102 ∷ 101 ∷ 99 ∷ 116 ∷ 58 ∷ 110 ∷ 111 ∷ 110 ∷ 45 ∷ 115 ∷ 99 ∷ 97 ∷ 108 ∷ 105 ∷ 110 ∷ 103 ∷ 45 ∷ 115
    ∷ 116 ∷ 114 ∷ 111 ∷ 107 ∷ 101 ∷ 125 ∷ 46 ∷ 114 ∷ 101 ∷ 109 ∷ 111 ∷ 118 ∷ 101 ∷ 100 ∷ 44 ∷ 46 ∷ 107 ∷ 101 ∷ 112 ∷ 116 ∷ 123 ∷ 115 ∷ 116 ∷ 114
    ∷ 111 ∷ 107 ∷ 101 ∷ 45 ∷ 108 ∷ 105 ∷ 110 ∷ 101 ∷ 99 ∷ 97 ∷ 112 ∷ 58 ∷ 114 ∷ 111 ∷ 117 ∷ 110 ∷ 100 ∷ 125 ∷ 46 ∷ 114 ∷ 101 ∷ 109 ∷ 111 ∷ 118
    ∷ 101 ∷ 100 ∷ 123 ∷ 115 ∷ 116 ∷ 114 ∷ 111 ∷ 107 ∷ 101 ∷ 58 ∷ 35 ∷ 100 ∷ 51 ∷ 51 ∷ 56 ∷ 50 ∷ 99 ∷ 59 ∷ 115 ∷ 116 ∷ 114 ∷ 111 ∷ 107 ∷ 101
    ∷ 45 ∷ 119 ∷ 105 ∷ 100 ∷ 116 ∷ 104 ∷ 58 ∷ 54 ∷ 125 ∷ 46 ∷ 107 ∷ 101 ∷ 112 ∷ 116 ∷ 123 ∷ 115 ∷ 116 ∷ 114 ∷ 111 ∷ 107 ∷ 101 ∷ 45 ∷ 119 ∷ 105
    ∷ 100 ∷ 116 ∷ 104 ∷ 58 ∷ 51 ∷ 125 ∷ 46 ∷ 115 ∷ 99 ∷ 97 ∷ 108 ∷ 101 ∷ 123 ∷ 115 ∷ 116 ∷ 114 ∷ 111 ∷ 107 ∷ 101 ∷ 58 ∷ 35 ∷ 48 ∷ 48 ∷ 48
    ∷ 59 ∷ 115 ∷ 116 ∷ 114 ∷ 111 ∷ 107 ∷ 101 ∷ 45 ∷ 119 ∷ 105 ∷ 100 ∷ 116 ∷ 104 ∷ 58 ∷ 50 ∷ 125 ∷ 116 ∷ 101 ∷ 120 ∷ 116 ∷ 123 ∷ 102 ∷ 111 ∷ 110
    ∷ 116 ∷ 45 ∷ 102 ∷ 97 ∷ 109 ∷ 105 ∷ 108 ∷ 121 ∷ 58 ∷ 115 ∷ 97 ∷ 110 ∷ 115 ∷ 45 ∷ 115 ∷ 101 ∷ 114 ∷ 105 ∷ 102 ∷ 125 ∷ []
