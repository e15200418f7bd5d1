-- The few elements that pages are made of.
use Rattle.std.specs.Prelude.{ℕ, zero, suc, ◌-◌, List, [], ◌++◌, if◌then◌else◌, nat_le, codes, decimal}
use Rattle.html_text.specs.Escaped.{escaped}

-- a text from outside between two pieces of markup
abbrev pub between : List ℕ → List ℕ → List ℕ → List ℕ
between front text behind = front ++ escaped text ++ behind

-- a number of things between two pieces of markup
abbrev pub number_between : List ℕ → ℕ → List ℕ → List ℕ
number_between front size behind = front ++ decimal size ++ behind

unfoldable pub code : List ℕ → List ℕ
code text = between (codes "<code>") text (codes "</code> ")

unfoldable pub bold : List ℕ → List ℕ
bold text = between (codes "<b>") text (codes "</b> ")

unfoldable pub marked : List ℕ → List ℕ
marked text = between (codes "<mark>") text (codes "</mark> ")

unfoldable pub cell : List ℕ → List ℕ
cell text = between (codes "<td>") text (codes "</td>")

unfoldable pub number_cell : ℕ → List ℕ
number_cell size = number_between (codes "<td class=\"n\">") size (codes "</td>")

-- how many more there are, where the first so many are shown
unfoldable pub more_in : List ℕ → ℕ → ℕ → List ℕ → List ℕ
more_in front first size behind =
    if nat_le size first then [] else front ++ codes "and " ++ decimal (size - first) ++ codes " more" ++ behind

-- what is written at each of the first places
abbrev pub each_place : (ℕ → List ℕ) → ℕ → List ℕ
each_place text zero = []
each_place text (suc place) = each_place text place ++ text place
