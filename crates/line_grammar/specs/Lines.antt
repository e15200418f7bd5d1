-- A file as its lines, which are numbered from 1.
use Rattle.std.specs.Prelude.{ℕ, List, [], ◌∷◌, map, if◌then◌else◌, ◌==◌}

-- the byte after which a line ends, and the one that may stand before it
abbrev pub line_feed : ℕ
line_feed = 10

abbrev pub carriage_return : ℕ
carriage_return = 13

-- the byte in front of the first of these
abbrev pub in_front : ℕ → List (List ℕ) → List (List ℕ)
in_front b [] = (b ∷ []) ∷ []
in_front b (line ∷ others) = (b ∷ line) ∷ others

-- the bytes cut after each line feed, which is left out; nothing stands after the last one
abbrev pub cut_at_line_feeds : List ℕ → List (List ℕ)
cut_at_line_feeds [] = []
cut_at_line_feeds (b ∷ bytes) = if b == line_feed then [] ∷ cut_at_line_feeds bytes else in_front b (cut_at_line_feeds bytes)

-- without one carriage return at the end
abbrev pub without_return : List ℕ → List ℕ
without_return [] = []
without_return (b ∷ []) = if b == carriage_return then [] else b ∷ []
without_return (b ∷ c ∷ bytes) = b ∷ without_return (c ∷ bytes)

-- the lines of a file
abbrev pub lines : List ℕ → List (List ℕ)
lines bytes = map without_return (cut_at_line_feeds bytes)
