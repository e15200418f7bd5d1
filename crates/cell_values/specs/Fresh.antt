-- Texts of tildes, which stand for a value that no rule names.
use Rattle.std.specs.Prelude.{◌≡◌, ℕ, ◌+◌, ◌<◌, ◌≤◌, max, not, List, [], ◌∷◌, length, replicate, map, find, Contains, unwrap_or}
use Rattle.std.specs.List.{range_with_len}
use Rattle.std.specs.Str.{bytes_eq}
use Rattle.text_lists.specs.Repeats.{is_among}

-- the text of so many tildes
abbrev pub tildes : ℕ → List ℕ
tildes count = replicate count 126

-- the length of the longest text
abbrev pub longest : List (List ℕ) → ℕ
longest [] = 0
longest (text ∷ texts) = max (length text) (longest texts)

-- The first text of more than so many tildes that isn't among the texts. One that is longer than each of them isn't.
abbrev pub fresh_past : ℕ → List (List ℕ) → List ℕ
fresh_past count texts = unwrap_or (find (λ text. not (is_among bytes_eq texts text)) (map tildes (range_with_len (count + 1) (longest texts + 1)))) []

-- The same as a relation: the shortest text of more than so many tildes that isn't among the texts.
pub record IsFreshPast (count : ℕ) (texts : List (List ℕ)) (text : List ℕ) : Type 0 where
  pub length : ℕ
  pub is_tildes : text ≡ tildes length
  pub past : count < length
  pub few : length ≤ count + longest texts + 1
  pub new : ¬ Contains texts text
  pub shortest : (less : ℕ) → count < less → less < length → Contains texts (tildes less)
