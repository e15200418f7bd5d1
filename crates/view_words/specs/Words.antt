-- What each word of a call of `cfdview` is: an option, its value, or none of both.
use Rattle.std.specs.Prelude.{ℕ, Bool, false, not, ◌&&◌, ◌||◌, List, [], ◌∷◌, ◌++◌, length, nat_lt, ◌==◌, Option, None, Some, codes, if◌then◌else◌}
use Rattle.std.specs.List.{after_first, before_first, position_or_len}
use Rattle.std.specs.Str.{bytes_eq}
use Rattle.call_words.specs.Words.{is_plain}

-- an option behind which its value stands
abbrev pub wants_value : List ℕ → Bool
wants_value word = bytes_eq word (codes "--table") || (bytes_eq word (codes "--rule") || (bytes_eq word (codes "--first") || bytes_eq word (codes "--vouch")))

-- an option without a value
abbrev pub is_flag : List ℕ → Bool
is_flag word = bytes_eq word (codes "--loaded")

-- ---- an option and its value in one word, as `--first=5`

abbrev pub is_equals : ℕ → Bool
is_equals b = b == 61

-- what stands before and behind the first `=` of a word
abbrev pub cut : List ℕ → Option (List ℕ × List ℕ)
cut word = if nat_lt (position_or_len is_equals word) (length word) then Some (before_first is_equals word, after_first is_equals word) else None

abbrev pub is_option_with : Option (List ℕ × List ℕ) → Bool
is_option_with None = false
is_option_with (Some p) = wants_value p.0 && is_plain p.1

-- ---- words one behind the other

-- whether a word may stand behind the one before it: a value is plain, and so is a word that is no option
abbrev pub fits : List ℕ → List ℕ → Bool
fits before word = if wants_value before then is_plain word else (is_plain word || (is_flag word || (wants_value word || is_option_with (cut word))))

-- each does, and the last one waits for no value
abbrev pub are_words : List ℕ → List (List ℕ) → Bool
are_words before [] = not (wants_value before)
are_words before (word ∷ words) = fits before word && are_words word words

-- the words that are neither options nor values
abbrev pub left_at : List ℕ → List ℕ → List (List ℕ)
left_at before word = if is_plain word && not (wants_value before) then word ∷ [] else []

abbrev pub left_over : List ℕ → List (List ℕ) → List (List ℕ)
left_over before [] = []
left_over before (word ∷ words) = left_at before word ++ left_over word words

-- the values of an option, each behind it or in one word with it
abbrev pub value_with : List ℕ → Option (List ℕ × List ℕ) → List (List ℕ)
value_with name None = []
value_with name (Some p) = if bytes_eq p.0 name then p.1 ∷ [] else []

abbrev pub value_at : List ℕ → List ℕ → List ℕ → List (List ℕ)
value_at name before word = if bytes_eq before name then word ∷ [] else value_with name (cut word)

abbrev pub values : List ℕ → List ℕ → List (List ℕ) → List (List ℕ)
values name before [] = []
values name before (word ∷ words) = value_at name before word ++ values name word words
