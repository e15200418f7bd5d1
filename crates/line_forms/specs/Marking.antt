-- A mark below a token of a line that is shown.
use Rattle.std.specs.Prelude.{ℕ, zero, suc, ◌-◌, ◌==◌, ◌&&◌, nat_le, nat_lt, Bool, List, [], ◌∷◌, ◌++◌, length, take, if◌then◌else◌, Option, None, Some, codes, decimal}
use Rattle.std.specs.List.{flat_map}
use Rattle.line_grammar.specs.Tokens.{after_blanks, token_at}
use Rattle.line_grammar.specs.declared.tokens.Token.{Token}

-- ---- where a token stands

-- the bytes behind the token at the front, where there is one
abbrev pub rest_of : Option (Token × List ℕ) → List ℕ
rest_of None = []
rest_of (Some found) = found.1

abbrev pub behind_token : List ℕ → List ℕ
behind_token bytes = rest_of (token_at (after_blanks bytes))

-- the bytes of a line behind so many tokens
abbrev pub behind_tokens : ℕ → List ℕ → List ℕ
behind_tokens zero line = line
behind_tokens (suc count) line = behind_token (behind_tokens count line)

-- the bytes of a line in front of what stands behind so many tokens and blanks
abbrev pub in_front : ℕ → List ℕ → List ℕ
in_front count line = take (length line - length (after_blanks (behind_tokens count line))) line

-- ---- the mark

-- a byte that goes on with a character
abbrev pub goes_on : ℕ → Bool
goes_on b = nat_le 128 b && nat_lt b 192

-- a tab below a tab, and a blank below any other character
abbrev pub blank_below : ℕ → List ℕ
blank_below b = if b == 9 then 9 ∷ [] else if goes_on b then [] else 32 ∷ []

-- a mark behind blanks below these bytes
abbrev pub mark_below : List ℕ → List ℕ
mark_below bytes = flat_map blank_below bytes ++ codes "^\n"

-- the mark below the token behind so many, where the line is shown behind its number and a bar
abbrev pub mark_line : ℕ → ℕ → List ℕ → List ℕ
mark_line number count line = mark_below (decimal number ++ codes " | " ++ in_front count line)
