-- How many there are of what a file has too many of.
use Rattle.std.specs.Prelude.{ℕ, ◌-◌, ◌^◌, ◌==◌, ◌&&◌, ◌||◌, not, nat_le, nat_lt, min, max, Bool, false, List, [], ◌∷◌, ◌++◌, map, filter, count_by, sum_by, if◌then◌else◌, Option, None, Some, codes, decimal}
use Rattle.std.specs.List.{after_first, position_or_len}
use Rattle.text_lists.specs.declared.limits.Limit.{Limit}
use Rattle.text_lists.specs.declared.limits.Limit.TheVariants as limit
use Rattle.line_grammar.specs.FileLines.{begins_with, file_lines}
use Rattle.line_grammar.specs.Marks.{same_mark}
use Rattle.line_grammar.specs.Contents.{Content, BadTokens, NotUtf8, Tokens}
use Rattle.line_grammar.specs.declared.line.Line.{Line}
use Rattle.line_grammar.specs.declared.tokens.Mark.TheVariants.{Arrow}
use Rattle.line_grammar.specs.declared.tokens.Token.{Token}
use Rattle.line_grammar.specs.declared.tokens.Token.TheVariants as token
use Rattle.cli_output.specs.Refusals.{limit_text}
pub use Rattle.line_forms.specs.Pieces.{is_name, is_text}

abbrev pub is_arrow : Token → Bool
is_arrow (token.Name name) = false
is_arrow (token.Number n) = false
is_arrow (token.Quoted text) = false
is_arrow (token.Sign mark) = same_mark mark Arrow

-- ---- on a line

-- its tokens, those before the first place that is none among them
abbrev pub tokens_on : Content → List Token
tokens_on NotUtf8 = []
tokens_on (BadTokens tokens) = tokens
tokens_on (Tokens tokens) = tokens

abbrev pub one_if : Bool → ℕ
one_if test = if test then 1 else 0

-- the names behind the arrow
abbrev pub right_names : List Token → ℕ
right_names tokens = count_by is_name (after_first is_arrow tokens)

-- how many of that a line has, where the line of the number `at` is refused: a `cfd` line has a dependency for each
-- attribute on the right, and of domains that of the refused line alone is counted
abbrev pub on_line : Limit → ℕ → Line → ℕ
on_line limit.Tables at line = one_if (begins_with (codes "table") line || begins_with (codes "master") line)
on_line limit.Attrs at line = one_if (begins_with (codes "attr") line)
on_line limit.Values at line = if line.number == at then count_by is_text (tokens_on line.content) else 0
on_line limit.Deps at line = if begins_with (codes "cfd") line then right_names (tokens_on line.content) else 0
on_line limit.Cinds at line = one_if (begins_with (codes "cind") line)
on_line limit.Edits at line = one_if (begins_with (codes "edit") line)
on_line limit.TableauRows at line = one_if (begins_with (codes "row") line)
on_line limit.Commands at line = 1

-- ---- the attributes of a table

abbrev pub is_head : Line → Bool
is_head line = not (begins_with (codes "attr") line)

-- the greatest of these
abbrev pub greatest : List ℕ → ℕ
greatest [] = 0
greatest (n ∷ others) = max n (greatest others)

abbrev pub head_number : ℕ → Line → ℕ
head_number at line = if is_head line && nat_le line.number at then line.number else 0

-- the number of the last head that is not below the line of that number
abbrev pub head_above : ℕ → List Line → ℕ
head_above at lines = greatest (map (head_number at) lines)

-- how many lines stand behind that head, up to the next
abbrev pub members_behind : ℕ → List Line → ℕ
members_behind head lines = position_or_len is_head (filter (λ (line : Line). nat_lt head line.number) lines)

-- ---- all of them

-- the number stops at the last one of its type
abbrev pub capped : ℕ → ℕ
capped count = min count (2 ^ 64 - 1)

-- in a file of which the line of that number is refused
abbrev pub count_at : Limit → ℕ → List ℕ → ℕ
count_at limit.Attrs at bytes = capped (members_behind (head_above at (file_lines bytes)) (file_lines bytes))
count_at other at bytes = capped (sum_by (on_line other at) (file_lines bytes))

-- ---- how that is told

abbrev pub has_words : Limit → List ℕ
has_words limit.Attrs = codes "this table has "
has_words limit.Values = codes "this domain has "
has_words other = codes "this file has "

abbrev pub counted_line : Limit → ℕ → List ℕ
counted_line limit count = has_words limit ++ decimal count ++ codes " " ++ limit_text limit ++ codes "\n"

-- where the file was found again
abbrev pub count_shown : Limit → Option ℕ → Option (List ℕ) → List ℕ
count_shown limit None bytes = []
count_shown limit (Some at) None = []
count_shown limit (Some at) (Some bytes) = counted_line limit (count_at limit at bytes)
