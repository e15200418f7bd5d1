-- Files of named lists of numbers, one a line:
--
--     NAME: LIST1(NUMBER)
use Rattle.std.specs.Prelude.{ℕ, List, [], ◌∷◌, ◌++◌, Some, Ok}
use Rattle.line_grammar.specs.Faults as Fault
use Rattle.line_grammar.specs.FileLines as FileLine
use Rattle.line_grammar.specs.Groups.{read_lines}
use Rattle.line_grammar.specs.Phrases.{◌>>=◌, name_at, number_at}
use Rattle.line_grammar.specs.Marks.{after_mark}
use Rattle.line_grammar.specs.TokenLists.{Reader, list1_at, none_after}
use Rattle.line_grammar.specs.declared.line.Line.{Line}
use Rattle.line_grammar.specs.declared.tokens.Mark.TheVariants.{Colon}
use Rattle.number_lists.specs.declared.lists.NumberCause.{NumberCause}
use Rattle.number_lists.specs.declared.lists.NumberCause.TheVariants.{NotUtf8, BadLine}
use Rattle.number_lists.specs.declared.rules.NumberList.{NumberList}

-- a line, read from left to right
unfoldable pub list_at_front : Reader NumberList
list_at_front tokens = do
  name ← name_at tokens
  rest ← after_mark Colon name.1
  numbers ← list1_at number_at rest
  Some (record { name = name.0; numbers = numbers.0 }, numbers.1)

abbrev pub number_causes : Fault.Causes NumberCause
number_causes = record { not_utf8 = NotUtf8; bad_line = BadLine }

-- the lists so far, with that of a line that leaves no token
abbrev pub with_line : List NumberList → Line → Fault.Reading (List NumberList) NumberCause
with_line earlier line =
    Fault.◌>>=◌ (FileLine.read_line number_causes (λ tokens. none_after (list_at_front tokens)) line) (λ list. Ok (earlier ++ list ∷ []))

-- the lists of a file, or its first fault
unfoldable pub lists_of : List ℕ → Fault.Reading (List NumberList) NumberCause
lists_of bytes = read_lines with_line [] bytes
