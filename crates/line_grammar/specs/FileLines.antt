-- The lines of a file that are not passed over, and how one is read.
use Rattle.std.specs.Prelude.{ℕ, ◌+◌, Bool, false, List, [], ◌∷◌, ◌++◌, Option, Some, None, Ok, option_map}
use Rattle.std.specs.Option.{option_to_list}
use Rattle.std.specs.Str.{bytes_eq}
use Rattle.line_grammar.specs.Faults.{Causes, Reading, faulty}
use Rattle.line_grammar.specs.Lines.{lines}
use Rattle.line_grammar.specs.Tokens.{line_tokens}
use Rattle.line_grammar.specs.declared.tokens.Token.{Token}
use Rattle.line_grammar.specs.declared.tokens.Token.TheVariants.{Name}
use Rattle.line_grammar.specs.declared.tokens.LineTokens.{LineTokens}
use Rattle.line_grammar.specs.declared.tokens.LineTokens.TheVariants as kinds
use Rattle.line_grammar.specs.Contents.{Content, NotUtf8, BadTokens, Tokens}
use Rattle.line_grammar.specs.declared.line.Line.{Line}

-- ---- the lines of a file

-- what stands on a line, unless it is passed over
abbrev pub content_of : LineTokens → Option Content
content_of kinds.Passed = None
content_of kinds.NotUtf8 = Some NotUtf8
content_of (kinds.BadTokens tokens) = Some (BadTokens tokens)
content_of (kinds.Tokens tokens) = Some (Tokens tokens)

-- the line of that number, unless it is passed over
abbrev pub line_at : ℕ → List ℕ → Option Line
line_at number line = option_map (λ content. record { number = number; content = content }) (content_of (line_tokens line))

-- of lines that are numbered from there on, those that are not passed over
unfoldable pub lines_from : ℕ → List (List ℕ) → List Line
lines_from number [] = []
lines_from number (line ∷ others) = option_to_list (line_at number line) ++ lines_from (number + 1) others

-- the lines of a file that are not passed over, with their numbers
abbrev pub file_lines : List ℕ → List Line
file_lines bytes = lines_from 1 (lines bytes)

-- ---- one line

abbrev pub first_is : List ℕ → List Token → Bool
first_is word (Name name ∷ rest) = bytes_eq name word
first_is word _ = false

abbrev pub content_begins : List ℕ → Content → Bool
content_begins word NotUtf8 = false
content_begins word (BadTokens tokens) = first_is word tokens
content_begins word (Tokens tokens) = first_is word tokens

-- the first token of the line is the word, whatever follows it
abbrev pub begins_with : List ℕ → Line → Bool
begins_with word line = content_begins word line.content

module _ {C : Type 0} (causes : Causes C) where
  -- what a rule of the grammar makes of all tokens of a line
  abbrev pub found_at : {X : Type 0} → ℕ → Option X → Reading X C
  found_at number None = faulty number causes.bad_line
  found_at number (Some x) = Ok x

  abbrev pub read_content : {X : Type 0} → (List Token → Option X) → ℕ → Content → Reading X C
  read_content rule number NotUtf8 = faulty number causes.not_utf8
  read_content rule number (BadTokens tokens) = faulty number causes.bad_line
  read_content rule number (Tokens tokens) = found_at number (rule tokens)

  -- a line by a rule of the grammar
  abbrev pub read_line : {X : Type 0} → (List Token → Option X) → Line → Reading X C
  read_line rule line = read_content rule line.number line.content

  -- no line may stand here: the first is a bad line
  abbrev pub no_lines : {X : Type 0} → List Line → X → Reading X C
  no_lines [] x = Ok x
  no_lines (line ∷ others) x = faulty line.number causes.bad_line
