-- Tokens as they stand in the bytes of a line that is read from left to right.
use Rattle.std.specs.Prelude.{ℕ, Bool, true, false, List, [], length, Option, Some, None}
use Rattle.line_grammar.specs.Tokens.{text_from, tokens_from}
use Rattle.line_grammar.specs.declared.lead.Lead.{Lead}
use Rattle.line_grammar.specs.declared.lead.Lead.TheVariants as lead
use Rattle.line_grammar.specs.declared.tokens.Token.{Token}
use Rattle.line_grammar.specs.declared.tokens.Token.TheVariants as token
use Rattle.line_grammar.specs.declared.tokens.LineTokens.{LineTokens}
use Rattle.line_grammar.specs.declared.tokens.LineTokens.TheVariants.{Passed, NotUtf8, BadTokens, Tokens}

-- the text that was found, if there is one
abbrev pub meant : Option (List ℕ × List ℕ) → List ℕ
meant None = []
meant (Some found) = found.0

-- how many bytes the text that was found has, and the bytes after it
abbrev pub measured : Option (List ℕ × List ℕ) → Option (ℕ × List ℕ)
measured None = None
measured (Some found) = Some (length found.0, found.1)

-- the token that stands there
abbrev pub token_of : Lead → Token
token_of (lead.Name name) = token.Name name.now
token_of (lead.Number n) = token.Number n
token_of (lead.Quoted bytes) = token.Quoted (meant (text_from bytes.now))
token_of (lead.Sign mark) = token.Sign mark

-- the tokens that are given, also those before the first place that is none
abbrev pub given : LineTokens → List Token
given Passed = []
given NotUtf8 = []
given (BadTokens tokens) = tokens
given (Tokens tokens) = tokens

abbrev pub are_tokens : LineTokens → Bool
are_tokens Passed = false
are_tokens NotUtf8 = false
are_tokens (BadTokens tokens) = false
are_tokens (Tokens tokens) = true

-- the tokens from here on; after_word: a name or a number ends right here
abbrev pub tokens_left : Bool → List ℕ → List Token
tokens_left after_word bytes = given (tokens_from (length bytes) after_word bytes)
