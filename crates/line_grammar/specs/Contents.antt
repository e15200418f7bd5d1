-- What stands on a line that is not passed over.
use Rattle.std.specs.Prelude.{ℕ, Bool, true, false, List, length, Option, Some, None, if◌then◌else◌}
use Rattle.line_grammar.specs.Leads.{are_tokens, tokens_left}
use Rattle.line_grammar.specs.Tokens.{tokens_from}
use Rattle.line_grammar.specs.declared.tokens.Token.{Token}

-- a line that isn't UTF-8; the tokens before the first place that is none, or that lacks its blank; or those of the whole line
pub data Content : Type 0 where
  NotUtf8 : Content
  BadTokens : List Token → Content
  Tokens : List Token → Content

-- its tokens, as far as they go
abbrev pub tokens_in : Content → Option (List Token)
tokens_in NotUtf8 = None
tokens_in (BadTokens tokens) = Some tokens
tokens_in (Tokens tokens) = Some tokens

-- they go to the end of the line
abbrev pub is_token_list : Content → Bool
is_token_list NotUtf8 = false
is_token_list (BadTokens tokens) = false
is_token_list (Tokens tokens) = true

abbrev listed : Bool → List Token → Content
listed all tokens = if all then Tokens tokens else BadTokens tokens

-- what stands on a line of these bytes, which are UTF-8 or not
abbrev pub content_on : Bool → List ℕ → Content
content_on utf8 line = if utf8 then listed (are_tokens (tokens_from (length line) false line)) (tokens_left false line) else NotUtf8
