-- What the tokens of a line hold, whatever the line.
use Rattle.std.specs.Prelude.{◌<◌, ◌^◌}
use Rattle.std.specs.List.{AllByRecursion}
use Rattle.std.specs.Str.{IsUtf8}
use Rattle.text_lists.specs.Names.{IsName}
use Rattle.text_lists.specs.declared.bounds.TheConstants.{NUMBER_DIGITS}
use Rattle.line_grammar.specs.declared.tokens.Token.{Token}
use Rattle.line_grammar.specs.declared.tokens.Token.TheVariants.{Name, Number, Quoted, Sign}
use Rattle.line_grammar.specs.declared.tokens.LineTokens.{LineTokens}
use Rattle.line_grammar.specs.declared.tokens.LineTokens.TheVariants.{Passed, NotUtf8, BadTokens, Tokens}

-- a name is one, a number has few digits, and a text is UTF-8
abbrev pub IsGoodToken : Token → Type 0
IsGoodToken (Name name) = IsName name
IsGoodToken (Number n) = n < 10 ^ NUMBER_DIGITS
IsGoodToken (Quoted text) = IsUtf8 text
IsGoodToken (Sign mark) = Unit {0}

-- each of the tokens that are given is so
abbrev pub HasGoodTokens : LineTokens → Type 0
HasGoodTokens Passed = Unit {0}
HasGoodTokens NotUtf8 = Unit {0}
HasGoodTokens (BadTokens tokens) = AllByRecursion IsGoodToken tokens
HasGoodTokens (Tokens tokens) = AllByRecursion IsGoodToken tokens
