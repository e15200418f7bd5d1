-- How a line is written: tokens, with blanks between them in any way in which the tokens are read again.
use Rattle.std.specs.Prelude.{ℕ, ◌≤◌, Bool, false, true, ◌&&◌, not, List, [], ◌∷◌, ◌++◌, length, Option, Some, None, IsTrue}
use Rattle.std.specs.List.{flat_map, AllByRecursion}
use Rattle.std.specs.Fmt.{decimal}
use Rattle.line_grammar.specs.Lines.{line_feed}
use Rattle.line_grammar.specs.Tokens.{quoted, is_word}
use Rattle.line_grammar.specs.GoodTokens.{IsGoodToken}
use Rattle.line_grammar.specs.declared.tokens.Mark.{Mark}
use Rattle.line_grammar.specs.declared.tokens.Mark.TheVariants.{Colon, Comma, OpenBracket, CloseBracket, Semicolon, Equals, Differs, Arrow, Bars, Underscore, Dot, OpenBrace, CloseBrace}
use Rattle.line_grammar.specs.declared.tokens.Token.{Token}
use Rattle.line_grammar.specs.declared.tokens.Token.TheVariants.{Name, Number, Quoted, Sign}
use Rattle.line_grammar.specs.declared.writing.Part.{Part}
use Rattle.line_grammar.specs.declared.writing.Part.TheVariants as part

-- ---- what is written

abbrev pub mark_text : Mark → List ℕ
mark_text Colon = 58 ∷ []
mark_text Comma = 44 ∷ []
mark_text OpenBracket = 91 ∷ []
mark_text CloseBracket = 93 ∷ []
mark_text Semicolon = 59 ∷ []
mark_text Equals = 61 ∷ []
mark_text Differs = 33 ∷ 61 ∷ []
mark_text Arrow = 45 ∷ 62 ∷ []
mark_text Bars = 124 ∷ 124 ∷ []
mark_text Underscore = 95 ∷ []
mark_text Dot = 46 ∷ []
mark_text OpenBrace = 123 ∷ []
mark_text CloseBrace = 125 ∷ []

abbrev pub spelling : Token → List ℕ
spelling (Name name) = name
spelling (Number n) = decimal n
spelling (Quoted text) = quoted text
spelling (Sign mark) = mark_text mark

abbrev pub part_text : Part → List ℕ
part_text part.Space = 32 ∷ []
part_text part.Tab = 9 ∷ []
part_text (part.Token token) = spelling token

-- the bytes of a line of these parts, without its end
abbrev pub line_text : List Part → List ℕ
line_text line = flat_map part_text line

-- a file of these lines
abbrev pub file_text : List (List Part) → List ℕ
file_text lines = flat_map (λ line. line_text line ++ line_feed ∷ []) lines

-- ---- what is read again

-- the tokens among the parts
abbrev pub tokens_in : List Part → List Token
tokens_in [] = []
tokens_in (part.Token token ∷ line) = token ∷ tokens_in line
tokens_in (blank ∷ line) = tokens_in line

-- A token may stand directly behind another, unless both are words, or a `_` would be read as part of a name.
abbrev pub may_touch : Token → Token → Bool
may_touch (Name name) (Sign Underscore) = false
may_touch before token = not (is_word before && is_word token)

abbrev pub may_follow : Option Token → Token → Bool
may_follow None token = true
may_follow (Some before) token = may_touch before token

-- Blanks stand between those that may not touch. before: the token that ends right in front, if one does
abbrev pub AreApart : Option Token → List Part → Type 0
AreApart before [] = Unit {0}
AreApart before (part.Token token ∷ line) = IsTrue (may_follow before token) × AreApart (Some token) line
AreApart before (blank ∷ line) = AreApart None line

-- A line that can be read again: it has a token, its names are names, its numbers have few digits and its texts
-- are UTF-8, and blanks stand where they have to.
pub record IsReadable (line : List Part) : Type 0 where
  pub some : 1 ≤ length (tokens_in line)
  pub good : AllByRecursion IsGoodToken (tokens_in line)
  pub apart : AreApart None line

-- ---- words for canonical texts

abbrev pub name : List ℕ → Part
name text = part.Token (Name text)

abbrev pub number : ℕ → Part
number n = part.Token (Number n)

abbrev pub text : List ℕ → Part
text value = part.Token (Quoted value)

abbrev pub mark : Mark → Part
mark sign = part.Token (Sign sign)

-- a further item of a list, p being how one is written
abbrev pub after_comma : {A : Type 0} → (A → List Part) → A → List Part
after_comma p x = mark Comma ∷ part.Space ∷ p x

-- LIST(p): the first item, and each further one behind `, `
abbrev pub comma_separated : {A : Type 0} → (A → List Part) → List A → List Part
comma_separated p [] = []
comma_separated p (x ∷ xs) = p x ++ flat_map (after_comma p) xs

-- a space and LIST(p), or nothing where there is no item
abbrev pub spaced_list : {A : Type 0} → (A → List Part) → List A → List Part
spaced_list p [] = []
spaced_list p (x ∷ xs) = part.Space ∷ comma_separated p (x ∷ xs)
