-- A line as its tokens, and the one spelling of a text.
use Rattle.std.specs.Prelude.{ℕ, zero, suc, Bool, true, false, ◌&&◌, ◌||◌, not, List, [], ◌∷◌, ◌++◌, length, take, drop, Option, Some, None, if◌then◌else◌, ◌==◌}
use Rattle.std.specs.List.{prefix_len, flat_map}
use Rattle.std.specs.Char.{is_ascii_alphabetic, is_ascii_digit}
use Rattle.std.specs.Str.{is_utf8}
use Rattle.std.specs.Str.Parse.{digits_value}
use Rattle.text_lists.specs.Names.{is_name_byte}
use Rattle.text_lists.specs.declared.bounds.TheConstants.{NAME_BYTES, NUMBER_DIGITS}
use Rattle.line_grammar.specs.declared.tokens.Mark.{Mark}
use Rattle.line_grammar.specs.declared.tokens.Mark.TheVariants.{Colon, Comma, OpenBracket, CloseBracket, Semicolon, Equals, Differs, Arrow, Bars, Underscore, Dot, OpenBrace, CloseBrace}
use Rattle.line_grammar.specs.declared.tokens.Token.{Token}
use Rattle.line_grammar.specs.declared.tokens.Token.TheVariants.{Name, Number, Quoted, Sign}
use Rattle.line_grammar.specs.declared.tokens.LineTokens.{LineTokens}
use Rattle.line_grammar.specs.declared.tokens.LineTokens.TheVariants.{Passed, NotUtf8, BadTokens, Tokens}

-- ---- blanks and comments

-- a space or a tab
abbrev pub is_blank : ℕ → Bool
is_blank b = b == 32 || b == 9

-- from the first byte on that is no blank
abbrev pub after_blanks : List ℕ → List ℕ
after_blanks [] = []
after_blanks (b ∷ bytes) = if is_blank b then after_blanks bytes else b ∷ bytes

abbrev pub begins_blank : List ℕ → Bool
begins_blank [] = false
begins_blank (b ∷ bytes) = is_blank b

-- nothing, or a comment from `#` on
abbrev pub is_comment : List ℕ → Bool
is_comment [] = true
is_comment (b ∷ bytes) = b == 35

-- a line of blanks, or whose first byte past the blanks is `#`, is passed over
abbrev pub is_passed : List ℕ → Bool
is_passed line = is_comment (after_blanks line)

-- ---- texts

-- the letter that stands behind `\` for a byte that doesn't stand for itself: `'`, `\`, line feed, carriage return
abbrev pub escape_of : ℕ → Option ℕ
escape_of b =
    if b == 39 then Some 39
    else (if b == 92 then Some 92
    else (if b == 10 then Some 110
    else (if b == 13 then Some 114
    else None)))

-- the byte that `\` and this letter stand for
abbrev pub escaped : ℕ → Option ℕ
escaped c =
    if c == 39 then Some 39
    else (if c == 92 then Some 92
    else (if c == 110 then Some 10
    else (if c == 114 then Some 13
    else None)))

-- a byte that ends a text, or that doesn't stand for itself in one
abbrev pub is_special : ℕ → Bool
is_special b = b == 39 || b == 92 || b == 10 || b == 13

abbrev pub begins_quote : List ℕ → Bool
begins_quote [] = false
begins_quote (b ∷ bytes) = b == 39

-- a byte as it is spelled between the quotes of a text
abbrev pub piece_with : ℕ → Option ℕ → List ℕ
piece_with b None = b ∷ []
piece_with b (Some letter) = 92 ∷ letter ∷ []

abbrev pub piece : ℕ → List ℕ
piece b = piece_with b (escape_of b)

-- the spelling of a text
unfoldable pub quoted : List ℕ → List ℕ
quoted text = 39 ∷ (flat_map piece text ++ 39 ∷ [])

-- what follows, with a byte in front of the text
abbrev pub with_byte : ℕ → Option (List ℕ × List ℕ) → Option (List ℕ × List ℕ)
with_byte b None = None
with_byte b (Some found) = Some (b ∷ found.0, found.1)

-- with the byte that an escape stands for, where it stands for one
abbrev pub with_escaped : Option ℕ → Option (List ℕ × List ℕ) → Option (List ℕ × List ℕ)
with_escaped None found = None
with_escaped (Some b) found = with_byte b found

-- behind an opening quote: the text up to the closing one, and the bytes after that
unfoldable pub text_from : List ℕ → Option (List ℕ × List ℕ)
text_from [] = None
text_from (b ∷ []) = if b == 39 then Some ([], []) else None
text_from (b ∷ c ∷ bytes) =
    if b == 39 then Some ([], c ∷ bytes)
    else (if b == 92 then with_escaped (escaped c) (text_from bytes)
    else (if b == 10 || b == 13 then None
    else with_byte b (text_from (c ∷ bytes))))

-- ---- tokens

-- the marks of one byte
abbrev pub one_mark : ℕ → Option Mark
one_mark b =
    if b == 58 then Some Colon
    else (if b == 44 then Some Comma
    else (if b == 91 then Some OpenBracket
    else (if b == 93 then Some CloseBracket
    else (if b == 59 then Some Semicolon
    else (if b == 61 then Some Equals
    else (if b == 95 then Some Underscore
    else (if b == 46 then Some Dot
    else (if b == 123 then Some OpenBrace
    else (if b == 125 then Some CloseBrace
    else None)))))))))

-- the marks of two bytes: `!=`, `->`, `||`
abbrev pub two_marks : ℕ → ℕ → Option Mark
two_marks b c =
    if b == 33 && c == 61 then Some Differs
    else (if b == 45 && c == 62 then Some Arrow
    else (if b == 124 && c == 124 then Some Bars
    else None))

-- that mark, and the bytes after it, or else the other
abbrev pub mark_or : Option Mark → List ℕ → Option (Token × List ℕ) → Option (Token × List ℕ)
mark_or None rest other = other
mark_or (Some mark) rest other = Some (Sign mark, rest)

-- the mark at the front, and the bytes after it
unfoldable pub mark_at : List ℕ → Option (Token × List ℕ)
mark_at [] = None
mark_at (b ∷ []) = mark_or (one_mark b) [] None
mark_at (b ∷ c ∷ bytes) = mark_or (two_marks b c) bytes (mark_or (one_mark b) (c ∷ bytes) None)

-- how many bytes of a name stand at the front, at most 64
abbrev pub name_len : List ℕ → ℕ
name_len bytes = prefix_len is_name_byte (take NAME_BYTES bytes)

-- how many digits stand at the front, at most 12
abbrev pub digits_len : List ℕ → ℕ
digits_len bytes = prefix_len is_ascii_digit (take NUMBER_DIGITS bytes)

abbrev pub quoted_token : Option (List ℕ × List ℕ) → Option (Token × List ℕ)
quoted_token None = None
quoted_token (Some found) = Some (Quoted found.0, found.1)

-- the longest token at the front, and the bytes after it: a name, a number, a text or a mark
unfoldable pub token_at : List ℕ → Option (Token × List ℕ)
token_at [] = None
token_at (b ∷ bytes) =
    if is_ascii_alphabetic b then Some (Name (take (name_len (b ∷ bytes)) (b ∷ bytes)), drop (name_len (b ∷ bytes)) (b ∷ bytes))
    else (if b == 48 then Some (Number 0, bytes)
    else (if is_ascii_digit b then Some (Number (digits_value 10 (take (digits_len (b ∷ bytes)) (b ∷ bytes))), drop (digits_len (b ∷ bytes)) (b ∷ bytes))
    else (if b == 39 then quoted_token (text_from bytes)
    else mark_at (b ∷ bytes))))

-- a name or a number
abbrev pub is_word : Token → Bool
is_word (Name name) = true
is_word (Number n) = true
is_word (Quoted text) = false
is_word (Sign mark) = false

-- ---- lines

-- the token in front of those of the rest of the line
abbrev pub with_token : Token → LineTokens → LineTokens
with_token token Passed = Passed
with_token token NotUtf8 = NotUtf8
with_token token (BadTokens tokens) = BadTokens (token ∷ tokens)
with_token token (Tokens tokens) = Tokens (token ∷ tokens)

-- The token that was found, and then the rest of the line. Where a word ends right before it, it may be none itself.
abbrev pub and_then : Bool → Option (Token × List ℕ) → (Bool → List ℕ → LineTokens) → LineTokens
and_then touches None rest = BadTokens []
and_then touches (Some found) rest =
    if touches && is_word found.0 then BadTokens [] else with_token found.0 (rest (is_word found.0) found.1)

-- the tokens from here on, of which there are at most `room`; after_word: a name or a number ends right here
unfoldable pub tokens_from : ℕ → Bool → List ℕ → LineTokens
tokens_from zero after_word bytes = Tokens []
tokens_from (suc room) after_word bytes =
    if length (after_blanks bytes) == 0 then Tokens []
    else and_then (after_word && not (begins_blank bytes)) (token_at (after_blanks bytes)) (tokens_from room)

-- what a line without its end is; it has no more tokens than bytes
unfoldable pub line_tokens : List ℕ → LineTokens
line_tokens line =
    if not (is_utf8 line) then NotUtf8
    else (if is_passed line then Passed
    else tokens_from (length line) false line)
