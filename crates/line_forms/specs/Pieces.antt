-- The parts that a line is made of behind its first word: with which tokens each begins, and what has to follow such a
-- token. LIST(ITEM) is `Any ITEM`, and LIST1(ITEM) is `One ITEM` and `More ITEM`.
use Rattle.std.specs.Prelude.{ℕ, ◌+◌, Bool, true, false, ◌||◌, ◌&&◌, nat_le, nat_lt, List, [], ◌∷◌, ◌++◌, if◌then◌else◌, codes}
use Rattle.std.specs.Str.{bytes_eq}
use Rattle.text_lists.specs.declared.bounds.TheConstants.{SET_MEMBERS}
use Rattle.line_grammar.specs.Marks.{same_mark}
use Rattle.line_grammar.specs.Phrases.{is_constant, is_file_name}
use Rattle.line_grammar.specs.declared.tokens.Mark.{Mark}
use Rattle.line_grammar.specs.declared.tokens.Mark.TheVariants.{CloseBrace, Comma, Differs, Equals, OpenBrace, Underscore}
use Rattle.line_grammar.specs.declared.tokens.Token.{Token}
use Rattle.line_grammar.specs.declared.tokens.Token.TheVariants as token
use Rattle.line_forms.specs.declared.pieces.Item.{Item}
use Rattle.line_forms.specs.declared.pieces.Item.TheVariants as item
use Rattle.line_forms.specs.declared.pieces.Piece.{Piece}
use Rattle.line_forms.specs.declared.pieces.Piece.TheVariants.{Any, Domain, Members, More, One, Sign, When, Word}
use Rattle.line_forms.specs.declared.pieces.Word.TheVariants as word
use Rattle.line_forms.specs.declared.pieces.Word as words

-- ---- a token by itself

abbrev pub is_name : Token → Bool
is_name (token.Name name) = true
is_name (token.Number n) = false
is_name (token.Quoted text) = false
is_name (token.Sign mark) = false

abbrev pub is_the_word : List ℕ → Token → Bool
is_the_word word (token.Name name) = bytes_eq name word
is_the_word word (token.Number n) = false
is_the_word word (token.Quoted text) = false
is_the_word word (token.Sign mark) = false

abbrev pub is_sign : Mark → Token → Bool
is_sign mark (token.Name name) = false
is_sign mark (token.Number n) = false
is_sign mark (token.Quoted text) = false
is_sign mark (token.Sign found) = same_mark found mark

abbrev pub is_text : Token → Bool
is_text (token.Name name) = false
is_text (token.Number n) = false
is_text (token.Quoted text) = true
is_text (token.Sign mark) = false

abbrev pub is_value : Token → Bool
is_value (token.Name name) = false
is_value (token.Number n) = false
is_value (token.Quoted text) = is_constant text
is_value (token.Sign mark) = false

abbrev pub is_file : Token → Bool
is_file (token.Name name) = false
is_file (token.Number n) = false
is_file (token.Quoted text) = is_file_name text
is_file (token.Sign mark) = false

abbrev pub is_id : Token → Bool
is_id (token.Name name) = false
is_id (token.Number n) = nat_le 1 n
is_id (token.Quoted text) = false
is_id (token.Sign mark) = false

-- ---- items

-- `_` or a value
abbrev pub is_plain_cell : Token → Bool
is_plain_cell token = is_sign Underscore token || is_value token

-- the word of a set
abbrev pub begins_set : Token → Bool
begins_set token = is_the_word (codes "in") token || is_the_word (codes "not") token

-- the item begins with the token
abbrev pub item_begins : Item → Token → Bool
item_begins item.Name token = is_name token
item_begins item.Value token = is_value token
item_begins item.File token = is_file token
item_begins item.Text token = is_text token
item_begins item.Id token = is_id token
item_begins item.Cell token = is_plain_cell token || begins_set token
item_begins item.Pair token = is_name token
item_begins item.Pattern token = is_name token
item_begins item.Test token = is_sign Equals token || is_sign Differs token
item_begins item.Equal token = is_plain_cell token
item_begins item.Columns token = is_name token
item_begins item.Given token = is_sign Equals token || is_name token

-- further pairs, `gives` and a pair
abbrev pub rest_of_columns : List Piece
rest_of_columns = More item.Pair ∷ Word word.Gives ∷ One item.Pair ∷ []

-- the set behind its word, with its first member
abbrev pub cell_behind : Token → List Piece
cell_behind token = if is_name token then Sign OpenBrace ∷ One item.Value ∷ Members 1 ∷ Sign CloseBrace ∷ [] else []

abbrev pub test_behind : Token → List Piece
test_behind token = if is_sign Equals token then One item.Equal ∷ [] else One item.Value ∷ []

-- A first word `gives` may be the end of an empty list, or the name of a pair.
abbrev pub columns_behind : Token → List Piece
columns_behind token = if is_the_word (codes "gives") token then One item.Given ∷ [] else Sign Equals ∷ One item.Name ∷ rest_of_columns

abbrev pub given_behind : Token → List Piece
given_behind token = if is_sign Equals token then One item.Name ∷ rest_of_columns else Sign Equals ∷ One item.Name ∷ []

-- what has to follow the first token of the item
abbrev pub item_behind : Item → Token → List Piece
item_behind item.Name token = []
item_behind item.Value token = []
item_behind item.File token = []
item_behind item.Text token = []
item_behind item.Id token = []
item_behind item.Cell token = cell_behind token
item_behind item.Pair token = Sign Equals ∷ One item.Name ∷ []
item_behind item.Pattern token = One item.Test ∷ []
item_behind item.Test token = test_behind token
item_behind item.Equal token = []
item_behind item.Columns token = columns_behind token
item_behind item.Given token = given_behind token

-- ---- pieces

abbrev pub word_text : words.Word → List ℕ
word_text word.In = codes "in"
word_text word.Using = codes "using"
word_text word.Gives = codes "gives"

-- the piece begins with the token; a set has at most 64 members
abbrev pub begins : Piece → Token → Bool
begins (Sign mark) token = is_sign mark token
begins (Word word) token = is_the_word (word_text word) token
begins (One item) token = item_begins item token
begins (Any item) token = item_begins item token
begins (More item) token = is_sign Comma token
begins (Members count) token = nat_lt count SET_MEMBERS && is_sign Comma token
begins Domain token = is_the_word (codes "in") token
begins When token = is_the_word (codes "when") token

-- what has to follow the first token of the piece
abbrev pub behind : Piece → Token → List Piece
behind (Sign mark) token = []
behind (Word word) token = []
behind (One item) token = item_behind item token
behind (Any item) token = item_behind item token ++ More item ∷ []
behind (More item) token = One item ∷ More item ∷ []
behind (Members count) token = One item.Value ∷ Members (count + 1) ∷ []
behind Domain token = Any item.Value ∷ []
behind When token = One item.Pattern ∷ More item.Pattern ∷ []

-- a line may do without it
abbrev pub may_lack : Piece → Bool
may_lack (Sign mark) = false
may_lack (Word word) = false
may_lack (One item) = false
may_lack (Any item) = true
may_lack (More item) = true
may_lack (Members count) = true
may_lack Domain = true
may_lack When = true
