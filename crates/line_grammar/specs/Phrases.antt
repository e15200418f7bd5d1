-- The parts of a line that every grammar is made of, each read off the front of tokens. A rule of a grammar is written
-- with `do` over them, and a rule for a whole line leaves no token.
use Rattle.std.specs.Prelude.{◌≡◌, ℕ, nat_le, ◌&&◌, Bool, List, ◌∷◌, length, Option, Some, None, Result, MatchResult, IfSome, option_and_then, option_map, if◌then◌else◌}
use Rattle.std.specs.Str.{bytes_eq}
use Rattle.line_grammar.specs.Faults.{UnlessMemory}
use Rattle.line_grammar.specs.Marks.{after_mark}
use Rattle.line_grammar.specs.TokenLists.{Reader, list1_at, list_at}
use Rattle.text_lists.specs.declared.bounds.TheConstants.{CONSTANT_BYTES, FILE_NAME_BYTES}
use Rattle.line_grammar.specs.declared.tokens.Mark.{Mark}
use Rattle.line_grammar.specs.declared.tokens.Token.{Token}
use Rattle.line_grammar.specs.declared.tokens.Token.TheVariants.{Name, Number, Quoted}
use Rattle.line_grammar.specs.declared.unread.Unread.{Unread}
use Rattle.line_grammar.specs.declared.unread.Unread.TheVariants.{Absent, Memory}

infixl 10 ◌>>=◌
abbrev pub ◌>>=◌ : {A B : Type 0} → Option A → (A → Option B) → Option B
found >>= f = option_and_then f found

-- ---- single tokens

-- the name at the front, and the tokens after it
abbrev pub name_at : Reader (List ℕ)
name_at (Name name ∷ rest) = Some (name, rest)
name_at _ = None

abbrev pub number_at : Reader ℕ
number_at (Number n ∷ rest) = Some (n, rest)
number_at _ = None

abbrev pub text_at : Reader (List ℕ)
text_at (Quoted text ∷ rest) = Some (text, rest)
text_at _ = None

-- what follows the name at the front
abbrev pub after_name : List Token → Option (List Token)
after_name tokens = option_map (λ found. found.1) (name_at tokens)

-- what follows the word at the front
abbrev pub after_word : List ℕ → List Token → Option (List Token)
after_word word (Name name ∷ rest) = if bytes_eq name word then Some rest else None
after_word word _ = None

-- ---- texts of bounded length

abbrev pub is_constant : List ℕ → Bool
is_constant text = nat_le (length text) CONSTANT_BYTES

abbrev pub is_file_name : List ℕ → Bool
is_file_name text = nat_le 1 (length text) && nat_le (length text) FILE_NAME_BYTES

-- what was found, where it passes the test
abbrev pub only_if : {A : Type 0} → (A → Bool) → A × List Token → Option (A × List Token)
only_if test found = if test found.0 then Some found else None

-- VALUE: a text of at most 1,024 bytes
abbrev pub constant_at : Reader (List ℕ)
constant_at tokens = text_at tokens >>= only_if is_constant

-- FILE: a text of 1 to 1,024 bytes
abbrev pub file_name_at : Reader (List ℕ)
file_name_at tokens = text_at tokens >>= only_if is_file_name

-- ---- lists of bounded length

-- LIST1(p) of at most so many
abbrev pub few_at : {A : Type 0} → Reader A → ℕ → Reader (List A)
few_at p most tokens = list1_at p tokens >>= only_if (λ values. nat_le (length values) most)

-- ---- lists that end at a mark

abbrev pub closed_by : {A : Type 0} → Mark → List A × List Token → Option (List A × List Token)
closed_by mark list = option_map (λ rest. (list.0, rest)) (after_mark mark list.1)

-- LIST(p) and then the mark
abbrev pub list_until : {A : Type 0} → Reader A → Mark → Reader (List A)
list_until p mark tokens = list_at p tokens >>= closed_by mark

-- ---- what is read in code

-- why a call read nothing: no such part stands there, unless memory ran out
abbrev pub unread_tells : Unread → Option (Unit {0})
unread_tells Absent = Some tt
unread_tells Memory = None

-- what stands at the front of the old tokens was read, and the new tokens are those after it
abbrev pub Reads : {A : Type 0} → Reader A → List Token → List Token → Result A Unread → Type 0
Reads reader old new result = UnlessMemory unread_tells (λ x. reader old ≡ Some (x, new)) (λ _. reader old ≡ None) result

-- nothing was read, for no other reason, and no token is gone
abbrev pub Stays : {A : Type 0} → Option A → List Token → List Token → Unread → Type 0
Stays found old new why = (found ≡ None) × (new ≡ old) × (why ≡ Absent)

-- a single token was read at the front, which takes no memory
abbrev pub ReadsToken : {A : Type 0} → Reader A → List Token → List Token → Result A Unread → Type 0
ReadsToken reader old new result = MatchResult result (λ x. reader old ≡ Some (x, new)) (Stays (reader old) old new)

-- a token with its text was read at the front; where it was not, no token is gone
abbrev pub ReadsText : {A : Type 0} → Reader A → List Token → List Token → Result A Unread → Type 0
ReadsText reader old new result = MatchResult result (λ x. reader old ≡ Some (x, new)) (λ why. (new ≡ old) × IfSome (unread_tells why) (λ _. reader old ≡ None))

-- a single token was passed at the front
abbrev pub Passes : (List Token → Option (List Token)) → List Token → List Token → Result (Unit {0}) Unread → Type 0
Passes after old new result = MatchResult result (λ _. after old ≡ Some new) (Stays (after old) old new)
