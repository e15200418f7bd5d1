-- Lines that are written of parts: they are read as their tokens, and the lines of a file are those that it was made of.
use Rattle.std.proofs.Common.{◌≡◌, ℕ, zero, suc, ◌<◌, ◌≤◌, Bool, true, false, cond, eqb, ◌&&◌, List, [], ◌∷◌, ◌++◌, length, Option, Some, None, refl, ap, ◌∙◌, append_assoc, arith, length-append}
use Rattle.std.specs.Prelude.{not, map, IsTrue}
use Rattle.std.specs.List.{AllByRecursion}
use Rattle.std.specs.Str.{IsUtf8}
use Rattle.std.proofs.lemmas.Bool.{ne_eqb, and_right, cond-true, cond-false}
use Rattle.std.proofs.lemmas.Str.{IsUtf8-append, IsUtf8-nil, is_utf8-from_IsUtf8}
use Rattle.line_grammar.specs.Lines.{in_front, cut_at_line_feeds, without_return, lines}
use Rattle.line_grammar.specs.GoodTokens.{IsGoodToken}
use Rattle.line_grammar.specs.declared.tokens.Mark.TheVariants.{Underscore}
use Rattle.line_grammar.specs.declared.tokens.Token.{Token}
use Rattle.line_grammar.specs.declared.tokens.Token.TheVariants.{Name, Number, Quoted, Sign}
use Rattle.line_grammar.specs.declared.tokens.LineTokens.TheVariants.{Passed, NotUtf8, Tokens}
use Rattle.line_grammar.specs.declared.writing.Part.{Part}
use Rattle.line_grammar.specs.declared.writing.Part.TheVariants as part
use Rattle.line_grammar.specs.Tokens.{is_blank, after_blanks, begins_blank, is_comment, is_passed, quoted, token_at, is_word, with_token, tokens_from, line_tokens}
use Rattle.line_grammar.specs.Spelling.{spelling, line_text, file_text, tokens_in, may_follow, AreApart, IsReadable}
use Rattle.line_grammar.proofs.Utf8.{IsUtf8-cons}
use Rattle.line_grammar.proofs.TokenLemmas.{tokens_from-end, tokens_from-token, and_then-apart}
use Rattle.line_grammar.proofs.SpelledTokens.{StopsAfter, token_at-spelled, Begins, Begins-spelled, spelling-some, IsUtf8-spelling, IsPlain, IsPlain-append, plain_byte, IsPlain-spelling}

-- ---- what follows a token

-- a token ends where the next part begins
stops : (t : Token) (line : List Part) → AreApart (Some t) line → StopsAfter t (line_text line)
unfolding quoted
stops (Quoted text) line apart = tt
stops (Sign mark) line apart = tt
stops (Name name) [] apart = tt
stops (Name name) (part.Space ∷ line) apart = refl
stops (Name name) (part.Tab ∷ line) apart = refl
stops (Name name) (part.Token (Name other) ∷ line) apart = absurd cc
stops (Name name) (part.Token (Number n) ∷ line) apart = absurd cc
stops (Name name) (part.Token (Quoted text) ∷ line) apart = refl
stops (Name name) (part.Token (Sign Underscore) ∷ line) apart = absurd cc
stops (Name name) (part.Token (Sign mark) ∷ line) apart = refl
stops (Number n) [] apart = tt
stops (Number n) (part.Space ∷ line) apart = refl
stops (Number n) (part.Tab ∷ line) apart = refl
stops (Number n) (part.Token (Name other) ∷ line) apart = absurd cc
stops (Number n) (part.Token (Number m) ∷ line) apart = absurd cc
stops (Number n) (part.Token (Quoted text) ∷ line) apart = refl
stops (Number n) (part.Token (Sign Underscore) ∷ line) apart = refl
stops (Number n) (part.Token (Sign mark) ∷ line) apart = refl

-- ---- the tokens of a line

-- the token that ends right in front is a word
abbrev ends_word : Option Token → Bool
ends_word None = false
ends_word (Some t) = is_word t

-- a token stands behind this one, or at the front
touching : (before : Option Token) (t : Token) (blank : Bool) → IsTrue (may_follow before t) → (ends_word before && not blank && is_word t) ≡ false
touching None t blank apart = refl
touching (Some (Name name)) (Name other) blank apart = absurd cc
touching (Some (Name name)) (Number n) blank apart = absurd cc
touching (Some (Name name)) (Quoted text) blank apart = and_right (true && not blank) false refl
touching (Some (Name name)) (Sign mark) blank apart = and_right (true && not blank) false refl
touching (Some (Number m)) (Name other) blank apart = absurd cc
touching (Some (Number m)) (Number n) blank apart = absurd cc
touching (Some (Number m)) (Quoted text) blank apart = and_right (true && not blank) false refl
touching (Some (Number m)) (Sign mark) blank apart = and_right (true && not blank) false refl
touching (Some (Quoted text)) t blank apart = refl
touching (Some (Sign mark)) t blank apart = refl

less_room : (room : ℕ) (bytes : List ℕ) → 0 < length bytes → length bytes ≤ room → (k : ℕ) × (room ≡ suc k)
less_room zero bytes some enough = absurd (omega arith)
less_room (suc room) bytes some enough = (room, refl)

-- a token, and then the rest
token_then : (room : ℕ) (after_word : Bool) (bytes rest : List ℕ) (t : Token) (tokens : List Token) → Begins bytes → token_at bytes ≡ Some (t, rest) → (after_word && not (begins_blank bytes) && is_word t) ≡ false
    → tokens_from room (is_word t) rest ≡ Tokens tokens → tokens_from (suc room) after_word bytes ≡ Tokens (t ∷ tokens)
token_then room after_word bytes rest t tokens begins found apart others =
    tokens_from-token room after_word bytes t rest (rw (begins.same) begins.some) (ap token_at begins.same ∙ found) ∙ and_then-apart (after_word && not (begins_blank bytes)) t rest (tokens_from room) apart ∙ ap (with_token t) others

-- a blank parts what stands on its two sides
tokens_from-blank : (room : ℕ) (after_word : Bool) (b : ℕ) (bytes : List ℕ) → is_blank b ≡ true → tokens_from room after_word (b ∷ bytes) ≡ tokens_from room false bytes
unfolding tokens_from
tokens_from-blank zero after_word b bytes blank = refl
tokens_from-blank (suc room) after_word b bytes blank =
    let skipped : after_blanks (b ∷ bytes) ≡ after_blanks bytes = cond-true (is_blank b) _ _ blank in
    let parted : (after_word && not (is_blank b)) ≡ false = ap (λ t. after_word && not t) blank ∙ and_right after_word false refl in
    rw (skipped, parted) refl

pub tokens_from-parts : (room : ℕ) (before : Option Token) (line : List Part) → AllByRecursion IsGoodToken (tokens_in line) → AreApart before line → length (line_text line) ≤ room → tokens_from room (ends_word before) (line_text line) ≡ Tokens (tokens_in line)
tokens_from-parts room before [] good apart enough = tokens_from-end room (ends_word before) [] refl
tokens_from-parts room before (part.Space ∷ line) good apart enough = tokens_from-blank room (ends_word before) 32 (line_text line) refl ∙ tokens_from-parts room None line good apart (omega arith)
tokens_from-parts room before (part.Tab ∷ line) good apart enough = tokens_from-blank room (ends_word before) 9 (line_text line) refl ∙ tokens_from-parts room None line good apart (omega arith)
tokens_from-parts room before (part.Token t ∷ line) good apart enough =
    let begins = Begins-spelled t (line_text line) good.0 in
    let less = less_room room (spelling t ++ line_text line) begins.some enough in
    let fits : length (line_text line) ≤ less.0 = omega (arith, length-append (spelling t) (line_text line), spelling-some t good.0, less.1) in
    ap (λ (k : ℕ). tokens_from k (ends_word before) (spelling t ++ line_text line)) less.1
    ∙ token_then less.0 (ends_word before) (spelling t ++ line_text line) (line_text line) t (tokens_in line) begins (token_at-spelled t (line_text line) good.0 (stops t line apart.1))
    (touching before t (begins_blank (spelling t ++ line_text line)) apart.0) (tokens_from-parts less.0 (Some t) line good.1 apart.1 fits)

-- ---- the line as a whole

pub IsUtf8-line_text : (line : List Part) → AllByRecursion IsGoodToken (tokens_in line) → IsUtf8 (line_text line)
IsUtf8-line_text [] good = IsUtf8-nil
IsUtf8-line_text (part.Space ∷ line) good = IsUtf8-cons 32 (line_text line) (omega arith) (IsUtf8-line_text line good)
IsUtf8-line_text (part.Tab ∷ line) good = IsUtf8-cons 9 (line_text line) (omega arith) (IsUtf8-line_text line good)
IsUtf8-line_text (part.Token t ∷ line) good = IsUtf8-append (spelling t) (line_text line) (IsUtf8-spelling t good.0) (IsUtf8-line_text line good.1)

not_passed : (line : List Part) → 1 ≤ length (tokens_in line) → AllByRecursion IsGoodToken (tokens_in line) → is_passed (line_text line) ≡ false
not_passed [] some good = absurd (omega arith)
not_passed (part.Space ∷ line) some good = not_passed line some good
not_passed (part.Tab ∷ line) some good = not_passed line some good
not_passed (part.Token t ∷ line) some good = let begins = Begins-spelled t (line_text line) good.0 in ap is_comment begins.same ∙ begins.no_comment

-- what is written is read as the tokens that it was made of
pub line_tokens-written : (line : List Part) → IsReadable line → line_tokens (line_text line) ≡ Tokens (tokens_in line)
unfolding line_tokens
line_tokens-written line readable =
    let utf8 = is_utf8-from_IsUtf8 (line_text line) (IsUtf8-line_text line readable.good) in
    ap (λ u. cond (not u) NotUtf8 (cond (is_passed (line_text line)) Passed (tokens_from (length (line_text line)) false (line_text line)))) utf8
    ∙ cond-false (is_passed (line_text line)) _ _ (not_passed line readable.some readable.good)
    ∙ tokens_from-parts (length (line_text line)) None line readable.good readable.apart (omega arith)

-- ---- the lines of a file

pub cut-plain : (line rest : List ℕ) → IsPlain line → cut_at_line_feeds (line ++ 10 ∷ rest) ≡ line ∷ cut_at_line_feeds rest
cut-plain [] rest plain = refl
cut-plain (b ∷ line) rest plain = cond-false (eqb b 10) _ _ (ne_eqb b 10 plain.0.0) ∙ ap (in_front b) (cut-plain line rest plain.1)

pub without_return-plain : (line : List ℕ) → IsPlain line → without_return line ≡ line
without_return-plain [] plain = refl
without_return-plain (b ∷ []) plain = cond-false (eqb b 13) _ _ (ne_eqb b 13 plain.0.1)
without_return-plain (b ∷ c ∷ line) plain = ap (λ (xs : List ℕ). b ∷ xs) (without_return-plain (c ∷ line) plain.1)

pub IsPlain-line : (line : List Part) → AllByRecursion IsGoodToken (tokens_in line) → IsPlain (line_text line)
IsPlain-line [] good = tt
IsPlain-line (part.Space ∷ line) good = (plain_byte 32 refl refl, IsPlain-line line good)
IsPlain-line (part.Tab ∷ line) good = (plain_byte 9 refl refl, IsPlain-line line good)
IsPlain-line (part.Token t ∷ line) good = IsPlain-append (spelling t) (line_text line) (IsPlain-spelling t good.0) (IsPlain-line line good.1)

-- the lines of a file that is written so
pub lines-file_text : (ls : List (List Part)) → AllByRecursion IsReadable ls → lines (file_text ls) ≡ map line_text ls
lines-file_text [] readable = refl
lines-file_text (line ∷ ls) readable =
    let plain = IsPlain-line line readable.0.good in
    ap (λ (bytes : List ℕ). lines bytes) (append_assoc (line_text line) (10 ∷ []) (file_text ls)) ∙ ap (λ (cut : List (List ℕ)). map without_return cut) (cut-plain (line_text line) (file_text ls) plain)
    ∙ ap (λ (l : List ℕ). l ∷ lines (file_text ls)) (without_return-plain (line_text line) plain) ∙ ap (λ (others : List (List ℕ)). line_text line ∷ others) (lines-file_text ls readable.1)
