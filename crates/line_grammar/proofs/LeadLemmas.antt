-- Tokens read off the bytes of a line when they are asked for.
use Rattle.std.proofs.Common.{◌⊎◌, inl, inr, ◌≡◌, ℕ, zero, suc, ◌+◌, ◌<◌, ◌≤◌, Bool, true, false, cond, eqb, ◌&&◌, List, [], ◌∷◌, ◌++◌, length, Option, Some, None, refl, ap, sym, ◌∙◌, subst, arith}
use Rattle.std.specs.Prelude.{not}
use Rattle.std.specs.List.{AllByRecursion}
use Rattle.std.specs.Str.{IsUtf8, is_utf8}
use Rattle.std.proofs.lemmas.Bool.{cond_both, cond-false, cases_eq, false≢true}
use Rattle.std.proofs.lemmas.Option.{none-some, some_pair_parts, same_Some}
use Rattle.line_grammar.specs.declared.tokens.Token.{Token}
use Rattle.line_grammar.specs.declared.tokens.Token.TheVariants.{Quoted}
use Rattle.line_grammar.specs.declared.tokens.LineTokens.{LineTokens}
use Rattle.line_grammar.specs.declared.tokens.LineTokens.TheVariants.{Passed, NotUtf8, BadTokens, Tokens}
use Rattle.line_grammar.specs.Contents.{Content, content_on, tokens_in}
use Rattle.line_grammar.specs.Contents as content
use Rattle.line_grammar.specs.FileLines.{content_of}
use Rattle.line_grammar.specs.GoodTokens.{IsGoodToken, HasGoodTokens}
use Rattle.line_grammar.specs.Leads.{meant, measured, given, are_tokens, tokens_left}
use Rattle.line_grammar.specs.Tokens.{after_blanks, begins_blank, with_byte, text_from, quoted_token, token_at, is_word, with_token, and_then, tokens_from, is_passed, line_tokens}
use Rattle.line_grammar.proofs.Texts.{text_from-quote}
use Rattle.line_grammar.proofs.TokenLemmas.{tokens_from-end, tokens_from-none, tokens_from-token, and_then-apart, and_then-touching, less_room, token_at-nil, length-after_blanks, IsUtf8-after_blanks, token_at-Follows, Left, Left-end, Left-none, Left-touching, Left-token}
use Rattle.line_grammar.proofs.GoodTokens.{token_at-good, line_tokens-are_good}

-- ---- how long a text is

-- so many bytes, and those of the text yet
abbrev pub counted : ℕ → Option (List ℕ × List ℕ) → Option (ℕ × List ℕ)
counted n None = None
counted n (Some found) = Some (n + length found.0, found.1)

pub counted-byte : (n b : ℕ) (found : Option (List ℕ × List ℕ)) → counted n (with_byte b found) ≡ counted (n + 1) found
counted-byte n b None = refl
counted-byte n b (Some found) = ap (λ (k : ℕ). Some (k, found.1)) (omega arith)

pub counted-zero : (found : Option (List ℕ × List ℕ)) → counted 0 found ≡ measured found
counted-zero None = refl
counted-zero (Some found) = ap (λ (k : ℕ). Some (k, found.1)) (omega arith)

pub counted-at_quote : (n b : ℕ) (bytes all after : List ℕ) → b ≡ 39 → bytes ≡ b ∷ after → counted n (text_from bytes) ≡ counted 0 (text_from all)
    → Some (n, after) ≡ measured (text_from all)
counted-at_quote n b bytes all after quote parts so_far =
    ap (λ (k : ℕ). Some (k, after)) (omega arith)
    ∙ sym (ap (counted n) (ap text_from parts ∙ ap (λ (x : ℕ). text_from (x ∷ after)) quote ∙ text_from-quote after))
    ∙ so_far ∙ counted-zero (text_from all)

pub counted-none : (n : ℕ) (found all : Option (List ℕ × List ℕ)) → found ≡ None → counted n found ≡ counted 0 all
    → ◌≡◌ {A = Option (ℕ × List ℕ)} None (measured all)
counted-none n found all none so_far = sym (ap (counted n) none) ∙ so_far ∙ counted-zero all

pub counted-piece : (n b : ℕ) (found left all : Option (List ℕ × List ℕ)) → found ≡ with_byte b left → counted n found ≡ counted 0 all → counted (n + 1) left ≡ counted 0 all
counted-piece n b found left all piece so_far = sym (counted-byte n b left) ∙ sym (ap (counted n) piece) ∙ so_far

-- ---- the text behind a quote

pub meant-none : (all : Option (List ℕ × List ℕ)) → ◌≡◌ {A = Option (ℕ × List ℕ)} None (measured all) → quoted_token all ≡ None
meant-none None none = refl
meant-none (Some found) none = absurd (none-some _ none)

pub meant-some : (all : Option (List ℕ × List ℕ)) (n : ℕ) (rest : List ℕ) → Some (n, rest) ≡ measured all → Some (Quoted (meant all), rest) ≡ quoted_token all
meant-some None n rest some = absurd (none-some _ (sym some))
meant-some (Some found) n rest some = ap (λ (r : List ℕ). Some (Quoted found.0, r)) (some_pair_parts _ _ _ _ some).1

pub meant_len-none : (all : Option (List ℕ × List ℕ)) → ◌≡◌ {A = Option (ℕ × List ℕ)} None (measured all) → 0 ≡ length (meant all)
meant_len-none None none = refl
meant_len-none (Some found) none = absurd (none-some _ none)

pub meant_len-some : (all : Option (List ℕ × List ℕ)) (n : ℕ) (rest : List ℕ) → Some (n, rest) ≡ measured all → n ≡ length (meant all)
meant_len-some None n rest some = absurd (none-some _ (sym some))
meant_len-some (Some found) n rest some = (some_pair_parts _ _ _ _ some).0

-- ---- more room changes nothing

and_then-same : (touches : Bool) (found : Option (Token × List ℕ)) (f g : Bool → List ℕ → LineTokens)
    → ((token : Token) (left : List ℕ) → found ≡ Some (token, left) → f (is_word token) left ≡ g (is_word token) left) → and_then touches found f ≡ and_then touches found g
and_then-same touches None f g same = refl
and_then-same touches (Some found) f g same = ap (λ (rest : LineTokens). cond (touches && is_word found.0) (BadTokens []) (with_token found.0 rest)) (same found.0 found.1 refl)

pub tokens_from-room : (k j : ℕ) (after_word : Bool) (rest : List ℕ) → IsUtf8 rest → length rest ≤ k → length rest ≤ j → tokens_from k after_word rest ≡ tokens_from j after_word rest
unfolding tokens_from
tokens_from-room zero zero after_word rest utf8 fits fits' = refl
tokens_from-room zero (suc j) after_word rest utf8 fits fits' = sym (tokens_from-end (suc j) after_word rest (omega (arith, length-after_blanks rest)))
tokens_from-room (suc k) zero after_word rest utf8 fits fits' = tokens_from-end (suc k) after_word rest (omega (arith, length-after_blanks rest))
tokens_from-room (suc k) (suc j) after_word rest utf8 fits fits' =
    let at_front = IsUtf8-after_blanks rest utf8 in
    ap (λ (later : LineTokens). cond (eqb (length (after_blanks rest)) 0) (Tokens []) later)
    (and_then-same (after_word && not (begins_blank rest)) (token_at (after_blanks rest)) (tokens_from k) (tokens_from j)
    (λ token left found.
    let follows = token_at-Follows (after_blanks rest) left token at_front found in
    tokens_from-room k j (is_word token) left follows.utf8 (omega (arith, follows.shorter, length-after_blanks rest)) (omega (arith, follows.shorter, length-after_blanks rest))))

-- ---- the first token of those that are left

-- a line that is read gives these tokens, all of them or those before a bad place
abbrev Listed : LineTokens → Type 0
Listed found = (tokens : List Token) × ((found ≡ Tokens tokens) ⊎ (found ≡ BadTokens tokens))

Listed-with_token : (token : Token) (rest : LineTokens) → Listed rest → Listed (with_token token rest)
Listed-with_token token rest (tokens, inl all) = (token ∷ tokens, inl (ap (with_token token) all))
Listed-with_token token rest (tokens, inr bad) = (token ∷ tokens, inr (ap (with_token token) bad))

and_then-Listed : (touches : Bool) (found : Option (Token × List ℕ)) (rest : Bool → List ℕ → LineTokens) → ((after_word : Bool) (left : List ℕ) → Listed (rest after_word left)) → Listed (and_then touches found rest)
and_then-Listed touches None rest further = ([], inr refl)
and_then-Listed touches (Some found) rest further =
    cond_both (touches && is_word found.0) (BadTokens []) (with_token found.0 (rest (is_word found.0) found.1)) Listed
    (λ bad. ([], inr refl))
    (λ apart. Listed-with_token found.0 (rest (is_word found.0) found.1) (further (is_word found.0) found.1))

tokens_from-Listed : (room : ℕ) (after_word : Bool) (bytes : List ℕ) → Listed (tokens_from room after_word bytes)
unfolding tokens_from
tokens_from-Listed zero after_word bytes = ([], inl refl)
tokens_from-Listed (suc room) after_word bytes =
    cond_both (eqb (length (after_blanks bytes)) 0) (Tokens []) (and_then (after_word && not (begins_blank bytes)) (token_at (after_blanks bytes)) (tokens_from room)) Listed
    (λ ended. ([], inl refl))
    (λ more. and_then-Listed (after_word && not (begins_blank bytes)) (token_at (after_blanks bytes)) (tokens_from room) (λ word left. tokens_from-Listed room word left))

given-with_token : (token : Token) (rest : LineTokens) → Listed rest → given (with_token token rest) ≡ token ∷ given rest
given-with_token token rest (tokens, inl all) = ap (λ (found : LineTokens). given (with_token token found)) all ∙ sym (ap (λ (found : LineTokens). token ∷ given found) all)
given-with_token token rest (tokens, inr bad) = ap (λ (found : LineTokens). given (with_token token found)) bad ∙ sym (ap (λ (found : LineTokens). token ∷ given found) bad)

-- what a list of tokens is, and what a line is that is none
given-all : (found : LineTokens) → Listed found → are_tokens found ≡ true → found ≡ Tokens (given found)
given-all found (tokens, inl all) all_are = all ∙ sym (ap (λ (f : LineTokens). Tokens (given f)) all)
given-all found (tokens, inr bad) all_are = absurd (false≢true (sym (ap are_tokens bad) ∙ all_are))

given-bad : (found : LineTokens) → Listed found → are_tokens found ≡ false → found ≡ BadTokens (given found)
given-bad found (tokens, inl all) some_bad = absurd (false≢true (sym some_bad ∙ ap are_tokens all))
given-bad found (tokens, inr bad) some_bad = bad ∙ sym (ap (λ (f : LineTokens). BadTokens (given f)) bad)

pub line-all : (line : List ℕ) → are_tokens (tokens_from (length line) false line) ≡ true → tokens_from (length line) false line ≡ Tokens (tokens_left false line)
line-all line all_are = given-all _ (tokens_from-Listed (length line) false line) all_are

pub line-bad : (line : List ℕ) → are_tokens (tokens_from (length line) false line) ≡ false → tokens_from (length line) false line ≡ BadTokens (tokens_left false line)
line-bad line some_bad = given-bad _ (tokens_from-Listed (length line) false line) some_bad

pub content-all : (line : List ℕ) (tokens : List Token) → is_utf8 line ≡ true → is_passed line ≡ false → tokens ≡ tokens_left false line → are_tokens (tokens_from (length line) false line) ≡ true → Some (content.Tokens tokens) ≡ content_of (line_tokens line)
unfolding line_tokens
content-all line tokens utf8 kept is all_are =
    ap (λ (ts : List Token). Some (content.Tokens ts)) is
    ∙ sym (ap content_of (cond-false (not (is_utf8 line)) _ _ (ap not utf8) ∙ cond-false (is_passed line) _ _ kept ∙ line-all line all_are))

pub content-bad : (line : List ℕ) (tokens : List Token) → is_utf8 line ≡ true → is_passed line ≡ false → tokens ≡ tokens_left false line → are_tokens (tokens_from (length line) false line) ≡ false → Some (content.BadTokens tokens) ≡ content_of (line_tokens line)
unfolding line_tokens
content-bad line tokens utf8 kept is some_bad =
    ap (λ (ts : List Token). Some (content.BadTokens ts)) is
    ∙ sym (ap content_of (cond-false (not (is_utf8 line)) _ _ (ap not utf8) ∙ cond-false (is_passed line) _ _ kept ∙ line-bad line some_bad))

pub content-utf8 : (line : List ℕ) → is_utf8 line ≡ true → is_passed line ≡ false → Some (content_on true line) ≡ content_of (line_tokens line)
content-utf8 line utf8 kept =
    cond_both (are_tokens (tokens_from (length line) false line)) (content.Tokens (tokens_left false line)) (content.BadTokens (tokens_left false line)) (λ it. Some it ≡ content_of (line_tokens line))
    (λ all_are. content-all line (tokens_left false line) utf8 kept refl all_are)
    (λ some_bad. content-bad line (tokens_left false line) utf8 kept refl some_bad)

pub left-end : (after_word : Bool) (rest : List ℕ) → length (after_blanks rest) ≡ 0 → tokens_left after_word rest ≡ []
left-end after_word rest ended = ap given (tokens_from-end (length rest) after_word rest ended)

pub left-none : (after_word : Bool) (rest : List ℕ) → token_at (after_blanks rest) ≡ None → tokens_left after_word rest ≡ []
left-none after_word rest none =
    elim (cases_eq (length (after_blanks rest)) 0) [
      | inl ended ↦ left-end after_word rest ended
      | inr some ↦ ap given (tokens_from-none (length rest) after_word rest (omega arith) (omega arith) none)
    ]

some_bytes : (bytes left : List ℕ) (token : Token) → token_at bytes ≡ Some (token, left) → 0 < length bytes
some_bytes [] left token found = absurd (none-some _ (sym token_at-nil ∙ found))
some_bytes (b ∷ bytes) left token found = omega arith

pub left-touching : (after_word : Bool) (rest : List ℕ) (token : Token) (after : List ℕ) → token_at (after_blanks rest) ≡ Some (token, after) → (after_word && not (begins_blank rest) && is_word token) ≡ true → tokens_left after_word rest ≡ []
left-touching after_word rest token after found touches =
    let some = some_bytes (after_blanks rest) after token found in
    let less = less_room (length rest) rest some (omega arith) in
    ap given (ap (λ (k : ℕ). tokens_from k after_word rest) less.1 ∙ tokens_from-token less.0 after_word rest token after some found ∙ and_then-touching _ token after (tokens_from less.0) touches)

pub left-token : (after_word : Bool) (rest : List ℕ) (token : Token) (after : List ℕ) → IsUtf8 rest → token_at (after_blanks rest) ≡ Some (token, after) → (after_word && not (begins_blank rest) && is_word token) ≡ false
    → tokens_left after_word rest ≡ token ∷ tokens_left (is_word token) after
left-token after_word rest token after utf8 found apart =
    let some = some_bytes (after_blanks rest) after token found in
    let less = less_room (length rest) rest some (omega arith) in
    let follows = token_at-Follows (after_blanks rest) after token (IsUtf8-after_blanks rest utf8) found in
    let fits : length after ≤ less.0 = omega (arith, length-after_blanks rest, follows.shorter, less.1) in
    ap given (ap (λ (k : ℕ). tokens_from k after_word rest) less.1 ∙ tokens_from-token less.0 after_word rest token after some found ∙ and_then-apart _ token after (tokens_from less.0) apart)
    ∙ given-with_token token (tokens_from less.0 (is_word token) after) (tokens_from-Listed less.0 (is_word token) after)
    ∙ ap (λ (found : LineTokens). token ∷ given found) (tokens_from-room less.0 (length after) (is_word token) after follows.utf8 fits (omega arith))

-- what is known of the front of a line
pub front-good : (rest after : List ℕ) (token : Token) → IsUtf8 rest → token_at (after_blanks rest) ≡ Some (token, after) → IsGoodToken token
front-good rest after token utf8 found = token_at-good (after_blanks rest) after token (IsUtf8-after_blanks rest utf8) found

pub front-utf8 : (rest after : List ℕ) (token : Token) → IsUtf8 rest → token_at (after_blanks rest) ≡ Some (token, after) → IsUtf8 after
front-utf8 rest after token utf8 found = (token_at-Follows (after_blanks rest) after token (IsUtf8-after_blanks rest utf8) found).utf8

-- ---- whether a line is a list of tokens

-- what is left of a line of which some tokens were read
abbrev pub SomeLeft : List ℕ → Bool → List ℕ → Type 0
SomeLeft line after_word rest = (read : List Token) × Left line read after_word rest

pub are-end : (line rest : List ℕ) (after_word : Bool) → SomeLeft line after_word rest → length (after_blanks rest) ≡ 0 → true ≡ are_tokens (tokens_from (length line) false line)
are-end line rest after_word left ended = ap are_tokens (Left-end line rest left.0 after_word left.1 ended)

pub are-none : (line rest : List ℕ) (after_word : Bool) → SomeLeft line after_word rest → 0 < length (after_blanks rest) → token_at (after_blanks rest) ≡ None → false ≡ are_tokens (tokens_from (length line) false line)
are-none line rest after_word left some none = ap are_tokens (Left-none line rest left.0 after_word left.1 some none)

pub are-touching : (line rest : List ℕ) (after_word : Bool) (token : Token) (after : List ℕ) → SomeLeft line after_word rest → 0 < length (after_blanks rest) → token_at (after_blanks rest) ≡ Some (token, after)
    → (after_word && not (begins_blank rest) && is_word token) ≡ true → false ≡ are_tokens (tokens_from (length line) false line)
are-touching line rest after_word token after left some found touches = ap are_tokens (Left-touching line rest left.0 after_word token after left.1 some found touches)

pub are-token : (line rest : List ℕ) (after_word : Bool) (token : Token) (after : List ℕ) → SomeLeft line after_word rest → 0 < length (after_blanks rest) → token_at (after_blanks rest) ≡ Some (token, after)
    → (after_word && not (begins_blank rest) && is_word token) ≡ false → SomeLeft line (is_word token) after
are-token line rest after_word token after left some found apart =
    let follows = token_at-Follows (after_blanks rest) after token (IsUtf8-after_blanks rest left.1.utf8) found in
    (left.0 ++ token ∷ [], Left-token line rest left.0 after_word token after left.1 some found apart follows.shorter follows.utf8)

-- ---- a line with its tokens

-- what a line is that has this content
abbrev pub kind_of : Content → LineTokens
kind_of content.NotUtf8 = NotUtf8
kind_of (content.BadTokens tokens) = BadTokens tokens
kind_of (content.Tokens tokens) = Tokens tokens

kind_of-content : (found : LineTokens) (it : Content) → content_of found ≡ Some it → found ≡ kind_of it
kind_of-content Passed it is = absurd (none-some _ is)
kind_of-content NotUtf8 it is = ap kind_of (same_Some _ _ is)
kind_of-content (BadTokens tokens) it is = ap kind_of (same_Some _ _ is)
kind_of-content (Tokens tokens) it is = ap kind_of (same_Some _ _ is)

content-good : (line : List ℕ) (it : Content) → Some it ≡ content_of (line_tokens line) → HasGoodTokens (kind_of it)
content-good line it is = subst HasGoodTokens (kind_of-content (line_tokens line) it (sym is)) (line_tokens-are_good line)

tokens-good : (it : Content) (tokens : List Token) → HasGoodTokens (kind_of it) → Some tokens ≡ tokens_in it → AllByRecursion IsGoodToken tokens
tokens-good content.NotUtf8 tokens good is = absurd (none-some _ (sym is))
tokens-good (content.BadTokens own) tokens good is = subst (AllByRecursion IsGoodToken) (sym (same_Some _ _ is)) good
tokens-good (content.Tokens own) tokens good is = subst (AllByRecursion IsGoodToken) (sym (same_Some _ _ is)) good

pub line-good : (line : List ℕ) (it : Content) (tokens : List Token) → Some it ≡ content_of (line_tokens line) → Some tokens ≡ tokens_in it → AllByRecursion IsGoodToken tokens
line-good line it tokens is own = tokens-good it tokens (content-good line it is) own
