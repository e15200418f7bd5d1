-- Lines read token by token.
use Rattle.std.proofs.Common.{◌≢◌, ◌⊎◌, inl, inr, length-drop, ◌≡◌, ℕ, zero, suc, ◌+◌, ◌<◌, ◌≤◌, Bool, true, false, cond, eqb, ◌&&◌, List, [], ◌∷◌, ◌++◌, length, take, drop, Option, Some, None, refl, ap, sym, ◌∙◌, arith}
use Rattle.std.specs.Prelude.{not}
use Rattle.std.specs.Str.{IsUtf8}
use Rattle.std.specs.Char.{is_ascii_alphabetic, is_ascii_digit}
use Rattle.std.specs.List.{prefix_len}
use Rattle.std.proofs.lemmas.Bool.{cases_Bool, cases_eq, eqb-true, eq-eqb, ne_eqb, cond-true, cond-false, cond_both}
use Rattle.std.proofs.lemmas.Bool.Decides.{nat_tests}
use Rattle.std.proofs.lemmas.Option.{none-some, some_pair_parts}
use Rattle.std.specs.Str.Parse.{digits_value}
use Rattle.text_lists.specs.Names.{is_name_byte}
use Rattle.line_grammar.specs.declared.tokens.Mark.{Mark}
use Rattle.line_grammar.specs.declared.tokens.Token.{Token}
use Rattle.line_grammar.specs.declared.tokens.Token.TheVariants.{Name, Number, Quoted, Sign}
use Rattle.line_grammar.specs.declared.tokens.LineTokens.{LineTokens}
use Rattle.line_grammar.specs.declared.tokens.LineTokens.TheVariants.{BadTokens, Tokens}
use Rattle.line_grammar.specs.Tokens.{is_blank, after_blanks, begins_blank, text_from, one_mark, two_marks, mark_or, mark_at, name_len, digits_len, quoted_token, token_at, is_word, with_token, and_then, tokens_from}
use Rattle.line_grammar.proofs.Utf8.{IsUtf8-tail, IsUtf8-after_run, is_name_byte-ascii, is_ascii_digit-ascii}
use Rattle.line_grammar.proofs.Texts.{text_from-IsUtf8, text_from-shorter}

-- ---- a line that is read token by token

-- the tokens that were read before, in front of those of the rest
abbrev pub with_tokens : List Token → LineTokens → LineTokens
with_tokens [] rest = rest
with_tokens (t ∷ ts) rest = with_token t (with_tokens ts rest)

pub with_tokens-push : (ts : List Token) (t : Token) (rest : LineTokens) → with_tokens (ts ++ t ∷ []) rest ≡ with_tokens ts (with_token t rest)
with_tokens-push [] t rest = refl
with_tokens-push (u ∷ ts) t rest = ap (with_token u) (with_tokens-push ts t rest)

pub with_tokens-Tokens : (ts : List Token) → with_tokens ts (Tokens []) ≡ Tokens ts
with_tokens-Tokens [] = refl
with_tokens-Tokens (t ∷ ts) = ap (with_token t) (with_tokens-Tokens ts)

pub with_tokens-BadTokens : (ts : List Token) → with_tokens ts (BadTokens []) ≡ BadTokens ts
with_tokens-BadTokens [] = refl
with_tokens-BadTokens (t ∷ ts) = ap (with_token t) (with_tokens-BadTokens ts)

-- what is left of a line, of which these tokens were read before
pub record Left (line : List ℕ) (read : List Token) (after_word : Bool) (rest : List ℕ) : Type 0 where
  pub room : ℕ
  pub enough : length rest ≤ room
  pub utf8 : IsUtf8 rest
  pub same : with_tokens read (tokens_from room after_word rest) ≡ tokens_from (length line) false line

pub Left-whole : (line : List ℕ) → IsUtf8 line → Left line [] false line
Left-whole line utf8 = record { room = length line; enough = omega arith; utf8 = utf8; same = refl }

-- ---- what stands behind blanks

pub length-after_blanks : (bytes : List ℕ) → length (after_blanks bytes) ≤ length bytes
length-after_blanks [] = omega arith
length-after_blanks (b ∷ bytes) = elim (is_blank b) as (λ t. length (cond t (after_blanks bytes) (b ∷ bytes)) ≤ length (b ∷ bytes)) [ true ↦ omega (arith, length-after_blanks bytes) | false ↦ omega arith ]

is_blank-ascii : (b : ℕ) → is_blank b ≡ true → b < 128
is_blank-ascii b e = grind (arith, nat_tests)

pub IsUtf8-after_blanks : (bytes : List ℕ) → IsUtf8 bytes → IsUtf8 (after_blanks bytes)
IsUtf8-after_blanks [] utf8 = utf8
IsUtf8-after_blanks (b ∷ bytes) utf8 =
    cond_both (is_blank b) (after_blanks bytes) (b ∷ bytes) IsUtf8 (λ blank. IsUtf8-after_blanks bytes (IsUtf8-tail b bytes (is_blank-ascii b blank) utf8)) (λ other. utf8)

-- ---- how the line ends, or goes on

-- Where only blanks are left, these are all tokens.
pub tokens_from-end : (room : ℕ) (after_word : Bool) (rest : List ℕ) → length (after_blanks rest) ≡ 0 → tokens_from room after_word rest ≡ Tokens []
unfolding tokens_from
tokens_from-end zero after_word rest ended = refl
tokens_from-end (suc room) after_word rest ended = cond-true (eqb (length (after_blanks rest)) 0) _ _ (eq-eqb _ 0 ended)

-- Where none is at the front, the line is no list of tokens.
pub tokens_from-none : (room : ℕ) (after_word : Bool) (rest : List ℕ) → 0 < length (after_blanks rest) → length rest ≤ room → token_at (after_blanks rest) ≡ None → tokens_from room after_word rest ≡ BadTokens []
unfolding tokens_from
tokens_from-none zero after_word rest some enough none = absurd (omega (arith, length-after_blanks rest))
tokens_from-none (suc room) after_word rest some enough none =
    cond-false (eqb (length (after_blanks rest)) 0) _ _ (ne_eqb _ 0 (omega arith)) ∙ rw none refl

-- Where one is at the front, the rest follows it, unless it is a word right behind a word.
pub tokens_from-token : (room : ℕ) (after_word : Bool) (rest : List ℕ) (token : Token) (left : List ℕ) → 0 < length (after_blanks rest) → token_at (after_blanks rest) ≡ Some (token, left)
    → tokens_from (suc room) after_word rest ≡ and_then (after_word && not (begins_blank rest)) (Some (token, left)) (tokens_from room)
unfolding tokens_from
tokens_from-token room after_word rest token left some found =
    cond-false (eqb (length (after_blanks rest)) 0) _ _ (ne_eqb _ 0 (omega arith)) ∙ rw found refl

pub and_then-touching : (touches : Bool) (token : Token) (left : List ℕ) (rest : Bool → List ℕ → LineTokens) → (touches && is_word token) ≡ true → and_then touches (Some (token, left)) rest ≡ BadTokens []
and_then-touching touches token left rest e = cond-true (touches && is_word token) _ _ e

pub and_then-apart : (touches : Bool) (token : Token) (left : List ℕ) (rest : Bool → List ℕ → LineTokens) → (touches && is_word token) ≡ false → and_then touches (Some (token, left)) rest ≡ with_token token (rest (is_word token) left)
and_then-apart touches token left rest e = cond-false (touches && is_word token) _ _ e

pub Left-end : (line rest : List ℕ) (read : List Token) (after_word : Bool) → Left line read after_word rest → length (after_blanks rest) ≡ 0 → Tokens read ≡ tokens_from (length line) false line
Left-end line rest read after_word left ended =
    sym (ap (with_tokens read) (tokens_from-end left.room after_word rest ended) ∙ with_tokens-Tokens read) ∙ left.same

pub Left-none : (line rest : List ℕ) (read : List Token) (after_word : Bool) → Left line read after_word rest → 0 < length (after_blanks rest) → token_at (after_blanks rest) ≡ None → BadTokens read ≡ tokens_from (length line) false line
Left-none line rest read after_word left some none =
    sym (ap (with_tokens read) (tokens_from-none left.room after_word rest some left.enough none) ∙ with_tokens-BadTokens read) ∙ left.same

-- the room that is left behind a token
pub less_room : (room : ℕ) (rest : List ℕ) → 0 < length (after_blanks rest) → length rest ≤ room → (k : ℕ) × (room ≡ suc k)
less_room zero rest some enough = absurd (omega (arith, length-after_blanks rest))
less_room (suc room) rest some enough = (room, refl)

pub Left-touching : (line rest : List ℕ) (read : List Token) (after_word : Bool) (token : Token) (after : List ℕ) → Left line read after_word rest → 0 < length (after_blanks rest) → token_at (after_blanks rest) ≡ Some (token, after)
    → (after_word && not (begins_blank rest) && is_word token) ≡ true → BadTokens read ≡ tokens_from (length line) false line
Left-touching line rest read after_word token after left some found touches =
    let less = less_room left.room rest some left.enough in
    let step : tokens_from left.room after_word rest ≡ BadTokens [] =
    ap (λ (k : ℕ). tokens_from k after_word rest) less.1 ∙ tokens_from-token less.0 after_word rest token after some found ∙ and_then-touching _ token after (tokens_from less.0) touches in
    sym (ap (with_tokens read) step ∙ with_tokens-BadTokens read) ∙ left.same

pub Left-token : (line rest : List ℕ) (read : List Token) (after_word : Bool) (token : Token) (after : List ℕ) → Left line read after_word rest → 0 < length (after_blanks rest) → token_at (after_blanks rest) ≡ Some (token, after)
    → (after_word && not (begins_blank rest) && is_word token) ≡ false → length after < length (after_blanks rest) → IsUtf8 after → Left line (read ++ token ∷ []) (is_word token) after
Left-token line rest read after_word token after left some found apart shorter utf8 =
    let less = less_room left.room rest some left.enough in
    let step : tokens_from left.room after_word rest ≡ with_token token (tokens_from less.0 (is_word token) after) =
    ap (λ (k : ℕ). tokens_from k after_word rest) less.1 ∙ tokens_from-token less.0 after_word rest token after some found ∙ and_then-apart _ token after (tokens_from less.0) apart in
    let fits : length after ≤ less.0 = omega (arith, length-after_blanks rest, left.enough, less.1) in
    record {
      room = less.0;
      enough = fits;
      utf8 = utf8;
      same = with_tokens-push read token (tokens_from less.0 (is_word token) after) ∙ ap (with_tokens read) (sym step) ∙ left.same;
    }

-- ---- the token at the front

pub token_at-nil : ◌≡◌ {A = Option (Token × List ℕ)} (token_at []) None
unfolding token_at
token_at-nil = refl

pub token_at-letter : (b : ℕ) (bytes : List ℕ) → is_ascii_alphabetic b ≡ true → token_at (b ∷ bytes) ≡ Some (Name (take (name_len (b ∷ bytes)) (b ∷ bytes)), drop (name_len (b ∷ bytes)) (b ∷ bytes))
unfolding token_at
token_at-letter b bytes letter = cond-true (is_ascii_alphabetic b) _ _ letter

pub token_at-zero : (b : ℕ) (bytes : List ℕ) → b ≡ 48 → token_at (b ∷ bytes) ≡ Some (Number 0, bytes)
unfolding token_at
token_at-zero b bytes zero' = rw zero' refl

pub token_at-digit : (b : ℕ) (bytes : List ℕ) → is_ascii_alphabetic b ≡ false → b ≢ 48 → is_ascii_digit b ≡ true
    → token_at (b ∷ bytes) ≡ Some (Number (digits_value 10 (take (digits_len (b ∷ bytes)) (b ∷ bytes))), drop (digits_len (b ∷ bytes)) (b ∷ bytes))
unfolding token_at
token_at-digit b bytes letter zero' digit = cond-false (is_ascii_alphabetic b) _ _ letter ∙ cond-false (eqb b 48) _ _ (ne_eqb b 48 zero') ∙ cond-true (is_ascii_digit b) _ _ digit

pub token_at-quote : (b : ℕ) (bytes : List ℕ) → b ≡ 39 → token_at (b ∷ bytes) ≡ quoted_token (text_from bytes)
unfolding token_at
token_at-quote b bytes quote = rw quote refl

pub token_at-mark : (b : ℕ) (bytes : List ℕ) → is_ascii_alphabetic b ≡ false → b ≢ 48 → is_ascii_digit b ≡ false → b ≢ 39 → token_at (b ∷ bytes) ≡ mark_at (b ∷ bytes)
unfolding token_at
token_at-mark b bytes letter zero' digit quote = cond-false (is_ascii_alphabetic b) _ _ letter ∙ cond-false (eqb b 48) _ _ (ne_eqb b 48 zero') ∙ cond-false (is_ascii_digit b) _ _ digit ∙ cond-false (eqb b 39) _ _ (ne_eqb b 39 quote)

-- ---- what follows the token at the front

-- fewer bytes, and UTF-8 yet
pub record Follows (bytes rest : List ℕ) : Type 0 where
  pub shorter : length rest < length bytes
  pub utf8 : IsUtf8 rest

pub mark_or-some : (mark : Option Mark) (left : List ℕ) (other : Option (Token × List ℕ)) (token : Token) (rest : List ℕ) → mark_or mark left other ≡ Some (token, rest)
    → ((m : Mark) × (mark ≡ Some m) × (left ≡ rest)) ⊎ ((mark ≡ None) × (other ≡ Some (token, rest)))
mark_or-some None left other token rest e = inr (refl, e)
mark_or-some (Some m) left other token rest e = inl (m, refl, (some_pair_parts (Sign m) token left rest e).1)

one_mark-ascii : (b : ℕ) (m : Mark) → one_mark b ≡ Some m → b < 128
one_mark-ascii b m e = grind (arith, nat_tests)

two_marks-ascii : (b c : ℕ) (m : Mark) → two_marks b c ≡ Some m → (b < 128) × (c < 128)
two_marks-ascii b c m e = grind (arith, nat_tests)

mark_at-Follows : (bytes rest : List ℕ) (token : Token) → IsUtf8 bytes → mark_at bytes ≡ Some (token, rest) → Follows bytes rest
unfolding mark_at
mark_at-Follows [] rest token utf8 e = absurd (none-some _ e)
mark_at-Follows (b ∷ []) rest token utf8 e =
    elim (mark_or-some (one_mark b) [] None token rest e) [
      | inl one ↦ record { shorter = rw (← one.2) (omega arith); utf8 = rw (← one.2) (IsUtf8-tail b [] (one_mark-ascii b one.0 one.1) utf8) }
      | inr none ↦ absurd (none-some _ none.1)
    ]
mark_at-Follows (b ∷ c ∷ bytes) rest token utf8 e =
    elim (mark_or-some (two_marks b c) bytes (mark_or (one_mark b) (c ∷ bytes) None) token rest e) [
      | inl two ↦ (let low = two_marks-ascii b c two.0 two.1 in record { shorter = rw (← two.2) (omega arith); utf8 = rw (← two.2) (IsUtf8-tail c bytes low.1 (IsUtf8-tail b (c ∷ bytes) low.0 utf8)) })
      | inr other ↦ elim (mark_or-some (one_mark b) (c ∷ bytes) None token rest other.1) [
        | inl one ↦ record { shorter = rw (← one.2) (omega arith); utf8 = rw (← one.2) (IsUtf8-tail b (c ∷ bytes) (one_mark-ascii b one.0 one.1) utf8) }
        | inr none ↦ absurd (none-some _ none.1)
      ]
    ]

-- a run of which the first byte is one takes at least that
run-shorter : (p : ℕ → Bool) (n b : ℕ) (bytes : List ℕ) → p b ≡ true → length (drop (prefix_len p (take (suc n) (b ∷ bytes))) (b ∷ bytes)) < length (b ∷ bytes)
run-shorter p n b bytes first =
    let len : prefix_len p (take (suc n) (b ∷ bytes)) ≡ 1 + prefix_len p (take n bytes) = cond-true (p b) _ _ first in
    rw len (omega (arith, length-drop (1 + prefix_len p (take n bytes)) (b ∷ bytes)))

pub quoted_token-some : (o : Option (List ℕ × List ℕ)) (token : Token) (rest : List ℕ) → quoted_token o ≡ Some (token, rest) → (text : List ℕ) × (o ≡ Some (text, rest)) × (token ≡ Quoted text)
quoted_token-some None token rest e = absurd (none-some _ e)
quoted_token-some (Some found) token rest e =
    let parts = some_pair_parts (Quoted found.0) token found.1 rest e in
    (found.0, ap (λ (r : List ℕ). Some (found.0, r)) parts.1, sym parts.0)

pub letter-is_name_byte : (b : ℕ) → is_ascii_alphabetic b ≡ true → is_name_byte b ≡ true
letter-is_name_byte b e = grind (arith, nat_tests)

pub token_at-Follows : (bytes rest : List ℕ) (token : Token) → IsUtf8 bytes → token_at bytes ≡ Some (token, rest) → Follows bytes rest
token_at-Follows [] rest token utf8 e = absurd (none-some _ (sym token_at-nil ∙ e))
token_at-Follows (b ∷ bytes) rest token utf8 e =
    elim (cases_Bool (is_ascii_alphabetic b)) [
      | inl letter ↦ (let is = (some_pair_parts _ _ _ _ (sym (token_at-letter b bytes letter) ∙ e)).1 in
          record { shorter = rw (← is) (run-shorter is_name_byte 63 b bytes (letter-is_name_byte b letter)); utf8 = rw (← is) (IsUtf8-after_run is_name_byte is_name_byte-ascii 64 (b ∷ bytes) utf8) })
      | inr no_letter ↦ elim (cases_eq b 48) [
        | inl zero' ↦ (let is = (some_pair_parts _ _ _ _ (sym (token_at-zero b bytes zero') ∙ e)).1 in
            record { shorter = rw (← is) (omega arith); utf8 = rw (← is) (IsUtf8-tail b bytes (omega arith) utf8) })
        | inr no_zero ↦ elim (cases_Bool (is_ascii_digit b)) [
          | inl digit ↦ (let is = (some_pair_parts _ _ _ _ (sym (token_at-digit b bytes no_letter no_zero digit) ∙ e)).1 in
              record { shorter = rw (← is) (run-shorter is_ascii_digit 11 b bytes digit); utf8 = rw (← is) (IsUtf8-after_run is_ascii_digit is_ascii_digit-ascii 12 (b ∷ bytes) utf8) })
          | inr no_digit ↦ elim (cases_eq b 39) [
            | inl quote ↦ (let found = quoted_token-some (text_from bytes) token rest (sym (token_at-quote b bytes quote) ∙ e) in
                record { shorter = omega (arith, text_from-shorter bytes found.0 rest found.1); utf8 = (text_from-IsUtf8 [] bytes found.0 rest (IsUtf8-tail b bytes (omega arith) utf8) found.1).1 })
            | inr no_quote ↦ mark_at-Follows (b ∷ bytes) rest token utf8 (sym (token_at-mark b bytes no_letter no_zero no_digit no_quote) ∙ e)
          ]
        ]
      ]
    ]

-- ---- what the loop over a line knows

pub is_nil : {X : Type 0} {front behind : List X} {b : Bool} → front ≡ behind → b ≡ eqb (length front) 0 → b ≡ true → length behind ≡ 0
is_nil same test ended = rw (← same) (eqb-true _ 0 (sym test ∙ ended))

pub is_some : {X : Type 0} {front behind : List X} {b : Bool} → front ≡ behind → b ≡ eqb (length front) 0 → b ≡ false → 0 < length behind
is_some same test more = rw (← same) (grind (arith, nat_tests))
