-- The names and texts among the tokens of a line, and among what a schema line says.
use Rattle.std.proofs.Common.{inl, inr, ◌≡◌, ℕ, zero, suc, ◌+◌, ◌<◌, ◌≤◌, Bool, true, false, cond, eqb, ◌&&◌, List, [], ◌∷◌, length, take, Option, Some, None, Result, Ok, Err, refl, sym, ◌∙◌, subst, arith}
use Rattle.std.specs.Prelude.{not, IfOk}
use Rattle.std.specs.Str.{IsUtf8, is_utf8}
use Rattle.std.specs.Str.Parse.{digits_value}
use Rattle.std.specs.Char.{is_ascii_alphabetic, is_ascii_digit}
use Rattle.std.specs.List.{prefix_len, list_all, AllByRecursion}
use Rattle.std.proofs.lemmas.Bool.{cases_Bool, cases_eq, cond-true, cond_both, and_from, le-leb, not-false}
use Rattle.std.proofs.lemmas.List.{length-take}
use Rattle.std.proofs.lemmas.Str.{IsUtf8-from_is_utf8}
use Rattle.std.proofs.lemmas.Option.{none-some, some_pair_parts}
use Rattle.text_lists.specs.Names.{is_name_byte, IsName}
use Rattle.line_grammar.specs.GoodTokens.{IsGoodToken, HasGoodTokens}
use Rattle.line_grammar.specs.declared.tokens.Mark.{Mark}
use Rattle.line_grammar.specs.declared.tokens.Token.{Token}
use Rattle.line_grammar.specs.declared.tokens.Token.TheVariants.{Sign}
use Rattle.line_grammar.specs.declared.tokens.LineTokens.{LineTokens}
use Rattle.line_grammar.specs.declared.tokens.LineTokens.TheVariants.{Passed, NotUtf8, BadTokens, Tokens}
use Rattle.line_grammar.specs.Tokens.{after_blanks, begins_blank, is_passed, text_from, mark_or, one_mark, two_marks, mark_at, name_len, digits_len, token_at, is_word, with_token, and_then, tokens_from, line_tokens}
use Rattle.line_grammar.proofs.Digits.{AllDigits-front, digits_value-short}
use Rattle.line_grammar.proofs.Runs.{prefix_len-le}
use Rattle.line_grammar.proofs.Utf8.{IsUtf8-tail}
use Rattle.line_grammar.proofs.Texts.{text_from-IsUtf8}
use Rattle.line_grammar.proofs.TokenLemmas.{token_at-nil, token_at-letter, token_at-zero, token_at-digit, token_at-quote, token_at-mark, quoted_token-some, letter-is_name_byte, token_at-Follows, IsUtf8-after_blanks}

-- ---- the token at the front

one_plus : (n : ℕ) → 1 + n ≡ suc n
one_plus n = omega arith

run_passes : (p : ℕ → Bool) (n : ℕ) (bytes : List ℕ) → list_all p (take (prefix_len p (take n bytes)) bytes) ≡ true
run_passes p zero bytes = refl
run_passes p (suc n) [] = refl
run_passes p (suc n) (b ∷ bytes) =
    cond_both (p b) (1 + prefix_len p (take n bytes)) 0 (λ k. list_all p (take k (b ∷ bytes)) ≡ true)
    (λ passes. rw (one_plus (prefix_len p (take n bytes))) (and_from (p b) _ passes (run_passes p n bytes)))
    (λ fails. refl)

name_front : (b : ℕ) (bytes : List ℕ) → is_ascii_alphabetic b ≡ true → IsName (take (name_len (b ∷ bytes)) (b ∷ bytes))
name_front b bytes letter =
    let k = prefix_len is_name_byte (take 63 bytes) in
    let len : name_len (b ∷ bytes) ≡ suc k = cond-true (is_name_byte b) (1 + k) 0 (letter-is_name_byte b letter) ∙ one_plus k in
    let short : length (b ∷ take k bytes) ≤ 64 = omega (arith, length-take k bytes, prefix_len-le is_name_byte (take 63 bytes), length-take 63 bytes) in
    rw len (and_from (is_ascii_alphabetic b && list_all is_name_byte (take k bytes)) _ (and_from (is_ascii_alphabetic b) _ letter (run_passes is_name_byte 63 bytes)) (le-leb (length (b ∷ take k bytes)) 64 short))

number_front : (bytes : List ℕ) → digits_value 10 (take (digits_len bytes) bytes) < 1000000000000
number_front bytes =
    digits_value-short (take (digits_len bytes) bytes) (AllDigits-front 12 bytes) (omega (arith, length-take (digits_len bytes) bytes, prefix_len-le is_ascii_digit (take 12 bytes), length-take 12 bytes))

mark_or-good : (mark : Option Mark) (left : List ℕ) (other : Option (Token × List ℕ)) (token : Token) (rest : List ℕ) → mark_or mark left other ≡ Some (token, rest) → (other ≡ Some (token, rest) → IsGoodToken token) → IsGoodToken token
mark_or-good None left other token rest e further = further e
mark_or-good (Some m) left other token rest e further = subst IsGoodToken (some_pair_parts (Sign m) token left rest e).0 tt

mark_at-good : (bytes rest : List ℕ) (token : Token) → mark_at bytes ≡ Some (token, rest) → IsGoodToken token
unfolding mark_at
mark_at-good [] rest token e = absurd (none-some _ e)
mark_at-good (b ∷ []) rest token e = mark_or-good (one_mark b) [] None token rest e (λ n. absurd (none-some _ n))
mark_at-good (b ∷ c ∷ bytes) rest token e = mark_or-good (two_marks b c) bytes _ token rest e (λ f. mark_or-good (one_mark b) (c ∷ bytes) None token rest f (λ n. absurd (none-some _ n)))

pub token_at-good : (bytes rest : List ℕ) (token : Token) → IsUtf8 bytes → token_at bytes ≡ Some (token, rest) → IsGoodToken token
token_at-good [] rest token utf8 e = absurd (none-some _ (sym token_at-nil ∙ e))
token_at-good (b ∷ bytes) rest token utf8 e =
    elim (cases_Bool (is_ascii_alphabetic b)) [
      | inl letter ↦ subst IsGoodToken (some_pair_parts _ _ _ _ (sym (token_at-letter b bytes letter) ∙ e)).0 (name_front b bytes letter)
      | inr no_letter ↦ elim (cases_eq b 48) [
        | inl zero' ↦ subst IsGoodToken (some_pair_parts _ _ _ _ (sym (token_at-zero b bytes zero') ∙ e)).0 (omega arith)
        | inr no_zero ↦ elim (cases_Bool (is_ascii_digit b)) [
          | inl digit ↦ subst IsGoodToken (some_pair_parts _ _ _ _ (sym (token_at-digit b bytes no_letter no_zero digit) ∙ e)).0 (number_front (b ∷ bytes))
          | inr no_digit ↦ elim (cases_eq b 39) [
            | inl quote ↦ (let found = quoted_token-some (text_from bytes) token rest (sym (token_at-quote b bytes quote) ∙ e) in
                subst IsGoodToken (sym found.2) (text_from-IsUtf8 [] bytes found.0 rest (IsUtf8-tail b bytes (omega arith) utf8) found.1).0)
            | inr no_quote ↦ mark_at-good (b ∷ bytes) rest token (sym (token_at-mark b bytes no_letter no_zero no_digit no_quote) ∙ e)
          ]
        ]
      ]
    ]

-- ---- the tokens of a line

with_token-good : (t : Token) (rest : LineTokens) → IsGoodToken t → HasGoodTokens rest → HasGoodTokens (with_token t rest)
with_token-good t Passed good others = tt
with_token-good t NotUtf8 good others = tt
with_token-good t (BadTokens ts) good others = (good, others)
with_token-good t (Tokens ts) good others = (good, others)

and_then-good : (touches : Bool) (o : Option (Token × List ℕ)) (rest : Bool → List ℕ → LineTokens)
    → ((t : Token) (left : List ℕ) → o ≡ Some (t, left) → IsGoodToken t) → ((t : Token) (left : List ℕ) → o ≡ Some (t, left) → HasGoodTokens (rest (is_word t) left)) → HasGoodTokens (and_then touches o rest)
and_then-good touches None rest good further = tt
and_then-good touches (Some found) rest good further =
    cond_both (touches && is_word found.0) (BadTokens []) (with_token found.0 (rest (is_word found.0) found.1)) HasGoodTokens
    (λ bad. tt)
    (λ apart. with_token-good found.0 (rest (is_word found.0) found.1) (good found.0 found.1 refl) (further found.0 found.1 refl))

pub tokens_from-good : (room : ℕ) (after_word : Bool) (bytes : List ℕ) → IsUtf8 bytes → HasGoodTokens (tokens_from room after_word bytes)
unfolding tokens_from
tokens_from-good zero after_word bytes utf8 = tt
tokens_from-good (suc room) after_word bytes utf8 =
    let front = after_blanks bytes in
    let at_front = IsUtf8-after_blanks bytes utf8 in
    cond_both (eqb (length front) 0) (Tokens []) (and_then (after_word && not (begins_blank bytes)) (token_at front) (tokens_from room)) HasGoodTokens
    (λ ended. tt)
    (λ more. and_then-good (after_word && not (begins_blank bytes)) (token_at front) (tokens_from room)
    (λ t left found. token_at-good front left t at_front found)
    (λ t left found. tokens_from-good room (is_word t) left (token_at-Follows front left t at_front found).utf8))

pub line_tokens-are_good : (line : List ℕ) → HasGoodTokens (line_tokens line)
unfolding line_tokens
line_tokens-are_good line =
    cond_both (not (is_utf8 line)) NotUtf8 (cond (is_passed line) Passed (tokens_from (length line) false line)) HasGoodTokens
    (λ bad. tt)
    (λ utf8. cond_both (is_passed line) Passed (tokens_from (length line) false line) HasGoodTokens
    (λ passed. tt)
    (λ kept. tokens_from-good (length line) false line (IsUtf8-from_is_utf8 line (not-false (is_utf8 line) utf8))))

pub line_tokens-good : (line : List ℕ) (tokens : List Token) → line_tokens line ≡ Tokens tokens → AllByRecursion IsGoodToken tokens
line_tokens-good line tokens e = subst HasGoodTokens e (line_tokens-are_good line)

pub found-good : {E : Type 0} (r : Result LineTokens E) (room : ℕ) (line : List ℕ) → IsUtf8 line → IfOk r (λ found. found ≡ tokens_from room false line) → IfOk r HasGoodTokens
found-good (Ok found) room line utf8 e = subst HasGoodTokens (sym e) (tokens_from-good room false line utf8)
found-good (Err error) room line utf8 e = tt
