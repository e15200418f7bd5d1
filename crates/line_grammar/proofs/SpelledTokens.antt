-- The spelling of one token: it is read as the token, whatever follows that can't belong to it.
use Rattle.std.proofs.Common.{inl, inr, ◌≡◌, ◌≢◌, ℕ, zero, suc, ◌+◌, ◌<◌, ◌≤◌, Bool, true, false, eqb, leb, ◌&&◌, List, [], ◌∷◌, ◌++◌, length, get_or, take, drop, Some, refl, ap, sym, ◌∙◌, arith}
use Rattle.std.specs.List.{flat_map, prefix_len, list_all, AllByRecursion}
use Rattle.std.specs.Str.{IsUtf8}
use Rattle.std.specs.Str.Parse.{AllDigits, digits_value}
use Rattle.std.specs.Char.{is_ascii_alphabetic, is_ascii_digit}
use Rattle.std.specs.Fmt.{decimal}
use Rattle.std.proofs.lemmas.Bool.{cases_eq, eq-eqb, and_parts, cond-true, cond-false, false≢true, leb-true}
use Rattle.std.proofs.lemmas.Bool.Decides.{nat_tests}
use Rattle.std.proofs.lemmas.Fmt.{decimal_is_IsNumeral, decimal_digit, first_decimal, length-decimal-le}
use Rattle.std.proofs.lemmas.List.{append-nil}
use Rattle.std.proofs.lemmas.Str.{IsUtf8-nil}
use Rattle.text_lists.specs.Names.{is_name_byte, IsName}
use Rattle.line_grammar.specs.GoodTokens.{IsGoodToken}
use Rattle.line_grammar.specs.declared.tokens.Mark.{Mark}
use Rattle.line_grammar.specs.declared.tokens.Mark.TheVariants.{Colon, Comma, OpenBracket, CloseBracket, Semicolon, Equals, Differs, Arrow, Bars, Underscore, Dot, OpenBrace, CloseBrace}
use Rattle.line_grammar.specs.declared.tokens.Token.{Token}
use Rattle.line_grammar.specs.declared.tokens.Token.TheVariants.{Name, Number, Quoted, Sign}
use Rattle.line_grammar.specs.Tokens.{is_blank, after_blanks, is_comment, piece, quoted, mark_at, name_len, digits_len, token_at}
use Rattle.line_grammar.specs.Spelling.{mark_text, spelling}
use Rattle.line_grammar.proofs.Digits.{digit_value-digit}
use Rattle.line_grammar.proofs.Utf8.{IsUtf8-cons, is_ascii_digit-ascii, is_name_byte-ascii, take_front}
use Rattle.line_grammar.proofs.TokenLemmas.{token_at-letter, token_at-zero, token_at-digit, letter-is_name_byte}
use Rattle.line_grammar.proofs.SpelledTexts.{piece-plain, token_at-quoted, IsUtf8-quoted}

-- ---- runs of bytes that pass a test

-- what follows begins with no byte that passes the test
abbrev pub Stops : (ℕ → Bool) → List ℕ → Type 0
Stops p [] = Unit {0}
Stops p (b ∷ bytes) = p b ≡ false

-- what follows is no further byte of the token
abbrev pub StopsAfter : Token → List ℕ → Type 0
StopsAfter (Name name) rest = Stops is_name_byte rest
StopsAfter (Number n) rest = Stops is_ascii_digit rest
StopsAfter (Quoted text) rest = Unit {0}
StopsAfter (Sign mark) rest = Unit {0}

one_plus : (n : ℕ) → 1 + n ≡ suc n
one_plus n = omega arith

run-whole : (p : ℕ → Bool) (n : ℕ) (front rest : List ℕ) → list_all p front ≡ true → Stops p rest → length front ≤ n → prefix_len p (take n (front ++ rest)) ≡ length front
run-whole p zero [] rest all stops few = refl
run-whole p (suc n) [] [] all stops few = refl
run-whole p (suc n) [] (b ∷ rest) all stops few = cond-false (p b) _ 0 stops
run-whole p zero (x ∷ front) rest all stops few = absurd (omega arith)
run-whole p (suc n) (x ∷ front) rest all stops few =
    let parts = and_parts (p x) (list_all p front) all in
    cond-true (p x) (1 + prefix_len p (take n (front ++ rest))) 0 parts.0 ∙ one_plus _ ∙ ap suc (run-whole p n front rest parts.1 stops (omega arith))

drop_front : (front rest : List ℕ) → drop (length front) (front ++ rest) ≡ rest
drop_front [] rest = refl
drop_front (x ∷ front) rest = drop_front front rest

and_true : (a b : Bool) → a ≡ true → b ≡ true → (a && b) ≡ true
and_true true b e f = f
and_true false b e f = e

-- ---- names

-- the parts of a name
pub record NameParts (b : ℕ) (bytes : List ℕ) : Type 0 where
  pub letter : is_ascii_alphabetic b ≡ true
  pub all : list_all is_name_byte (b ∷ bytes) ≡ true
  pub few : length (b ∷ bytes) ≤ 64

pub name_parts : (b : ℕ) (bytes : List ℕ) → IsName (b ∷ bytes) → NameParts b bytes
name_parts b bytes is_name' =
    let outer = and_parts (is_ascii_alphabetic b && list_all is_name_byte bytes) (leb (length (b ∷ bytes)) 64) is_name' in
    let inner = and_parts (is_ascii_alphabetic b) (list_all is_name_byte bytes) outer.0 in
    record { letter = inner.0; all = and_true (is_name_byte b) _ (letter-is_name_byte b inner.0) inner.1; few = leb-true (length (b ∷ bytes)) 64 outer.1 }

token_at-name : (name rest : List ℕ) → IsName name → Stops is_name_byte rest → token_at (name ++ rest) ≡ Some (Name name, rest)
token_at-name [] rest is_name' stops = absurd (false≢true is_name')
token_at-name (b ∷ bytes) rest is_name' stops =
    let parts = name_parts b bytes is_name' in
    let len : name_len (b ∷ (bytes ++ rest)) ≡ length (b ∷ bytes) = run-whole is_name_byte 64 (b ∷ bytes) rest parts.all stops parts.few in
    token_at-letter b (bytes ++ rest) parts.letter
    ∙ ap (λ (n : ℕ). Some (Name (take n (b ∷ (bytes ++ rest))), drop n (b ∷ (bytes ++ rest)))) len
    ∙ ap (λ (t : List ℕ). Some (Name t, drop (length (b ∷ bytes)) (b ∷ (bytes ++ rest)))) (take_front (b ∷ bytes) rest)
    ∙ ap (λ (r : List ℕ). Some (Name (b ∷ bytes), r)) (drop_front (b ∷ bytes) rest)

-- ---- numbers

all_digits : (ds : List ℕ) → AllDigits 10 ds → list_all is_ascii_digit ds ≡ true
all_digits [] all = refl
all_digits (d ∷ ds) all = and_true (is_ascii_digit d) _ (digit_value-digit d all.0) (all_digits ds all.1)

digit-no_letter : (b : ℕ) → is_ascii_digit b ≡ true → is_ascii_alphabetic b ≡ false
digit-no_letter b e = grind (arith, nat_tests)

token_at-digits : (ds rest : List ℕ) → AllDigits 10 ds → 48 < get_or ds 0 0 → length ds ≤ 12 → Stops is_ascii_digit rest → token_at (ds ++ rest) ≡ Some (Number (digits_value 10 ds), rest)
token_at-digits [] rest all first few stops = absurd (omega arith)
token_at-digits (d ∷ ds) rest all first few stops =
    let digit = digit_value-digit d all.0 in
    let len : digits_len (d ∷ (ds ++ rest)) ≡ length (d ∷ ds) = run-whole is_ascii_digit 12 (d ∷ ds) rest (all_digits (d ∷ ds) all) stops few in
    token_at-digit d (ds ++ rest) (digit-no_letter d digit) (λ e. omega arith) digit
    ∙ ap (λ (n : ℕ). Some (Number (digits_value 10 (take n (d ∷ (ds ++ rest)))), drop n (d ∷ (ds ++ rest)))) len
    ∙ ap (λ (t : List ℕ). Some (Number (digits_value 10 t), drop (length (d ∷ ds)) (d ∷ (ds ++ rest)))) (take_front (d ∷ ds) rest)
    ∙ ap (λ (r : List ℕ). Some (Number (digits_value 10 (d ∷ ds)), r)) (drop_front (d ∷ ds) rest)

token_at-number : (n : ℕ) (rest : List ℕ) → n < 1000000000000 → Stops is_ascii_digit rest → token_at (decimal n ++ rest) ≡ Some (Number n, rest)
token_at-number zero rest few stops = ap (λ (ds : List ℕ). token_at (ds ++ rest)) (decimal_digit 0 (omega arith)) ∙ token_at-zero 48 rest refl
token_at-number (suc n) rest few stops =
    let numeral = decimal_is_IsNumeral (suc n) (omega arith) in
    token_at-digits (decimal (suc n)) rest numeral.0.1 (first_decimal (suc n) (omega arith) (omega arith)) (length-decimal-le 12 (suc n) (omega arith) (omega arith) (omega arith)) stops
    ∙ ap (λ (m : ℕ). Some (Number m, rest)) numeral.1

-- ---- any token

token_at-mark_text : (mark : Mark) (rest : List ℕ) → token_at (mark_text mark ++ rest) ≡ Some (Sign mark, rest)
unfolding token_at mark_at
token_at-mark_text Colon [] = refl
token_at-mark_text Colon (c ∷ rest) = refl
token_at-mark_text Comma [] = refl
token_at-mark_text Comma (c ∷ rest) = refl
token_at-mark_text OpenBracket [] = refl
token_at-mark_text OpenBracket (c ∷ rest) = refl
token_at-mark_text CloseBracket [] = refl
token_at-mark_text CloseBracket (c ∷ rest) = refl
token_at-mark_text Semicolon [] = refl
token_at-mark_text Semicolon (c ∷ rest) = refl
token_at-mark_text Equals [] = refl
token_at-mark_text Equals (c ∷ rest) = refl
token_at-mark_text Differs rest = refl
token_at-mark_text Arrow rest = refl
token_at-mark_text Bars rest = refl
token_at-mark_text Underscore [] = refl
token_at-mark_text Underscore (c ∷ rest) = refl
token_at-mark_text Dot [] = refl
token_at-mark_text Dot (c ∷ rest) = refl
token_at-mark_text OpenBrace [] = refl
token_at-mark_text OpenBrace (c ∷ rest) = refl
token_at-mark_text CloseBrace [] = refl
token_at-mark_text CloseBrace (c ∷ rest) = refl

pub token_at-spelled : (t : Token) (rest : List ℕ) → IsGoodToken t → StopsAfter t rest → token_at (spelling t ++ rest) ≡ Some (t, rest)
token_at-spelled (Name name) rest good stops = token_at-name name rest good stops
token_at-spelled (Number n) rest good stops = token_at-number n rest good stops
token_at-spelled (Quoted text) rest good stops = token_at-quoted text rest
token_at-spelled (Sign mark) rest good stops = token_at-mark_text mark rest

letter-no_blank : (b : ℕ) → is_ascii_alphabetic b ≡ true → is_blank b ≡ false
letter-no_blank b e = grind (arith, nat_tests)

letter-no_comment : (b : ℕ) → is_ascii_alphabetic b ≡ true → eqb b 35 ≡ false
letter-no_comment b e = grind (arith, nat_tests)

digit-no_blank : (b : ℕ) → is_ascii_digit b ≡ true → is_blank b ≡ false
digit-no_blank b e = grind (arith, nat_tests)

digit-no_comment : (b : ℕ) → is_ascii_digit b ≡ true → eqb b 35 ≡ false
digit-no_comment b e = grind (arith, nat_tests)

-- a token begins with no blank, and with no comment
pub record Begins (bytes : List ℕ) : Type 0 where
  pub same : after_blanks bytes ≡ bytes
  pub no_comment : is_comment bytes ≡ false
  pub some : 0 < length bytes

begins_with : (b : ℕ) (bytes : List ℕ) → is_blank b ≡ false → eqb b 35 ≡ false → Begins (b ∷ bytes)
begins_with b bytes no_blank no_comment = record { same = cond-false (is_blank b) _ _ no_blank; no_comment = no_comment; some = omega arith }

begins_digits : (ds rest : List ℕ) → AllDigits 10 ds → 0 < length ds → Begins (ds ++ rest)
begins_digits [] rest all some = absurd (omega arith)
begins_digits (d ∷ ds) rest all some = let digit = digit_value-digit d all.0 in begins_with d (ds ++ rest) (digit-no_blank d digit) (digit-no_comment d digit)

pub Begins-spelled : (t : Token) (rest : List ℕ) → IsGoodToken t → Begins (spelling t ++ rest)
unfolding quoted
Begins-spelled (Name []) rest good = absurd (false≢true good)
Begins-spelled (Name (b ∷ bytes)) rest good = let letter = (name_parts b bytes good).letter in begins_with b (bytes ++ rest) (letter-no_blank b letter) (letter-no_comment b letter)
Begins-spelled (Number n) rest good = let numeral = decimal_is_IsNumeral n (omega arith) in begins_digits (decimal n) rest numeral.0.1 numeral.0.0
Begins-spelled (Quoted text) rest good = begins_with 39 _ refl refl
Begins-spelled (Sign Differs) rest good = begins_with 33 _ refl refl
Begins-spelled (Sign Arrow) rest good = begins_with 45 _ refl refl
Begins-spelled (Sign Bars) rest good = begins_with 124 _ refl refl
Begins-spelled (Sign mark) rest good = begins_with _ rest refl refl

pub spelling-some : (t : Token) → IsGoodToken t → 0 < length (spelling t)
spelling-some t good = let begins = Begins-spelled t [] good in rw (append-nil (spelling t)) at begins.some

-- ---- a spelling is UTF-8

IsUtf8-all : (p : ℕ → Bool) → ((b : ℕ) → p b ≡ true → b < 128) → (bytes : List ℕ) → list_all p bytes ≡ true → IsUtf8 bytes
IsUtf8-all p low [] all = IsUtf8-nil
IsUtf8-all p low (b ∷ bytes) all =
    let parts = and_parts (p b) (list_all p bytes) all in
    IsUtf8-cons b bytes (low b parts.0) (IsUtf8-all p low bytes parts.1)

IsUtf8-one : (b : ℕ) → b < 128 → IsUtf8 (b ∷ [])
IsUtf8-one b small = IsUtf8-cons b [] small IsUtf8-nil

IsUtf8-mark : (mark : Mark) → IsUtf8 (mark_text mark)
IsUtf8-mark Differs = IsUtf8-cons 33 (61 ∷ []) (omega arith) (IsUtf8-one 61 (omega arith))
IsUtf8-mark Arrow = IsUtf8-cons 45 (62 ∷ []) (omega arith) (IsUtf8-one 62 (omega arith))
IsUtf8-mark Bars = IsUtf8-cons 124 (124 ∷ []) (omega arith) (IsUtf8-one 124 (omega arith))
IsUtf8-mark mark = IsUtf8-one _ (omega arith)

pub IsUtf8-spelling : (t : Token) → IsGoodToken t → IsUtf8 (spelling t)
IsUtf8-spelling (Name []) good = IsUtf8-nil
IsUtf8-spelling (Name (b ∷ bytes)) good = IsUtf8-all is_name_byte is_name_byte-ascii (b ∷ bytes) (name_parts b bytes good).all
IsUtf8-spelling (Number n) good = IsUtf8-all is_ascii_digit is_ascii_digit-ascii (decimal n) (all_digits (decimal n) (decimal_is_IsNumeral n (omega arith)).0.1)
IsUtf8-spelling (Quoted text) good = IsUtf8-quoted text good
IsUtf8-spelling (Sign mark) good = IsUtf8-mark mark

-- ---- and no line ends in it

-- no byte ends a line
abbrev pub IsPlain : List ℕ → Type 0
IsPlain bytes = AllByRecursion (λ (b : ℕ). (b ≢ 10) × (b ≢ 13)) bytes

pub IsPlain-append : (xs ys : List ℕ) → IsPlain xs → IsPlain ys → IsPlain (xs ++ ys)
IsPlain-append [] ys left right = right
IsPlain-append (x ∷ xs) ys left right = (left.0, IsPlain-append xs ys left.1 right)

IsPlain-all : (p : ℕ → Bool) → p 10 ≡ false → p 13 ≡ false → (bytes : List ℕ) → list_all p bytes ≡ true → IsPlain bytes
IsPlain-all p feed return' [] all = tt
IsPlain-all p feed return' (b ∷ bytes) all =
    let parts = and_parts (p b) (list_all p bytes) all in
    ((λ same. false≢true (sym feed ∙ ap p (sym same) ∙ parts.0), λ same. false≢true (sym return' ∙ ap p (sym same) ∙ parts.0)), IsPlain-all p feed return' bytes parts.1)

other_than : (a b : ℕ) → eqb a b ≡ false → a ≢ b
other_than a b e same = false≢true (sym e ∙ eq-eqb a b same)

pub plain_byte : (b : ℕ) → eqb b 10 ≡ false → eqb b 13 ≡ false → (b ≢ 10) × (b ≢ 13)
plain_byte b e f = (other_than b 10 e, other_than b 13 f)

IsPlain-two : (b c : ℕ) → eqb b 10 ≡ false → eqb b 13 ≡ false → eqb c 10 ≡ false → eqb c 13 ≡ false → IsPlain (b ∷ c ∷ [])
IsPlain-two b c e f g h = (plain_byte b e f, (plain_byte c g h, tt))

IsPlain-piece : (b : ℕ) → IsPlain (piece b)
IsPlain-piece b =
    elim (cases_eq b 39) [
      | inl quote ↦ rw quote (IsPlain-two 92 39 refl refl refl refl)
      | inr no_quote ↦ elim (cases_eq b 92) [
        | inl slash ↦ rw slash (IsPlain-two 92 92 refl refl refl refl)
        | inr no_slash ↦ elim (cases_eq b 10) [
          | inl feed ↦ rw feed (IsPlain-two 92 110 refl refl refl refl)
          | inr no_feed ↦ elim (cases_eq b 13) [
            | inl return' ↦ rw return' (IsPlain-two 92 114 refl refl refl refl)
            | inr no_return ↦ rw (piece-plain b no_quote no_slash no_feed no_return) ((no_feed, no_return), tt)
          ]
        ]
      ]
    ]

IsPlain-pieces : (text : List ℕ) → IsPlain (flat_map piece text)
IsPlain-pieces [] = tt
IsPlain-pieces (b ∷ text) = IsPlain-append (piece b) (flat_map piece text) (IsPlain-piece b) (IsPlain-pieces text)

IsPlain-quoted : (text : List ℕ) → IsPlain (quoted text)
unfolding quoted
IsPlain-quoted text = (plain_byte 39 refl refl, IsPlain-append (flat_map piece text) (39 ∷ []) (IsPlain-pieces text) (plain_byte 39 refl refl, tt))

IsPlain-mark : (mark : Mark) → IsPlain (mark_text mark)
IsPlain-mark Differs = IsPlain-two 33 61 refl refl refl refl
IsPlain-mark Arrow = IsPlain-two 45 62 refl refl refl refl
IsPlain-mark Bars = IsPlain-two 124 124 refl refl refl refl
IsPlain-mark mark = (plain_byte _ refl refl, tt)

pub IsPlain-spelling : (t : Token) → IsGoodToken t → IsPlain (spelling t)
IsPlain-spelling (Name []) good = tt
IsPlain-spelling (Name (b ∷ bytes)) good = IsPlain-all is_name_byte refl refl (b ∷ bytes) (name_parts b bytes good).all
IsPlain-spelling (Number n) good = IsPlain-all is_ascii_digit refl refl (decimal n) (all_digits (decimal n) (decimal_is_IsNumeral n (omega arith)).0.1)
IsPlain-spelling (Quoted text) good = IsPlain-quoted text
IsPlain-spelling (Sign mark) good = IsPlain-mark mark
