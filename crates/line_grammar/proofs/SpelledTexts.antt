-- A text has one spelling, and reading a spelling gives the text.
use Rattle.std.proofs.Common.{inl, inr, ◌≡◌, ◌≢◌, ℕ, ◌<◌, List, [], ◌∷◌, ◌++◌, Option, Some, None, refl, ap, sym, ◌∙◌, subst, append_assoc, arith}
use Rattle.std.specs.List.{flat_map}
use Rattle.std.specs.Str.{IsUtf8}
use Rattle.std.specs.Char.{is_ascii_alphabetic, is_ascii_digit}
use Rattle.std.proofs.lemmas.Bool.{cases_eq, cases_Bool, ne_eqb}
use Rattle.std.proofs.lemmas.Bool.Decides.{nat_tests}
use Rattle.std.proofs.lemmas.Str.{IsUtf8-append, IsUtf8-nil}
use Rattle.std.proofs.lemmas.Option.{none-some, same_Some, some_pair_parts}
use Rattle.line_grammar.specs.declared.tokens.Mark.{Mark}
use Rattle.line_grammar.specs.declared.tokens.Token.{Token}
use Rattle.line_grammar.specs.declared.tokens.Token.TheVariants.{Name, Number, Quoted, Sign}
use Rattle.line_grammar.specs.Tokens.{escape_of, escaped, piece_with, piece, quoted, with_byte, text_from, quoted_token, one_mark, two_marks, mark_or, mark_at, token_at}
use Rattle.line_grammar.specs.OneSpelling.{HasOneSpelling}
use Rattle.line_grammar.proofs.Utf8.{IsUtf8-parts, IsUtf8-cons}
use Rattle.line_grammar.proofs.Texts.{text_from-quote, text_from-escape, text_from-plain, text_from-at_break, text_from-nil, text_from-lone, with_byte-some, with_escaped-some}
use Rattle.line_grammar.proofs.TokenLemmas.{token_at-nil, token_at-letter, token_at-zero, token_at-digit, token_at-quote, token_at-mark, quoted_token-some}

pub piece-plain : (b : ℕ) → b ≢ 39 → b ≢ 92 → b ≢ 10 → b ≢ 13 → piece b ≡ b ∷ []
piece-plain b quote slash feed return' =
    let none : escape_of b ≡ None = grind (arith, nat_tests) in
    ap (piece_with b) none

-- reading a spelling gives the text
pub text_from-spelled : (text rest : List ℕ) → text_from (flat_map piece text ++ 39 ∷ rest) ≡ Some (text, rest)
text_from-spelled [] rest = text_from-quote rest
text_from-spelled (b ∷ text) rest =
    let further = text_from-spelled text rest in
    elim (cases_eq b 39) [
      | inl quote ↦ rw quote (text_from-escape 39 (flat_map piece text ++ 39 ∷ rest) ∙ ap (with_byte 39) further)
      | inr no_quote ↦ elim (cases_eq b 92) [
        | inl slash ↦ rw slash (text_from-escape 92 (flat_map piece text ++ 39 ∷ rest) ∙ ap (with_byte 92) further)
        | inr no_slash ↦ elim (cases_eq b 10) [
          | inl feed ↦ rw feed (text_from-escape 110 (flat_map piece text ++ 39 ∷ rest) ∙ ap (with_byte 10) further)
          | inr no_feed ↦ elim (cases_eq b 13) [
            | inl return' ↦ rw return' (text_from-escape 114 (flat_map piece text ++ 39 ∷ rest) ∙ ap (with_byte 13) further)
            | inr no_return ↦
                ap (λ (p : List ℕ). text_from ((p ++ flat_map piece text) ++ 39 ∷ rest)) (piece-plain b no_quote no_slash no_feed no_return)
                ∙ text_from-plain b (flat_map piece text ++ 39 ∷ rest) no_quote no_slash no_feed no_return ∙ ap (with_byte b) further
          ]
        ]
      ]
    ]

same_piece : (k m c b : ℕ) → c ≡ k → Some m ≡ Some b → piece m ≡ 92 ∷ k ∷ [] → piece b ≡ 92 ∷ c ∷ []
same_piece k m c b is e spelled = rw (is, ← same_Some m b e) spelled

not_escaped : (c b : ℕ) → c ≢ 39 → c ≢ 92 → c ≢ 110 → c ≢ 114 → escaped c ≡ Some b → ⊥
not_escaped c b quote slash feed return' e = none-some _ (sym (rw (ne_eqb c 39 quote, ne_eqb c 92 slash, ne_eqb c 110 feed, ne_eqb c 114 return') refl) ∙ e)

piece-escaped : (c b : ℕ) → escaped c ≡ Some b → piece b ≡ 92 ∷ c ∷ []
piece-escaped c b e =
    elim (cases_eq c 39) [
      | inl quote ↦ same_piece 39 39 c b quote (rw quote at e) refl
      | inr no_quote ↦ elim (cases_eq c 92) [
        | inl slash ↦ same_piece 92 92 c b slash (rw slash at e) refl
        | inr no_slash ↦ elim (cases_eq c 110) [
          | inl feed ↦ same_piece 110 10 c b feed (rw feed at e) refl
          | inr no_feed ↦ elim (cases_eq c 114) [
            | inl return' ↦ same_piece 114 13 c b return' (rw return' at e) refl
            | inr no_return ↦ absurd (not_escaped c b no_quote no_slash no_feed no_return e)
          ]
        ]
      ]
    ]

slash_first : (b c : ℕ) (bytes text rest : List ℕ) (m : ℕ) (tail : List ℕ) → b ≡ 92 → piece m ≡ 92 ∷ c ∷ [] → bytes ≡ flat_map piece tail ++ 39 ∷ rest → m ∷ tail ≡ text → b ∷ c ∷ bytes ≡ flat_map piece text ++ 39 ∷ rest
slash_first b c bytes text rest m tail slash spelled others is =
    rw (← is, slash, others) (sym (ap (λ (p : List ℕ). (p ++ flat_map piece tail) ++ 39 ∷ rest) spelled))

plain_first : (b : ℕ) (bytes text rest tail : List ℕ) → piece b ≡ b ∷ [] → bytes ≡ flat_map piece tail ++ 39 ∷ rest → b ∷ tail ≡ text → b ∷ bytes ≡ flat_map piece text ++ 39 ∷ rest
plain_first b bytes text rest tail spelled others is =
    rw (← is, others) (sym (ap (λ (p : List ℕ). (p ++ flat_map piece tail) ++ 39 ∷ rest) spelled))

-- a text is read from its spelling alone
pub text_from-one : (bytes text rest : List ℕ) → text_from bytes ≡ Some (text, rest) → bytes ≡ flat_map piece text ++ 39 ∷ rest
text_from-one [] text rest e = absurd (none-some _ (sym text_from-nil ∙ e))
text_from-one (b ∷ []) text rest e =
    elim (cases_eq b 39) [
      | inl quote ↦ (let parts = some_pair_parts [] text [] rest (sym (text_from-quote []) ∙ rw quote at e) in rw (← parts.0, ← parts.1, quote) refl)
      | inr other ↦ absurd (none-some _ (sym (text_from-lone b other) ∙ e))
    ]
text_from-one (b ∷ c ∷ bytes) text rest e =
    elim (cases_eq b 39) [
      | inl quote ↦ (let parts = some_pair_parts [] text (c ∷ bytes) rest (sym (text_from-quote (c ∷ bytes)) ∙ rw quote at e) in rw (← parts.0, ← parts.1, quote) refl)
      | inr no_quote ↦ elim (cases_eq b 92) [
        | inl slash ↦ (
            let found = with_escaped-some (escaped c) (text_from bytes) text rest (sym (text_from-escape c bytes) ∙ rw slash at e) in
            slash_first b c bytes text rest found.0 found.2 slash (piece-escaped c found.0 found.1) (text_from-one bytes found.2 rest found.3) found.4)
        | inr no_slash ↦ elim (cases_eq b 10) [
          | inl feed ↦ absurd (none-some _ (sym (text_from-at_break b (c ∷ bytes) (inl feed)) ∙ e))
          | inr no_feed ↦ elim (cases_eq b 13) [
            | inl return' ↦ absurd (none-some _ (sym (text_from-at_break b (c ∷ bytes) (inr return')) ∙ e))
            | inr no_return ↦ (
                let found = with_byte-some b (text_from (c ∷ bytes)) text rest (sym (text_from-plain b (c ∷ bytes) no_quote no_slash no_feed no_return) ∙ e) in
                plain_first b (c ∷ bytes) text rest found.0 (piece-plain b no_quote no_slash no_feed no_return) (text_from-one (c ∷ bytes) found.0 rest found.1) found.2)
          ]
        ]
      ]
    ]

pub token_at-quoted : (text rest : List ℕ) → token_at (quoted text ++ rest) ≡ Some (Quoted text, rest)
unfolding quoted
token_at-quoted text rest =
    ap (λ (bytes : List ℕ). token_at (39 ∷ bytes)) (append_assoc (flat_map piece text) (39 ∷ []) rest) ∙ token_at-quote 39 (flat_map piece text ++ 39 ∷ rest) refl ∙ ap quoted_token (text_from-spelled text rest)

abbrev IsText : Token → Type 0
IsText (Name name) = ⊥
IsText (Number n) = ⊥
IsText (Quoted text) = Unit {0}
IsText (Sign mark) = ⊥

no_text : (t : Token) (text left rest : List ℕ) → ◌≡◌ {A = Option (Token × List ℕ)} (Some (t, left)) (Some (Quoted text, rest)) → (IsText t → ⊥) → ⊥
no_text t text left rest e other = other (subst IsText (sym (some_pair_parts t (Quoted text) left rest e).0) tt)

mark_or-Quoted : (mark : Option Mark) (left : List ℕ) (other : Option (Token × List ℕ)) (text rest : List ℕ) → mark_or mark left other ≡ Some (Quoted text, rest) → (other ≡ Some (Quoted text, rest) → ⊥) → ⊥
mark_or-Quoted None left other text rest e further = further e
mark_or-Quoted (Some m) left other text rest e further = no_text (Sign m) text left rest e (λ h. h)

mark_at-Quoted : (bytes rest text : List ℕ) → mark_at bytes ≡ Some (Quoted text, rest) → ⊥
unfolding mark_at
mark_at-Quoted [] rest text e = none-some _ e
mark_at-Quoted (b ∷ []) rest text e = mark_or-Quoted (one_mark b) [] None text rest e (λ n. none-some _ n)
mark_at-Quoted (b ∷ c ∷ bytes) rest text e = mark_or-Quoted (two_marks b c) bytes _ text rest e (λ f. mark_or-Quoted (one_mark b) (c ∷ bytes) None text rest f (λ n. none-some _ n))

-- a text is read as a token from its spelling alone
pub token_at-one : (bytes rest text : List ℕ) → token_at bytes ≡ Some (Quoted text, rest) → bytes ≡ quoted text ++ rest
unfolding quoted
token_at-one [] rest text e = absurd (none-some _ (sym token_at-nil ∙ e))
token_at-one (b ∷ bytes) rest text e =
    elim (cases_Bool (is_ascii_alphabetic b)) [
      | inl letter ↦ absurd (no_text _ text _ rest (sym (token_at-letter b bytes letter) ∙ e) (λ h. h))
      | inr no_letter ↦ elim (cases_eq b 48) [
        | inl zero' ↦ absurd (no_text _ text _ rest (sym (token_at-zero b bytes zero') ∙ e) (λ h. h))
        | inr no_zero ↦ elim (cases_Bool (is_ascii_digit b)) [
          | inl digit ↦ absurd (no_text _ text _ rest (sym (token_at-digit b bytes no_letter no_zero digit) ∙ e) (λ h. h))
          | inr no_digit ↦ elim (cases_eq b 39) [
            | inl quote ↦ (let found = quoted_token-some (text_from bytes) (Quoted text) rest (sym (token_at-quote b bytes quote) ∙ e) in
                let same : text ≡ found.0 = cc in
                rw (quote, same) (ap (λ (bs : List ℕ). 39 ∷ bs) (text_from-one bytes found.0 rest found.1 ∙ sym (append_assoc (flat_map piece found.0) (39 ∷ []) rest))))
            | inr no_quote ↦ absurd (mark_at-Quoted (b ∷ bytes) rest text (sym (token_at-mark b bytes no_letter no_zero no_digit no_quote) ∙ e))
          ]
        ]
      ]
    ]

after_escape : (front text : List ℕ) (letter b : ℕ) → b < 128 → letter < 128 → IsUtf8 (front ++ b ∷ text) → (IsUtf8 text → IsUtf8 (flat_map piece text)) → IsUtf8 (front ++ 92 ∷ letter ∷ flat_map piece text)
after_escape front text letter b low low' utf8 further =
    let cut = IsUtf8-parts front text b low utf8 in
    IsUtf8-append front (92 ∷ letter ∷ flat_map piece text) cut.0 (IsUtf8-cons 92 (letter ∷ flat_map piece text) (omega arith) (IsUtf8-cons letter (flat_map piece text) low' (further cut.1)))

pub has_one_spelling : (text : List ℕ) → HasOneSpelling text
has_one_spelling text = record { read_again = token_at-quoted text; no_other = λ bytes rest e. token_at-one bytes rest text e }

-- the spelling of UTF-8 is UTF-8; front: what stands before it
pub IsUtf8-pieces : (front text : List ℕ) → IsUtf8 (front ++ text) → IsUtf8 (front ++ flat_map piece text)
IsUtf8-pieces front [] utf8 = utf8
IsUtf8-pieces front (b ∷ text) utf8 =
    elim (cases_eq b 39) [
      | inl quote ↦ rw quote (after_escape front text 39 b (omega arith) (omega arith) utf8 (λ u. IsUtf8-pieces [] text u))
      | inr no_quote ↦ elim (cases_eq b 92) [
        | inl slash ↦ rw slash (after_escape front text 92 b (omega arith) (omega arith) utf8 (λ u. IsUtf8-pieces [] text u))
        | inr no_slash ↦ elim (cases_eq b 10) [
          | inl feed ↦ rw feed (after_escape front text 110 b (omega arith) (omega arith) utf8 (λ u. IsUtf8-pieces [] text u))
          | inr no_feed ↦ elim (cases_eq b 13) [
            | inl return' ↦ rw return' (after_escape front text 114 b (omega arith) (omega arith) utf8 (λ u. IsUtf8-pieces [] text u))
            | inr no_return ↦ (
                let further = IsUtf8-pieces (front ++ b ∷ []) text (rw (append_assoc front (b ∷ []) text) utf8) in
                rw (piece-plain b no_quote no_slash no_feed no_return) (rw (append_assoc front (b ∷ []) (flat_map piece text)) at further))
          ]
        ]
      ]
    ]

pub IsUtf8-quoted : (text : List ℕ) → IsUtf8 text → IsUtf8 (quoted text)
unfolding quoted
IsUtf8-quoted text utf8 = IsUtf8-cons 39 (flat_map piece text ++ 39 ∷ []) (omega arith) (IsUtf8-append (flat_map piece text) (39 ∷ []) (IsUtf8-pieces [] text utf8) (IsUtf8-cons 39 [] (omega arith) IsUtf8-nil))
