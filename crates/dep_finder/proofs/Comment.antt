-- A comment at the end of a file of lines is passed over.
use Rattle.std.proofs.Common.{◌≡◌, ℕ, ◌+◌, ◌<◌, ◌^◌, Bool, true, false, cond, eqb, List, [], ◌∷◌, ◌++◌, length, refl, sym, ap, subst, ◌∙◌, arith, append_assoc, lit<}
use Rattle.std.specs.Prelude.{codes, decimal, map, not}
use Rattle.std.specs.Option.{option_map, option_to_list}
use Rattle.std.specs.Str.Parse.{AllDigits}
use Rattle.std.specs.Char.{digit_value}
use Rattle.std.proofs.lemmas.Fmt.{IsAscii-decimal, decimal_is_IsNumeral}
use Rattle.std.proofs.lemmas.List.{map-append}
use Rattle.std.proofs.lemmas.Str.{IsUtf8-from_ascii, is_utf8-from_IsUtf8}
use Rattle.line_grammar.specs.FileLines.{content_of, file_lines, lines_from}
use Rattle.line_grammar.specs.Lines.{cut_at_line_feeds, in_front, lines, without_return}
use Rattle.line_grammar.specs.Spelling.{file_text, line_text}
use Rattle.line_grammar.specs.Tokens.{is_passed, line_tokens, tokens_from}
use Rattle.line_grammar.specs.declared.line.Line.{Line}
use Rattle.line_grammar.specs.declared.tokens.LineTokens.{LineTokens}
use Rattle.line_grammar.specs.declared.tokens.LineTokens.TheVariants.{NotUtf8, Passed}
use Rattle.line_grammar.specs.declared.writing.Part.{Part}
use Rattle.line_grammar.proofs.SpelledLines.{cut-plain, without_return-plain}
use Rattle.line_grammar.proofs.SpelledTokens.{IsPlain, IsPlain-append, plain_byte}
use Rattle.line_grammar.proofs.Utf8.{IsUtf8-cons}

-- ---- lines behind lines

-- bytes up to a line feed are a line at least
some_line : (xs : List ℕ) → (line : List ℕ) × (others : List (List ℕ)) × (cut_at_line_feeds (xs ++ 10 ∷ []) ≡ line ∷ others)
some_line [] = ([], [], refl)
some_line (b ∷ xs) =
    let (line, others, is) = some_line xs in
    elim (eqb b 10) as (λ t. (line : List ℕ) × (others : List (List ℕ)) × (cond t ([] ∷ cut_at_line_feeds (xs ++ 10 ∷ [])) (in_front b (cut_at_line_feeds (xs ++ 10 ∷ []))) ≡ line ∷ others)) [
      | true ↦ ([], cut_at_line_feeds (xs ++ 10 ∷ []), refl)
      | false ↦ (b ∷ line, others, ap (in_front b) is)
    ]

front_of_both : (b : ℕ) (first : List (List ℕ)) (line : List ℕ) (others more : List (List ℕ)) → first ≡ line ∷ others → in_front b (first ++ more) ≡ in_front b first ++ more
front_of_both b first line others more is = ap (λ (ls : List (List ℕ)). in_front b (ls ++ more)) is ∙ sym (ap (λ (ls : List (List ℕ)). in_front b ls ++ more) is)

-- what stands behind a line feed is cut by itself
cut_seam : (xs ys : List ℕ) → cut_at_line_feeds (xs ++ 10 ∷ ys) ≡ cut_at_line_feeds (xs ++ 10 ∷ []) ++ cut_at_line_feeds ys
cut_seam [] ys = refl
cut_seam (b ∷ xs) ys =
    let rest = cut_seam xs ys in
    let (line, others, is) = some_line xs in
    elim (eqb b 10) as (λ t. cond t ([] ∷ cut_at_line_feeds (xs ++ 10 ∷ ys)) (in_front b (cut_at_line_feeds (xs ++ 10 ∷ ys)))
    ≡ cond t ([] ∷ cut_at_line_feeds (xs ++ 10 ∷ [])) (in_front b (cut_at_line_feeds (xs ++ 10 ∷ []))) ++ cut_at_line_feeds ys) [
      | true ↦ ap (λ (ls : List (List ℕ)). [] ∷ ls) rest
      | false ↦ ap (in_front b) rest ∙ front_of_both b (cut_at_line_feeds (xs ++ 10 ∷ [])) line others (cut_at_line_feeds ys) is
    ]

line_front : (l file tail : List ℕ) → ((l ++ 10 ∷ []) ++ file) ++ tail ≡ l ++ 10 ∷ (file ++ tail)
line_front l file tail = ap (λ (bs : List ℕ). bs ++ tail) (append_assoc l (10 ∷ []) file) ∙ append_assoc l (10 ∷ file) tail

cut_file : (ls : List (List Part)) (tail : List ℕ) → cut_at_line_feeds (file_text ls ++ tail) ≡ cut_at_line_feeds (file_text ls) ++ cut_at_line_feeds tail
cut_file [] tail = refl
cut_file (line ∷ ls) tail =
    let l = line_text line in
    let file = file_text ls in
    ap cut_at_line_feeds (line_front l file tail)
    ∙ cut_seam l (file ++ tail)
    ∙ ap (λ (rest : List (List ℕ)). cut_at_line_feeds (l ++ 10 ∷ []) ++ rest) (cut_file ls tail)
    ∙ sym (append_assoc (cut_at_line_feeds (l ++ 10 ∷ [])) (cut_at_line_feeds file) (cut_at_line_feeds tail))
    ∙ sym (ap (λ (front : List (List ℕ)). front ++ cut_at_line_feeds tail) (ap cut_at_line_feeds (append_assoc l (10 ∷ []) file) ∙ cut_seam l file))

-- ---- a plain line

lines_with : (ls : List (List Part)) (line : List ℕ) → IsPlain line → lines (file_text ls ++ (line ++ 10 ∷ [])) ≡ lines (file_text ls) ++ line ∷ []
lines_with ls line plain =
    ap (map without_return) (cut_file ls (line ++ 10 ∷ []) ∙ ap (λ (rest : List (List ℕ)). cut_at_line_feeds (file_text ls) ++ rest) (cut-plain line [] plain))
    ∙ map-append without_return (cut_at_line_feeds (file_text ls)) (line ∷ [])
    ∙ ap (λ (last : List ℕ). lines (file_text ls) ++ last ∷ []) (without_return-plain line plain)

-- ---- a line that is passed over

passed_at_end : (number : ℕ) (ls : List (List ℕ)) (line : List ℕ) → line_tokens line ≡ Passed → lines_from number (ls ++ line ∷ []) ≡ lines_from number ls
unfolding lines_from
passed_at_end number [] line passed = ap (λ (t : LineTokens). option_to_list (option_map (λ content. record { number = number; content = content }) (content_of t)) ++ []) passed
passed_at_end number (first ∷ ls) line passed =
    ap (λ (rest : List Line). option_to_list (option_map (λ content. record { number = number; content = content }) (content_of (line_tokens first))) ++ rest) (passed_at_end (number + 1) ls line passed)

pub passed_over : (ls : List (List Part)) (line : List ℕ) → IsPlain line → line_tokens line ≡ Passed → file_lines (file_text ls ++ (line ++ 10 ∷ [])) ≡ file_lines (file_text ls)
passed_over ls line plain passed = ap (lines_from 1) (lines_with ls line plain) ∙ passed_at_end 1 (lines (file_text ls)) line passed

-- ---- the comment

abbrev pub comment : ℕ → List ℕ
comment n = codes "# found " ++ decimal n

no_ten : digit_value 10 < 10 → ⊥
no_ten l = omega arith

no_thirteen : digit_value 13 < 10 → ⊥
no_thirteen l = omega arith

plain_digits : (ds : List ℕ) → AllDigits 10 ds → IsPlain ds
plain_digits [] all = tt
plain_digits (d ∷ ds) all =
    ((λ e. no_ten (subst (λ (b : ℕ). digit_value b < 10) e all.0), λ e. no_thirteen (subst (λ (b : ℕ). digit_value b < 10) e all.0)), plain_digits ds all.1)

pub plain_comment : (n : ℕ) → n < 2 ^ 64 → IsPlain (comment n)
plain_comment n fits =
    IsPlain-append (codes "# found ") (decimal n)
    (plain_byte 35 refl refl, (plain_byte 32 refl refl, (plain_byte 102 refl refl, (plain_byte 111 refl refl, (plain_byte 117 refl refl, (plain_byte 110 refl refl, (plain_byte 100 refl refl, (plain_byte 32 refl refl, tt))))))))
    (plain_digits (decimal n) (decimal_is_IsNumeral n fits).0.1)

passed_comment : (n : ℕ) → n < 2 ^ 64 → line_tokens (comment n) ≡ Passed
unfolding line_tokens
passed_comment n fits =
    let utf8 = is_utf8-from_IsUtf8 (comment n) (
    IsUtf8-cons 35 _ (lit< tt) (IsUtf8-cons 32 _ (lit< tt) (IsUtf8-cons 102 _ (lit< tt) (IsUtf8-cons 111 _ (lit< tt) (IsUtf8-cons 117 _ (lit< tt)
    (IsUtf8-cons 110 _ (lit< tt) (IsUtf8-cons 100 _ (lit< tt) (IsUtf8-cons 32 _ (lit< tt) (IsUtf8-from_ascii (decimal n) (IsAscii-decimal n fits)))))))))) in
    ap (λ (u : Bool). cond (not u) NotUtf8 (cond (is_passed (comment n)) Passed (tokens_from (length (comment n)) false (comment n)))) utf8

-- a file with the comment has the lines of the file
pub comment_passed : (ls : List (List Part)) (n : ℕ) → n < 2 ^ 64 → file_lines (file_text ls ++ (comment n ++ 10 ∷ [])) ≡ file_lines (file_text ls)
comment_passed ls n fits = passed_over ls (comment n) (plain_comment n fits) (passed_comment n fits)
