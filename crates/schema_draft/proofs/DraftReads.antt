-- A draft in which each name is one spells the schema of its tables.
use Rattle.std.proofs.Common.{◌≡◌, ◌≢◌, ℕ, zero, suc, ◌+◌, ◌<◌, ◌≤◌, Bool, true, false, ◌&&◌, cond, List, [], ◌∷◌, ◌++◌, length, take, drop, Option, Some, None, refl, ap, sym, ◌∙◌, subst, arith, append_assoc, take_all}
use Rattle.std.specs.Prelude.{All, IfSome, Ok, codes, is_some, map, not, slice_get, slice_index_or}
use Rattle.std.specs.Option.{option_map, option_to_list}
use Rattle.std.specs.List.{AllByRecursion, flat_map}
use Rattle.std.specs.Str.{IsUtf8, bytes_eq}
use Rattle.std.proofs.lemmas.Bool.{cond_both, false≢true}
use Rattle.std.proofs.lemmas.List.{append-nil}
use Rattle.std.proofs.lemmas.List.Elements.{recursion_from_All}
use Rattle.std.proofs.lemmas.Str.{IsUtf8-nil, is_utf8-from_IsUtf8}
use Rattle.text_lists.specs.Limits.{standard}
use Rattle.text_lists.specs.Names.{IsFileName, IsName, is_name}
use Rattle.text_lists.specs.Repeats.{AreDistinct, is_among}
use Rattle.line_grammar.specs.FileLines.{content_of, file_lines, lines_from}
use Rattle.line_grammar.specs.Lines.{lines, without_return}
use Rattle.line_grammar.specs.Spelling.{IsReadable, file_text, line_text, mark, name, text, tokens_in}
use Rattle.line_grammar.specs.Tokens.{is_passed, line_tokens, tokens_from}
use Rattle.line_grammar.specs.Contents.{Content, Tokens}
use Rattle.line_grammar.specs.declared.line.Line.{Line}
use Rattle.line_grammar.specs.declared.tokens.LineTokens.TheVariants.{NotUtf8, Passed}
use Rattle.line_grammar.specs.declared.tokens.Mark.TheVariants.{Colon}
use Rattle.line_grammar.specs.declared.writing.Part.{Part}
use Rattle.line_grammar.specs.declared.writing.Part.TheVariants as part
use Rattle.line_grammar.proofs.PartLemmas.{AreGood, AreGood-spaced}
use Rattle.line_grammar.proofs.SpelledLines.{IsPlain-line, IsUtf8-line_text, cut-plain, line_tokens-written, without_return-plain}
use Rattle.line_grammar.proofs.SpelledTokens.{IsPlain, plain_byte}
use Rattle.line_grammar.proofs.Utf8.{IsUtf8-cons}
use Rattle.schema_core.specs.SchemaFiles.{has_attr, reads}
use Rattle.schema_core.specs.SchemaText.{attr_line, canonical, table_lines, value_parts}
use Rattle.schema_core.specs.Schemas.{IsValidAttr, IsValidSchema, IsValidTable, names_of_attrs, names_of_tables}
use Rattle.schema_core.specs.declared.schema.Attr.{Attr}
use Rattle.schema_core.specs.declared.schema.Domain.TheVariants.{AnyText, Finite}
use Rattle.schema_core.specs.declared.schema.Table.{Table}
use Rattle.schema_core.proofs.RoundTrip.{all_append, not_before, reads-canonical}
use Rattle.schema_draft.specs.Columns.{are_few, column_of, distinct_values, few_values, is_key, new_values}
use Rattle.schema_draft.specs.Drafts.{attr_parts, attr_text, column_text, columns_text, comment, domain_note, draft_behind, draft_of, has_sheet, head_parts, head_text, key_note, names_column, notes_on, only_if, sheet_text, whole_line}
use Rattle.schema_draft.specs.DraftSchemas.{HoldTexts, any_table, schema_of}
use Rattle.schema_draft.specs.Sheets.{any_texts}
use Rattle.schema_draft.specs.declared.sheet.Sheet.{Sheet}
use Rattle.schema_draft.proofs.Numbers.{reads-same, same_lines}

-- ---- whole lines of a file, one behind the other

abbrev contents : List Line → List Content
contents ls = map (λ (line : Line). line.content) ls

-- So many lines, of which these are not passed over, whatever number the first has, and whatever is behind them.
pub record Spells (text : List ℕ) (says : List Content) : Type 0 where
  pub count : ℕ
  pub each : (number : ℕ) (rest : List ℕ) → contents (lines_from number (lines (text ++ rest))) ≡ says ++ contents (lines_from (number + count) (lines rest))

pub Spells-nil : Spells [] []
Spells-nil = record { count = 0; each = λ number rest. ap (λ n. contents (lines_from n (lines rest))) (same number) }
  where
    same : (n : ℕ) → n ≡ n + 0
    same n = omega arith

pub Spells-append : (one other : List ℕ) (says more : List Content) → Spells one says → Spells other more → Spells (one ++ other) (says ++ more)
Spells-append one other says more first second = record {
  count = first.count + second.count;
  each = λ number rest.
      ap (λ t. contents (lines_from number (lines t))) (append_assoc one other rest) ∙ first.each number (other ++ rest)
      ∙ ap (λ c. says ++ c) (second.each (number + first.count) rest) ∙ sym (append_assoc says more (contents (lines_from (number + first.count + second.count) (lines rest))))
      ∙ ap (λ n. (says ++ more) ++ contents (lines_from n (lines rest))) (sum number first.count second.count);
}
  where
    sum : (a b c : ℕ) → a + b + c ≡ a + (b + c)
    sum a b c = omega arith

-- ---- one line

lines-plain : (line rest : List ℕ) → IsPlain line → lines ((line ++ 10 ∷ []) ++ rest) ≡ line ∷ lines rest
lines-plain line rest plain =
    ap (λ (bytes : List ℕ). lines bytes) (append_assoc line (10 ∷ []) rest) ∙ ap (λ (cut : List (List ℕ)). map without_return cut) (cut-plain line rest plain)
    ∙ ap (λ (l : List ℕ). l ∷ lines rest) (without_return-plain line plain)

-- a line that is written of parts
pub Spells-line : (line : List Part) → IsReadable line → Spells (whole_line line) (Tokens (tokens_in line) ∷ [])
unfolding lines_from
Spells-line line readable = record {
  count = 1;
  each = λ number rest.
      ap (λ ls. contents (lines_from number ls)) (lines-plain (line_text line) rest (IsPlain-line line readable.good))
      ∙ ap (λ t. contents (option_to_list (option_map (λ content. record { number = number; content = content }) (content_of t)) ++ lines_from (number + 1) (lines rest))) (line_tokens-written line readable);
}

-- a comment
passed : (words : List ℕ) → IsUtf8 (codes "# " ++ words) → line_tokens (codes "# " ++ words) ≡ Passed
unfolding line_tokens
passed words utf8 = ap (λ u. cond (not u) NotUtf8 (cond (is_passed (codes "# " ++ words)) Passed (tokens_from (length (codes "# " ++ words)) false (codes "# " ++ words)))) (is_utf8-from_IsUtf8 (codes "# " ++ words) utf8)

pub Spells-comment : (words : List ℕ) → IsPlain words → IsUtf8 words → Spells (comment words) []
unfolding lines_from
Spells-comment words plain utf8 =
    let plain_line : IsPlain (codes "# " ++ words) = (plain_byte 35 refl refl, (plain_byte 32 refl refl, plain)) in
    let utf8_line : IsUtf8 (codes "# " ++ words) = IsUtf8-cons 35 (32 ∷ words) (omega arith) (IsUtf8-cons 32 words (omega arith) utf8) in
    record {
      count = 1;
      each = λ number rest.
          ap (λ ls. contents (lines_from number ls)) (lines-plain (codes "# " ++ words) rest plain_line)
          ∙ ap (λ t. contents (option_to_list (option_map (λ content. record { number = number; content = content }) (content_of t)) ++ lines_from (number + 1) (lines rest))) (passed words utf8_line);
    }

-- the lines of a whole file
pub Spells-whole : (bytes : List ℕ) (says : List Content) → Spells bytes says → contents (file_lines bytes) ≡ says
unfolding lines_from
Spells-whole bytes says is = ap (λ t. contents (lines_from 1 (lines t))) (sym (append-nil bytes)) ∙ is.each 1 [] ∙ append-nil says

-- several lines that are written of parts
pub says_lines : List (List Part) → List Content
says_lines ls = map (λ (line : List Part). Tokens (tokens_in line)) ls

pub Spells-lines : (ls : List (List Part)) → AllByRecursion IsReadable ls → Spells (file_text ls) (says_lines ls)
unfolding says_lines
Spells-lines [] readable = Spells-nil
Spells-lines (line ∷ ls) readable = Spells-append (whole_line line) (file_text ls) (Tokens (tokens_in line) ∷ []) (says_lines ls) (Spells-line line readable.0) (Spells-lines ls readable.1)

-- ---- a column

-- values that are texts
new_texts : (before values : List (List ℕ)) → AllByRecursion IsUtf8 values → AllByRecursion IsUtf8 (new_values before values)
new_texts before [] are = tt
new_texts before (value ∷ values) are =
    cond_both (is_among bytes_eq before value) (new_values before values) (value ∷ new_values (before ++ value ∷ []) values) (AllByRecursion IsUtf8)
    (λ known. new_texts before values are.1) (λ new. (are.0, new_texts (before ++ value ∷ []) values are.1))

text_in : (row : List (List ℕ)) (place : ℕ) → AllByRecursion IsUtf8 row → IsUtf8 (slice_index_or row place [])
text_in [] place are = IsUtf8-nil
text_in (value ∷ row) zero are = are.0
text_in (value ∷ row) (suc place) are = text_in row place are.1

column_texts : (rows : List (List (List ℕ))) (place : ℕ) → AllByRecursion (AllByRecursion IsUtf8) rows → AllByRecursion IsUtf8 (column_of rows place)
column_texts [] place are = tt
column_texts (row ∷ rows) place are = (text_in row place are.0, column_texts rows place are.1)

values_good : (values : List (List ℕ)) → AllByRecursion IsUtf8 values → AllByRecursion (λ (v : List ℕ). AreGood (text v ∷ [])) values
values_good [] are = tt
values_good (v ∷ values) are = ((are.0, tt), values_good values are.1)

Spells-domain : (words : List ℕ) (values : List (List ℕ)) → IsName words → AllByRecursion IsUtf8 values → Spells (comment (line_text (attr_parts true words (Finite values)))) []
Spells-domain words values is are =
    let good : AreGood (attr_parts true words (Finite values)) = (refl, (is, (refl, AreGood-spaced value_parts values (values_good values are)))) in
    Spells-comment (line_text (attr_parts true words (Finite values))) (IsPlain-line (attr_parts true words (Finite values)) good) (IsUtf8-line_text (attr_parts true words (Finite values)) good)

Spells-few : (words : List ℕ) (found : Option (List (List ℕ))) → IsName words → IfSome found (AllByRecursion IsUtf8) → Spells (domain_note true words found) []
Spells-few words None is are = Spells-nil
Spells-few words (Some values) is are = Spells-domain words values is are

few_texts : (values : List (List ℕ)) → AllByRecursion IsUtf8 values → IfSome (few_values values) (AllByRecursion IsUtf8)
few_texts values are =
    cond_both (are_few (distinct_values values)) (Some (distinct_values values)) None (λ (found : Option (List (List ℕ))). IfSome found (AllByRecursion IsUtf8)) (λ few. new_texts [] values are) (λ many. tt)

-- the comment of a key, as parts of a line
key_parts : List ℕ → List Part
key_parts words =
    name words ∷ part.Space ∷ name (codes "is") ∷ part.Space ∷ name (codes "a") ∷ part.Space ∷ name (codes "key") ∷ mark Colon ∷ part.Space ∷ name (codes "no") ∷ part.Space
    ∷ name (codes "value") ∷ part.Space ∷ name (codes "stands") ∷ part.Space ∷ name (codes "twice") ∷ []

key_same : (words : List ℕ) → line_text (key_parts words) ≡ line_text (name words ∷ []) ++ codes " is a key: no value stands twice"
unfolding key_parts
key_same words = sym (append_assoc words [] (codes " is a key: no value stands twice"))

Spells-key : (words : List ℕ) → IsName words → Spells (key_note true words) []
unfolding key_parts
Spells-key words is =
    let good : AreGood (key_parts words) = (is, (refl, (refl, (refl, (tt, (refl, (refl, (refl, (refl, tt))))))))) in
    subst (λ t. Spells (comment t) []) (key_same words) (Spells-comment (line_text (key_parts words)) (IsPlain-line (key_parts words) good) (IsUtf8-line_text (key_parts words) good))

Spells-only_if : (test : Bool) (note : List ℕ) → Spells note [] → Spells (only_if test note) []
Spells-only_if true note is = is
Spells-only_if false note is = Spells-nil

-- the line of an attribute that has a name
abbrev any_line : List ℕ → List Part
any_line words = attr_parts true words AnyText

any_readable : (words : List ℕ) → IsName words → IsReadable (any_line words)
any_readable words is = record { some = omega arith; good = (refl, (is, tt)); apart = (refl, (refl, tt)) }

says_attr : List ℕ → List Content
says_attr words = Tokens (tokens_in (any_line words)) ∷ []

Spells-column : (sheet : Sheet) (place : ℕ) (attr : Attr) → names_column (take place sheet.table.attrs) attr.name ≡ true → IsName attr.name → AllByRecursion (AllByRecursion IsUtf8) sheet.rows → Spells (column_text sheet place (Some attr)) (says_attr attr.name)
unfolding says_attr
Spells-column sheet place attr fits is are =
    let values = column_of sheet.rows place in
    let texts = column_texts sheet.rows place are in
    subst (λ f. Spells (attr_text sheet.table.attrs (place + 1) f attr.name ++ notes_on f attr.name values) (says_attr attr.name)) (sym fits)
    (Spells-append (whole_line (any_line attr.name)) (notes_on true attr.name values) (says_attr attr.name) [] (Spells-line (any_line attr.name) (any_readable attr.name is))
    (Spells-append (domain_note true attr.name (few_values values)) (only_if (is_key values) (key_note true attr.name)) [] [] (Spells-few attr.name (few_values values) is (few_texts values texts))
    (Spells-only_if (is_key values) (key_note true attr.name) (Spells-key attr.name is))))

-- ---- all columns

says_attrs : List Attr → List Content
says_attrs [] = []
says_attrs (attr ∷ attrs) = says_attr attr.name ++ says_attrs attrs

says_attrs-push : (attrs : List Attr) (attr : Attr) → says_attrs (attrs ++ attr ∷ []) ≡ says_attrs attrs ++ says_attr attr.name
unfolding says_attrs says_attr
says_attrs-push [] attr = refl
says_attrs-push (a ∷ attrs) attr = ap (λ c. says_attr a.name ++ c) (says_attrs-push attrs attr)

-- each column has a name of its own
AreNamed : List Attr → Type 0
AreNamed attrs = (place : ℕ) (attr : Attr) → slice_get attrs place ≡ Some attr → (names_column (take place attrs) attr.name ≡ true) × IsName attr.name

slice_get-there : {X : Type 0} (xs : List X) (place : ℕ) → place < length xs → is_some (slice_get xs place) ≡ true
slice_get-there [] place inside = absurd (omega arith)
slice_get-there (x ∷ xs) zero inside = refl
slice_get-there (x ∷ xs) (suc place) inside = slice_get-there xs place (omega arith)

take_next : {X : Type 0} (xs : List X) (place : ℕ) (x : X) → slice_get xs place ≡ Some x → take (suc place) xs ≡ take place xs ++ x ∷ []
take_next [] place x some = cc some
take_next (y ∷ xs) zero x some = let same : y ≡ x = cc some in ap (λ z. z ∷ []) same
take_next (y ∷ xs) (suc place) x some = ap (λ ys. y ∷ ys) (take_next xs place x some)

columns_more : (sheet : Sheet) (place : ℕ) (found : Option Attr) → slice_get sheet.table.attrs place ≡ found → place < length sheet.table.attrs → AreNamed sheet.table.attrs → AllByRecursion (AllByRecursion IsUtf8) sheet.rows
    → Spells (columns_text sheet place) (says_attrs (take place sheet.table.attrs)) → Spells (columns_text sheet (suc place)) (says_attrs (take (suc place) sheet.table.attrs))
unfolding AreNamed
columns_more sheet place None none inside named are so_far = absurd (false≢true (sym (ap is_some none) ∙ slice_get-there sheet.table.attrs place inside))
columns_more sheet place (Some attr) some inside named are so_far =
    let more : take (suc place) sheet.table.attrs ≡ take place sheet.table.attrs ++ attr ∷ [] = take_next sheet.table.attrs place attr some in
    subst (λ c. Spells (columns_text sheet (suc place)) c) (sym (ap says_attrs more ∙ says_attrs-push (take place sheet.table.attrs) attr))
    (Spells-append (columns_text sheet place) (column_text sheet place (slice_get sheet.table.attrs place)) (says_attrs (take place sheet.table.attrs)) (says_attr attr.name) so_far
    (subst (λ o. Spells (column_text sheet place o) (says_attr attr.name)) (sym some) (Spells-column sheet place attr (named place attr some).0 (named place attr some).1 are)))

Spells-columns : (sheet : Sheet) (count : ℕ) → count ≤ length sheet.table.attrs → AreNamed sheet.table.attrs → AllByRecursion (AllByRecursion IsUtf8) sheet.rows → Spells (columns_text sheet count) (says_attrs (take count sheet.table.attrs))
unfolding says_attrs
Spells-columns sheet zero within named are = Spells-nil
Spells-columns sheet (suc place) within named are =
    columns_more sheet place (slice_get sheet.table.attrs place) refl (omega arith) named are (Spells-columns sheet place (omega arith) named are)

-- ---- names that stand once

-- ---- the columns of a valid table

split_at : {X : Type 0} (xs : List X) (place : ℕ) (x : X) → slice_get xs place ≡ Some x → xs ≡ take place xs ++ x ∷ drop (suc place) xs
split_at [] place x some = cc some
split_at (y ∷ xs) zero x some = let same : y ≡ x = cc some in ap (λ z. z ∷ xs) same
split_at (y ∷ xs) (suc place) x some = ap (λ ys. y ∷ ys) (split_at xs place x some)

name_at : (attrs : List Attr) (place : ℕ) (attr : Attr) → AllByRecursion IsValidAttr (any_texts (names_of_attrs attrs)) → slice_get attrs place ≡ Some attr → IsName attr.name
name_at [] place attr valid some = cc some
name_at (a ∷ attrs) zero attr valid some = let same : a ≡ attr = cc some in subst (λ (b : Attr). IsName b.name) same valid.0.name
name_at (a ∷ attrs) (suc place) attr valid some = name_at attrs place attr valid.1 some

names_any : (names : List (List ℕ)) → names_of_attrs (any_texts names) ≡ names
names_any [] = refl
names_any (name' ∷ names) = ap (λ ns. name' ∷ ns) (names_any names)

both_true : (a b : Bool) → a ≡ true → b ≡ false → (a && not b) ≡ true
both_true a b yes' no' = rw (yes', no') refl

named : (attrs : List Attr) → AllByRecursion IsValidAttr (any_texts (names_of_attrs attrs)) → AreDistinct (names_of_attrs attrs) → AreNamed attrs
unfolding AreNamed
named attrs valid distinct place attr some =
    let is = name_at attrs place attr valid some in
    let once : has_attr (take place attrs) attr.name ≡ false =
    not_before (λ (a : Attr). a.name) (take place attrs) attr (drop (suc place) attrs) (subst (λ as'. AreDistinct (names_of_attrs as')) (split_at attrs place attr some) distinct) in
    (both_true (is_name attr.name) (has_attr (take place attrs) attr.name) is once, is)

-- ---- all tables

says_sheet : Sheet → List Content
says_sheet sheet = Tokens (tokens_in (head_parts true sheet.table)) ∷ says_attrs sheet.table.attrs

says_sheets : List Sheet → List Content
says_sheets [] = []
says_sheets (sheet ∷ sheets) = says_sheet sheet ++ says_sheets sheets

head_readable : (table : Table) → IsName table.name → IsFileName table.file → IsReadable (head_parts true table)
head_readable table is file = record { some = omega arith; good = (refl, (is, (file.utf8, tt))); apart = (refl, (refl, (refl, tt))) }

Spells-sheet : (before : List Sheet) (sheet : Sheet) → has_sheet before sheet.table.name ≡ false → IsValidTable (any_table sheet.table) → AllByRecursion (AllByRecursion IsUtf8) sheet.rows → Spells (sheet_text before sheet) (says_sheet sheet)
unfolding says_sheet
Spells-sheet before sheet new valid are =
    let attrs = sheet.table.attrs in
    let columns = named attrs (recursion_from_All IsValidAttr (any_texts (names_of_attrs attrs)) valid.attrs) (subst (λ (ns : List (List ℕ)). AreDistinct ns) (names_any (names_of_attrs attrs)) valid.distinct) in
    subst (λ h. Spells (head_text (not h) sheet.table ++ columns_text sheet (length attrs)) (Tokens (tokens_in (head_parts true sheet.table)) ∷ says_attrs attrs)) (sym new)
    (Spells-append (whole_line (head_parts true sheet.table)) (columns_text sheet (length attrs)) (Tokens (tokens_in (head_parts true sheet.table)) ∷ []) (says_attrs attrs)
    (Spells-line (head_parts true sheet.table) (head_readable sheet.table valid.name valid.file))
    (subst (λ front. Spells (columns_text sheet (length attrs)) (says_attrs front)) (take_all (length attrs) attrs (omega arith)) (Spells-columns sheet (length attrs) (omega arith) columns are)))

abbrev sheet_name : Sheet → List ℕ
sheet_name sheet = sheet.table.name

Spells-behind : (before sheets : List Sheet) → AllByRecursion (λ (s : Sheet). IsValidTable (any_table s.table)) sheets → AreDistinct (map sheet_name (before ++ sheets)) → AllByRecursion (λ (s : Sheet). AllByRecursion (AllByRecursion IsUtf8) s.rows) sheets
    → Spells (draft_behind before sheets) (says_sheets sheets)
unfolding says_sheets
Spells-behind before [] valid distinct are = Spells-nil
Spells-behind before (sheet ∷ sheets) valid distinct are =
    let regroup : (before ++ sheet ∷ []) ++ sheets ≡ before ++ sheet ∷ sheets = append_assoc before (sheet ∷ []) sheets in
    Spells-append (sheet_text before sheet) (draft_behind (before ++ sheet ∷ []) sheets) (says_sheet sheet) (says_sheets sheets)
    (Spells-sheet before sheet (not_before sheet_name before sheet sheets distinct) valid.0 are.0)
    (Spells-behind (before ++ sheet ∷ []) sheets valid.1 (rw regroup distinct) are.1)

-- ---- the printed schema says the same

attrs_said : (attrs : List Attr) → says_lines (map attr_line (any_texts (names_of_attrs attrs))) ≡ says_attrs attrs
unfolding says_lines says_attrs says_attr
attrs_said [] = refl
attrs_said (attr ∷ attrs) = ap (λ c. Tokens (tokens_in (any_line attr.name)) ∷ c) (attrs_said attrs)

says_lines-append : (xs ys : List (List Part)) → says_lines (xs ++ ys) ≡ says_lines xs ++ says_lines ys
unfolding says_lines
says_lines-append [] ys = refl
says_lines-append (x ∷ xs) ys = ap (λ c. Tokens (tokens_in x) ∷ c) (says_lines-append xs ys)

tables_said : (sheets : List Sheet) → says_lines (flat_map table_lines (map (λ (s : Sheet). any_table s.table) sheets)) ≡ says_sheets sheets
unfolding says_lines says_sheets says_sheet
tables_said [] = refl
tables_said (sheet ∷ sheets) =
    let lines' = table_lines (any_table sheet.table) in
    says_lines-append lines' (flat_map table_lines (map (λ (s : Sheet). any_table s.table) sheets))
    ∙ ap (λ c. (Tokens (tokens_in (head_parts true sheet.table)) ∷ c) ++ says_lines (flat_map table_lines (map (λ (s : Sheet). any_table s.table) sheets))) (attrs_said sheet.table.attrs)
    ∙ ap (λ c. (Tokens (tokens_in (head_parts true sheet.table)) ∷ says_attrs sheet.table.attrs) ++ c) (tables_said sheets)

attrs_readable : (attrs : List Attr) → AllByRecursion IsValidAttr (any_texts (names_of_attrs attrs)) → AllByRecursion IsReadable (map attr_line (any_texts (names_of_attrs attrs)))
attrs_readable [] valid = tt
attrs_readable (attr ∷ attrs) valid = (any_readable attr.name valid.0.name, attrs_readable attrs valid.1)

tables_readable : (sheets : List Sheet) → AllByRecursion (λ (s : Sheet). IsValidTable (any_table s.table)) sheets → AllByRecursion IsReadable (flat_map table_lines (map (λ (s : Sheet). any_table s.table) sheets))
tables_readable [] valid = tt
tables_readable (sheet ∷ sheets) valid =
    let attrs = sheet.table.attrs in
    all_append IsReadable (table_lines (any_table sheet.table)) (flat_map table_lines (map (λ (s : Sheet). any_table s.table) sheets))
    (head_readable sheet.table valid.0.name valid.0.file, attrs_readable attrs (recursion_from_All IsValidAttr (any_texts (names_of_attrs attrs)) valid.0.attrs)) (tables_readable sheets valid.1)

Spells-canonical : (sheets : List Sheet) → AllByRecursion (λ (s : Sheet). IsValidTable (any_table s.table)) sheets → Spells (canonical (schema_of sheets)) (says_sheets sheets)
unfolding canonical
Spells-canonical sheets valid =
    let ls = flat_map table_lines (map (λ (s : Sheet). any_table s.table) sheets) in
    subst (λ all. Spells (file_text all) (says_sheets sheets)) (sym (append-nil ls)) (subst (λ c. Spells (file_text ls) c) (tables_said sheets) (Spells-lines ls (tables_readable sheets valid)))

-- ---- the law

valid_tables : (sheets : List Sheet) → AllByRecursion IsValidTable (map (λ (s : Sheet). any_table s.table) sheets) → AllByRecursion (λ (s : Sheet). IsValidTable (any_table s.table)) sheets
valid_tables [] valid = tt
valid_tables (sheet ∷ sheets) valid = (valid.0, valid_tables sheets valid.1)

names_tables : (sheets : List Sheet) → names_of_tables (map (λ (s : Sheet). any_table s.table) sheets) ≡ map sheet_name sheets
names_tables [] = refl
names_tables (sheet ∷ sheets) = ap (λ ns. sheet.table.name ∷ ns) (names_tables sheets)

texts_in_rows : (rows : List (List (List ℕ))) → All (λ row. All IsUtf8 row) rows → AllByRecursion (AllByRecursion IsUtf8) rows
texts_in_rows [] are = tt
texts_in_rows (row ∷ rows) are = (recursion_from_All IsUtf8 row (are 0 row (omega arith)), texts_in_rows rows (λ k d inside. are (suc k) d (omega arith)))

texts_in_sheets : (sheets : List Sheet) → HoldTexts sheets → AllByRecursion (λ (s : Sheet). AllByRecursion (AllByRecursion IsUtf8) s.rows) sheets
texts_in_sheets [] are = tt
texts_in_sheets (sheet ∷ sheets) are = (texts_in_rows sheet.rows (are 0 sheet (omega arith)), texts_in_sheets sheets (λ k d inside. are (suc k) d (omega arith)))

pub reads-draft : (sheets : List Sheet) → HoldTexts sheets → IsValidSchema (schema_of sheets) → reads standard (draft_of sheets) ≡ Ok (schema_of sheets)
unfolding draft_of
reads-draft sheets are valid =
    let tables = valid_tables sheets (recursion_from_All IsValidTable (map (λ (s : Sheet). any_table s.table) sheets) valid.tables) in
    let drawn = Spells-behind [] sheets tables (subst (λ (ns : List (List ℕ)). AreDistinct ns) (names_tables sheets) valid.distinct) (texts_in_sheets sheets are) in
    reads-same standard (canonical (schema_of sheets)) (draft_behind [] sheets) (schema_of sheets)
    (same_lines (file_lines (canonical (schema_of sheets))) (file_lines (draft_behind [] sheets))
    (Spells-whole (canonical (schema_of sheets)) (says_sheets sheets) (Spells-canonical sheets tables) ∙ sym (Spells-whole (draft_behind [] sheets) (says_sheets sheets) drawn)))
    (reads-canonical (schema_of sheets) valid)
