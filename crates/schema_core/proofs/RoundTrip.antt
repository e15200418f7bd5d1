-- Reading the canonical text of a schema gives the schema.
use Rattle.std.proofs.Common.{◌≡◌, ◌≢◌, ℕ, suc, ◌+◌, ◌<◌, ◌≤◌, Bool, true, false, eqb, leb, ◌&&◌, List, [], ◌∷◌, ◌++◌, length, Option, Some, None, refl, ap, sym, ◌∙◌, append_assoc, arith, length-append}
use Rattle.std.specs.Prelude.{Ok, codes, map, IfSome, is_some}
use Rattle.std.specs.Option.{option_map}
use Rattle.std.specs.List.{flat_map, list_any, AllByRecursion}
use Rattle.std.specs.Str.{bytes_eq}
use Rattle.std.proofs.lemmas.Bool.{le-leb, lt-leb, le-ltb, ne_eqb, or_from, false_from_ne_true}
use Rattle.std.proofs.lemmas.Grind.{flat_map-append}
use Rattle.std.proofs.lemmas.List.{append-nil}
use Rattle.std.proofs.lemmas.List.Elements.{recursion_from_All}
use Rattle.text_lists.specs.Limits.{standard}
use Rattle.text_lists.specs.Names.{IsName, IsFileName, IsConstant}
use Rattle.text_lists.specs.Repeats.{AreDistinct}
use Rattle.line_grammar.specs.Faults.{◌>>=◌}
use Rattle.line_grammar.specs.FileLines.{first_is, found_at}
use Rattle.line_grammar.specs.Groups.{in_turn, read_groups}
use Rattle.line_grammar.specs.Phrases.{is_file_name, constant_at}
use Rattle.schema_core.specs.Schemas.{IsValidDomain, IsValidAttr, IsValidTable, IsValidSchema, HasFewValues, HasFewAttrs, names_of_tables, names_of_attrs}
use Rattle.schema_core.specs.SchemaLines.{head_at, domain_at, attr_at}
use Rattle.schema_core.specs.SchemaFiles.{schema_causes, has_table, has_attr, has_no_value, has_value_twice, has_too_many_values, table_fault, attr_fault, unless, empty_schema, with_attr, with_table, add_attr, add_head, add_group, reads}
use Rattle.line_grammar.specs.Spelling.{file_text, tokens_in, IsReadable, name, text, spaced_list, comma_separated}
use Rattle.schema_core.specs.SchemaText.{value_parts, domain_parts, attr_line, table_word, head_line, table_lines, file_lines, schema_lines, canonical}
use Rattle.line_grammar.specs.TokenLists.{list_at, none_after}
use Rattle.line_grammar.specs.declared.writing.Part.TheVariants.{Space}
use Rattle.line_grammar.specs.declared.tokens.Token.{Token}
use Rattle.line_grammar.specs.declared.tokens.Token.TheVariants.{Name, Quoted}
use Rattle.schema_core.specs.declared.schema.Domain.{Domain}
use Rattle.schema_core.specs.declared.schema.Domain.TheVariants.{AnyText, Finite}
use Rattle.schema_core.specs.declared.schema.Attr.{Attr}
use Rattle.schema_core.specs.declared.schema.Table.{Table}
use Rattle.schema_core.specs.declared.schema.Schema.{Schema}
use Rattle.schema_core.specs.declared.schema_lines.SchemaHead.TheVariants as head
use Rattle.line_grammar.specs.Contents.{Tokens}
use Rattle.text_lists.proofs.RepeatLemmas.{bytes_eq-tells, first_repeated-none}
use Rattle.line_grammar.proofs.PartLemmas.{constants_again, constants_some, constants_good, AreGood, AreGood-spaced, IsLoose, IsLoose-nil, IsLoose-spaced, list_at-written, tokens_in-spaced}
use Rattle.line_grammar.proofs.WrittenFiles.{written_lines, Written, lines_of, group_at, IsGroup, Takes, read_groups-written}

-- ---- distinct names are found to be distinct

pub AreDistinct-head : {X : Type 0} (x : X) (xs : List X) → AreDistinct (x ∷ xs) → AllByRecursion (λ y. x ≢ y) xs
AreDistinct-head x xs distinct = recursion_from_All (λ y. x ≢ y) xs (λ k d inside. distinct 0 (suc k) d (omega arith) (omega arith))

pub AreDistinct-tail : {X : Type 0} (x : X) (xs : List X) → AreDistinct (x ∷ xs) → AreDistinct xs
AreDistinct-tail x xs distinct = λ i j d lt inside. distinct (suc i) (suc j) d (omega arith) (omega arith)

pub at_middle : {X : Type 0} (P : List ℕ → Type 0) (f : X → List ℕ) (xs : List X) (x : X) (ys : List X) → AllByRecursion P (map f (xs ++ x ∷ ys)) → P (f x)
at_middle P f [] x ys all = all.0
at_middle P f (y ∷ xs) x ys all = at_middle P f xs x ys all.1

pub not_before : {X : Type 0} (f : X → List ℕ) (xs : List X) (x : X) (ys : List X) → AreDistinct (map f (xs ++ x ∷ ys)) → list_any (λ y. bytes_eq (f y) (f x)) xs ≡ false
not_before f [] x ys distinct = refl
not_before f (y ∷ xs) x ys distinct =
    let other = at_middle (λ n. f y ≢ n) f xs x ys (AreDistinct-head (f y) (map f (xs ++ x ∷ ys)) distinct) in
    or_from (bytes_eq (f y) (f x)) _ (false_from_ne_true (bytes_eq (f y) (f x)) (λ t. other (bytes_eq-tells.same (f y) (f x) t)))
    (not_before f xs x ys (AreDistinct-tail (f y) (map f (xs ++ x ∷ ys)) distinct))

-- ---- an attribute line is read again

and_true : (a b : Bool) → a ≡ true → b ≡ true → (a && b) ≡ true
and_true true b e f = f
and_true false b e f = e

is_file_name-true : (file : List ℕ) → IsFileName file → is_file_name file ≡ true
is_file_name-true file is = and_true (leb 1 (length file)) _ (le-leb 1 (length file) is.some) (le-leb (length file) 1024 is.bound)

values_read : (values : List (List ℕ)) → AllByRecursion IsConstant values → list_at constant_at (tokens_in (spaced_list value_parts values)) ≡ Some (values, [])
values_read values constants =
    ap (list_at constant_at) (tokens_in-spaced value_parts values ∙ sym (append-nil (tokens_in (comma_separated value_parts values))))
    ∙ list_at-written constant_at value_parts values [] (constants_again values constants) (constants_some values) refl refl

domain_read : (domain : Domain) → IsValidDomain domain → domain_at (tokens_in (domain_parts domain)) ≡ Some (domain, [])
domain_read AnyText valid = refl
domain_read (Finite values) valid = ap (option_map (λ found. (Finite found.0, found.1))) (values_read values (recursion_from_All IsConstant values valid.constants))

attr_read : (attr : Attr) → IsValidDomain attr.domain → attr_at (tokens_in (attr_line attr)) ≡ Some (attr, [])
unfolding attr_at
attr_read attr valid = ap (option_map (λ (found : Domain × List Token). (record { name = attr.name; domain = found.0 }, found.1))) (domain_read attr.domain valid)

-- ---- and nothing is wrong with it

some_value : (domain : Domain) → IsValidDomain domain → has_no_value domain ≡ false
some_value AnyText valid = refl
some_value (Finite values) valid = ne_eqb (length values) 0 (λ e. omega (arith, valid.some))

once_each : (domain : Domain) → IsValidDomain domain → has_value_twice domain ≡ false
once_each AnyText valid = refl
once_each (Finite values) valid = ap is_some (first_repeated-none bytes_eq bytes_eq-tells values valid.distinct)

few_values : (domain : Domain) → HasFewValues domain → has_too_many_values standard domain ≡ false
few_values AnyText few = refl
few_values (Finite values) few = le-ltb 64 (length values) few

attr_fine : (attrs : List Attr) (attr : Attr) (later : List Attr) → IsValidAttr attr → HasFewValues attr.domain → AreDistinct (names_of_attrs (attrs ++ attr ∷ later)) → length (attrs ++ attr ∷ later) ≤ 64 → attr_fault standard attrs attr ≡ None
attr_fine attrs attr later valid few distinct fits =
    let below : length attrs < 64 = omega (arith, length-append attrs (attr ∷ later)) in
    let other : has_attr attrs attr.name ≡ false = not_before (λ (a : Attr). a.name) attrs attr later distinct in
    let few_attrs : leb 64 (length attrs) ≡ false = lt-leb 64 (length attrs) below in
    rw (other, some_value attr.domain valid.domain, once_each attr.domain valid.domain, few_attrs, few_values attr.domain few) refl

abbrev with_attrs : Table → List Attr → Table
with_attrs table attrs = record table { attrs = attrs }

attr_added : (number : ℕ) (table : Table) (attr : Attr) (later : List Attr) → IsValidAttr attr → HasFewValues attr.domain → AreDistinct (names_of_attrs (table.attrs ++ attr ∷ later)) → length (table.attrs ++ attr ∷ later) ≤ 64
    → add_attr standard table (record { number = number; content = Tokens (tokens_in (attr_line attr)) }) ≡ Ok (with_attr table attr)
unfolding add_attr
attr_added number table attr later valid few distinct fits =
    ap (λ found. found_at schema_causes number (none_after found) >>= λ a. unless (attr_fault standard table.attrs a) number (with_attr table a)) (attr_read attr valid.domain)
    ∙ ap (λ found. unless found number (with_attr table attr)) (attr_fine table.attrs attr later valid few distinct fits)

attrs_added : (number : ℕ) (table : Table) (attrs : List Attr) → AllByRecursion IsValidAttr attrs → AllByRecursion (λ (a : Attr). HasFewValues a.domain) attrs → AreDistinct (names_of_attrs (table.attrs ++ attrs)) → length (table.attrs ++ attrs) ≤ 64
    → in_turn (add_attr standard) table (written_lines number (map attr_line attrs)) ≡ Ok (with_attrs table (table.attrs ++ attrs))
attrs_added number table [] valid few distinct fits = ap (λ new. Ok (with_attrs table new)) (sym (append-nil table.attrs))
attrs_added number table (attr ∷ attrs) valid few distinct fits =
    let regroup : (table.attrs ++ attr ∷ []) ++ attrs ≡ table.attrs ++ attr ∷ attrs = append_assoc table.attrs (attr ∷ []) attrs in
    ap (λ r. r >>= λ next. in_turn (add_attr standard) next (written_lines (number + 1) (map attr_line attrs))) (attr_added number table attr attrs valid.0 few.0 distinct fits)
    ∙ attrs_added (number + 1) (with_attr table attr) attrs valid.1 few.1 (rw regroup distinct) (rw regroup fits)
    ∙ ap (λ new. Ok (with_attrs table new)) regroup

-- ---- tables

abbrev table_group : Table → Written
table_group table = record { head = head_line table; members = map attr_line table.attrs }

head_read : (master : Bool) (word file : List ℕ) → IsFileName file → head_at (Name (table_word master) ∷ Name word ∷ Quoted file ∷ []) ≡ Some (head.Table master word file, [])
unfolding head_at
head_read true word file is = rw (is_file_name-true file is) refl
head_read false word file is = rw (is_file_name-true file is) refl

attrs_there : (number : ℕ) (attrs : List Attr) → 1 ≤ length attrs → eqb (length (written_lines number (map attr_line attrs))) 0 ≡ false
attrs_there number [] some = absurd (omega arith)
attrs_there number (attr ∷ attrs) some = ne_eqb _ 0 (λ e. omega arith)

table_fine : (tables : List Table) (table : Table) (later : List Table) (number : ℕ) → IsValidTable table → AreDistinct (names_of_tables (tables ++ table ∷ later)) → length (tables ++ table ∷ later) ≤ 64
    → table_fault standard tables table.name (written_lines number (map attr_line table.attrs)) ≡ None
table_fine tables table later number valid distinct fits =
    let below : length tables < 64 = omega (arith, length-append tables (table ∷ later)) in
    let other : has_table tables table.name ≡ false = not_before (λ (t : Table). t.name) tables table later distinct in
    let few_tables : leb 64 (length tables) ≡ false = lt-leb 64 (length tables) below in
    rw (attrs_there number table.attrs valid.some, other, few_tables) refl

table_added : (schema : Schema) (table : Table) (later : List Table) (number : ℕ) → IsValidTable table → HasFewAttrs table → AreDistinct (names_of_tables (schema.tables ++ table ∷ later)) → length (schema.tables ++ table ∷ later) ≤ 64
    → add_group standard schema (group_at number (table_group table)) ≡ Ok (with_table schema table)
unfolding add_group
table_added schema table later number valid few distinct fits =
    let members = written_lines (number + 1) (map attr_line table.attrs) in
    let bare = with_attrs table [] in
    ap (λ found. found_at schema_causes number (none_after found) >>= add_head standard schema number members) (head_read table.master table.name table.file valid.file)
    ∙ ap (λ found. unless found number bare >>= λ start. in_turn (add_attr standard) start members >>= λ whole. Ok (with_table schema whole)) (table_fine schema.tables table later (number + 1) valid distinct fits)
    ∙ ap (λ r. r >>= λ whole. Ok (with_table schema whole))
    (attrs_added (number + 1) bare table.attrs (recursion_from_All IsValidAttr table.attrs valid.attrs) (recursion_from_All (λ (a : Attr). HasFewValues a.domain) table.attrs few.1) valid.distinct few.0)

-- ---- the files of rules and script

abbrev file_groups : List ℕ → Option (List ℕ) → List Written
file_groups word None = []
file_groups word (Some file) = record { head = name word ∷ Space ∷ text file ∷ []; members = [] } ∷ []

rules_added : (schema : Schema) (file : List ℕ) (number : ℕ) → IsFileName file → schema.rules ≡ None
    → add_group standard schema (group_at number (record { head = name (codes "rules") ∷ Space ∷ text file ∷ []; members = [] })) ≡ Ok (record schema { rules = Some file })
unfolding add_group head_at
rules_added schema file number is none = rw (is_file_name-true file is, none) refl

script_added : (schema : Schema) (file : List ℕ) (number : ℕ) → IsFileName file → schema.script ≡ None
    → add_group standard schema (group_at number (record { head = name (codes "script") ∷ Space ∷ text file ∷ []; members = [] })) ≡ Ok (record schema { script = Some file })
unfolding add_group head_at
script_added schema file number is none = rw (is_file_name-true file is, none) refl

-- ---- all groups

abbrev groups_of : Schema → List Written
groups_of schema = map table_group schema.tables ++ (file_groups (codes "rules") schema.rules ++ file_groups (codes "script") schema.script)

pub all_append : {X : Type 0} (P : X → Type 0) (xs ys : List X) → AllByRecursion P xs → AllByRecursion P ys → AllByRecursion P (xs ++ ys)
all_append P [] ys left right = right
all_append P (x ∷ xs) ys left right = (left.0, all_append P xs ys left.1 right)

lines_of_tables : (tables : List Table) → flat_map lines_of (map table_group tables) ≡ flat_map table_lines tables
lines_of_tables [] = refl
lines_of_tables (table ∷ tables) = ap (λ ls. table_lines table ++ ls) (lines_of_tables tables)

lines_of_file : (word : List ℕ) (file : Option (List ℕ)) → flat_map lines_of (file_groups word file) ≡ file_lines word file
lines_of_file word None = refl
lines_of_file word (Some file) = refl

lines_of_schema : (schema : Schema) → flat_map lines_of (groups_of schema) ≡ schema_lines schema
lines_of_schema schema =
    let rules = file_groups (codes "rules") schema.rules in
    let script = file_groups (codes "script") schema.script in
    flat_map-append lines_of (map table_group schema.tables) (rules ++ script) ∙ ap (λ ls. ls ++ flat_map lines_of (rules ++ script)) (lines_of_tables schema.tables)
    ∙ ap (λ ls. flat_map table_lines schema.tables ++ ls) (flat_map-append lines_of rules script ∙ ap (λ ls. ls ++ flat_map lines_of script) (lines_of_file (codes "rules") schema.rules) ∙ ap (λ ls. file_lines (codes "rules") schema.rules ++ ls) (lines_of_file (codes "script") schema.script))

-- every line can be read

domain_good : (domain : Domain) → IsValidDomain domain → AreGood (domain_parts domain)
domain_good AnyText valid = tt
domain_good (Finite values) valid = (refl, AreGood-spaced value_parts values (constants_good values (recursion_from_All IsConstant values valid.constants)))

domain_loose : (domain : Domain) → IsLoose (domain_parts domain)
domain_loose AnyText = IsLoose-nil
domain_loose (Finite values) = λ before. (refl, rw (append-nil (spaced_list value_parts values)) at (IsLoose-spaced value_parts values [] (λ v. (refl, tt)) IsLoose-nil (Some (Name (codes "in")))))

attr_readable : (attr : Attr) → IsValidAttr attr → IsReadable (attr_line attr)
attr_readable attr valid = record {
  some = omega arith;
  good = (refl, (valid.name, domain_good attr.domain valid.domain));
  apart = (refl, (refl, domain_loose attr.domain (Some (Name attr.name))));
}

attrs_readable : (attrs : List Attr) → AllByRecursion IsValidAttr attrs → AllByRecursion IsReadable (map attr_line attrs)
attrs_readable [] valid = tt
attrs_readable (attr ∷ attrs) valid = (attr_readable attr valid.0, attrs_readable attrs valid.1)

table_word-IsName : (master : Bool) → IsName (table_word master)
table_word-IsName true = refl
table_word-IsName false = refl

head_readable : (table : Table) → IsValidTable table → IsReadable (head_line table)
head_readable table valid = record { some = omega arith; good = (table_word-IsName table.master, (valid.name, (valid.file.utf8, tt))); apart = (refl, (refl, (refl, tt))) }

tables_readable : (tables : List Table) → AllByRecursion IsValidTable tables → AllByRecursion IsReadable (flat_map table_lines tables)
tables_readable [] valid = tt
tables_readable (table ∷ tables) valid =
    all_append IsReadable (table_lines table) (flat_map table_lines tables) (head_readable table valid.0, attrs_readable table.attrs (recursion_from_All IsValidAttr table.attrs valid.0.attrs)) (tables_readable tables valid.1)

file_readable : (word : List ℕ) (file : Option (List ℕ)) → IsName word → IfSome file IsFileName → AllByRecursion IsReadable (file_lines word file)
file_readable word None is_name' is = tt
file_readable word (Some file) is_name' is = (record { some = omega arith; good = (is_name', (is.utf8, tt)); apart = (refl, (refl, tt)) }, tt)

schema_readable : (schema : Schema) → IsValidSchema schema → AllByRecursion IsReadable (schema_lines schema)
schema_readable schema valid =
    all_append IsReadable (flat_map table_lines schema.tables) _ (tables_readable schema.tables (recursion_from_All IsValidTable schema.tables valid.tables))
    (all_append IsReadable (file_lines (codes "rules") schema.rules) _ (file_readable (codes "rules") schema.rules refl valid.rules) (file_readable (codes "script") schema.script refl valid.script))

-- the groups are groups

attrs_are_members : (attrs : List Attr) → AllByRecursion (λ line. first_is (codes "attr") (tokens_in line) ≡ true) (map attr_line attrs)
attrs_are_members [] = tt
attrs_are_members (attr ∷ attrs) = (refl, attrs_are_members attrs)

table_is_head : (master : Bool) → bytes_eq (table_word master) (codes "attr") ≡ false
table_is_head true = refl
table_is_head false = refl

tables_are_groups : (tables : List Table) → AllByRecursion (IsGroup (codes "attr")) (map table_group tables)
tables_are_groups [] = tt
tables_are_groups (table ∷ tables) = (record { head = table_is_head table.master; members = attrs_are_members table.attrs }, tables_are_groups tables)

file_is_group : (word : List ℕ) (file : Option (List ℕ)) → bytes_eq word (codes "attr") ≡ false → AllByRecursion (IsGroup (codes "attr")) (file_groups word file)
file_is_group word None other = tt
file_is_group word (Some file) other = (record { head = other; members = tt }, tt)

are_groups : (schema : Schema) → AllByRecursion (IsGroup (codes "attr")) (groups_of schema)
are_groups schema =
    all_append (IsGroup (codes "attr")) (map table_group schema.tables) _ (tables_are_groups schema.tables)
    (all_append (IsGroup (codes "attr")) (file_groups (codes "rules") schema.rules) _ (file_is_group (codes "rules") schema.rules refl) (file_is_group (codes "script") schema.script refl))

-- and each adds what it was written of

tables_taken : (before tables : List Table) (more : List Written) (end : Schema) → AllByRecursion IsValidTable tables → AllByRecursion HasFewAttrs tables → AreDistinct (names_of_tables (before ++ tables)) → length (before ++ tables) ≤ 64
    → Takes (add_group standard) (record { tables = before ++ tables; rules = None; script = None }) more end → Takes (add_group standard) (record { tables = before; rules = None; script = None }) (map table_group tables ++ more) end
tables_taken before [] more end valid few distinct fits takes = rw (append-nil before) at takes
tables_taken before (table ∷ tables) more end valid few distinct fits takes =
    let regroup : (before ++ table ∷ []) ++ tables ≡ before ++ table ∷ tables = append_assoc before (table ∷ []) tables in (
      record { tables = before ++ table ∷ []; rules = None; script = None },
      λ number. table_added (record { tables = before; rules = None; script = None }) table tables number valid.0 few.0 distinct fits,
      tables_taken (before ++ table ∷ []) tables more end valid.1 few.1 (rw regroup distinct) (rw regroup fits) (rw regroup takes),
    )

script_taken : (tables : List Table) (rules script : Option (List ℕ)) → IfSome script IsFileName → Takes (add_group standard) (record { tables = tables; rules = rules; script = None }) (file_groups (codes "script") script) (record { tables = tables; rules = rules; script = script })
script_taken tables rules None is = refl
script_taken tables rules (Some file) is = (record { tables = tables; rules = rules; script = Some file }, λ number. script_added (record { tables = tables; rules = rules; script = None }) file number is refl, refl)

files_taken : (tables : List Table) (rules script : Option (List ℕ)) → IfSome rules IsFileName → IfSome script IsFileName
    → Takes (add_group standard) (record { tables = tables; rules = None; script = None }) (file_groups (codes "rules") rules ++ file_groups (codes "script") script) (record { tables = tables; rules = rules; script = script })
files_taken tables None script are is = script_taken tables None script is
files_taken tables (Some file) script are is =
    (record { tables = tables; rules = Some file; script = None }, λ number. rules_added (record { tables = tables; rules = None; script = None }) file number are refl, script_taken tables (Some file) script is)

pub reads-canonical : (schema : Schema) → IsValidSchema schema → reads standard (canonical schema) ≡ Ok schema
unfolding reads canonical
reads-canonical schema valid =
    ap (λ ls. read_groups schema_causes (codes "attr") (add_group standard) empty_schema (file_text ls)) (sym (lines_of_schema schema))
    ∙ read_groups-written schema_causes (codes "attr") (add_group standard) empty_schema (groups_of schema) schema (rw (lines_of_schema schema) (schema_readable schema valid)) (are_groups schema)
    (tables_taken [] schema.tables _ schema (recursion_from_All IsValidTable schema.tables valid.tables) (recursion_from_All HasFewAttrs schema.tables valid.few_attrs) valid.distinct valid.few_tables
    (files_taken schema.tables schema.rules schema.script valid.rules valid.script))
