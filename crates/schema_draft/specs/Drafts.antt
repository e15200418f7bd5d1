-- The draft of a schema: a line for each table and each column, and comments on what the columns' values show. Where a
-- text of a header can't be the name of an attribute, its line has it between quotes, and is no line of a schema yet.
use Rattle.std.specs.Prelude.{ℕ, zero, suc, ◌+◌, ◌-◌, Bool, true, false, ◌&&◌, not, List, [], ◌∷◌, ◌++◌, length, take, nat_eq, slice_get, if◌then◌else◌, ◌==◌, Option, Some, None, codes, decimal}
use Rattle.std.specs.List.{after_last, ends_with, list_any}
use Rattle.std.specs.Str.{bytes_eq}
use Rattle.text_lists.specs.Names.{is_name}
use Rattle.line_grammar.specs.Lines.{line_feed}
use Rattle.line_grammar.specs.Spelling.{line_text, name, text}
use Rattle.line_grammar.specs.declared.writing.Part.{Part}
use Rattle.line_grammar.specs.declared.writing.Part.TheVariants.{Space}
use Rattle.schema_core.specs.SchemaFiles.{has_attr}
use Rattle.schema_core.specs.SchemaText.{domain_parts}
use Rattle.schema_core.specs.declared.schema.Attr.{Attr}
use Rattle.schema_core.specs.declared.schema.Domain.{Domain}
use Rattle.schema_core.specs.declared.schema.Domain.TheVariants.{AnyText, Finite}
use Rattle.schema_core.specs.declared.schema.Table.{Table}
use Rattle.schema_draft.specs.Columns.{column_of, few_values, is_key}
use Rattle.schema_draft.specs.declared.sheet.Sheet.{Sheet}

-- ---- the names of tables

-- without `.csv` at the end
abbrev pub without_csv : List ℕ → List ℕ
without_csv part = if ends_with nat_eq part (codes ".csv") then take (length part - 4) part else part

-- what stands behind the last slash of a file's name, without `.csv` at the end
abbrev pub stem_of : List ℕ → List ℕ
stem_of file = without_csv (after_last (λ b. b == 47) file)

-- that, where it is a name, or else `table` with the number of the file
abbrev pub table_name : ℕ → List ℕ → List ℕ
table_name number file = if is_name (stem_of file) then stem_of file else codes "table" ++ decimal number

-- a table without attributes for each file, numbered from there on
abbrev pub tables_from : ℕ → List (List ℕ) → List Table
tables_from number [] = []
tables_from number (file ∷ files) =
    record { name = table_name number file; file = file; master = false; attrs = [] } ∷ tables_from (number + 1) files

-- ---- lines

abbrev pub comment : List ℕ → List ℕ
comment words = codes "# " ++ words ++ codes "\n"

abbrev pub whole_line : List Part → List ℕ
whole_line line = line_text line ++ line_feed ∷ []

-- a note where something isn't so
abbrev pub unless : Bool → List ℕ → List ℕ
unless true note = []
unless false note = note

-- a note where something is so
abbrev pub only_if : Bool → List ℕ → List ℕ
only_if true note = note
only_if false note = []

-- a name as it stands in a schema, or between quotes where it can't be one
abbrev pub named : Bool → List ℕ → Part
named true words = name words
named false words = text words

-- ---- columns

-- the text over a column names an attribute: it is a name, and that of none of the columns before
abbrev pub names_column : List Attr → List ℕ → Bool
names_column before words = is_name words && not (has_attr before words)

abbrev pub number_name : ℕ → List ℕ
number_name number = codes "column" ++ decimal number

-- how to call a column in the file: by its number, unless a column is called so already
abbrev pub advice : List Attr → ℕ → List ℕ
advice attrs number = if has_attr attrs (number_name number) then codes "otherwise" else number_name number

abbrev pub rename_note : List Attr → ℕ → List ℕ
rename_note attrs number =
    comment (codes "column " ++ decimal number ++ codes " has no name of its own: call it " ++ advice attrs number ++ codes " in the file")

-- `attr NAME`, `attr NAME in LIST(VALUE)`, where the name is one
abbrev pub attr_parts : Bool → List ℕ → Domain → List Part
attr_parts fits words domain = name (codes "attr") ∷ Space ∷ named fits words ∷ domain_parts domain

-- the line of the attribute with the domain of its few values
abbrev pub domain_note : Bool → List ℕ → Option (List (List ℕ)) → List ℕ
domain_note fits words None = []
domain_note fits words (Some values) = comment (line_text (attr_parts fits words (Finite values)))

abbrev pub key_note : Bool → List ℕ → List ℕ
key_note fits words = comment (line_text (named fits words ∷ []) ++ codes " is a key: no value stands twice")

-- what is written of a column with these values
abbrev pub notes_on : Bool → List ℕ → List (List ℕ) → List ℕ
notes_on fits words values = domain_note fits words (few_values values) ++ only_if (is_key values) (key_note fits words)

abbrev pub attr_text : List Attr → ℕ → Bool → List ℕ → List ℕ
attr_text attrs number fits words = unless fits (rename_note attrs number) ++ whole_line (attr_parts fits words AnyText)

-- what is written of the column at a place, whose text is there
abbrev pub column_text : Sheet → ℕ → Option Attr → List ℕ
column_text sheet place None = []
column_text sheet place (Some attr) =
    let fits = names_column (take place sheet.table.attrs) attr.name in
    attr_text sheet.table.attrs (place + 1) fits attr.name ++ notes_on fits attr.name (column_of sheet.rows place)

-- what is written of the first columns, so many
abbrev pub columns_text : Sheet → ℕ → List ℕ
columns_text sheet zero = []
columns_text sheet (suc place) = columns_text sheet place ++ column_text sheet place (slice_get sheet.table.attrs place)

-- ---- tables

-- the table has the name of one before it
abbrev pub has_sheet : List Sheet → List ℕ → Bool
has_sheet before words = list_any (λ (s : Sheet). bytes_eq s.table.name words) before

abbrev pub table_note : List ℕ
table_note = comment (codes "a table above has this name: choose another")

-- `table NAME FILE`, where no table above has that name
abbrev pub head_parts : Bool → Table → List Part
head_parts fits table = name (codes "table") ∷ Space ∷ named fits table.name ∷ Space ∷ text table.file ∷ []

abbrev pub head_text : Bool → Table → List ℕ
head_text fits table = unless fits table_note ++ whole_line (head_parts fits table)

abbrev pub sheet_text : List Sheet → Sheet → List ℕ
sheet_text before sheet =
    head_text (not (has_sheet before sheet.table.name)) sheet.table ++ columns_text sheet (length sheet.table.attrs)

-- what is written of sheets behind those before
abbrev pub draft_behind : List Sheet → List Sheet → List ℕ
draft_behind before [] = []
draft_behind before (sheet ∷ sheets) = sheet_text before sheet ++ draft_behind (before ++ sheet ∷ []) sheets

-- the draft
unfoldable pub draft_of : List Sheet → List ℕ
draft_of sheets = draft_behind [] sheets
