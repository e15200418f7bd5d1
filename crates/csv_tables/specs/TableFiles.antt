-- What a table file holds: its first fault, or the rows in the order of the schema. All of it is said over the list of
-- the file's records, the first of which is the header and has the number 0.
use Rattle.std.specs.Prelude.{◌==◌, ◌+◌, if◌then◌else◌, ℕ, List, [], ◌∷◌, ◌++◌, not, length, map, nat_lt, slice_get, unwrap_or, position, find, is_none, is_some, Option, Some, None, option_map, option_and_then, Result, Ok, Err}
use Rattle.std.specs.List.{list_all, list_any}
use Rattle.std.specs.Option.{option_or}
use Rattle.std.specs.Str.{bytes_eq, is_utf8}
use Rattle.schema_core.specs.Schemas.{admits, attr_place}
use Rattle.text_lists.specs.declared.limits.Limits.{Limits}
use Rattle.schema_core.specs.declared.schema.Attr.{Attr}
use Rattle.schema_core.specs.declared.schema.Table.{Table}
use Rattle.csv_tables.specs.Records.{file_records}
use Rattle.csv_tables.specs.declared.fault.TableFault.{TableFault}
use Rattle.csv_tables.specs.declared.fault.TableFault.TheVariants as fault

-- the place of the first column of that name
abbrev pub column_place : List (List ℕ) → List ℕ → Option ℕ
column_place columns name = position (λ (c : List ℕ). bytes_eq c name) columns

-- from left to right, the first column that is no attribute of the table, or that stood among those before it
abbrev pub column_fault : Table → List (List ℕ) → List (List ℕ) → Option TableFault
column_fault table before [] = None
column_fault table before (column ∷ rest) =
    if not (is_some (attr_place table column)) then Some (fault.HeaderColumn column)
    else if is_some (column_place before column) then Some (fault.HeaderRepeats column)
    else column_fault table (before ++ (column ∷ [])) rest

-- the first attribute, in the order of the schema, that has no column
abbrev pub lacking_fault : List Attr → List (List ℕ) → Option TableFault
lacking_fault attrs header =
    option_map (λ (a : Attr). fault.HeaderLacks a.name) (find (λ (a : Attr). is_none (column_place header a.name)) attrs)

-- the first fault of a header
abbrev pub header_fault : Table → List (List ℕ) → Option TableFault
header_fault table header =
    if not (list_all is_utf8 header) then Some (fault.NotUtf8 0)
    else option_or (column_fault table [] header) (lacking_fault table.attrs header)

-- the field under the column of that name, and the empty text where there is none
abbrev pub field_of : List (List ℕ) → List (List ℕ) → List ℕ → List ℕ
field_of header fields name = unwrap_or (option_and_then (slice_get fields) (column_place header name)) []

-- the fields of a record in the order of the attributes
abbrev pub row_of : List Attr → List (List ℕ) → List (List ℕ) → List (List ℕ)
row_of attrs header fields = map (λ (a : Attr). field_of header fields a.name) attrs

-- the first fault of the record of that number that shows without the table
abbrev pub text_fault : Limits → ℕ → ℕ → List (List ℕ) → Option TableFault
text_fault limits width number fields =
    if nat_lt limits.rows number then Some (fault.RowsFull number)
    else if not (length fields == width) then Some (fault.Width number)
    else if not (list_all is_utf8 fields) then Some (fault.NotUtf8 number)
    else if list_any (λ (f : List ℕ). nat_lt limits.cell_bytes (length f)) fields then Some (fault.TextTooLong number)
    else None

-- the first attribute, in the order of the schema, whose domain lacks the record's field
abbrev pub domain_fault : List Attr → List (List ℕ) → ℕ → List (List ℕ) → Option TableFault
domain_fault attrs header number fields =
    option_map (λ (a : Attr). fault.NotInDomain number a.name) (find (λ (a : Attr). not (admits a.domain (field_of header fields a.name))) attrs)

-- the first fault of the record of that number
abbrev pub record_fault : Table → Limits → List (List ℕ) → ℕ → List (List ℕ) → Option TableFault
record_fault table limits header number fields =
    option_or (text_fault limits (length header) number fields) (domain_fault table.attrs header number fields)

-- the first fault of the records from that number on
abbrev pub records_fault : Table → Limits → List (List ℕ) → ℕ → List (List (List ℕ)) → Option TableFault
records_fault table limits header number [] = None
records_fault table limits header number (fields ∷ rest) =
    option_or (record_fault table limits header number fields) (records_fault table limits header (number + 1) rest)

-- the first fault of a file's records
abbrev pub file_fault : Table → Limits → List (List (List ℕ)) → Option TableFault
file_fault table limits [] = Some fault.NoHeader
file_fault table limits (header ∷ rest) = option_or (header_fault table header) (records_fault table limits header 1 rest)

-- the rows of a file's records
abbrev pub file_rows : Table → List (List (List ℕ)) → List (List (List ℕ))
file_rows table [] = []
file_rows table (header ∷ rest) = map (row_of table.attrs header) rest

-- the rows, unless there is a fault
abbrev pub rows_unless : Option TableFault → List (List (List ℕ)) → Result (List (List (List ℕ))) TableFault
rows_unless None rows = Ok rows
rows_unless (Some first) rows = Err first

-- what the bytes of a table file spell: the rows of the table, or the first fault
abbrev pub table_of : Table → Limits → List ℕ → Result (List (List (List ℕ))) TableFault
table_of table limits bytes =
    rows_unless (file_fault table limits (file_records bytes)) (file_rows table (file_records bytes))
