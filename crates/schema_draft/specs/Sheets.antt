-- A table file by itself, under no schema: the table that its header names, and its rows as they stand.
use Rattle.std.specs.Prelude.{ℕ, ◌+◌, ◌-◌, ◌^◌, min, List, [], ◌∷◌, length, map, not, if◌then◌else◌, Option, Some, None, Result, Ok, Err}
use Rattle.std.specs.List.{list_all}
use Rattle.std.specs.Option.{option_or}
use Rattle.std.specs.Str.{is_utf8}
use Rattle.text_lists.specs.declared.limits.Limits.{Limits}
use Rattle.schema_core.specs.declared.schema.Attr.{Attr}
use Rattle.schema_core.specs.declared.schema.Domain.TheVariants.{AnyText}
use Rattle.schema_core.specs.declared.schema.Table.{Table}
use Rattle.csv_tables.specs.Records.{file_records}
use Rattle.csv_tables.specs.TableFiles.{text_fault}
use Rattle.csv_tables.specs.declared.fault.TableFault.{TableFault}
use Rattle.csv_tables.specs.declared.fault.TableFault.TheVariants as fault
use Rattle.schema_draft.specs.declared.sheet.Sheet.{Sheet}

-- ---- what is wrong with a file under any schema

-- the record of that number has a field that is no text
abbrev pub unless_texts : ℕ → List (List ℕ) → Option TableFault
unless_texts number fields = if not (list_all is_utf8 fields) then Some (fault.NotUtf8 number) else None

-- the first fault of the records from that number on, below a header of that many columns
abbrev pub texts_fault : Limits → ℕ → ℕ → List (List (List ℕ)) → Option TableFault
texts_fault limits width number [] = None
texts_fault limits width number (fields ∷ rest) = option_or (text_fault limits width number fields) (texts_fault limits width (number + 1) rest)

-- the fault of the first of a file's records, the header
abbrev pub header_fault : List (List (List ℕ)) → Option TableFault
header_fault [] = Some fault.NoHeader
header_fault (header ∷ rest) = unless_texts 0 header

-- the first fault of a file's records, of which the first is the header and has the number 0
abbrev pub sheet_fault : Limits → List (List (List ℕ)) → Option TableFault
sheet_fault limits [] = Some fault.NoHeader
sheet_fault limits (header ∷ rest) = option_or (unless_texts 0 header) (texts_fault limits (length header) 1 rest)

-- ---- what it holds

-- an attribute for each name, with any text for a value
abbrev pub any_texts : List (List ℕ) → List Attr
any_texts names = map (λ name. record { name = name; domain = AnyText }) names

-- the table with an attribute for each column of the header, and the other records
abbrev pub sheet_under : Table → List (List (List ℕ)) → Sheet
sheet_under table [] = record { table = table; rows = [] }
sheet_under table (header ∷ rows) = record { table = record table { attrs = any_texts header }; rows = rows }

abbrev pub sheet_unless : Option TableFault → Sheet → Result Sheet TableFault
sheet_unless None sheet = Ok sheet
sheet_unless (Some first) sheet = Err first

-- what the bytes of a file spell: the sheet of that table, or the first fault
abbrev pub sheet_of : Table → Limits → List ℕ → Result Sheet TableFault
sheet_of table limits bytes = sheet_unless (sheet_fault limits (file_records bytes)) (sheet_under table (file_records bytes))

-- ---- one record

-- the texts of a record, where each of its fields is UTF-8
abbrev pub text_record : Option (List (List ℕ)) → Option (List (List ℕ))
text_record None = None
text_record (Some fields) = if list_all is_utf8 fields then Some fields else None

-- how many records a file has, which stops at the last number of its type
abbrev pub record_count : List ℕ → ℕ
record_count bytes = min (length (file_records bytes)) (2 ^ 64 - 1)
