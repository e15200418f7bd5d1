-- The file of a list of rows, as the crate csv writes it by default.
use Rattle.std.specs.Prelude.{◌≡◌, ◌≤◌, ◌∷◌, ℕ, List, length, All, flat_map, false}
use Rattle.csv.specs.Writing.{default_writer, fields_written, has_written, row_text, writer_setup}
use Rattle.csv.specs.declared.writer.Writer.{Writer}
use Rattle.schema_core.specs.Schemas.{names_of_attrs}
use Rattle.text_lists.specs.declared.limits.Limits.{Limits}
use Rattle.schema_core.specs.declared.schema.Attr.{Attr}
use Rattle.schema_core.specs.declared.schema.Table.{Table}
use Rattle.schema_core.specs.Rows.{IsRowOf}

-- the text of records, one after the other
abbrev pub records_text : List (List (List ℕ)) → List ℕ
records_text records = flat_map (row_text default_writer) records

-- the file of a table's rows: the names of the attributes in the order of the schema, and then the rows
abbrev pub table_text : List Attr → List (List (List ℕ)) → List ℕ
table_text attrs rows = records_text (names_of_attrs attrs ∷ rows)

-- rows that a table may have under these limits
pub record AreRowsOf (table : Table) (limits : Limits) (rows : List (List (List ℕ))) : Type 0 where
  pub each : All (IsRowOf table.attrs limits.cell_bytes) rows
  pub few : length rows ≤ limits.rows

-- a writer with the crate's defaults that stands between two records
pub record StandsBetween {W : Type 0} (w : Writer W) : Type 0 where
  pub setup : writer_setup w ≡ default_writer
  pub fields : fields_written w ≡ 0
  pub clean : has_written w ≡ false
