-- The rows of each table of a state: their ids, and their texts.
use Rattle.std.specs.Prelude.{ℕ, List, map}
use Rattle.bench_core.specs.State.{Row, State, TableState}
use Rattle.project_flaws.specs.declared.rows.TableRows.{TableRows}

abbrev pub ids_in : List Row → List ℕ
ids_in rows = map (λ (row : Row). row.0) rows

abbrev pub texts_in : List Row → List (List (List ℕ))
texts_in rows = map (λ (row : Row). row.1) rows

abbrev pub parted : List Row → TableRows
parted rows = record { ids = ids_in rows; texts = texts_in rows }

abbrev pub table_rows : TableState → TableRows
table_rows table = parted table.rows

abbrev pub all_rows : State → List TableRows
all_rows state = map table_rows state
