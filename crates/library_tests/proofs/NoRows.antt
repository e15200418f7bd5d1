-- A list of no rows for each table.
use Rattle.std.proofs.Common.{◌≡◌, ℕ, ◌+◌, ◌<◌, List, [], ◌∷◌, ◌++◌, length, take, get_or, All}
use Rattle.std.specs.List.{AllZip}
use Rattle.std.proofs.lemmas.List.{take_more}
use Rattle.std.proofs.lemmas.List.Elements.{All-nil}
use Rattle.std.proofs.lemmas.Slice.Zip.{all_zipped_more}
use Rattle.schema_core.specs.Rows.{IsRowOf}
use Rattle.schema_core.specs.declared.schema.Table.{Table}
use Rattle.bench_core.specs.Loading.{Tuples}

-- one more table
pub no_rows-more : (tables : List Table) (all : List Tuples) (i : ℕ) (table : Table) → i < length tables → table ≡ get_or tables i table
    → ((cell_bytes : ℕ) → AllZip (λ (table : Table) rows. All (IsRowOf table.attrs cell_bytes) rows) (take i tables) all)
    → (cell_bytes : ℕ) → AllZip (λ (table : Table) rows. All (IsRowOf table.attrs cell_bytes) rows) (take (i + 1) tables) (all ++ [] ∷ [])
no_rows-more tables all i table within is so_far cell_bytes =
    let fits : Table → Tuples → Type 0 = λ table rows. All (IsRowOf table.attrs cell_bytes) rows in
    rw (take_more tables i table within, ← is) (all_zipped_more fits (take i tables) all table [] (so_far cell_bytes) (All-nil (IsRowOf table.attrs cell_bytes)))
