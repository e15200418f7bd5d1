-- The rows of tables in a list of stores: the store at a place has the rows of the table with that number.
use Rattle.std.specs.Prelude.{ℕ, ◌+◌, ◌<◌, List, [], ◌∷◌, ◌++◌, map, slice_get, IsSomeAnd}
use Rattle.std.specs.FinMap as finite
use Rattle.row_store.specs.Store.{Store, Rows}
use Rattle.master_index.specs.Masters.{RowName, MasterRows}

-- rows of tables under the names of the rows, where the first are of this table
abbrev pub named_from : ℕ → List Rows → List (RowName × List ℕ)
named_from table [] = []
named_from table (rows ∷ later) = map (λ entry. ((table, entry.0), entry.1)) (finite.entries rows) ++ named_from (table + 1) later

-- all rows of the stores
abbrev pub rows_of_tables : List Store → MasterRows
rows_of_tables stores = finite.from_entries (named_from 0 (map (λ store. store.rows) stores))

-- the table has a store in which the row can be put without memory
abbrev pub HasRoom : List Store → ℕ → ℕ → Type 0
HasRoom stores table row = IsSomeAnd (slice_get stores table) (λ store. (row < store.next) × (0 < store.spare))
