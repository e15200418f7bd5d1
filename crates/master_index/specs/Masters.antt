-- What a master index is: the lists of columns that it was made with, and the rows of master tables.
use Rattle.std.specs.Prelude.{◌≡◌, ℕ, ◌<◌, ◌==◌, List, Option, Some, None, map, length, slice_get, refl, All, IsSomeAnd, count_by}
use Rattle.std.specs.Ordering.{nat_cmp, on, then_cmp}
use Rattle.std.specs.declared.cmp.Ordering.{Ordering}
use Rattle.std.specs.FinMap as finite
use Rattle.std.specs.Option.{option_map_or}
use Rattle.std.specs.Coded.{Coded, code_by, coded×, coded_list, coded_ℕ}
use Rattle.master_index.specs.declared.column_list.ColumnList.{ColumnList}

-- a row is named by its table and its id
abbrev pub RowName : Type 0
RowName = ℕ × ℕ

-- by tables, and by ids within one
abbrev pub row_name_cmp : RowName → RowName → Ordering
row_name_cmp = then_cmp (on (λ name. name.0) nat_cmp) (on (λ name. name.1) nat_cmp)

-- tuples by the names of their rows
abbrev pub MasterRows : Type 0
MasterRows = finite.FinMap row_name_cmp (List ℕ)

pub record Masters : Type 0 where
  pub lists : List ColumnList
  pub rows : MasterRows

-- the tuple has these ids in these columns
abbrev pub HasIds : List ℕ → List ℕ → List ℕ → Type 0
HasIds tuple columns ids = map (slice_get tuple) columns ≡ map Some ids

-- a row of the table, with these ids in these columns
abbrev pub IsRowWith : MasterRows → ℕ → List ℕ → List ℕ → ℕ → Type 0
IsRowWith rows table columns ids row = IsSomeAnd (finite.get rows (table, row)) (λ tuple. HasIds tuple columns ids)

-- the id of a row in a column
abbrev pub id_at : MasterRows → ℕ → ℕ → ℕ → Option ℕ
id_at rows table row column = option_map_or (λ tuple. slice_get tuple column) (finite.get rows (table, row)) None

-- the tuple reaches each column of each list of the table
abbrev pub IsWideFor : List ColumnList → ℕ → List ℕ → Type 0
IsWideFor lists table tuple = All (λ list. list.master ≡ table → All (λ column. column < length tuple) list.columns) lists

-- how many lists are of the table
abbrev pub lists_of : List ColumnList → ℕ → ℕ
lists_of lists table = count_by (λ list. table == list.master) lists

abbrev pub column_list_code : Coded ColumnList
column_list_code = code_by (ℕ × List ℕ) (coded× coded_ℕ (coded_list coded_ℕ)) (λ l. (l.master, l.columns)) (λ p. record { master = p.0; columns = p.1 }) (λ _. refl)

abbrev pub masters_code : Coded Masters
masters_code =
    code_by
    (List ColumnList × MasterRows)
    (coded× (coded_list column_list_code) (finite.code (coded× coded_ℕ coded_ℕ) (coded_list coded_ℕ)))
    (λ m. (m.lists, m.rows))
    (λ p. record { lists = p.0; rows = p.1 })
    (λ _. refl)
