-- How many probes of the indexes may be taken by what is told of one row.
use Rattle.std.specs.Prelude.{ℕ, ◌+◌, ◌==◌, if◌then◌else◌, List, length, sum_by}
use Rattle.std.specs.Option.{option_map_or}
use Rattle.schema_core.specs.Schemas.{table_place}
use Rattle.rule_model.specs.declared.dep.Dep.{Dep}
use Rattle.rule_model.specs.declared.cind.Cind.{Cind}
use Rattle.rule_model.specs.Books.{Book, book_deps, book_cinds}

-- the tableau rows of a rule of the table, where an inclusion is of its left one
abbrev pub dep_rows_of : ℕ → Dep → ℕ
dep_rows_of table dep = if dep.table == table then length dep.rule.rows else 0

abbrev pub cind_rows_of : ℕ → Cind → ℕ
cind_rows_of table cind = if cind.left == table then length cind.rule.rows else 0

-- One row of a table: the tableau rows of all rules of the table, whatever the rows are.
abbrev pub row_probes : Book → ℕ → ℕ
row_probes rules table = sum_by (dep_rows_of table) (book_deps rules) + sum_by (cind_rows_of table) (book_cinds rules)

-- of the named table, and nothing where there is none of that name
abbrev pub explain_probes : Book → List ℕ → ℕ
explain_probes rules name = option_map_or (row_probes rules) (table_place rules.schema name) 0
