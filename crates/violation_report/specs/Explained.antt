-- The lines of the list that a row has.
use Rattle.std.specs.Prelude.{ℕ, ◌==◌, ◌&&◌, Bool, false, if◌then◌else◌, List, filter, Option, Some, None, Result, Ok, Err}
use Rattle.std.specs.List.{list_any, slice_get}
use Rattle.std.specs.Option.{option_map_or}
use Rattle.schema_core.specs.Schemas.{table_place}
use Rattle.rule_model.specs.declared.dep.Dep.{Dep}
use Rattle.rule_model.specs.declared.cind.Cind.{Cind}
use Rattle.rule_model.specs.Books.{Book, book_deps, book_cinds}
use Rattle.bench_core.specs.State.{State, has_id, rows_at}
use Rattle.violation_report.specs.Listing.{listing}
use Rattle.violation_report.specs.declared.explaining.ExplainFault.{ExplainFault}
use Rattle.violation_report.specs.declared.explaining.ExplainFault.TheVariants.{UnknownTable, UnknownRow, Memory}
use Rattle.violation_report.specs.declared.line.Line.{Line}
use Rattle.violation_report.specs.declared.line.Line.TheVariants.{Single, Pair, Orphan}

-- a dependency is one of the table, and an inclusion has it on its left
abbrev pub dep_is_of : Book → ℕ → ℕ → Bool
dep_is_of rules table dep = option_map_or (λ (d : Dep). d.table == table) (slice_get (book_deps rules) dep) false

abbrev pub cind_is_of : Book → ℕ → ℕ → Bool
cind_is_of rules table cind = option_map_or (λ (c : Cind). c.left == table) (slice_get (book_cinds rules) cind) false

-- the line tells of that row of the table; a partner is only named in it
abbrev pub is_about : Book → ℕ → ℕ → Line → Bool
is_about rules table id (Single dep k row) = row == id && dep_is_of rules table dep
is_about rules table id (Pair dep k row partner) = row == id && dep_is_of rules table dep
is_about rules table id (Orphan cind k row) = row == id && cind_is_of rules table cind

-- the lines of the list that a row of a table has, in the order of the list
abbrev pub explained : Book → State → ℕ → ℕ → List Line
explained rules state table id = filter (is_about rules table id) (listing rules state)

-- the table has a row with that id
abbrev pub has_row : State → ℕ → ℕ → Bool
has_row state table id = list_any (has_id id) (rows_at state table)

-- the lines of a row of the numbered table, where the table is there and has the row
abbrev pub explained_at : Book → State → ℕ → Option ℕ → Result (List Line) ExplainFault
explained_at rules state id None = Err UnknownTable
explained_at rules state id (Some table) = if has_row state table id then Ok (explained rules state table id) else Err UnknownRow

-- the lines of a row of the named table, or why there are none to ask for
abbrev pub explanation : Book → State → List ℕ → ℕ → Result (List Line) ExplainFault
explanation rules state table id = explained_at rules state id (table_place rules.schema table)

-- what a fault tells: want of memory is no refusal
abbrev pub explain_tells : ExplainFault → Option ExplainFault
explain_tells Memory = None
explain_tells fault = Some fault
