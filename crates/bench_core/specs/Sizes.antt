-- How much a state holds: its rows, and the cells that indexes of these rows have.
use Rattle.std.specs.Prelude.{ℕ, ◌+◌, ◌-◌, ◌*◌, ◌^◌, ◌==◌, nat_eq, nat_lt, nat_le, not, ◌&&◌, ◌||◌, Bool, min, if◌then◌else◌, List, [], ◌∷◌, length, map, filter, sum_by}
use Rattle.std.specs.List.{enumerate_from}
use Rattle.std.specs.Cmp.Lexicographic.{pointwise}
use Rattle.text_lists.specs.declared.limits.Limits.{Limits}
use Rattle.rule_model.specs.Books.{Book, book_deps, book_cinds, book_edits}
use Rattle.rule_model.specs.declared.dep.Dep.{Dep}
use Rattle.rule_model.specs.declared.cind.Cind.{Cind}
use Rattle.rule_model.specs.declared.edit_rule.EditRule.{EditRule}
use Rattle.bench_core.specs.State.{TableState, State}

-- the rows of all tables together
abbrev pub total_rows : State → ℕ
total_rows state = sum_by (λ (table : TableState). length table.rows) state

-- ---- what a row weighs

-- the cells that a row of a table has in the index of a dependency: two more than the attributes on its left
abbrev pub dep_weight : ℕ → Dep → ℕ
dep_weight table dep = if dep.table == table then length dep.rule.x + 2 else 0

-- the same for a side of an inclusion dependency that stands on a table: its key and its pattern count
abbrev pub side_weight : ℕ → ℕ → List ℕ → List ℕ → ℕ
side_weight table stands_on key pattern = if stands_on == table then length key + length pattern + 2 else 0

abbrev pub cind_weight : ℕ → Cind → ℕ
cind_weight table cind = side_weight table cind.left cind.rule.x cind.rule.xp + side_weight table cind.right cind.rule.y cind.rule.yp

-- the columns of a master table in which an editing rule looks values up
abbrev pub columns_of : EditRule → ℕ × List ℕ
columns_of rule = (rule.master, rule.xm)

abbrev pub same_columns : ℕ × List ℕ → ℕ × List ℕ → Bool
same_columns one other = one.0 == other.0 && pointwise nat_eq one.1 other.1

-- each item once, where it appears first
abbrev pub distinct_by : {X : Type 0} → (X → X → Bool) → List X → List X
distinct_by same [] = []
distinct_by same (x ∷ xs) = x ∷ filter (λ y. not (same x y)) (distinct_by same xs)

-- the column lists of the editing rules, each once: (k, one) and (one, k) are two
abbrev pub column_lists : List EditRule → List (ℕ × List ℕ)
column_lists edits = distinct_by same_columns (map columns_of edits)

abbrev pub columns_weight : ℕ → ℕ × List ℕ → ℕ
columns_weight table columns = if columns.0 == table then length columns.1 + 2 else 0

-- the cells that each row of a table has in all indexes
abbrev pub weight : Book → ℕ → ℕ
weight rules table =
    sum_by (dep_weight table) (book_deps rules)
    + sum_by (cind_weight table) (book_cinds rules)
    + sum_by (columns_weight table) (column_lists (book_edits rules))

-- the weight, which stops at the last number of its type
abbrev pub stopped_weight : Book → ℕ → ℕ
stopped_weight rules table = min (weight rules table) (2 ^ 64 - 1)

-- ---- cells

-- the cells of all indexes: over the tables, rows times weight
abbrev pub total_cells : Book → State → ℕ
total_cells rules state = sum_by (λ (at : ℕ × TableState). length at.1.rows * weight rules at.0) (enumerate_from 0 state)

-- there are more rows, or more cells, than the limits say
abbrev pub is_over : Book → Limits → State → Bool
is_over rules limits state = nat_lt limits.rows (total_rows state) || nat_lt limits.index_cells (total_cells rules state)

-- one more row of the numbered table makes no more rows and no more cells than the limits say
abbrev pub has_room : Book → Limits → State → ℕ → Bool
has_room rules limits state table = nat_le (total_rows state + 1) limits.rows && nat_le (total_cells rules state + weight rules table) limits.index_cells
