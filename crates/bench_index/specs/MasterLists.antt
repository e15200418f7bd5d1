-- The lists of master columns in which the editing rules of a book look values up.
use Rattle.std.specs.Prelude.{nat_eq, ◌==◌, ◌&&◌, not, Bool, List, [], ◌∷◌, map, filter}
use Rattle.std.specs.Cmp.Lexicographic.{pointwise}
use Rattle.rule_model.specs.declared.edit_rule.EditRule.{EditRule}
use Rattle.rule_model.specs.Books.{Book, book_edits}
use Rattle.master_index.specs.declared.column_list.ColumnList.{ColumnList}

-- where an editing rule looks values up: its master table, and the matched columns of it in order
abbrev pub columns_of : EditRule → ColumnList
columns_of rule = record { master = rule.master; columns = rule.xm }

abbrev pub is_same_list : ColumnList → ColumnList → Bool
is_same_list one other = one.master == other.master && pointwise nat_eq one.columns other.columns

-- each list once, where it appears first
abbrev pub each_once : List ColumnList → List ColumnList
each_once [] = []
each_once (list ∷ lists) = list ∷ filter (λ other. not (is_same_list list other)) (each_once lists)

-- the lists of the editing rules, each once: columns in another order are another list
abbrev pub master_lists : Book → List ColumnList
master_lists rules = each_once (map columns_of (book_edits rules))
