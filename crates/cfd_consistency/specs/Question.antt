-- The question whether dependencies are consistent, as clauses about one tuple.
use Rattle.std.specs.Prelude.{◌≡◌, ℕ, ◌<◌, Bool, true, false, List, [], length, map, filter}
use Rattle.std.specs.List.{flat_map}
use Rattle.cfd_semantics.specs.declared.pattern.Pattern.{Pattern}
use Rattle.cfd_semantics.specs.declared.pattern.Pattern.TheVariants.{Any, Is, In, NotIn}
use Rattle.cfd_semantics.specs.declared.dependency.TableauRow.{TableauRow}
use Rattle.schema_core.specs.Lookups.{attrs_at}
use Rattle.schema_core.specs.declared.schema.Attr.{Attr}
use Rattle.rule_model.specs.Books.{Book, IsBook, book_deps}
use Rattle.case_tree.specs.declared.clauses.Literal.{Literal}
use Rattle.case_tree.specs.CaseTree.{ClauseSet}
use Rattle.cell_values.specs.declared.which.Which.TheVariants.{Only}
use Rattle.cell_values.specs.declared.which.TupleCount.TheVariants.{One}
use Rattle.cell_values.specs.declared.values.CellValues.{CellValues}
use Rattle.cell_values.specs.Layout.{var_cells}
use Rattle.cell_values.specs.Readings.{tuple_of}
use Rattle.cell_values.specs.RowClauses.{alone}
use Rattle.cell_values.specs.TableRules.{Rule, rules_with}
use Rattle.cell_values.specs.Values.{AreFew, occurring}

-- the cell asks something
abbrev pub asks : Pattern (List ℕ) → Bool
asks Any = false
asks (Is constant) = true
asks (In members) = true
asks (NotIn members) = true

-- a clause for each tableau row that asks something on the right
abbrev pub rule_clauses : List CellValues → Rule → List (List Literal)
rule_clauses values rule = map (alone values Only rule) (filter (λ (row : TableauRow (List ℕ)). asks row.a) rule.rows)

abbrev pub question_of : List CellValues → List Rule → ClauseSet
question_of values rules = record { cells = var_cells One 0 values; clauses = flat_map (rule_clauses values) rules }

-- the question of the dependencies of a table
abbrev pub table_question : List Attr → List Rule → ClauseSet
table_question attrs rules = question_of (occurring attrs rules) rules

unfoldable pub question : Book → ℕ → ClauseSet
question rules table = table_question (attrs_at rules.schema table) (rules_with table (book_deps rules) [])

-- the values of the attributes that occur in the dependencies of a table
abbrev pub table_values : Book → ℕ → List CellValues
table_values rules table = occurring (attrs_at rules.schema table) (rules_with table (book_deps rules) [])

-- the tuple that an assignment of its variables stands for
abbrev pub stands_for : Book → ℕ → (ℕ → Bool) → List (List ℕ)
stands_for rules table truth = tuple_of Only (attrs_at rules.schema table) (table_values rules table) truth

-- ---- a question that is made once

-- what is asked: whether the dependencies of a table of a book are consistent
pub record AskedTable : Type 0 where
  pub rules : Book
  pub table : ℕ

-- its values and its clauses were made for it, and the values are few enough for machine numbers
pub record IsMadeFor (rules : Book) (table : ℕ) (values : List CellValues) (clauses : ClauseSet) : Type 0 where
  pub book : IsBook rules
  pub there : table < length rules.schema.tables
  pub valued : values ≡ table_values rules table
  pub few : AreFew values
  pub asked : clauses ≡ question rules table
