-- The names of a question.
use Rattle.std.proofs.Common.{ℕ, ◌<◌, List, [], ◌∷◌, length, sym, ◌∙◌}
use Rattle.schema_core.specs.Lookups.{attrs_at}
use Rattle.schema_core.specs.Schemas.{IsValidSchema}
use Rattle.schema_core.specs.declared.schema.Schema.{Schema}
use Rattle.case_tree.specs.declared.clauses.Literal.{Literal}
use Rattle.rule_model.specs.Books.{Book, book_deps, IsBook}
use Rattle.rule_model.specs.Rules.{IsValidDep}
use Rattle.rule_model.specs.declared.dep.Dep.{Dep}
use Rattle.rule_parser.proofs.Numbered.{attrs_at-distinct}
use Rattle.cell_values.specs.Layout.{var_cells}
use Rattle.cell_values.specs.TableRules.{Rule, rules_with}
use Rattle.cell_values.specs.Values.{occurring}
use Rattle.cell_values.proofs.Bounds.{cells_count, cells_follow}
use Rattle.cell_values.proofs.Tables.{attrs_valid}
use Rattle.cfd_consistency.specs.Question.{question as question_of_one}
use Rattle.cfd_implication.specs.Question.{question as question_of_two}
use Rattle.cert_text.specs.declared.answers.Kind.{Kind}
use Rattle.cert_text.specs.declared.answers.Kind.TheVariants.{Consistency, Implication}
use Rattle.cert_check.specs.Names.{names_of}
use Rattle.cert_check.specs.Shown.{asks_consistency, asks_from, asks_implication}
use Rattle.cert_check.proofs.Fitting.{count_vars, cells_named, tuples_in}
use Rattle.cert_check.proofs.NamesApart.{var_back, cell_back}
use Rattle.cert_check.proofs.NodesBack.{AreNamesOf}
use Rattle.cert_check.proofs.NumberedNames.{numbered}

names_are : (kind : Kind) (schema : Schema) (table : ℕ) → IsValidSchema schema → table < length schema.tables → (rules : List Rule) (clauses : List (List Literal))
    → AreNamesOf (record { cells = var_cells (tuples_in kind) 0 (occurring (attrs_at schema table) rules); clauses = clauses }) (names_of kind (attrs_at schema table) (occurring (attrs_at schema table) rules))
names_are kind schema table valid within rules clauses =
    let attrs = attrs_at schema table in
    let values = occurring attrs rules in
    let are = numbered attrs rules (attrs_valid schema table valid) (attrs_at-distinct schema table valid within) in
    record {
      follow = cells_follow (tuples_in kind) 0 values;
      vars = count_vars kind attrs values ∙ sym (cells_count (tuples_in kind) 0 values);
      cells = cells_named kind attrs 0 values;
      var_back = var_back kind attrs values are;
      cell_back = cell_back kind attrs values are;
    }

-- those of the question whether the dependencies of a table are consistent
pub names_of_one : (rules : Book) → IsBook rules → (table : ℕ) → table < length rules.schema.tables → AreNamesOf (asks_consistency rules table).set (asks_consistency rules table).names
unfolding question_of_one
names_of_one rules good table within = names_are Consistency rules.schema table good.schema within (rules_with table (book_deps rules) []) (asks_consistency rules table).set.clauses

-- and of the question whether they imply one more
pub names_from : (schema : Schema) (deps : List Dep) (dep : Dep) → IsValidSchema schema → IsValidDep schema dep → AreNamesOf (asks_from schema deps dep).set (asks_from schema deps dep).names
unfolding question_of_two
names_from schema deps dep valid dep_valid = names_are Implication schema dep.table valid dep_valid.table (rules_with dep.table deps (dep ∷ [])) (asks_from schema deps dep).set.clauses

pub names_of_two : (rules : Book) → IsBook rules → (dep : Dep) → IsValidDep rules.schema dep → AreNamesOf (asks_implication rules dep).set (asks_implication rules dep).names
names_of_two rules good dep valid = names_from rules.schema (book_deps rules) dep good.schema valid
