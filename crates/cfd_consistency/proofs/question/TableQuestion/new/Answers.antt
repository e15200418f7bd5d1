use Rattle.std.proofs.Common.{◌≡◌, ℕ, List, [], refl, sym, subst, ◌∙◌}
use Rattle.std.specs.List.{flat_map}
use Rattle.std.specs.declared.alloc.Global.{Global}
use Rattle.std.specs.declared.vec.Vec.{Vec}
use Rattle.rule_model.specs.Books.{Book, book_deps}
use Rattle.case_tree.specs.CaseTree.{IsWellFormed, clause_set, literals_of}
use Rattle.case_tree.specs.declared.clauses.Literal.{Literal}
use Rattle.case_tree.specs.declared.clauses.VarCell.{VarCell}
use Rattle.cell_values.specs.declared.which.TupleCount.TheVariants.{One}
use Rattle.cell_values.specs.declared.values.CellValues.{CellValues}
use Rattle.cell_values.specs.Layout.{var_cells}
use Rattle.cell_values.specs.TableRules.{Rule, rules_with}
use Rattle.cell_values.specs.Values.{AreFew}
use Rattle.cfd_consistency.specs.Question.{question, rule_clauses, table_values}
use Rattle.cfd_consistency.proofs.Questions.{question_well_formed}
use Rattle.cfd_consistency.proofs.question.TableQuestion.new.Goals as goal

-- the cells and the clauses that were made are those of the table's question
set-is : (book : Book) (table : ℕ) (rules : List Rule) (values : List CellValues) (cells : List VarCell) (clauses : List (Vec Literal Global))
    → rules ≡ rules_with table (book_deps book) [] → values ≡ table_values book table → cells ≡ var_cells One 0 values
    → literals_of clauses ≡ flat_map (rule_clauses values) rules → clause_set cells clauses ≡ question book table
unfolding question
set-is book table rules values cells clauses rules-are values-are cells-are clauses-are = rw cells-are (rw clauses-are (rw values-are (rw rules-are refl)))

pub new-clauses-requires : goal.new-clauses-requires
new-clauses-requires c =
    let book = c.args.rules.now in
    let table = c.args.table in
    let rules-are = rw c.deps.ensures.deps at (rw c.as_slice-deps.ensures at c.in_ok-of_table.ensures) in
    let values-are = rw rules-are at (rw c.schema.ensures.schema at (rw c.attrs_at-attrs.ensures at c.in_ok-values.ensures.cells)) in
    let cells-are = rw c.as_slice.ensures at c.in_ok-cells.ensures in
    let clauses-are = rw c.as_slice-2.ensures at c.in_ok-clauses.ensures in
    let is = set-is book table c.in_ok-of_table.of_table c.in_ok-values.values c.in_ok-cells.cells.items c.in_ok-clauses.clauses.items rules-are values-are cells-are clauses-are in
    subst IsWellFormed (sym is) (question_well_formed book c.schema.ensures.valid table (subst AreFew values-are c.in_ok-values.ensures.few))

pub invariant_of-result : goal.invariant_of-result
invariant_of-result c =
    let book = c.args.rules.now in
    let table = c.args.table in
    let rules-are = rw c.deps.ensures.deps at (rw c.as_slice-deps.ensures at c.in_ok-of_table.ensures) in
    let values-are = rw rules-are at (rw c.schema.ensures.schema at (rw c.attrs_at-attrs.ensures at c.in_ok-values.ensures.cells)) in
    let cells-are = rw c.as_slice.ensures at c.in_ok-cells.ensures in
    let clauses-are = rw c.as_slice-2.ensures at c.in_ok-clauses.ensures in
    let is = set-is book table c.in_ok-of_table.of_table c.in_ok-values.values c.in_ok-cells.cells.items c.in_ok-clauses.clauses.items rules-are values-are cells-are clauses-are in
    record {
      book = c.schema.ensures.valid;
      there = c.requires;
      valued = values-are;
      few = c.in_ok-values.ensures.few;
      asked = c.new-clauses.ensures ∙ is;
    }
