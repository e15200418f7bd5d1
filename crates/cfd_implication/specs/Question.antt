-- The question whether dependencies imply one more, as clauses about two tuples.
use Rattle.std.specs.Prelude.{◌≡◌, ℕ, ◌+◌, Bool, List, [], ◌∷◌, ◌++◌, map, zip, All}
use Rattle.std.specs.List.{flat_map, range_with_len}
use Rattle.schema_core.specs.Lookups.{attrs_at}
use Rattle.schema_core.specs.Schemas.{IsValidSchema}
use Rattle.schema_core.specs.declared.schema.Schema.{Schema}
use Rattle.cfd_semantics.specs.declared.pattern.Pattern.{Pattern}
use Rattle.cfd_semantics.specs.declared.pattern.Pattern.TheVariants.{Any, Is, In, NotIn}
use Rattle.cfd_semantics.specs.declared.dependency.TableauRow.{TableauRow}
use Rattle.case_tree.specs.declared.clauses.Literal.{Literal}
use Rattle.case_tree.specs.CaseTree.{ClauseSet}
use Rattle.rule_model.specs.Books.{Book, book_deps}
use Rattle.rule_model.specs.Rules.{IsValidDep}
use Rattle.rule_model.specs.declared.dep.Dep.{Dep}
use Rattle.cell_values.specs.declared.which.Which.{Which}
use Rattle.cell_values.specs.declared.which.Which.TheVariants.{First, Second}
use Rattle.cell_values.specs.declared.which.TupleCount.TheVariants.{Two}
use Rattle.cell_values.specs.declared.values.CellValues.{CellValues}
use Rattle.cell_values.specs.Layout.{equal_var, value_var, var_cells}
use Rattle.cell_values.specs.Readings.{tuple_of}
use Rattle.cell_values.specs.RowClauses.{alone, meets_at, misses_at, misses_left, no, yes}
use Rattle.cell_values.specs.TableRules.{Rule, table_rules, rules_with}
use Rattle.cell_values.specs.Values.{AreFew, occurring}

module _ (cells : List CellValues) where
  -- tuples that agree both have a constant or neither has it, and tuples that both have it agree
  abbrev pub constant_clauses : ℕ → ℕ → List (List Literal)
  constant_clauses attr place =
      let equal = equal_var cells attr in
      let one = value_var First cells attr + place in
      let other = value_var Second cells attr + place in
      (no equal ∷ no one ∷ yes other ∷ []) ∷ (no equal ∷ no other ∷ yes one ∷ []) ∷ (no one ∷ no other ∷ yes equal ∷ []) ∷ []

  abbrev pub agreeing_at : CellValues → List (List Literal)
  agreeing_at cell = flat_map (constant_clauses cell.attr) (range_with_len 0 cell.constants)

  -- the tuples agree on each of these attributes, or it is false of one
  abbrev pub differ_on : List ℕ → List Literal
  differ_on attrs = map (λ attr. no (equal_var cells attr)) attrs

  -- tuples that agree on the left, and match the row there, agree on the right
  abbrev pub together : Rule → TableauRow (List ℕ) → List Literal
  together rule row = differ_on rule.x ++ misses_left cells First rule row ++ yes (equal_var cells rule.a) ∷ []

  -- Two tuples that both have a constant agree, and every text matches `_`.
  abbrev pub clauses_for : Rule → TableauRow (List ℕ) → Pattern (List ℕ) → List (List Literal)
  clauses_for rule row Any = together rule row ∷ []
  clauses_for rule row (Is constant) = alone cells First rule row ∷ alone cells Second rule row ∷ []
  clauses_for rule row (In members) = alone cells First rule row ∷ alone cells Second rule row ∷ together rule row ∷ []
  clauses_for rule row (NotIn members) = alone cells First rule row ∷ alone cells Second rule row ∷ together rule row ∷ []

  abbrev pub row_clauses : Rule → TableauRow (List ℕ) → List (List Literal)
  row_clauses rule row = clauses_for rule row row.a

  abbrev pub rule_clauses : Rule → List (List Literal)
  rule_clauses rule = flat_map (row_clauses rule) rule.rows

  -- the asked dependency: the tuples agree on the left, and the first matches the row there
  abbrev pub agree_on : ℕ → List Literal
  agree_on attr = yes (equal_var cells attr) ∷ []

  abbrev pub asked_cell : ℕ × Pattern (List ℕ) → List (List Literal)
  asked_cell (attr, Any) = []
  asked_cell (attr, Is constant) = meets_at cells First (attr, Is constant) ∷ []
  asked_cell (attr, In members) = meets_at cells First (attr, In members) ∷ []
  asked_cell (attr, NotIn members) = meets_at cells First (attr, NotIn members) ∷ []

  -- and on the right the tuples don't agree, or the first doesn't match it
  abbrev pub breaks : ℕ → Pattern (List ℕ) → List Literal
  breaks attr Any = no (equal_var cells attr) ∷ []
  breaks attr (Is constant) = misses_at cells First (attr, Is constant)
  breaks attr (In members) = no (equal_var cells attr) ∷ misses_at cells First (attr, In members)
  breaks attr (NotIn members) = no (equal_var cells attr) ∷ misses_at cells First (attr, NotIn members)

  abbrev pub asked_clauses : Rule → TableauRow (List ℕ) → List (List Literal)
  asked_clauses rule row = map agree_on rule.x ++ flat_map asked_cell (zip rule.x row.x) ++ breaks rule.a row.a ∷ []

  abbrev pub clauses_of : List Rule → Rule → List (List Literal)
  clauses_of rules asked = flat_map agreeing_at cells ++ flat_map rule_clauses rules ++ flat_map (asked_clauses asked) asked.rows

-- the values of the attributes that occur in the rules of the table or in the asked one
abbrev pub asked_values : Schema → List Dep → Dep → List CellValues
asked_values schema deps dep = occurring (attrs_at schema dep.table) (rules_with dep.table deps (dep ∷ []))

-- the question, over these
unfoldable pub question : Schema → List Dep → Dep → ClauseSet
question schema deps dep =
    let cells = asked_values schema deps dep in
    record { cells = var_cells Two 0 cells; clauses = clauses_of cells (table_rules dep.table deps) dep.rule }

-- the tuples that an assignment of its variables stands for
abbrev pub stands_for : Which → Schema → List Dep → Dep → (ℕ → Bool) → List (List ℕ)
stands_for which schema deps dep truth = tuple_of which (attrs_at schema dep.table) (asked_values schema deps dep) truth

-- what a question asks: whether dependencies over a schema imply one more
pub record AskedDep : Type 0 where
  pub schema : Schema
  pub deps : List Dep
  pub dep : Dep

-- whether those of a book do
abbrev pub asked_of : Book → Dep → AskedDep
asked_of rules dep = record { schema = rules.schema; deps = book_deps rules; dep = dep }

-- what a question has beside what it asks, which is valid: its values and its clauses
pub record IsMadeFor (schema : Schema) (deps : List Dep) (dep : Dep) (values : List CellValues) (clauses : ClauseSet) : Type 0 where
  pub typed : IsValidSchema schema
  pub deps_valid : All (IsValidDep schema) deps
  pub dep_valid : IsValidDep schema dep
  pub valued : values ≡ asked_values schema deps dep
  pub few : AreFew values
  pub asked : clauses ≡ question schema deps dep
