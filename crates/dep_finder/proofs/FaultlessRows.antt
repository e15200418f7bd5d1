-- A valid dependency of a table, as it is declared, passes the tests over the schema: those of names with its first row, and
-- those of rows with each of them.
use Rattle.std.proofs.Common.{◌≡◌, ℕ, ◌≤◌, Bool, true, ◌&&◌, List, [], ◌∷◌, length, map, Option, None, Some, refl, ap, ◌∙◌, subst, arith}
use Rattle.std.specs.Prelude.{slice_get, Result, Ok}
use Rattle.std.specs.List.{AllByRecursion, list_all}
use Rattle.std.specs.Option.{option_map_or, option_or}
use Rattle.std.proofs.lemmas.Bool.{and_from}
use Rattle.std.proofs.lemmas.List.Elements.{All-cons, All-nil, recursion_from_All}
use Rattle.text_lists.specs.Firsts.{first_in, first_of}
use Rattle.schema_core.specs.Lookups.{attrs_at, attrs_of}
use Rattle.schema_core.specs.Schemas.{IsValidSchema}
use Rattle.schema_core.specs.declared.schema.Schema.{Schema}
use Rattle.schema_core.specs.declared.schema.Table.{Table}
use Rattle.cfd_semantics.specs.declared.dependency.TableauRow.{TableauRow}
use Rattle.rule_model.specs.Faults.{is_as_wide, outside_in_row, repeated_in_row, schema_tests, unless}
use Rattle.rule_model.specs.Judged.{judged_dep, unless_fault}
use Rattle.rule_model.specs.Rules.{IsValidDep, IsValidRow}
use Rattle.rule_model.specs.declared.decl.CfdDecl.{CfdDecl}
use Rattle.rule_model.specs.declared.decl.CfdRow.{CfdRow}
use Rattle.rule_model.specs.declared.decl.Decl.TheVariants.{Cfd}
use Rattle.rule_model.specs.declared.dep.Dep.{Dep}
use Rattle.rule_model.specs.declared.fault.RuleFault.{RuleFault}
use Rattle.rule_model.specs.declared.fault.RuleFault.TheVariants.{WidthMismatch}
use Rattle.rule_model.proofs.Passing.{both_none, both_true, holds_if_none}
use Rattle.rule_model.proofs.ValidRules.{Passes, passes_over_schema}
use Rattle.rule_parser.specs.RuleText.{attr_name, table_name}
use Rattle.rule_parser.proofs.Judging.{cfd_of, judged_again}
use Rattle.dep_finder.specs.FoundText.{decl_of, head_of, row_decl}

-- ---- tests that find nothing

pub none_in_all : {X Y : Type 0} (test : X → Option Y) (xs : List X) → AllByRecursion (λ x. test x ≡ None) xs → first_in test xs ≡ None
none_in_all test [] none = refl
none_in_all test (x ∷ xs) none = ap (λ found. option_or found (first_in test xs)) none.0 ∙ none_in_all test xs none.1

pub none_first : {Y : Type 0} (tests : List (Option Y)) → AllByRecursion (λ test. test ≡ None) tests → first_of tests ≡ None
none_first [] none = refl
none_first (test ∷ tests) none = ap (λ found. option_or found (first_of tests)) none.0 ∙ none_first tests none.1

-- what is judged to be a dependency has no fault
no_fault : (found : Option RuleFault) (made dep : Dep) → ◌≡◌ {A = Result Dep RuleFault} (unless_fault found made) (Ok dep) → found ≡ None
no_fault None made dep e = refl
no_fault (Some fault) made dep e = absurd cc

-- ---- a declaration, row by row

abbrev with_rows : CfdDecl → List CfdRow → CfdDecl
with_rows cfd rows = record cfd { rows = rows }

-- what the tests of rows say of one of them
record RowPasses (schema : Schema) (cfd : CfdDecl) (row : CfdRow) : Type 0 where
  wide : is_as_wide cfd row ≡ true
  inside : outside_in_row (attrs_of schema cfd.table) cfd row ≡ None
  members : repeated_in_row cfd row ≡ None

row_passes : (schema : Schema) (cfd : CfdDecl) (row : CfdRow) → Passes schema (Cfd (with_rows cfd (row ∷ []))) → RowPasses schema cfd row
row_passes schema cfd row passes = record {
  wide = (both_true (is_as_wide cfd row) true (holds_if_none (is_as_wide cfd row && true) WidthMismatch passes.widths)).0;
  inside = (both_none (outside_in_row (attrs_of schema cfd.table) cfd row) None passes.inside).0;
  members = (both_none (repeated_in_row cfd row) None passes.members).0;
}

all_wide : (schema : Schema) (cfd : CfdDecl) (rows : List CfdRow) → AllByRecursion (RowPasses schema cfd) rows → list_all (is_as_wide cfd) rows ≡ true
all_wide schema cfd [] pass = refl
all_wide schema cfd (row ∷ rows) pass = and_from (is_as_wide cfd row) (list_all (is_as_wide cfd) rows) pass.0.wide (all_wide schema cfd rows pass.1)

all_inside : (schema : Schema) (cfd : CfdDecl) (rows : List CfdRow) → AllByRecursion (RowPasses schema cfd) rows → AllByRecursion (λ row. outside_in_row (attrs_of schema cfd.table) cfd row ≡ None) rows
all_inside schema cfd [] pass = tt
all_inside schema cfd (row ∷ rows) pass = (pass.0.inside, all_inside schema cfd rows pass.1)

all_members : (schema : Schema) (cfd : CfdDecl) (rows : List CfdRow) → AllByRecursion (RowPasses schema cfd) rows → AllByRecursion (λ row. repeated_in_row cfd row ≡ None) rows
all_members schema cfd [] pass = tt
all_members schema cfd (row ∷ rows) pass = (pass.0.members, all_members schema cfd rows pass.1)

-- a declaration that passes with one row passes with rows that pass
passes_with : (schema : Schema) (cfd : CfdDecl) (row : CfdRow) (rows : List CfdRow) → Passes schema (Cfd (with_rows cfd (row ∷ []))) → AllByRecursion (RowPasses schema cfd) rows → Passes schema (Cfd (with_rows cfd rows))
passes_with schema cfd row rows passes pass = record {
  tables = passes.tables;
  master = refl;
  attrs = passes.attrs;
  once = passes.once;
  matched = refl;
  outside = refl;
  widths = ap (λ (b : Bool). unless b WidthMismatch) (all_wide schema cfd rows pass);
  inside = none_in_all (outside_in_row (attrs_of schema cfd.table) cfd) rows (all_inside schema cfd rows pass);
  members = none_in_all (repeated_in_row cfd) rows (all_members schema cfd rows pass);
  fits = refl;
}

-- ---- a dependency

-- a dependency with other rows, and how it is declared with the names of the schema
abbrev dep_with : Dep → List (TableauRow (List ℕ)) → Dep
dep_with dep rows = record { name = dep.name; table = dep.table; rule = record { x = dep.rule.x; a = dep.rule.a; rows = rows } }

abbrev named : Schema → Dep → List CfdRow → CfdDecl
named schema dep rows =
    let attrs = attrs_at schema dep.table in
    record {
      name = dep.name;
      table = table_name schema dep.table;
      x = map (attr_name attrs) dep.rule.x;
      y = attr_name attrs dep.rule.a ∷ [];
      rows = rows;
    }

abbrev IsRowOfDep : Schema → Dep → TableauRow (List ℕ) → Type 0
IsRowOfDep schema dep row = IsValidRow (attrs_at schema dep.table) dep.rule.x dep.rule.a row

one_passes : (schema : Schema) (dep : Dep) (row : TableauRow (List ℕ)) → IsValidSchema schema → IsValidDep schema dep → IsRowOfDep schema dep row → Passes schema (Cfd (named schema dep (row_decl row ∷ [])))
unfolding judged_dep
one_passes schema dep row schema_valid valid is =
    let rows = All-cons (IsRowOfDep schema dep) row [] is (All-nil (IsRowOfDep schema dep)) in
    let alone : IsValidDep schema (dep_with dep (row ∷ [])) = record { table = valid.table; x = valid.x; a = valid.a; distinct = valid.distinct; rows = rows } in
    let judged = judged_again schema (dep_with dep (row ∷ [])) row schema_valid alone refl in
    passes_over_schema schema (Cfd (named schema dep (row_decl row ∷ []))) (no_fault (first_of (schema_tests schema (Cfd (cfd_of schema (dep_with dep (row ∷ [])) row)))) _ _ judged)

each_passes : (schema : Schema) (dep : Dep) (rows : List (TableauRow (List ℕ))) → IsValidSchema schema → IsValidDep schema dep → AllByRecursion (IsRowOfDep schema dep) rows
    → AllByRecursion (RowPasses schema (named schema dep [])) (map row_decl rows)
each_passes schema dep [] schema_valid valid are = tt
each_passes schema dep (row ∷ rows) schema_valid valid are =
    (row_passes schema (named schema dep []) (row_decl row) (one_passes schema dep row schema_valid valid are.0), each_passes schema dep rows schema_valid valid are.1)

rows_pass : (schema : Schema) (dep : Dep) (rows : List (TableauRow (List ℕ))) → IsValidSchema schema → IsValidDep schema dep → AllByRecursion (IsRowOfDep schema dep) rows → 1 ≤ length rows
    → Passes schema (Cfd (named schema dep (map row_decl rows)))
rows_pass schema dep [] schema_valid valid are some = absurd (omega arith)
rows_pass schema dep (row ∷ rows) schema_valid valid are some =
    passes_with schema (named schema dep []) (row_decl row) (map row_decl (row ∷ rows)) (one_passes schema dep row schema_valid valid are.0) (each_passes schema dep (row ∷ rows) schema_valid valid are)

-- the names of the schema are those of the table
same_head : (schema : Schema) (table : Table) (dep : Dep) → slice_get schema.tables dep.table ≡ Some table → named schema dep (map row_decl dep.rule.rows) ≡ head_of table dep
same_head schema table dep there =
    let name : table_name schema dep.table ≡ table.name = ap (λ found. option_map_or (λ (t : Table). t.name) found []) there in
    let attrs : attrs_at schema dep.table ≡ table.attrs = ap (λ found. option_map_or (λ (t : Table). t.attrs) found []) there in
    λ i. record {
      name = dep.name;
      table = name i;
      x = map (attr_name (attrs i)) dep.rule.x;
      y = attr_name (attrs i) dep.rule.a ∷ [];
      rows = map row_decl dep.rule.rows;
    }

pub dep_passes : (schema : Schema) (table : Table) (dep : Dep) → IsValidSchema schema → slice_get schema.tables dep.table ≡ Some table → IsValidDep schema dep → 1 ≤ length dep.rule.rows → Passes schema (decl_of table dep)
dep_passes schema table dep schema_valid there valid some =
    subst (λ (cfd : CfdDecl). Passes schema (Cfd cfd)) (same_head schema table dep there)
    (rows_pass schema dep dep.rule.rows schema_valid valid (recursion_from_All (IsRowOfDep schema dep) dep.rule.rows valid.rows) some)
