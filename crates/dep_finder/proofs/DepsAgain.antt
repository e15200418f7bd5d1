-- The declarations of dependencies stand for these dependencies.
use Rattle.std.proofs.Common.{◌≡◌, ℕ, ◌<◌, List, [], ◌∷◌, ◌++◌, length, map, Some, All, refl, sym, ap, subst, ◌∙◌}
use Rattle.std.specs.Prelude.{slice_get}
use Rattle.std.specs.Option.{option_map_or}
use Rattle.std.specs.List.{flat_map}
use Rattle.std.proofs.lemmas.List.Elements.{All-head, All-tail}
use Rattle.std.proofs.lemmas.Option.{slice_get_within}
use Rattle.schema_core.specs.Lookups.{attr_number, attr_numbers, attrs_at, attrs_of, table_number}
use Rattle.schema_core.specs.Schemas.{IsValidSchema}
use Rattle.schema_core.specs.declared.schema.Attr.{Attr}
use Rattle.schema_core.specs.declared.schema.Schema.{Schema}
use Rattle.schema_core.specs.declared.schema.Table.{Table}
use Rattle.cfd_semantics.specs.declared.dependency.TableauRow.{TableauRow}
use Rattle.rule_model.specs.Rules.{AreAttrsOf, deps_of, row_at}
use Rattle.rule_model.specs.declared.dep.Dep.{Dep}
use Rattle.rule_parser.specs.RuleText.{attr_name, table_name}
use Rattle.rule_parser.proofs.Numbered.{attr_number-name, attrs_at-distinct, table_number-name}
use Rattle.dep_finder.specs.Deps.{IsOver}
use Rattle.dep_finder.specs.FoundText.{decl_of, row_decl}
use Rattle.dep_finder.specs.Valid.{AreOfTable}

numbers_again : (attrs : List Attr) (schema : Schema) (table : ℕ) → IsValidSchema schema → table < length schema.tables → attrs_at schema table ≡ attrs → (x : List ℕ) → AreAttrsOf attrs x → attr_numbers attrs (map (attr_name attrs) x) ≡ x
numbers_again attrs schema table valid inside same [] within = refl
numbers_again attrs schema table valid inside same (attr ∷ x) within =
    let distinct = attrs_at-distinct schema table valid inside in
    let here = attr_number-name (attrs_at schema table) attr distinct (subst (λ (these : List Attr). attr < length these) (sym same) (All-head (λ (attr : ℕ). attr < length attrs) attr x within)) in
    let head : attr_number attrs (attr_name attrs attr) ≡ attr = ap (λ (these : List Attr). attr_number these (attr_name these attr)) (sym same) ∙ here in
    let rest = numbers_again attrs schema table valid inside same x (All-tail (λ (attr : ℕ). attr < length attrs) attr x within) in
    λ i. head i ∷ rest i

rows_again : (rows : List (TableauRow (List ℕ))) → map (row_at 0) (map row_decl rows) ≡ rows
rows_again [] = refl
rows_again (row ∷ rows) = ap (λ (rs : List (TableauRow (List ℕ))). row ∷ rs) (rows_again rows)

dep_with : List ℕ → ℕ → List ℕ → ℕ → List (TableauRow (List ℕ)) → Dep
dep_with name table x a rows = record { name = name; table = table; rule = record { x = x; a = a; rows = rows } }

dep_again : (schema : Schema) (table : Table) (dep : Dep) → IsValidSchema schema → slice_get schema.tables dep.table ≡ Some table → IsOver table.attrs dep → deps_of schema (decl_of table dep) ≡ dep ∷ []
unfolding deps_of dep_with
dep_again schema table dep valid there over =
    let inside : dep.table < length schema.tables = slice_get_within schema.tables dep.table table there in
    let name : table_name schema dep.table ≡ table.name = ap (λ found. option_map_or (λ (t : Table). t.name) found []) there in
    let attrs : attrs_at schema dep.table ≡ table.attrs = ap (λ found. option_map_or (λ (t : Table). t.attrs) found []) there in
    let number : table_number schema table.name ≡ dep.table = ap (table_number schema) (sym name) ∙ table_number-name schema dep.table valid inside in
    let its : attrs_of schema table.name ≡ table.attrs = ap (attrs_at schema) number ∙ attrs in
    let x = ap (λ (these : List Attr). attr_numbers these (map (attr_name table.attrs) dep.rule.x)) its ∙ numbers_again table.attrs schema dep.table valid inside attrs dep.rule.x over.x in
    let distinct = attrs_at-distinct schema dep.table valid inside in
    let right = attr_number-name (attrs_at schema dep.table) dep.rule.a distinct (subst (λ (these : List Attr). dep.rule.a < length these) (sym attrs) over.a) in
    let a = ap (λ (these : List Attr). attr_number these (attr_name table.attrs dep.rule.a)) its
    ∙ ap (λ (these : List Attr). attr_number these (attr_name these dep.rule.a)) (sym attrs) ∙ right in
    λ i. dep_with dep.name (number i) (x i) (a i) (rows_again dep.rule.rows i) ∷ []

pub deps_again : (schema : Schema) (table : Table) (found : List Dep) → IsValidSchema schema → AreOfTable schema table found → All (IsOver table.attrs) found
    → flat_map (deps_of schema) (map (decl_of table) found) ≡ found
deps_again schema table [] valid there over = refl
deps_again schema table (dep ∷ found) valid there over =
    let Of = λ (dep : Dep). slice_get schema.tables dep.table ≡ Some table in
    let here = dep_again schema table dep valid (All-head Of dep found there) (All-head (IsOver table.attrs) dep found over) in
    let rest = deps_again schema table found valid (All-tail Of dep found there) (All-tail (IsOver table.attrs) dep found over) in
    λ i. here i ++ rest i
