-- The attributes of a table, and the rules over it.
use Rattle.std.proofs.Common.{◌≡◌, ℕ, List, [], Option, Some, None, refl, subst}
use Rattle.std.specs.Prelude.{Contains, filter, nat_eq, slice_get}
use Rattle.std.specs.Option.{option_map_or}
use Rattle.std.specs.List.{All, AllByRecursion}
use Rattle.std.proofs.lemmas.Bool.{eq-eqb, eqb-true}
use Rattle.std.proofs.lemmas.List.Elements.{All-nil, recursion_from_All}
use Rattle.std.proofs.lemmas.Option.{slice_get_within, get_or_from_slice_get}
use Rattle.cfd_semantics.proofs.Members.{contains-map, contains_from_map}
use Rattle.cfd_semantics.proofs.SetFacts.{contains-filter, contains_from_filter}
use Rattle.schema_core.specs.Lookups.{attrs_at}
use Rattle.schema_core.specs.Schemas.{IsValidAttr, IsValidTable, IsValidSchema}
use Rattle.schema_core.specs.declared.schema.Table.{Table}
use Rattle.schema_core.specs.declared.schema.Schema.{Schema}
use Rattle.rule_model.specs.declared.dep.Dep.{Dep}
use Rattle.rule_model.specs.Rules.{IsValidDep}
use Rattle.cell_values.specs.TableRules.{Rule, rule_of, table_rules}
use Rattle.cell_values.proofs.OneTuple.{IsRuleOf}

attrs_there : (tables : List Table) (number : ℕ) (found : Option Table) → All IsValidTable tables → slice_get tables number ≡ found → All IsValidAttr (option_map_or (λ (t : Table). t.attrs) found [])
attrs_there tables number None valid e = All-nil IsValidAttr
attrs_there tables number (Some table) valid e =
    (subst IsValidTable (get_or_from_slice_get tables number table table e) (valid number table (slice_get_within tables number table e))).attrs

pub attrs_valid : (schema : Schema) (number : ℕ) → IsValidSchema schema → All IsValidAttr (attrs_at schema number)
attrs_valid schema number valid = attrs_there schema.tables number (slice_get schema.tables number) valid.tables refl

pub attrs_each : (schema : Schema) (number : ℕ) → IsValidSchema schema → AllByRecursion IsValidAttr (attrs_at schema number)
attrs_each schema number valid = recursion_from_All IsValidAttr (attrs_at schema number) (attrs_valid schema number valid)

pub rule_of_dep : (schema : Schema) (table : ℕ) (dep : Dep) → dep.table ≡ table → IsValidDep schema dep → IsRuleOf (attrs_at schema table) dep.rule
rule_of_dep schema table dep same valid =
    subst (λ n. IsRuleOf (attrs_at schema n) dep.rule) same (record { x = valid.x; a = valid.a; rows = valid.rows })

pub record FromTable (table : ℕ) (deps : List Dep) (rule : Rule) : Type 0 where
  pub dep : Dep
  pub there : Contains deps dep
  pub of_table : dep.table ≡ table
  pub is : rule_of dep ≡ rule

pub from_table : (table : ℕ) (deps : List Dep) (rule : Rule) → Contains (table_rules table deps) rule → FromTable table deps rule
from_table table deps rule there =
    let (dep, found, is) = contains_from_map rule_of (filter (λ (d : Dep). nat_eq d.table table) deps) rule there in
    let (listed, passes) = contains_from_filter (λ (d : Dep). nat_eq d.table table) deps dep found in
    record { dep = dep; there = listed; of_table = eqb-true dep.table table passes; is = is }

pub in_table : (table : ℕ) (deps : List Dep) (dep : Dep) → Contains deps dep → dep.table ≡ table → Contains (table_rules table deps) dep.rule
in_table table deps dep there same =
    contains-map rule_of (filter (λ (d : Dep). nat_eq d.table table) deps) dep (contains-filter (λ (d : Dep). nat_eq d.table table) deps dep there (eq-eqb dep.table table same))
