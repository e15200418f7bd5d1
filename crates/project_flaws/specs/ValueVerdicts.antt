-- Which values of the domains can stand in a row that, alone, satisfies the dependencies of its table.
use Rattle.std.specs.Prelude.{◌≡◌, ℕ, List, [], ◌∷◌, All, map, slice_get, Some}
use Rattle.std.specs.List.{enumerate_from, flat_map}
use Rattle.cfd_semantics.specs.declared.pattern.Pattern.TheVariants.{Is, NotIn}
use Rattle.schema_core.specs.Lookups.{attrs_at}
use Rattle.schema_core.specs.declared.schema.Domain.{Domain}
use Rattle.schema_core.specs.declared.schema.Domain.TheVariants.{AnyText, Finite}
use Rattle.schema_core.specs.declared.schema.Attr.{Attr}
use Rattle.rule_model.specs.declared.dep.Dep.{Dep}
use Rattle.rule_model.specs.Books.{Book, book_deps}
use Rattle.case_tree.specs.declared.tree.Node.{Node}
use Rattle.cfd_consistency.specs.Consistent.{IsWitness}
use Rattle.cfd_implication.specs.Implied.{IsCounter, IsImplied}
use Rattle.cfd_implication.specs.Answers.{IsImplicationAnswer}
use Rattle.cfd_implication.specs.declared.answer.Implication.TheVariants.{Spent}
use Rattle.project_flaws.specs.declared.values.MayStand.{MayStand}
use Rattle.project_flaws.specs.declared.values.MayStand.TheVariants.{Never, Open, Yes}
use Rattle.project_flaws.specs.declared.values.ValueVerdict.{ValueVerdict}

-- ---- what is asked

-- some row that has the value at the attribute satisfies, alone, the dependencies of the table
abbrev pub CanStand : Book → ℕ → ℕ → List ℕ → Type 0
CanStand rules table attr value = (tuple : List (List ℕ)) × IsWitness rules table tuple × (slice_get tuple attr ≡ Some value)

-- The dependency that bars the value: a row that has it at the attribute must not have it there.
abbrev pub bar : ℕ → ℕ → List ℕ → Dep
bar table attr value = record {
  name = [];
  table = table;
  rule = record { x = attr ∷ []; a = attr; rows = record { x = Is value ∷ []; a = NotIn (value ∷ []) } ∷ [] };
}

-- ---- what is answered

-- a search of 100,000 leaves whether the dependency is implied has ended without an answer
abbrev pub IsSpent : Book → Dep → Type 0
IsSpent rules dep = (tree : List Node) × IsImplicationAnswer rules.schema (book_deps rules) dep 100000 (Spent tree)

-- It can, or it can't. Or it is left open: a search whether the dependencies bar it ended at 100,000 leaves without an answer.
abbrev pub IsMayStand : Book → ℕ → ℕ → List ℕ → MayStand → Type 0
IsMayStand rules table attr value Yes = CanStand rules table attr value
IsMayStand rules table attr value Never = ¬ CanStand rules table attr value
IsMayStand rules table attr value Open = IsSpent rules (bar table attr value)

-- the same, as implication of a dependency has it
abbrev pub IsBarred : Book → Dep → MayStand → Type 0
IsBarred rules dep Yes = (one : List (List ℕ)) × (other : List (List ℕ)) × IsCounter rules.schema (book_deps rules) dep one other
IsBarred rules dep Never = IsImplied rules.schema (book_deps rules) dep
IsBarred rules dep Open = IsSpent rules dep

abbrev pub IsValueVerdict : Book → ℕ → ValueVerdict → Type 0
IsValueVerdict rules table verdict = IsMayStand rules table verdict.attr verdict.value verdict.may

-- ---- the values of the domains of a table

abbrev pub values_in : Domain → List (List ℕ)
values_in AnyText = []
values_in (Finite values) = values

-- those of an attribute, each with the attribute's number
abbrev pub at_attr : ℕ → List ℕ → ℕ × List ℕ
at_attr attr value = (attr, value)

abbrev pub attr_values : ℕ × Attr → List (ℕ × List ℕ)
attr_values (place, attr) = map (at_attr place) (values_in attr.domain)

abbrev pub domain_values : List Attr → List (ℕ × List ℕ)
domain_values attrs = flat_map attr_values (enumerate_from 0 attrs)

abbrev pub value_of : ValueVerdict → ℕ × List ℕ
value_of verdict = (verdict.attr, verdict.value)

-- one for each of the values, in the order of the schema
pub record AreValueVerdicts (rules : Book) (table : ℕ) (verdicts : List ValueVerdict) : Type 0 where
  pub values : map value_of verdicts ≡ domain_values (attrs_at rules.schema table)
  pub each : All (IsValueVerdict rules table) verdicts
