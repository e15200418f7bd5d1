-- The names in a declaration in which no fault is found are names.
use Rattle.std.proofs.Common.{◌≡◌, ℕ, true, false, List, [], ◌∷◌, length, get_or, Option, Some, None, All, refl, subst}
use Rattle.std.specs.Prelude.{is_some}
use Rattle.std.specs.List.{AllByRecursion, slice_get}
use Rattle.std.specs.Option.{option_map_or}
use Rattle.std.specs.Str.{bytes_eq}
use Rattle.std.proofs.lemmas.Bool.{eqb-true}
use Rattle.std.proofs.lemmas.List.Elements.{All-nil}
use Rattle.std.proofs.lemmas.List.Quantifiers.{position-Some}
use Rattle.std.proofs.lemmas.Option.{slice_get_within, get_or_from_slice_get}
use Rattle.std.proofs.lemmas.Slice.Eq.{bytes_eq-Decides}
use Rattle.text_lists.specs.Names.{IsName}
use Rattle.schema_core.specs.Schemas.{table_place, IsValidAttr, IsValidTable, IsValidSchema}
use Rattle.schema_core.specs.declared.schema.Domain.TheVariants.{AnyText}
use Rattle.schema_core.specs.declared.schema.Attr.{Attr}
use Rattle.schema_core.specs.declared.schema.Table.{Table}
use Rattle.schema_core.specs.declared.schema.Schema.{Schema}
use Rattle.rule_model.specs.declared.decl.CfdDecl.{CfdDecl}
use Rattle.rule_model.specs.declared.decl.CindDecl.{CindDecl}
use Rattle.rule_model.specs.declared.decl.EditDecl.{EditDecl}
use Rattle.rule_model.specs.declared.decl.Decl.TheVariants.{Cfd, Cind, Edit}
use Rattle.rule_model.specs.declared.edit_rule.EditCell.{EditCell}
use Rattle.schema_core.specs.Lookups.{attrs_at, attrs_of, attr_number}
use Rattle.rule_model.specs.Rules.{pattern_attrs}
use Rattle.rule_model.specs.Faults.{unknown_table_name, unknown_name, unknown_in, unknown_in_pairs}
use Rattle.rule_model.proofs.Known.{IsKnown, known_if_none, all_known_if_none}
use Rattle.rule_model.proofs.Passing.{holds_if_none, none_in, none_of}
use Rattle.rule_model.proofs.ValidRules.{Passes, columns_known}

-- ---- tables and attributes

named_there : (schema : Schema) (name : List ℕ) (place : Option ℕ) → All IsValidTable schema.tables → table_place schema name ≡ place → is_some place ≡ true → IsName name
named_there schema name None valid e some = absurd cc
named_there schema name (Some k) valid e some =
    let nowhere : Table = record { name = []; file = []; master = false; attrs = [] } in
    let found = position-Some (λ (t : Table). bytes_eq t.name name) schema.tables k nowhere e in
    subst IsName ((bytes_eq-Decides (get_or schema.tables k nowhere).name name).0 found.1) (valid k nowhere found.0).name

table_named : (schema : Schema) (name : List ℕ) → IsValidSchema schema → unknown_table_name schema name ≡ None → IsName name
table_named schema name valid e = named_there schema name (table_place schema name) valid.tables refl (holds_if_none _ _ e)

attrs_there : (tables : List Table) (number : ℕ) (found : Option Table) → All IsValidTable tables → slice_get tables number ≡ found → All IsValidAttr (option_map_or (λ (t : Table). t.attrs) found [])
attrs_there tables number None valid e = All-nil IsValidAttr
attrs_there tables number (Some table) valid e =
    (subst IsValidTable (get_or_from_slice_get tables number table table e) (valid number table (slice_get_within tables number table e))).attrs

pub attrs_valid : (schema : Schema) (number : ℕ) → IsValidSchema schema → All IsValidAttr (attrs_at schema number)
attrs_valid schema number valid = attrs_there schema.tables number (slice_get schema.tables number) valid.tables refl

attr_named : (attrs : List Attr) (name : List ℕ) → All IsValidAttr attrs → IsKnown attrs name → IsName name
attr_named attrs name valid known =
    let nowhere : Attr = record { name = []; domain = AnyText } in
    subst IsName (known.named nowhere) (valid (attr_number attrs name) nowhere known.within).name

attrs_named : (attrs : List Attr) (names : List (List ℕ)) → All IsValidAttr attrs → AllByRecursion (IsKnown attrs) names → AllByRecursion IsName names
attrs_named attrs [] valid known = tt
attrs_named attrs (name ∷ names) valid known = (attr_named attrs name valid known.0, attrs_named attrs names valid known.1)

-- ---- declarations

pub record CfdNames (cfd : CfdDecl) : Type 0 where
  pub table : IsName cfd.table
  pub x : AllByRecursion IsName cfd.x
  pub y : AllByRecursion IsName cfd.y

pub cfd_names : (schema : Schema) (cfd : CfdDecl) → IsValidSchema schema → Passes schema (Cfd cfd) → CfdNames cfd
cfd_names schema cfd valid passes =
    let attrs = attrs_of schema cfd.table in
    let all = attrs_valid schema _ valid in
    let lists = none_in (unknown_in attrs) (cfd.x ∷ cfd.y ∷ []) passes.attrs in
    record {
      table = table_named schema cfd.table valid passes.tables;
      x = attrs_named attrs cfd.x all (all_known_if_none attrs cfd.x lists.0);
      y = attrs_named attrs cfd.y all (all_known_if_none attrs cfd.y lists.1.0);
    }

pub record CindNames (cind : CindDecl) : Type 0 where
  pub left : IsName cind.left
  pub x : AllByRecursion IsName cind.x
  pub xp : AllByRecursion IsName cind.xp
  pub right : IsName cind.right
  pub y : AllByRecursion IsName cind.y
  pub yp : AllByRecursion IsName cind.yp

pub cind_names : (schema : Schema) (cind : CindDecl) → IsValidSchema schema → Passes schema (Cind cind) → CindNames cind
cind_names schema cind valid passes =
    let lefts = attrs_of schema cind.left in
    let rights = attrs_of schema cind.right in
    let left_all = attrs_valid schema _ valid in
    let right_all = attrs_valid schema _ valid in
    let tables = none_in (unknown_table_name schema) (cind.left ∷ cind.right ∷ []) passes.tables in
    let lists = none_of (unknown_in lefts cind.x ∷ unknown_in lefts cind.xp ∷ unknown_in rights cind.y ∷ unknown_in rights cind.yp ∷ []) passes.attrs in
    record {
      left = table_named schema cind.left valid tables.0;
      x = attrs_named lefts cind.x left_all (all_known_if_none lefts cind.x lists.0);
      xp = attrs_named lefts cind.xp left_all (all_known_if_none lefts cind.xp lists.1.0);
      right = table_named schema cind.right valid tables.1.0;
      y = attrs_named rights cind.y right_all (all_known_if_none rights cind.y lists.1.1.0);
      yp = attrs_named rights cind.yp right_all (all_known_if_none rights cind.yp lists.1.1.1.0);
    }

patterns_named : (pattern : List (List ℕ × EditCell)) → AllByRecursion IsName (pattern_attrs pattern) → AllByRecursion (λ p. IsName p.0) pattern
patterns_named [] are = tt
patterns_named (p ∷ pattern) are = (are.0, patterns_named pattern are.1)

pub record EditNames (edit : EditDecl) : Type 0 where
  pub table : IsName edit.table
  pub master : IsName edit.master
  pub even : length edit.x ≡ length edit.xm
  pub x : AllByRecursion IsName edit.x
  pub xm : AllByRecursion IsName edit.xm
  pub target : IsName edit.target
  pub source : IsName edit.source
  pub pattern : AllByRecursion (λ p. IsName p.0) edit.when

pub edit_names : (schema : Schema) (edit : EditDecl) → IsValidSchema schema → Passes schema (Edit edit) → EditNames edit
edit_names schema edit valid passes =
    let attrs = attrs_of schema edit.table in
    let masters = attrs_of schema edit.master in
    let all = attrs_valid schema _ valid in
    let master_all = attrs_valid schema _ valid in
    let tables = none_in (unknown_table_name schema) (edit.table ∷ edit.master ∷ []) passes.tables in
    let lists = none_of (unknown_in_pairs attrs masters edit.x edit.xm ∷ unknown_name attrs edit.target ∷ unknown_name masters edit.source ∷ unknown_in attrs (pattern_attrs edit.when) ∷ []) passes.attrs in
    let even : length edit.x ≡ length edit.xm = eqb-true (length edit.x) (length edit.xm) (holds_if_none _ _ passes.widths) in
    let columns = columns_known attrs masters edit.x edit.xm even lists.0 in
    record {
      table = table_named schema edit.table valid tables.0;
      master = table_named schema edit.master valid tables.1.0;
      even = even;
      x = attrs_named attrs edit.x all columns.0;
      xm = attrs_named masters edit.xm master_all columns.1;
      target = attr_named attrs edit.target all (known_if_none attrs edit.target lists.1.0);
      source = attr_named masters edit.source master_all (known_if_none masters edit.source lists.1.1.0);
      pattern = patterns_named edit.when (attrs_named attrs (pattern_attrs edit.when) all (all_known_if_none attrs (pattern_attrs edit.when) lists.1.1.1.0));
    }
