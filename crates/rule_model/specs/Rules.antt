-- The rules that a declaration stands for, and which rules are valid over a schema.
use Rattle.std.specs.Prelude.{◌≡◌, ℕ, ◌≤◌, ◌<◌, IsTrue, List, [], ◌∷◌, ◌++◌, length, map, All, Contains, slice_index, slice_index_or}
use Rattle.std.specs.List.{AllZip, range_with_len}
use Rattle.text_lists.specs.Names.{IsConstant}
use Rattle.text_lists.specs.declared.bounds.TheConstants.{SET_MEMBERS}
use Rattle.schema_core.specs.Schemas.{Admits}
use Rattle.text_lists.specs.Repeats.{AreDistinct}
use Rattle.schema_core.specs.declared.schema.Domain.{Domain}
use Rattle.schema_core.specs.declared.schema.Attr.{Attr}
use Rattle.schema_core.specs.declared.schema.Schema.{Schema}
use Rattle.cfd_semantics.specs.declared.pattern.Pattern.{Pattern}
use Rattle.cfd_semantics.specs.declared.pattern.Pattern.TheVariants.{Any, Is, In, NotIn}
use Rattle.cfd_semantics.specs.declared.dependency.TableauRow.{TableauRow}
use Rattle.cfd_semantics.specs.declared.inclusion.InclusionRow.{InclusionRow}
use Rattle.rule_model.specs.declared.decl.CfdRow.{CfdRow}
use Rattle.rule_model.specs.declared.decl.CfdDecl.{CfdDecl}
use Rattle.rule_model.specs.declared.decl.CindDecl.{CindDecl}
use Rattle.rule_model.specs.declared.decl.EditDecl.{EditDecl}
use Rattle.rule_model.specs.declared.decl.Decl.{Decl}
use Rattle.rule_model.specs.declared.decl.Decl.TheVariants as decls
use Rattle.rule_model.specs.declared.dep.Dep.{Dep}
use Rattle.rule_model.specs.declared.cind.Cind.{Cind}
use Rattle.rule_model.specs.declared.edit_rule.EditCell.{EditCell}
use Rattle.rule_model.specs.declared.edit_rule.EditCell.TheVariants as edit_cells
use Rattle.rule_model.specs.declared.edit_rule.EditRule.{EditRule}
use Rattle.rule_model.specs.declared.rules.Rules.{Rules}
use Rattle.schema_core.specs.Lookups.{table_number, attrs_at, attrs_of, master_at, attr_number, attr_numbers, domain_at}

-- ---- what a declaration stands for

-- a tableau row for the attribute at one place of the right list
abbrev pub row_at : ℕ → CfdRow → TableauRow (List ℕ)
row_at place row = record { x = row.x; a = slice_index_or row.y place Any }

-- the dependency for the attribute at one place of the right list, with numbers in place of names
abbrev pub dep_at : Schema → CfdDecl → ℕ → Dep
dep_at schema cfd place =
    let attrs = attrs_of schema cfd.table in
    record {
      name = cfd.name;
      table = table_number schema cfd.table;
      rule = record {
        x = attr_numbers attrs cfd.x;
        a = slice_index (attr_numbers attrs cfd.y) place;
        rows = map (row_at place) cfd.rows;
      };
    }

-- the inclusion dependency of a declaration, with numbers in place of names
abbrev pub cind_of : Schema → CindDecl → Cind
cind_of schema cind =
    let lefts = attrs_of schema cind.left in
    let rights = attrs_of schema cind.right in
    record {
      name = cind.name;
      left = table_number schema cind.left;
      right = table_number schema cind.right;
      rule = record {
        x = attr_numbers lefts cind.x;
        xp = attr_numbers lefts cind.xp;
        y = attr_numbers rights cind.y;
        yp = attr_numbers rights cind.yp;
        rows = cind.rows;
      };
    }

-- a pattern with numbers in place of names
abbrev pub numbered_pattern : List Attr → List (List ℕ × EditCell) → List (ℕ × EditCell)
numbered_pattern attrs pattern = map (λ (p : List ℕ × EditCell). (attr_number attrs p.0, p.1)) pattern

-- the editing rule of a declaration, with numbers in place of names
abbrev pub edit_of : Schema → EditDecl → EditRule
edit_of schema edit =
    let attrs = attrs_of schema edit.table in
    let masters = attrs_of schema edit.master in
    record {
      name = edit.name;
      table = table_number schema edit.table;
      master = table_number schema edit.master;
      x = attr_numbers attrs edit.x;
      xm = attr_numbers masters edit.xm;
      target = attr_number attrs edit.target;
      source = attr_number masters edit.source;
      when = numbered_pattern attrs edit.when;
    }

-- The rules of each kind that a declaration stands for over a schema: a dependency for each attribute of the right list
-- of a CFD, in order, and one rule for a declaration of the other kinds.
unfoldable pub deps_of : Schema → Decl → List Dep
deps_of schema (decls.Cfd cfd) = map (dep_at schema cfd) (range_with_len 0 (length cfd.y))
deps_of schema (decls.Cind cind) = []
deps_of schema (decls.Edit edit) = []

unfoldable pub cinds_of : Schema → Decl → List Cind
cinds_of schema (decls.Cfd cfd) = []
cinds_of schema (decls.Cind cind) = cind_of schema cind ∷ []
cinds_of schema (decls.Edit edit) = []

unfoldable pub edits_of : Schema → Decl → List EditRule
edits_of schema (decls.Cfd cfd) = []
edits_of schema (decls.Cind cind) = []
edits_of schema (decls.Edit edit) = edit_of schema edit ∷ []

-- the rules with those of one more declaration
abbrev pub with_rules_of : Schema → Decl → Rules → Rules
with_rules_of schema decl rules = record {
  deps = rules.deps ++ deps_of schema decl;
  cinds = rules.cinds ++ cinds_of schema decl;
  edits = rules.edits ++ edits_of schema decl;
}

-- ---- validity

-- the numbers are those of attributes
abbrev pub AreAttrsOf : List Attr → List ℕ → Type 0
AreAttrsOf attrs numbers = All (λ attr. attr < length attrs) numbers

-- a constant of the domain
pub record IsConstantOf (domain : Domain) (value : List ℕ) : Type 0 where
  pub constant : IsConstant value
  pub admitted : Admits domain value

-- 1 to 64 distinct constants of the domain
pub record IsSetOf (domain : Domain) (values : List (List ℕ)) : Type 0 where
  pub some : 1 ≤ length values
  pub few : length values ≤ SET_MEMBERS
  pub distinct : AreDistinct values
  pub each : All (IsConstantOf domain) values

abbrev pub IsCellOf : Domain → Pattern (List ℕ) → Type 0
IsCellOf domain Any = Unit {0}
IsCellOf domain (Is value) = IsConstantOf domain value
IsCellOf domain (In values) = IsSetOf domain values
IsCellOf domain (NotIn values) = IsSetOf domain values

-- the row has a cell of its domain for each attribute on the left, and one for the attribute on the right
pub record IsValidRow (attrs : List Attr) (left : List ℕ) (right : ℕ) (row : TableauRow (List ℕ)) : Type 0 where
  pub x : AllZip (λ attr cell. IsCellOf (domain_at attrs attr) cell) left row.x
  pub a : IsCellOf (domain_at attrs right) row.a

-- the numbers are in range, no attribute stands twice on the left, and the rows are valid
pub record IsValidDep (schema : Schema) (dep : Dep) : Type 0 where
  pub table : dep.table < length schema.tables
  pub x : AreAttrsOf (attrs_at schema dep.table) dep.rule.x
  pub a : dep.rule.a < length (attrs_at schema dep.table)
  pub distinct : AreDistinct dep.rule.x
  pub rows : All (IsValidRow (attrs_at schema dep.table) dep.rule.x dep.rule.a) dep.rule.rows

-- a constant of its domain for each of the attributes
abbrev pub AreConstantsOf : List Attr → List ℕ → List (List ℕ) → Type 0
AreConstantsOf attrs numbers values = AllZip (λ attr value. IsConstantOf (domain_at attrs attr) value) numbers values

pub record IsValidInclusionRow (lefts rights : List Attr) (left right : List ℕ) (row : InclusionRow (List ℕ)) : Type 0 where
  pub xp : AreConstantsOf lefts left row.xp
  pub yp : AreConstantsOf rights right row.yp

-- the numbers are in range, the two keys are equally long, no attribute stands twice on one side, and the rows are valid
pub record IsValidCind (schema : Schema) (cind : Cind) : Type 0 where
  pub left : cind.left < length schema.tables
  pub right : cind.right < length schema.tables
  pub x : AreAttrsOf (attrs_at schema cind.left) cind.rule.x
  pub xp : AreAttrsOf (attrs_at schema cind.left) cind.rule.xp
  pub y : AreAttrsOf (attrs_at schema cind.right) cind.rule.y
  pub yp : AreAttrsOf (attrs_at schema cind.right) cind.rule.yp
  pub as_long : length cind.rule.x ≡ length cind.rule.y
  pub distinct_left : AreDistinct (cind.rule.x ++ cind.rule.xp)
  pub distinct_right : AreDistinct (cind.rule.y ++ cind.rule.yp)
  pub rows : All (IsValidInclusionRow (attrs_at schema cind.left) (attrs_at schema cind.right) cind.rule.xp cind.rule.yp) cind.rule.rows

abbrev pub IsEditCellOf : Domain → EditCell → Type 0
IsEditCellOf domain edit_cells.Any = Unit {0}
IsEditCellOf domain (edit_cells.Is value) = IsConstantOf domain value
IsEditCellOf domain (edit_cells.Not value) = IsConstantOf domain value

-- an attribute of the table, with a cell of its domain
pub record IsValidPattern (attrs : List Attr) (pattern : ℕ × EditCell) : Type 0 where
  pub attr : pattern.0 < length attrs
  pub cell : IsEditCellOf (domain_at attrs pattern.0) pattern.1

-- the attributes that a pattern asks something of
abbrev pub pattern_attrs : {X : Type 0} → List (X × EditCell) → List X
pattern_attrs {X} pattern = map (λ (p : X × EditCell). p.0) pattern

-- The numbers are in range, the master table is marked as one, the columns that are matched are some and as many on
-- both sides, no attribute stands twice among them or in the pattern, the target is not one of them, and what the
-- source may be, the target may be.
pub record IsValidEditRule (schema : Schema) (edit : EditRule) : Type 0 where
  pub table : edit.table < length schema.tables
  pub master : edit.master < length schema.tables
  pub marked : IsTrue (master_at schema edit.master)
  pub x : AreAttrsOf (attrs_at schema edit.table) edit.x
  pub xm : AreAttrsOf (attrs_at schema edit.master) edit.xm
  pub target : edit.target < length (attrs_at schema edit.table)
  pub source : edit.source < length (attrs_at schema edit.master)
  pub some : 1 ≤ length edit.x
  pub as_long : length edit.x ≡ length edit.xm
  pub distinct : AreDistinct edit.x
  pub distinct_pattern : AreDistinct (pattern_attrs edit.when)
  pub outside : ¬ Contains edit.x edit.target
  pub pattern : All (IsValidPattern (attrs_at schema edit.table)) edit.when
  pub fits : (text : List ℕ) → Admits (domain_at (attrs_at schema edit.master) edit.source) text → Admits (domain_at (attrs_at schema edit.table) edit.target) text
