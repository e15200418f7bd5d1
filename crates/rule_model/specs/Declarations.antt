-- Declarations as they are written, and what each has to be before it is judged.
use Rattle.std.specs.Prelude.{ℕ, ◌≤◌, List, [], ◌∷◌, length, All}
use Rattle.text_lists.specs.Names.{IsName, IsConstant}
use Rattle.text_lists.specs.declared.bounds.TheConstants.{SET_MEMBERS}
use Rattle.cfd_semantics.specs.declared.pattern.Pattern.{Pattern}
use Rattle.cfd_semantics.specs.declared.pattern.Pattern.TheVariants.{Any, Is, In, NotIn}
use Rattle.cfd_semantics.specs.declared.inclusion.InclusionRow.{InclusionRow}
use Rattle.rule_model.specs.declared.decl.CfdRow.{CfdRow}
use Rattle.rule_model.specs.declared.decl.CfdDecl.{CfdDecl}
use Rattle.rule_model.specs.declared.decl.CindDecl.{CindDecl}
use Rattle.rule_model.specs.declared.decl.EditDecl.{EditDecl}
use Rattle.rule_model.specs.declared.decl.Decl.{Decl}
use Rattle.rule_model.specs.declared.decl.Decl.TheVariants.{Cfd, Cind, Edit}
use Rattle.rule_model.specs.declared.edit_rule.EditCell.{EditCell}
use Rattle.rule_model.specs.declared.edit_rule.EditCell.TheVariants as edit_cells

-- the name of a declaration
abbrev pub name_of : Decl → List ℕ
name_of (Cfd cfd) = cfd.name
name_of (Cind cind) = cind.name
name_of (Edit edit) = edit.name

-- how many rules of each kind a declaration stands for, and how many tableau rows it has
abbrev pub dep_count : Decl → ℕ
dep_count (Cfd cfd) = length cfd.y
dep_count (Cind cind) = 0
dep_count (Edit edit) = 0

abbrev pub cind_count : Decl → ℕ
cind_count (Cfd cfd) = 0
cind_count (Cind cind) = 1
cind_count (Edit edit) = 0

abbrev pub edit_count : Decl → ℕ
edit_count (Cfd cfd) = 0
edit_count (Cind cind) = 0
edit_count (Edit edit) = 1

abbrev pub row_count : Decl → ℕ
row_count (Cfd cfd) = length cfd.rows
row_count (Cind cind) = length cind.rows
row_count (Edit edit) = 0

-- the constant of a cell, or the members of its set
abbrev pub constants_of : Pattern (List ℕ) → List (List ℕ)
constants_of Any = []
constants_of (Is value) = value ∷ []
constants_of (In values) = values
constants_of (NotIn values) = values

-- the constant of a cell of an editing rule, a negated one too
abbrev pub edit_constants_of : EditCell → List (List ℕ)
edit_constants_of edit_cells.Any = []
edit_constants_of (edit_cells.Is value) = value ∷ []
edit_constants_of (edit_cells.Not value) = value ∷ []

-- ---- what a rule file can write

-- a set has 1 to 64 members
pub record IsWrittenSet (values : List (List ℕ)) : Type 0 where
  pub some : 1 ≤ length values
  pub few : length values ≤ SET_MEMBERS
  pub constants : All IsConstant values

abbrev pub IsWrittenCell : Pattern (List ℕ) → Type 0
IsWrittenCell Any = Unit {0}
IsWrittenCell (Is value) = IsConstant value
IsWrittenCell (In values) = IsWrittenSet values
IsWrittenCell (NotIn values) = IsWrittenSet values

abbrev pub IsWrittenEditCell : EditCell → Type 0
IsWrittenEditCell edit_cells.Any = Unit {0}
IsWrittenEditCell (edit_cells.Is value) = IsConstant value
IsWrittenEditCell (edit_cells.Not value) = IsConstant value

pub record IsWrittenRow (row : CfdRow) : Type 0 where
  pub x : All IsWrittenCell row.x
  pub y : All IsWrittenCell row.y

pub record IsWrittenInclusionRow (row : InclusionRow (List ℕ)) : Type 0 where
  pub xp : All IsConstant row.xp
  pub yp : All IsConstant row.yp

-- the name is a name, there are an attribute on the right and a tableau row, and each set has 1 to 64 members
pub record IsWrittenCfd (cfd : CfdDecl) : Type 0 where
  pub name : IsName cfd.name
  pub right : 1 ≤ length cfd.y
  pub rows : 1 ≤ length cfd.rows
  pub each_row : All IsWrittenRow cfd.rows

-- the name is a name, and there is a tableau row
pub record IsWrittenCind (cind : CindDecl) : Type 0 where
  pub name : IsName cind.name
  pub rows : 1 ≤ length cind.rows
  pub each_row : All IsWrittenInclusionRow cind.rows

-- the name is a name
pub record IsWrittenEdit (edit : EditDecl) : Type 0 where
  pub name : IsName edit.name
  pub pattern : All (λ (p : List ℕ × EditCell). IsWrittenEditCell p.1) edit.when

-- what a rule file can write, whether or not it fits a schema
abbrev pub IsWritten : Decl → Type 0
IsWritten (Cfd cfd) = IsWrittenCfd cfd
IsWritten (Cind cind) = IsWrittenCind cind
IsWritten (Edit edit) = IsWrittenEdit edit
