-- What a page tells of a kind of rules: of dependencies with their groups, and of inclusions with the keys that are missing.
use Rattle.std.specs.Prelude.{ℕ, List}
use Rattle.schema_core.specs.declared.schema.Attr.{Attr}
use Rattle.schema_core.specs.declared.schema.Table.{Table}
use Rattle.rule_model.specs.declared.cind.Cind.{Cind}
use Rattle.rule_model.specs.declared.dep.Dep.{Dep}
use Rattle.violation_groups.specs.declared.Group.{Group}
use Rattle.violation_groups.specs.declared.Missing.{Missing}
use Rattle.page_text.specs.Groups.{groups_text, missing_table}
use Rattle.page_text.specs.Words.{cind_words, dep_words}
use Rattle.page_text.specs.declared.markup.Piece.{Piece}
use Rattle.page_text.specs.declared.markup.Piece.TheVariants as piece
use Rattle.page_text.specs.declared.rows.Shown.{Shown}

-- rules, and what is found of each
pub record Kind (Rule Found : Type 0) : Type 0 where
  -- what leads to the section of a rule, what begins it, and what its groups are called
  pub link : Piece
  pub section : Piece
  pub groups : Piece
  pub name : Rule → List ℕ
  -- the table whose rows are told
  pub table : Rule → ℕ
  -- what a rule asks, over the tables
  pub words : List Table → Rule → List ℕ
  -- what is found, over the attributes of the table
  pub body : List Attr → Rule → Shown → List Found → List ℕ

abbrev pub dep_kind : Kind Dep Group
dep_kind = record {
  link = piece.DepLink;
  section = piece.DepSection;
  groups = piece.Groups;
  name = λ (dep : Dep). dep.name;
  table = λ (dep : Dep). dep.table;
  words = dep_words;
  body = groups_text;
}

abbrev pub cind_kind : Kind Cind Missing
cind_kind = record {
  link = piece.CindLink;
  section = piece.CindSection;
  groups = piece.Keys;
  name = λ (cind : Cind). cind.name;
  table = λ (cind : Cind). cind.left;
  words = cind_words;
  body = missing_table;
}
