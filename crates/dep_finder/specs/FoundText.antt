-- The text of what is found: a rule file, and a comment that tells how many there are.
use Rattle.std.specs.Prelude.{ℕ, List, [], ◌∷◌, ◌++◌, map, length, codes, decimal}
use Rattle.schema_core.specs.declared.schema.Table.{Table}
use Rattle.rule_model.specs.declared.decl.CfdRow.{CfdRow}
use Rattle.rule_model.specs.declared.decl.CfdDecl.{CfdDecl}
use Rattle.rule_model.specs.declared.decl.Decl.{Decl}
use Rattle.rule_model.specs.declared.decl.Decl.TheVariants.{Cfd}
use Rattle.rule_model.specs.declared.dep.Dep.{Dep}
use Rattle.cfd_semantics.specs.declared.dependency.TableauRow.{TableauRow}
use Rattle.rule_parser.specs.RuleText.{attr_name, canonical}

-- a tableau row as it is declared
abbrev pub row_decl : TableauRow (List ℕ) → CfdRow
row_decl row = record { x = row.x; y = row.a ∷ [] }

-- a dependency of the table as it is declared
abbrev pub head_of : Table → Dep → CfdDecl
head_of table dep = record {
  name = dep.name;
  table = table.name;
  x = map (attr_name table.attrs) dep.rule.x;
  y = attr_name table.attrs dep.rule.a ∷ [];
  rows = map row_decl dep.rule.rows;
}

abbrev pub decl_of : Table → Dep → Decl
decl_of table dep = Cfd (head_of table dep)

-- the canonical text of the declarations, and `# found N`
abbrev pub found_text : Table → List Dep → List ℕ
found_text table found = canonical (map (decl_of table) found) ++ codes "# found " ++ decimal (length found) ++ codes "\n"
