-- What is true of a declaration as far as its head says it, and of rows as far as they are held.
use Rattle.std.specs.Prelude.{◌≡◌, ◌≤◌, ℕ, List, [], length, All, Result, Ok, Err}
use Rattle.line_grammar.specs.Faults.{Reading, UnlessMemory, line_tells, ◌>>=◌}
use Rattle.text_lists.specs.Names.{IsName}
use Rattle.rule_model.specs.declared.decl.CfdDecl.{CfdDecl}
use Rattle.rule_model.specs.declared.decl.CfdRow.{CfdRow}
use Rattle.rule_model.specs.declared.decl.Decl.{Decl}
use Rattle.rule_model.specs.declared.decl.Decl.TheVariants.{Cfd, Cind, Edit}
use Rattle.rule_model.specs.declared.edit_rule.EditCell.{EditCell}
use Rattle.rule_model.specs.declared.shown.HeldRows.{HeldRows}
use Rattle.rule_model.specs.FewRows.{RowTests, StandFor}
use Rattle.rule_parser.specs.declared.fault.ParseCause.{ParseCause}
use Rattle.rule_model.specs.Books.{Book, with_decl, book_fault}
use Rattle.rule_parser.specs.RuleFiles.{unless_rule}
use Rattle.line_grammar.specs.declared.fault.LineFault.{LineFault}
use Rattle.rule_model.specs.Declarations.{IsWrittenEdit, IsWrittenEditCell, IsWrittenRow}

-- it lacks nothing but rows
abbrev pub IsReadHead : Decl → Type 0
IsReadHead (Cfd cfd) = IsName cfd.name × (1 ≤ length cfd.y)
IsReadHead (Cind cind) = IsName cind.name
IsReadHead (Edit edit) = IsWrittenEdit edit

abbrev pub IsReadPattern : List ℕ × EditCell → Type 0
IsReadPattern pattern = IsWrittenEditCell pattern.1

-- a declaration without a name, of one attribute on the right and one row of that width
pub record IsDepDecl (cfd : CfdDecl) : Type 0 where
  pub name : cfd.name ≡ []
  pub table : IsName cfd.table
  pub x : All IsName cfd.x
  pub y : All IsName cfd.y
  pub right : length cfd.y ≡ 1
  pub one : length cfd.rows ≡ 1
  pub rows : All IsWrittenRow cfd.rows
  pub width : All (λ (row : CfdRow). length row.y ≡ 1) cfd.rows

-- a book with the declaration that was read behind a head of that number
abbrev pub joined : ℕ → Book → Reading Decl ParseCause → Reading Book ParseCause
joined number book said = said >>= λ decl. unless_rule (book_fault book decl) number (with_decl book decl)

-- rows were read, and those that are held stand for all of them
abbrev pub AreHeld : {R : Type 0} → RowTests R → ℕ → Reading (List R) ParseCause → HeldRows R → Type 0
AreHeld {R} tests most said held = (all : List R) × (said ≡ Ok all) × StandFor tests most all held.rows held.shown

-- what a call returned are such rows, or the fault that was read, unless memory ran out
abbrev pub HoldsUnlessMemory : {R : Type 0} → RowTests R → ℕ → Reading (List R) ParseCause → Result (HeldRows R) (LineFault ParseCause) → Type 0
HoldsUnlessMemory tests most said result = UnlessMemory line_tells (AreHeld tests most said) (λ fault. said ≡ Err fault) result
