-- Rule books: declarations without fault, and the rules that they stand for.
use Rattle.std.specs.Prelude.{◌≡◌, ℕ, Bool, ◌||◌, ◌<◌, List, [], ◌∷◌, ◌++◌, length, take, All, slice_index_or, Option, None}
use Rattle.std.specs.List.{flat_map, list_any}
use Rattle.text_lists.specs.Limits.{AreLimits}
use Rattle.schema_core.specs.Schemas.{IsValidSchema}
use Rattle.text_lists.specs.declared.limits.Limits.{Limits}
use Rattle.schema_core.specs.declared.schema.Schema.{Schema}
use Rattle.cfd_semantics.specs.Pattern.{is_set}
use Rattle.cfd_semantics.specs.declared.dependency.TableauRow.{TableauRow}
use Rattle.rule_model.specs.declared.decl.Decl.{Decl}
use Rattle.rule_model.specs.declared.dep.Dep.{Dep}
use Rattle.rule_model.specs.declared.cind.Cind.{Cind}
use Rattle.rule_model.specs.declared.edit_rule.EditRule.{EditRule}
use Rattle.rule_model.specs.declared.fault.RuleFault.{RuleFault}
use Rattle.rule_model.specs.declared.rules.Rules.{Rules}
use Rattle.rule_model.specs.declared.counts.Counts.{Counts}
use Rattle.rule_model.specs.Counts.{counts_of, AreWithin}
use Rattle.rule_model.specs.Declarations.{IsWritten}
use Rattle.rule_model.specs.Rules.{deps_of, cinds_of, edits_of, IsValidDep, IsValidCind, IsValidEditRule}
use Rattle.rule_model.specs.Faults.{fault_of}

-- what a rule book holds: a schema, limits, and declarations in the order in which they joined
pub record Book : Type 0 where
  pub schema : Schema
  pub limits : Limits
  pub decls : List Decl

-- a book with one more declaration
abbrev pub with_decl : Book → Decl → Book
with_decl book decl = record { schema = book.schema; limits = book.limits; decls = book.decls ++ decl ∷ [] }

-- the rules of a book: those of its declarations, in order
unfoldable pub book_deps : Book → List Dep
book_deps book = flat_map (deps_of book.schema) book.decls

unfoldable pub book_cinds : Book → List Cind
book_cinds book = flat_map (cinds_of book.schema) book.decls

unfoldable pub book_edits : Book → List EditRule
book_edits book = flat_map (edits_of book.schema) book.decls

-- a tableau row, a dependency, a book has such a cell
abbrev pub row_has_set : TableauRow (List ℕ) → Bool
row_has_set row = list_any is_set row.x || is_set row.a

abbrev pub dep_has_set : Dep → Bool
dep_has_set dep = list_any row_has_set dep.rule.rows

abbrev pub book_has_set : Book → Bool
book_has_set book = list_any dep_has_set (book_deps book)

-- the first fault of a declaration over a book, if it has one
unfoldable pub book_fault : Book → Decl → Option RuleFault
book_fault book decl = fault_of book.schema book.limits book.decls decl

-- each declaration has no fault over those before it
pub record AreFaultless (book : Book) : Type 0 where
  pub each : (place : ℕ) (decl : Decl) → place < length book.decls
      → fault_of book.schema book.limits (take place book.decls) (slice_index_or book.decls place decl) ≡ None

-- The schema and the limits are valid, each declaration could be written and has no fault over those before it, each
-- rule is valid over the schema, and the counts are within the limits.
pub record IsBook (book : Book) : Type 0 where
  pub schema : IsValidSchema book.schema
  pub limits : AreLimits book.limits
  pub written : All IsWritten book.decls
  pub faultless : AreFaultless book
  pub deps : All (IsValidDep book.schema) (book_deps book)
  pub cinds : All (IsValidCind book.schema) (book_cinds book)
  pub edits : All (IsValidEditRule book.schema) (book_edits book)
  pub few : AreWithin book.limits (counts_of book.decls)

-- what a rule book keeps beside its declarations
pub record IsKept (book : Book) (rules : Rules) (counts : Counts) : Type 0 where
  pub is_book : IsBook book
  pub deps-is : rules.deps ≡ book_deps book
  pub cinds-is : rules.cinds ≡ book_cinds book
  pub edits-is : rules.edits ≡ book_edits book
  pub counts-is : counts ≡ counts_of book.decls
