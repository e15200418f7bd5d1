-- The text of what is found is a rule file: where the limits allow that many, it is read as these dependencies.
use Rattle.std.specs.Prelude.{◌≡◌, ℕ, List, map, Ok}
use Rattle.text_lists.specs.Limits.{AreLimits}
use Rattle.text_lists.specs.declared.limits.Limits.{Limits}
use Rattle.schema_core.specs.Schemas.{IsValidSchema}
use Rattle.schema_core.specs.declared.schema.Schema.{Schema}
use Rattle.schema_core.specs.declared.schema.Table.{Table}
use Rattle.rule_model.specs.Books.{Book, book_deps}
use Rattle.rule_model.specs.Counts.{AreWithin, counts_of}
use Rattle.rule_model.specs.declared.dep.Dep.{Dep}
use Rattle.rule_parser.specs.RuleFiles.{reads}
use Rattle.dep_finder.specs.FoundText.{decl_of}
use Rattle.dep_finder.specs.Valid.{AreRules, HaveNames}

-- the rule book of the declarations of dependencies
abbrev pub book_of : Schema → Limits → Table → List Dep → Book
book_of schema limits table found = record { schema = schema; limits = limits; decls = map (decl_of table) found }

-- Valid dependencies of a table of a valid schema that have names of their own are, where the limits allow that many, the
-- dependencies of a rule book, and the bytes spell that book.
abbrev pub IsReadAs : Table → List Dep → List ℕ → Type 0
IsReadAs table found bytes =
    (schema : Schema) (limits : Limits) → IsValidSchema schema → AreLimits limits → AreRules schema table found → HaveNames found
    → AreWithin limits (counts_of (map (decl_of table) found))
    → (reads schema limits bytes ≡ Ok (book_of schema limits table found)) × (book_deps (book_of schema limits table found) ≡ found)
