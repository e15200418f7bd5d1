-- The schema and the rules of a project, in the order in which their files are fetched and read.
use Rattle.std.specs.Prelude.{ℕ, List, [], Option, None, Some, Result, Ok, Err}
use Rattle.line_grammar.specs.Faults.{Reading}
use Rattle.schema_core.specs.SchemaFiles as schema_file
use Rattle.text_lists.specs.declared.limits.Limits.{Limits}
use Rattle.schema_core.specs.declared.schema.Schema.{Schema}
use Rattle.rule_model.specs.Books.{Book}
use Rattle.rule_parser.specs.RuleFiles as rule_file
use Rattle.cli_output.specs.declared.refusal.Cause.{Cause}
use Rattle.cli_output.specs.declared.refusal.Cause.TheVariants as cause
use Rattle.cli_output.specs.Fetching.{Fetching, ◌>>=◌, about, file, given}

-- what bytes spell, or the line and what is wrong there as the cause of a refusal
abbrev pub spelled : {X C : Type 0} → (ℕ → C → Cause) → Reading X C → Result X Cause
spelled cause (Ok x) = Ok x
spelled cause (Err fault) = Err (cause fault.line fault.cause)

-- the schema of the named file
unfoldable pub fetch_schema : Limits → List ℕ → Fetching Schema
fetch_schema limits name = file limits name >>= λ bytes. given (about name (spelled cause.Schema (schema_file.reads limits bytes)))

-- the rules of the file that the schema names, where it names one
abbrev pub fetch_rules_from : Limits → Schema → Option (List ℕ) → Fetching Book
fetch_rules_from limits schema None = given (Ok (record { schema = schema; limits = limits; decls = [] }))
fetch_rules_from limits schema (Some name) = file limits name >>= λ bytes. given (about name (spelled cause.Rules (rule_file.reads schema limits bytes)))

abbrev pub fetch_rules : Limits → Schema → Fetching Book
fetch_rules limits schema = fetch_rules_from limits schema schema.rules

-- the rules of a project, with its schema
unfoldable pub fetch_book : Limits → List ℕ → Fetching Book
fetch_book limits name = fetch_schema limits name >>= λ schema. fetch_rules limits schema
