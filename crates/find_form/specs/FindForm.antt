-- The form `find PROJECT TABLE WIDTH SUPPORT`: the dependencies that hold in a table of a project, as a rule file.
use Rattle.std.specs.Prelude.{◌≡◌, ℕ, ◌≤◌, ◌⊎◌, List, Option, None, Some, Result, Ok, Err, length, map, slice_get, option_map, option_and_then}
use Rattle.text_lists.specs.declared.limits.Limits.{Limits}
use Rattle.schema_core.specs.Schemas.{table_place}
use Rattle.schema_core.specs.declared.schema.Schema.{Schema}
use Rattle.schema_core.specs.declared.schema.Table.{Table}
use Rattle.rule_model.specs.declared.dep.Dep.{Dep}
use Rattle.dep_finder.specs.Deps.{AreFound, AreMore}
use Rattle.dep_finder.specs.FoundText.{found_text}
use Rattle.dep_finder.specs.Minimal.{AreLeast}
use Rattle.dep_finder.specs.ReadAgain.{IsReadAs}
use Rattle.dep_finder.specs.Valid.{AreValid, HaveNames}
use Rattle.cli_output.specs.declared.refusal.Cause.{Cause}
use Rattle.cli_output.specs.declared.refusal.Cause.TheVariants.{TooManyFound, UnknownTable}
use Rattle.cli_output.specs.declared.refusal.Refusal.{Refusal}
use Rattle.cli_output.specs.declared.status.Status.TheVariants.{Clean, Refused}
use Rattle.cli_output.specs.Fetching.{Fetching, ◌>>=◌, about, given}
use Rattle.cli_output.specs.Output.{Only, Outputs, Task}
use Rattle.cli_output.specs.Refusals.{refusal_line}
use Rattle.cli_output.specs.RuleFiles.{fetch_schema}
use Rattle.cli_output.specs.TableFiles.{fetch_table}
use Rattle.find_form.specs.declared.Asked.{Asked}

-- ---- what is fetched

-- the table of that name, behind its number in the schema
abbrev pub table_in : Schema → List ℕ → Option (ℕ × Table)
table_in schema name =
    option_and_then (λ number. option_map (λ (table : Table). (number, table)) (slice_get schema.tables number)) (table_place schema name)

abbrev pub known : Option (ℕ × Table) → Result (ℕ × Table) Cause
known None = Err UnknownTable
known (Some table) = Ok table

-- the table of that name, which the schema of the project has; else the word is refused
unfoldable pub fetch_known : Limits → List ℕ → List ℕ → Fetching (ℕ × Table)
fetch_known limits project name = fetch_schema limits project >>= λ schema. given (about name (known (table_in schema name)))

-- and the rows of its file
unfoldable pub fetch_asked : Limits → List ℕ → List ℕ → Fetching Asked
fetch_asked limits project name =
    fetch_known limits project name >>= λ known.
    fetch_table limits known.1 >>= λ rows.
    given (Ok (record { number = known.0; table = known.1; rows = rows }))

-- ---- what is written

-- The text of what is found, which is at most 100,000 dependencies. By the meaning of rules alone they are the least ones.
-- They are rules of the table, each with a name of its own, and the text is read as them, where the limits allow that many.
pub record IsFoundText (asked : Asked) (width support : ℕ) (bytes : List ℕ) : Type 0 where
  pub found : List Dep
  pub are : AreFound asked.table asked.number asked.rows width support found
  pub few : length found ≤ 100000
  pub least : AreLeast asked.rows (length asked.table.attrs) width support (map (λ (dep : Dep). dep.rule) found)
  pub valid : AreValid asked.table asked.number asked.rows found
  pub names : HaveNames found
  pub written : bytes ≡ found_text asked.table found
  pub again : IsReadAs asked.table found bytes

-- more than 100,000 are found
abbrev pub IsTooMany : Asked → ℕ → ℕ → Type 0
IsTooMany asked width support = AreMore asked.table asked.rows width support 100000

-- why the word is refused then
abbrev pub too_many : List ℕ → Refusal
too_many name = record { what = name; cause = TooManyFound }

abbrev pub find_outputs : List ℕ → ℕ → ℕ → Asked → Outputs
find_outputs name width support asked bytes status =
    (IsFoundText asked width support bytes × (status ≡ Clean)) ⊎ (IsTooMany asked width support × Only (refusal_line name TooManyFound) Refused bytes status)

-- the schema and the file of the table are fetched
abbrev pub find_task : Limits → List ℕ → List ℕ → ℕ → ℕ → Task
find_task limits project name width support = record {
  Found = Asked;
  fetching = fetch_asked limits project name;
  outputs = find_outputs name width support;
  most_fetches = 2;
}
