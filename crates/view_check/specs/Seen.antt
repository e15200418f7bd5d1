-- The files of a project as `cfdbench run` fetches and reads them. Where one is refused that is there, it is fetched once
-- more, so that what stands there can be shown, and the schema, so that names and domains can; and where the tables together
-- are too many, all of them, so that they can be counted.
use Rattle.std.specs.Prelude.{ℕ, ◌+◌, Bool, true, false, if◌then◌else◌, List, Option, None, Some, Result, Ok, Err}
use Rattle.text_lists.specs.declared.limits.Limits.{Limits}
use Rattle.shelf_io.specs.Files.{Files}
use Rattle.bench_core.specs.Loading.{Tuples}
use Rattle.cli_output.specs.declared.fetching.Stop.{Stop}
use Rattle.cli_output.specs.declared.fetching.Stop.TheVariants as stop
use Rattle.cli_output.specs.declared.refusal.Cause.{Cause}
use Rattle.cli_output.specs.declared.refusal.Cause.TheVariants as cause
use Rattle.cli_output.specs.declared.refusal.Refusal.{Refusal}
use Rattle.cli_output.specs.Fetching.{Fetching, OrRefusal, Outcome, ◌>>=◌, file, given}
use Rattle.cli_output.specs.RuleFiles.{fetch_schema}
use Rattle.project_files.specs.Project.{ProjectRead, fetch_project, fetch_tables, read_of}
use Rattle.view_refusal.specs.declared.Anew.{Anew}
use Rattle.view_check.specs.declared.fetching.Off.{Off}
use Rattle.view_check.specs.declared.fetching.Seen.{Seen}
use Rattle.view_check.specs.declared.fetching.Seen.TheVariants as seen

-- ---- what is found

-- a project that was read, or a refusal with what is found once more
abbrev pub SeenRead : Type 0
SeenRead = Result ProjectRead Off

abbrev pub seen_of : Seen → SeenRead
seen_of (seen.Whole project) = Ok (read_of project)
seen_of (seen.Off off) = Err off

-- ---- once more

-- the file isn't there
abbrev pub is_absent : Cause → Bool
is_absent cause.Absent = true
is_absent other = false

-- what was found, or nothing where it is refused; but a file that isn't there is refused
abbrev pub passed_over : {X : Type 0} → OrRefusal X → OrRefusal (Option X)
passed_over (Ok x) = Ok (Some x)
passed_over (Err refusal) = if is_absent refusal.cause then Err refusal else Ok None

-- what a call returns for what one returned
abbrev pub passing_over : {X : Type 0} → Result X Stop → Result (Option X) Stop
passing_over (Ok x) = Ok (Some x)
passing_over (Err (stop.Refused refusal)) = if is_absent refusal.cause then Err (stop.Refused refusal) else Ok None
passing_over (Err stop.ReadFault) = Err stop.ReadFault
passing_over (Err stop.Memory) = Err stop.Memory

-- what is found once more, with room of its own
abbrev pub again : {X : Type 0} → Limits → Fetching X → Fetching (Option X)
again limits fetching files left = let outcome = fetching files limits.all_bytes in record { found = passed_over outcome.found; fetches = outcome.fetches; left = left }

-- the rows of each table
unfoldable pub fetch_all : Limits → List ℕ → Fetching (List Tuples)
fetch_all limits name = fetch_schema limits name >>= λ schema. fetch_tables limits schema.tables

-- the tables together are too many
abbrev pub is_full : Cause → Bool
is_full cause.RowsFull = true
is_full other = false

-- all tables, where that is so
abbrev pub all_if : Bool → Limits → List ℕ → Fetching (Option (List Tuples))
all_if false limits project = given (Ok None)
all_if true limits project = again limits (fetch_all limits project)

-- the bytes of the file that is refused, the schema, and tables that are too many, each where it can be read by itself
unfoldable pub anew : Limits → List ℕ → Refusal → Fetching Anew
anew limits project refusal =
    again limits (file limits refusal.what) >>= λ bytes.
    again limits (fetch_schema limits project) >>= λ schema.
    all_if (is_full refusal.cause) limits project >>= λ tables.
    given (Ok (record { bytes = bytes; schema = schema; tables = tables }))

-- ---- all of it

-- a refusal with what is found anew
unfoldable pub off : Limits → List ℕ → Refusal → Fetching SeenRead
off limits name refusal = anew limits name refusal >>= λ found. given (Ok (Err (record { refusal = refusal; anew = found })))

-- that, unless the file isn't there
abbrev pub off_unless : Bool → Limits → List ℕ → Refusal → Fetching SeenRead
off_unless true limits name refusal = given (Err refusal)
off_unless false limits name refusal = off limits name refusal

-- a project that was read, or a refusal
abbrev pub seen_after : Limits → List ℕ → Files → Outcome ProjectRead → OrRefusal ProjectRead → Outcome SeenRead
seen_after limits name files outcome (Ok project) = record { found = Ok (Ok project); fetches = outcome.fetches; left = outcome.left }
seen_after limits name files outcome (Err refusal) =
    let more = off_unless (is_absent refusal.cause) limits name refusal files 0 in record more { fetches = outcome.fetches + more.fetches }

unfoldable pub fetch_seen : Limits → List ℕ → Fetching SeenRead
fetch_seen limits name files left = let outcome = fetch_project limits name files left in seen_after limits name files outcome outcome.found
