-- The form `check PROJECT` of `cfdview`: what is off in a project before anything is asked, or why a file of it is refused.
use Rattle.std.specs.Prelude.{ℕ, List, Ok, Err}
use Rattle.text_lists.specs.declared.limits.Limits.{Limits}
use Rattle.cli_output.specs.declared.status.Status.TheVariants.{Refused}
use Rattle.cli_output.specs.Output.{Only, Outputs, Task}
use Rattle.project_files.specs.Project.{ProjectRead}
use Rattle.project_flaws.specs.Rows.{all_rows}
use Rattle.project_flaws.specs.Told.{IsTold}
use Rattle.project_flaws.specs.declared.told.Counts.TheVariants.{Told}
use Rattle.view_refusal.specs.Shown.{off_text}
use Rattle.view_check.specs.Seen.{SeenRead, fetch_seen}
use Rattle.view_check.specs.declared.fetching.Off.{Off}

-- of the tables as they were read: the script is read, too, and not run
abbrev pub read_outputs : ProjectRead → Outputs
read_outputs project = IsTold Told project.tables.rules (all_rows project.tables.history.present)

abbrev pub off_outputs : Limits → Off → Outputs
off_outputs limits off = Only (off_text limits off.refusal off.anew) Refused

abbrev pub check_outputs : Limits → SeenRead → Outputs
check_outputs limits (Ok project) = read_outputs project
check_outputs limits (Err off) = off_outputs limits off

-- what `cfdbench run` fetches; and once more a file that is refused, the schema, and tables that are too many
abbrev pub check_task : Limits → List ℕ → Task
check_task limits project = record {
  Found = SeenRead;
  fetching = fetch_seen limits project;
  outputs = check_outputs limits;
  most_fetches = 134;
}
