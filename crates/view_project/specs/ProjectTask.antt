-- What a form asks for that shows something of a project.
use Rattle.std.specs.Prelude.{ℕ, List}
use Rattle.text_lists.specs.declared.limits.Limits.{Limits}
use Rattle.cli_output.specs.Output.{Outputs, Task}
use Rattle.project_files.specs.Project.{ProjectRead, fetch_project}

-- the schema of that name, the rules, the script and 64 tables are fetched at most, and something is shown of them
abbrev pub project_task : Limits → List ℕ → (ProjectRead → Outputs) → Task
project_task limits name outputs = record {
  Found = ProjectRead;
  fetching = fetch_project limits name;
  outputs = outputs;
  most_fetches = 67;
}
