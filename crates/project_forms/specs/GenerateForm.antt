-- The form `generate N`: the summary of the project that is drawn off the number, under the standard limits. No file is
-- fetched.
use Rattle.std.specs.Prelude.{◌≡◌, ℕ, ◌==◌, if◌then◌else◌, Ok}
use Rattle.generator.specs.Summary.{IsMade}
use Rattle.cli_output.specs.declared.status.Status.{Status}
use Rattle.cli_output.specs.declared.status.Status.TheVariants.{Clean, Findings}
use Rattle.cli_output.specs.Fetching.{given}
use Rattle.cli_output.specs.Output.{Outputs, Task}

-- Findings where the list has lines, else Clean
abbrev pub status_of : ℕ → Status
status_of lines = if lines == 0 then Clean else Findings

-- the summary, with the status of its last count
abbrev pub generate_outputs : ℕ → Outputs
generate_outputs seed bytes status = (lines : ℕ) × IsMade seed bytes lines × (status ≡ status_of lines)

abbrev pub generate_task : ℕ → Task
generate_task seed = record {
  Found = Unit {0};
  fetching = given (Ok tt);
  outputs = λ _. generate_outputs seed;
  most_fetches = 0;
}
