-- What is written over tables that were loaded.
use Rattle.std.proofs.Common.{ℕ, ◌+◌, ◌≤◌, List, Option}
use Rattle.bench_core.specs.Indexed.{load_probes}
use Rattle.cli_output.specs.declared.status.Status.{Status}
use Rattle.cli_output.specs.Output.{Outputs, Writes}
use Rattle.cli_output.proofs.Outputs.{Writes-wider}
use Rattle.project_files.specs.Project.{Tables}
use Rattle.project_forms.specs.Loaded.{once_loaded}

-- loading took no more than it may, and what is written goes on from there
pub writes-once_loaded : (before begun : ℕ) (tables : Tables) (outputs : ℕ → Outputs) → begun ≤ before + load_probes tables.rules tables.history.present → (status : Status) (out out_after : Option (List ℕ)) → Writes (outputs begun) status out out_after
    → Writes (once_loaded before tables outputs) status out out_after
writes-once_loaded before begun tables outputs few = Writes-wider (outputs begun) (once_loaded before tables outputs) (λ bytes status o. (begun, few, o))
