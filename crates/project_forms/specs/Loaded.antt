-- Outputs over tables that were loaded, with the probes of indexes that loading took.
use Rattle.std.specs.Prelude.{ℕ, ◌+◌, ◌≤◌}
use Rattle.bench_core.specs.Indexed.{load_probes}
use Rattle.cli_output.specs.Output.{Outputs}
use Rattle.project_files.specs.Project.{Tables}

-- Each row of the tables took no more than one change of a row of its table, and the output goes with the count then.
abbrev pub once_loaded : ℕ → Tables → (ℕ → Outputs) → Outputs
once_loaded before tables outputs bytes status =
    (begun : ℕ) × (begun ≤ before + load_probes tables.rules tables.history.present) × outputs begun bytes status
