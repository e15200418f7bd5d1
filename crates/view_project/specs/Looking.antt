-- The state of a project that people look at.
use Rattle.std.specs.Prelude.{◌≡◌, ℕ, Bool, true, false, List, length, map}
use Rattle.bench_core.specs.History.{History}
use Rattle.bench_core.specs.State.{State, TableState}
use Rattle.session.specs.Leading.{LeadsTo}
use Rattle.project_files.specs.Project.{ProjectRead}

-- the tables as they were read, or what the script leads to
abbrev pub LooksAt : Bool → ProjectRead → History → Type 0
LooksAt true project last = last ≡ project.tables.history
LooksAt false project last = LeadsTo project.tables.rules project.tables.limits project.tables.history project.commands last

-- how many rows each table has
abbrev pub counts_of : State → List ℕ
counts_of state = map (λ (table : TableState). length table.rows) state
