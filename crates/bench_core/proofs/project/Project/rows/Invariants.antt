use Rattle.std.proofs.Common.{◌≡◌, map}
use Rattle.row_store.specs.Rows.{row_seen}
use Rattle.bench_core.specs.Stored.{row_of}
use Rattle.bench_core.proofs.project.Project.rows.Given as goal

abbrev pub invariant-loop-id : goal.invariant-loop-id
invariant-loop-id l = l.rows ≡ map (row_of l.self.pool) (map row_seen l.yielded)
