use Rattle.std.proofs.Common.{◌≡◌, take}
use Rattle.view_project.specs.Looking.{counts_of}
use Rattle.view_project.proofs.looking.counts_of.Given as goal

abbrev pub invariant-loop-table : goal.invariant-loop-table
invariant-loop-table l = l.counts ≡ take l.table (counts_of l.bench.history.present)
