use Rattle.std.proofs.Common.{◌≡◌}
use Rattle.drawn_project.specs.Project.{master_rows}
use Rattle.drawn_project.proofs.project.master_rows.Given as goal

abbrev pub invariant-loop-number : goal.invariant-loop-number
invariant-loop-number l = l.rows ≡ master_rows l.number
