use Rattle.std.proofs.Common.{◌≡◌}
use Rattle.case_tree.specs.CaseTree.{var_count}
use Rattle.case_tree.proofs.Walked.{HasWalked}
use Rattle.case_tree.proofs.checker.walk.Given as goal

abbrev pub invariant-loop-at : goal.invariant-loop-at
invariant-loop-at l = record {
  vars : l.trail.vars ≡ var_count l.clauses.cells;
  walked : HasWalked l.clauses l.nodes l.at l.trail.path l.leaves l.is_open;
}
