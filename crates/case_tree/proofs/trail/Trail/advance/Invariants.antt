use Rattle.std.proofs.Common.{◌≡◌, length}
use Rattle.case_tree.specs.Walk.{next_path}
use Rattle.case_tree.proofs.trail.Trail.advance.Given as goal

abbrev pub invariant-loop-last : goal.invariant-loop-last
invariant-loop-last l = record {
  vars : l.self.vars ≡ l.initial.self.vars;
  next : next_path l.self.path ≡ next_path l.initial.self.path;
}

abbrev pub decreases-loop-last : goal.decreases-loop-last
decreases-loop-last l = length l.self.path
