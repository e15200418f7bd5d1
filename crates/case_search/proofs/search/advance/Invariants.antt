use Rattle.std.proofs.Common.{◌≡◌, length}
use Rattle.case_tree.specs.Walk.{next_path}
use Rattle.case_search.proofs.search.advance.Given as goal

abbrev pub invariant-loop-last : goal.invariant-loop-last
invariant-loop-last l = record {
  vars : l.trail.vars ≡ l.initial.trail.vars;
  next : next_path l.trail.path ≡ next_path l.initial.trail.path;
}

abbrev pub decreases-loop-last : goal.decreases-loop-last
decreases-loop-last l = length l.trail.path
