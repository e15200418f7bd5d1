use Rattle.std.proofs.Common.{◌≡◌, suc, ◌+◌, ◌-◌, ◌*◌, ◌<◌, ◌≤◌, length}
use Rattle.case_tree.specs.CaseTree.{var_count}
use Rattle.case_tree.specs.Walk.{IsApart}
use Rattle.case_tree.proofs.Walk.{waiting}
use Rattle.case_search.specs.Enough.{choices}
use Rattle.case_search.specs.Guards.{IsGuarded, parent}
use Rattle.case_search.specs.Places.{list_of, vars_of}
use Rattle.case_search.proofs.Grown.{IsAt}
use Rattle.case_search.proofs.search.walk_on.Given as goal

abbrev pub invariant-walk : goal.invariant-walk
invariant-walk l = record {
  at : IsAt l.clauses l.nodes.items l.trail.path l.leaves (choices l.clauses.cells * (var_count l.clauses.cells + 1));
  vars : l.trail.vars ≡ var_count l.clauses.cells;
  counted : vars_of l.guards ≡ var_count l.clauses.cells;
  guarded : IsGuarded l.clauses (list_of l.guards) (parent l.trail.path);
  apart : IsApart l.trail.path;
  pending : l.pending ≡ suc (length (waiting l.trail.path));
  below : l.leaves < l.budget;
  within : length l.trail.path ≤ l.trail.vars;
}

abbrev pub decreases-walk : goal.decreases-walk
decreases-walk l = (l.budget - l.leaves) * (var_count l.clauses.cells + 1) + (var_count l.clauses.cells - length l.trail.path)
