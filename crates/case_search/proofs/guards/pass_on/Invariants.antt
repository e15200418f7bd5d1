use Rattle.std.proofs.Common.{◌≡◌, length}
use Rattle.case_search.specs.Guards.{IsGuardedBut}
use Rattle.case_search.specs.Places.{list_of, vars_of}
use Rattle.case_search.proofs.guards.pass_on.Given as goal

abbrev pub invariant-loop : goal.invariant-loop
invariant-loop l = record {
  vars : vars_of l.guards ≡ vars_of l.initial.guards;
  guarded : IsGuardedBut l.clauses (list_of l.guards) l.trail.path l.gone;
}

abbrev pub decreases-loop : goal.decreases-loop
decreases-loop l = length (list_of l.guards l.gone)
