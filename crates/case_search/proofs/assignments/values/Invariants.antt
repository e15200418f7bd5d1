use Rattle.std.proofs.Common.{◌≡◌}
use Rattle.case_search.specs.Model.{values_of}
use Rattle.case_search.proofs.assignments.values.Given as goal

abbrev pub invariant-loop-var : goal.invariant-loop-var
invariant-loop-var l = l.values.items ≡ values_of l.trail.path l.var
