use Rattle.std.proofs.Common.{◌≡◌, map}
use Rattle.violation_groups.specs.ByIds.{value_rows_named}
use Rattle.violation_groups.proofs.dep_groups.each_value.Given as goal

abbrev pub invariant-loop-id : goal.invariant-loop-id
invariant-loop-id l = l.values ≡ map (value_rows_named l.pool) l.yielded
