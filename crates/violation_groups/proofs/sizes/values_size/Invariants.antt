use Rattle.std.proofs.Common.{◌≡◌, sum_by, take}
use Rattle.violation_groups.specs.Groups.{value_size}
use Rattle.violation_groups.proofs.sizes.values_size.Given as goal

abbrev pub invariant-loop-value : goal.invariant-loop-value
invariant-loop-value l = l.size ≡ sum_by value_size (take l.value-index l.values)
