use Rattle.std.proofs.Common.{◌≡◌, sum_by, take}
use Rattle.violation_groups.specs.Groups.{group_size}
use Rattle.violation_groups.proofs.sizes.groups_size.Given as goal

abbrev pub invariant-loop-group : goal.invariant-loop-group
invariant-loop-group l = l.size ≡ sum_by group_size (take l.group-index l.groups)
