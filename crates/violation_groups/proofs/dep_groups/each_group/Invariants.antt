use Rattle.std.proofs.Common.{map}
use Rattle.std.specs.List.{AllZip}
use Rattle.violation_groups.specs.ByIds.{group_named}
use Rattle.violation_groups.specs.Groups.{IsGroup}
use Rattle.violation_groups.proofs.dep_groups.each_group.Given as goal

abbrev pub invariant-loop-key : goal.invariant-loop-key
invariant-loop-key l = AllZip IsGroup (map (group_named l.pool) l.yielded) l.groups
