use Rattle.std.proofs.Common.{◌≡◌}
use Rattle.key_groups.specs.Groups.{by_key}
use Rattle.key_groups.proofs.grouping.by_key.Given as goal

abbrev pub invariant-loop-key : goal.invariant-loop-key
invariant-loop-key g l = l.groups.entries ≡ by_key g.K.PartialEq.eq l.yielded
