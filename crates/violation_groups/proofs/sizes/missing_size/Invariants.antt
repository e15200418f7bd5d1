use Rattle.std.proofs.Common.{◌≡◌, sum_by, take}
use Rattle.violation_groups.specs.Groups.{missing_size}
use Rattle.violation_groups.proofs.sizes.missing_size.Given as goal

abbrev pub invariant-loop-key : goal.invariant-loop-key
invariant-loop-key l = l.size ≡ sum_by missing_size (take l.key-index l.missing)
