use Rattle.std.proofs.Common.{◌≡◌, map}
use Rattle.violation_groups.specs.ByIds.{missing_named}
use Rattle.violation_groups.proofs.missing_keys.each_missing.Given as goal

abbrev pub invariant-loop-key : goal.invariant-loop-key
invariant-loop-key l = l.missing ≡ map (missing_named l.pool) l.yielded
