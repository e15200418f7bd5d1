use Rattle.std.proofs.Common.{◌≡◌, map}
use Rattle.std.specs.List.{range_with_len}
use Rattle.bench_core.specs.Sizes.{stopped_weight}
use Rattle.bench_core.proofs.sizes.Counts.new.Given as goal

abbrev pub invariant-loop-table : goal.invariant-loop-table
invariant-loop-table l = l.weights.items ≡ map (stopped_weight l.rules) (range_with_len 0 l.table)
