use Rattle.std.proofs.Common.{◌≡◌, ◌-◌, ◌^◌, min, sum_by, take}
use Rattle.bench_core.specs.Sizes.{dep_weight}
use Rattle.bench_core.proofs.sizes.weight_of_deps.Given as goal

abbrev pub invariant-loop-dep : goal.invariant-loop-dep
invariant-loop-dep l = l.sum ≡ min (sum_by (dep_weight l.table) (take l.dep-index l.deps)) (2 ^ 64 - 1)
