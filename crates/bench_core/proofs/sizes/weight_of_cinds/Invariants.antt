use Rattle.std.proofs.Common.{◌≡◌, ◌-◌, ◌^◌, min, sum_by, take}
use Rattle.bench_core.specs.Sizes.{cind_weight}
use Rattle.bench_core.proofs.sizes.weight_of_cinds.Given as goal

abbrev pub invariant-loop-cind : goal.invariant-loop-cind
invariant-loop-cind l = l.sum ≡ min (sum_by (cind_weight l.table) (take l.cind-index l.cinds)) (2 ^ 64 - 1)
