use Rattle.std.proofs.Common.{◌≡◌, ◌-◌, ◌^◌, min, sum_by, take}
use Rattle.bench_core.specs.Sizes.{column_lists, columns_weight}
use Rattle.bench_core.proofs.sizes.weight_of_lists.Given as goal

abbrev pub invariant-loop-place : goal.invariant-loop-place
invariant-loop-place l = l.sum ≡ min (sum_by (columns_weight l.table) (column_lists (take l.place l.edits))) (2 ^ 64 - 1)
