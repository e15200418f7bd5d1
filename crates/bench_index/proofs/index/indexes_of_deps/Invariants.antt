use Rattle.std.specs.Prelude.{None, take}
use Rattle.std.specs.List.{AllZip}
use Rattle.value_pool.specs.Pool.{KeepsIds}
use Rattle.bench_index.specs.InStep.{AreInStep}
use Rattle.bench_index.specs.Watching.{group_watch}
use Rattle.bench_index.specs.Indexes.{IsIndexOfDep}
use Rattle.bench_index.proofs.index.indexes_of_deps.Given as goal

abbrev pub invariant-loop-dep : goal.invariant-loop-dep
invariant-loop-dep l = AllZip (IsIndexOfDep l.pool) (take l.dep-index l.deps) l.all.items × AreInStep group_watch (λ _ _. None) l.all.items × KeepsIds l.fn.pool l.pool
