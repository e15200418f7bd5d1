use Rattle.std.specs.Prelude.{None, take}
use Rattle.std.specs.List.{AllZip}
use Rattle.value_pool.specs.Pool.{KeepsIds}
use Rattle.bench_index.specs.InStep.{AreInStep}
use Rattle.bench_index.specs.Watching.{cind_watch}
use Rattle.bench_index.specs.Indexes.{IsIndexOfCind}
use Rattle.bench_index.proofs.index.indexes_of_cinds.Given as goal

abbrev pub invariant-loop-cind : goal.invariant-loop-cind
invariant-loop-cind l = AllZip (IsIndexOfCind l.pool) (take l.cind-index l.cinds) l.all.items × AreInStep cind_watch (λ _ _. None) l.all.items × KeepsIds l.fn.pool l.pool
