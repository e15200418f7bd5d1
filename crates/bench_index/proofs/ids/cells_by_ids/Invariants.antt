use Rattle.std.specs.Prelude.{take}
use Rattle.std.specs.List.{AllZip}
use Rattle.value_pool.specs.Pool.{KeepsIds}
use Rattle.bench_index.specs.ByIds.{IsCellByIds}
use Rattle.bench_index.proofs.ids.cells_by_ids.Given as goal

abbrev pub invariant-loop-cell : goal.invariant-loop-cell
invariant-loop-cell l = AllZip (IsCellByIds l.pool) (take l.cell-index l.cells) l.all × KeepsIds l.fn.pool l.pool
