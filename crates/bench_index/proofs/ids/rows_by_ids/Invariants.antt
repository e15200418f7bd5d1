use Rattle.std.specs.Prelude.{take}
use Rattle.std.specs.List.{AllZip}
use Rattle.value_pool.specs.Pool.{KeepsIds}
use Rattle.bench_index.specs.ByIds.{IsRowByIds}
use Rattle.bench_index.proofs.ids.rows_by_ids.Given as goal

abbrev pub invariant-loop-row : goal.invariant-loop-row
invariant-loop-row l = AllZip (IsRowByIds l.pool) (take l.row-index l.rows) l.all × KeepsIds l.fn.pool l.pool
