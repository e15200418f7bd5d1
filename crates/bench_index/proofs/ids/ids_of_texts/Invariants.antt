use Rattle.std.specs.Prelude.{take}
use Rattle.std.specs.List.{AllZip}
use Rattle.value_pool.specs.Pool.{HasId, KeepsIds}
use Rattle.bench_index.proofs.ids.ids_of_texts.Given as goal

abbrev pub invariant-loop-text : goal.invariant-loop-text
invariant-loop-text l = AllZip (HasId l.pool) (take l.text-index l.texts) l.ids × KeepsIds l.fn.pool l.pool
