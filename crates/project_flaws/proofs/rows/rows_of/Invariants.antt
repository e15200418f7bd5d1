use Rattle.std.proofs.Common.{◌≡◌, ◌++◌}
use Rattle.bench_core.specs.State.{rows_at}
use Rattle.project_flaws.specs.Rows.{ids_in, texts_in}
use Rattle.project_flaws.proofs.rows.rows_of.Given as goal

-- the ids and the texts so far, and those of the rows that are left
abbrev pub invariant-loop-row : goal.invariant-loop-row
invariant-loop-row l = record {
  ids : l.ids ++ ids_in l.row-iterator.rest.items ≡ ids_in (rows_at l.bench.history.present l.fn.table);
  texts : l.all ++ texts_in l.row-iterator.rest.items ≡ texts_in (rows_at l.bench.history.present l.fn.table);
}
