use Rattle.std.proofs.Common.{◌≤◌, subst}
use Rattle.bench_core.specs.Stored.{stored}
use Rattle.generator.proofs.Counted.{none_counted, rows_counted}
use Rattle.generator.proofs.summary.row_count.Goals as goal

pub returns-then-table_count-gt0 : goal.returns-then-table_count-gt0
returns-then-table_count-gt0 c = rows_counted c.args.bench.now.history.present c.args.bench.now.texts (stored c.store.result.now) c.len.result c.store.ensures.state c.len.ensures

pub returns-else-table_count-gt0 : goal.returns-else-table_count-gt0
returns-else-table_count-gt0 c = none_counted c.args.bench.now.history.present (subst (λ n. n ≤ 0) c.table_count.ensures c.if-table_count-gt0.false)
