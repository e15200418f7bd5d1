use Rattle.std.proofs.Common.{arith}
use Rattle.project_flaws.proofs.BenchRows.{all_rows-more}
use Rattle.project_flaws.proofs.rows.all_rows.Goals as goal

pub loop-table-preserved : goal.loop-table-preserved
loop-table-preserved c =
    all_rows-more c.args.bench.now.history.present c.loop-table.table c.loop-table.all c.push.new.self c.in_ok-rows.rows (omega (arith, c.loop-table-test.true, c.table_count-table-end.ensures)) c.loop-table.invariant c.in_ok-rows.ensures c.in_ok-push.ensures.ok
