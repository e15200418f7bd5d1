use Rattle.library_tests.proofs.NoRows.{no_rows-more}
use Rattle.library_tests.proofs.edit_refusals.no_rows.Goals as goal

pub loop-table-preserved : goal.loop-table-preserved
loop-table-preserved c =
    let more = no_rows-more c.args.schema.now.tables c.loop-table.tables c.loop-table.table-index c.table-item.result (rw c.as_slice-table-items.ensures at c.loop-table-test.true) (rw c.as_slice-table-items.ensures at c.table-item.is) c.loop-table.invariant in
    rw (c.in_ok-push.ensures.ok, c.new.ensures) more
