use Rattle.std.proofs.Common.{◌∙◌, arith}
use Rattle.std.proofs.lemmas.List.{take_all}
use Rattle.view_project.specs.Looking.{counts_of}
use Rattle.view_project.proofs.Counts.{counts-long, counts-more}
use Rattle.view_project.proofs.looking.counts_of.Goals as goal

pub loop-table-preserved : goal.loop-table-preserved
loop-table-preserved c =
    let state = c.args.bench.now.history.present in
    counts-more (counts_of state) c.loop-table.table c.count_of.result c.loop-table.counts _ (omega (arith, c.loop-table-test.true, c.table_count-tables.ensures, counts-long state)) c.count_of.ensures c.loop-table.invariant c.in_ok-push.ensures.ok

pub returns : goal.returns
returns c =
    let state = c.args.bench.now.history.present in
    c.loop-table.invariant ∙ take_all c.loop-table.table (counts_of state) (omega (arith, c.loop-table-test.false, c.table_count-tables.ensures, counts-long state))
