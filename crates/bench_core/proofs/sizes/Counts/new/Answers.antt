use Rattle.std.proofs.Common.{arith}
use Rattle.std.proofs.lemmas.List.FromFn.{map-range_with_len_more}
use Rattle.bench_core.specs.Sizes.{stopped_weight}
use Rattle.bench_core.proofs.sizes.Counts.new.Goals as goal

pub loop-table-preserved : goal.loop-table-preserved
loop-table-preserved c =
    let more = map-range_with_len_more (stopped_weight c.args.rules.now) 0 c.loop-table.table c.loop-table.table (omega arith) in
    rw (more, c.in_ok-push.ensures.items, c.loop-table.invariant, c.weight_of.ensures)
