use Rattle.generator.proofs.Summaries.{all_made}
use Rattle.generator.proofs.summary.generate.Goals as goal

pub returns : goal.returns
returns g c =
    let bench = c.in_ok-bench.bench in
    all_made c.args.seed c.new-draws.result c.draw_bench.new.draws c.draw_thousands.new.draws bench.rules bench.limits bench.history c.in_ok-thousands.thousands c.as_slice.result.now c.sum_up.result
    c.new-draws.ensures c.in_ok-bench.ensures.rules c.in_ok-bench.ensures.limits c.in_ok-bench.ensures.begins c.in_ok-bench.ensures.drawn c.in_ok-thousands.ensures c.as_slice.ensures c.sum_up.ensures
