use Rattle.std.proofs.Common.{length, ap, ◌∙◌}
use Rattle.bench_core.specs.Bench.{BenchModel}
use Rattle.violation_report.specs.Listing.{listing}
use Rattle.generator.proofs.Summaries.{summed_up}
use Rattle.generator.proofs.summary.sum_up.Goals as goal

pub returns : goal.returns
returns g c =
    let before = c.args.bench.now in
    let after = c.make_all.new.bench in
    summed_up before.rules after.rules before.limits before.history after.history c.args.thousands.now _ c.make_all.new.text.items _ c.in_ok-lines.lines
    c.new-text.ensures.items c.in_ok-make_all.ensures.told c.in_ok-extend_from_slice.ensures.items c.make_all.ensures.made_with.0
    (c.in_ok-lines.ensures.count ∙ ap (λ (b : BenchModel). length (listing b.rules b.history.present)) c.queries.ensures)
