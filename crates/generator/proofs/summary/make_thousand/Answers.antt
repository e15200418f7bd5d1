use Rattle.std.proofs.Common.{length, ap, ◌∙◌}
use Rattle.bench_core.specs.Bench.{BenchModel}
use Rattle.violation_report.specs.Listing.{listing}
use Rattle.generator.proofs.Summaries.{told_one}
use Rattle.generator.proofs.summary.make_thousand.Goals as goal

pub returns-clause-told : goal.returns-clause-told
returns-clause-told g c =
    let before = c.args.bench.now in
    let after = c.perform.new.bench in
    told_one before.rules after.rules before.limits before.history after.history c.args.thousand.now c.row_count.result c.in_ok-lines.lines c.args.text.now.items c.push_at.new.out.items c.push_at.result
    c.in_ok-perform.ensures.leads c.perform.ensures.made_with.0 c.row_count.ensures
    (c.in_ok-lines.ensures.count ∙ ap (λ (b : BenchModel). length (listing b.rules b.history.present)) c.queries.ensures) c.push_at.ensures
