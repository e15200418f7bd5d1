use Rattle.std.proofs.Common.{◌<◌, ◌≤◌, length, ap, ◌∙◌, arith}
use Rattle.std.specs.Prelude.{nat_eq}
use Rattle.cfd_semantics.specs.declared.dependency.TableauRow.{TableauRow}
use Rattle.cfd_semantics.specs.Violation.{violating}
use Rattle.bench_index.proofs.ByRows.{count_more, rows_passed, probes_more}
use Rattle.bench_index.proofs.listing.count_violations.Goals as goal

pub loop-k-preserved : goal.loop-k-preserved
loop-k-preserved g c =
    let rows = c.args.group.now.made.dependency.rows in
    let within : c.loop-k.k < length rows = omega (arith, c.loop-k-test.true, c.tableau_rows-k-end.ensures) in record {
      count = λ all list.
          c.in_ok-count.ensures
          ∙ count_more (λ (t : TableauRow _). violating nat_eq t all) rows c.loop-k.k c.loop-k.count c.in_ok-more.more within (c.loop-k.invariant.count all list) (λ t at. c.in_ok-more.ensures.count t all at list);
      probes = probes_more c.args.steps.now c.loop-k.k c.args.group.now.dirty c.loop-k.steps c.violation_count.new.steps c.loop-k.invariant.probes c.violation_count.ensures.probes;
    }

pub returns-clause-count : goal.returns-clause-count
returns-clause-count g c all list =
    let rows = c.args.group.now.made.dependency.rows in
    let past : length rows ≤ c.loop-k.k = omega (arith, c.loop-k-test.false, c.tableau_rows-k-end.ensures) in
    c.loop-k.invariant.count all list ∙ ap length (rows_passed (λ (t : TableauRow _). violating nat_eq t all) rows c.loop-k.k past)
