use Rattle.std.proofs.Common.{ℕ, ◌<◌, ◌≤◌, length, ap, ◌∙◌, arith}
use Rattle.std.specs.Prelude.{nat_eq}
use Rattle.cfd_semantics.specs.declared.inclusion.InclusionRow.{InclusionRow}
use Rattle.cfd_semantics.specs.Orphan.{orphaned}
use Rattle.bench_index.proofs.ByRows.{count_more, rows_passed, probes_more}
use Rattle.bench_index.proofs.listing.count_orphans.Goals as goal

pub loop-k-preserved : goal.loop-k-preserved
loop-k-preserved g c =
    let index = c.args.index.now in
    let within : c.loop-k.k < length index.rule.rows = omega (arith, c.loop-k-test.true, c.tableau_rows-k-end.ensures) in record {
      count = λ ls rs left right.
          c.in_ok-count.ensures
          ∙ count_more (λ (t : InclusionRow ℕ). orphaned nat_eq t ls rs) index.rule.rows c.loop-k.k c.loop-k.count c.in_ok-more.more within (c.loop-k.invariant.count ls rs left right) (λ t at. c.in_ok-more.ensures.count t at ls rs left right);
      probes = probes_more c.args.steps.now c.loop-k.k index.keys.marked c.loop-k.steps c.orphan_count.new.steps c.loop-k.invariant.probes c.orphan_count.ensures.probes;
    }

pub returns-clause-count : goal.returns-clause-count
returns-clause-count g c ls rs left right =
    let rows = c.args.index.now.rule.rows in
    let past : length rows ≤ c.loop-k.k = omega (arith, c.loop-k-test.false, c.tableau_rows-k-end.ensures) in
    c.loop-k.invariant.count ls rs left right ∙ ap length (rows_passed (λ (t : InclusionRow ℕ). orphaned nat_eq t ls rs) rows c.loop-k.k past)
