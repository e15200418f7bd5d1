use Rattle.std.proofs.Common.{◌<◌, ◌≤◌, length, ◌++◌, map, ap, ◌∙◌, arith}
use Rattle.std.specs.Prelude.{nat_eq}
use Rattle.cfd_semantics.specs.declared.violation.Violation.{Violation}
use Rattle.cfd_semantics.specs.declared.dependency.TableauRow.{TableauRow}
use Rattle.cfd_semantics.specs.Violation.{violating}
use Rattle.bench_index.proofs.ByRows.{list_more, rows_passed, probes_more}
use Rattle.bench_index.proofs.listing.all_violations.Goals as goal

pub loop-k-preserved : goal.loop-k-preserved
loop-k-preserved g c =
    let rows = c.args.group.now.made.dependency.rows in
    let within : c.loop-k.k < length rows = omega (arith, c.loop-k-test.true, c.tableau_rows-k-end.ensures) in record {
      list = λ all list.
          list_more (λ (t : TableauRow _). violating nat_eq t all) rows c.loop-k.k c.loop-k.all c.push_violations.new.all c.in_ok-found.found within (c.loop-k.invariant.list all list)
          (λ t at. c.in_ok-found.ensures.list t all at list)
          (c.in_ok-push_violations.ensures ∙ ap (λ found. c.loop-k.all ++ map (λ (v : Violation). (c.loop-k.k, v)) found) c.as_slice.ensures);
      probes = probes_more c.args.steps.now c.loop-k.k c.args.group.now.dirty c.loop-k.steps c.violating.new.steps c.loop-k.invariant.probes c.violating.ensures.probes;
    }

pub returns-clause-list : goal.returns-clause-list
returns-clause-list g c all list =
    let rows = c.args.group.now.made.dependency.rows in
    let past : length rows ≤ c.loop-k.k = omega (arith, c.loop-k-test.false, c.tableau_rows-k-end.ensures) in
    c.loop-k.invariant.list all list ∙ rows_passed (λ (t : TableauRow _). violating nat_eq t all) rows c.loop-k.k past
