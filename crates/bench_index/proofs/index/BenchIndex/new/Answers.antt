use Rattle.std.proofs.Common.{subst, ◌∙◌}
use Rattle.std.specs.List.{AllZip}
use Rattle.bench_index.specs.Indexes.{IsIndexOfDep, IsIndexOfCind}
use Rattle.bench_index.proofs.Zips.{zip_weaker}
use Rattle.bench_index.proofs.Made.{index-kept}
use Rattle.bench_index.proofs.index.BenchIndex.new.Goals as goal

pub returns-clause-made : goal.returns-clause-made
returns-clause-made c =
    let first = c.indexes_of_deps.new.pool in
    let last = c.indexes_of_cinds.new.pool in record {
      groups = zip_weaker (IsIndexOfDep first) (IsIndexOfDep last) (index-kept first last c.in_ok-cinds.ensures.kept) _ c.in_ok-groups.groups.items
          (subst (λ deps. AllZip (IsIndexOfDep first) deps c.in_ok-groups.groups.items) (c.as_slice.ensures ∙ c.deps.ensures.deps) c.in_ok-groups.ensures.made);
      cinds = subst (λ cinds. AllZip (IsIndexOfCind last) cinds c.in_ok-cinds.cinds.items) (c.as_slice-2.ensures ∙ c.cinds.ensures.cinds) c.in_ok-cinds.ensures.made;
    }
