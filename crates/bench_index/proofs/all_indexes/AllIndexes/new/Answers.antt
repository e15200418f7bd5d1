use Rattle.std.proofs.Common.{◌∙◌}
use Rattle.bench_index.proofs.MasterChanges.{masters-empty}
use Rattle.bench_index.proofs.all_indexes.AllIndexes.new.Goals as goal

pub returns-clause-in_step : goal.returns-clause-in_step
returns-clause-in_step c = record {
  indexes = c.in_ok-index.ensures.made;
  groups = c.in_ok-index.ensures.groups;
  cinds = c.in_ok-index.ensures.cinds;
  lists = c.in_ok-masters.ensures.lists ∙ c.in_ok-lists.ensures;
  rows = masters-empty c.args.rules.now c.in_ok-masters.masters.rows c.in_ok-masters.ensures.empty;
}
