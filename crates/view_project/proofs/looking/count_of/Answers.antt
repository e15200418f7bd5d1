use Rattle.bench_core.specs.Stored.{stored}
use Rattle.view_project.proofs.Counts.{count-stored}
use Rattle.view_project.proofs.looking.count_of.Goals as goal

pub returns : goal.returns
returns c = count-stored c.args.bench.now.history.present c.args.table c.args.bench.now.texts (stored c.store.result.now) _ c.store.ensures.state c.len.ensures
