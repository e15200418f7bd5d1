use Rattle.bench_index.proofs.WatchSteps.{made-kept}
use Rattle.bench_index.proofs.all_indexes.follow_with_masters.Goals as goal

pub returns-in-None-None-clause-made : goal.returns-in-None-None-clause-made
returns-in-None-None-clause-made g c = (made-kept g.G.Watch c.args.groups.now, made-kept g.C.Watch c.args.cinds.now)
