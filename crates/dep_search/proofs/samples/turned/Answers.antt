use Rattle.dep_search.proofs.Agreed.{turned_sample}
use Rattle.dep_search.proofs.samples.turned.Goals as goal

pub returns : goal.returns
returns c = turned_sample c.args.table.now c.args.sample c.requires
