use Rattle.dep_search.proofs.Told.{interned_few}
use Rattle.dep_search.proofs.columns.intern.Goals as goal

pub returns-clause-few : goal.returns-clause-few
returns-clause-few c = interned_few c.args.pool.now c.intern.new.self c.args.text.now c.in_ok-id.ensures.interned
