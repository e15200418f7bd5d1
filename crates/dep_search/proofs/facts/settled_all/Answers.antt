use Rattle.dep_search.proofs.Closed.{given_settled}
use Rattle.dep_search.proofs.facts.settled_all.Goals as goal

pub returns : goal.returns
returns c =
    let table = c.args.table.now in
    given_settled table.rows.now table.support c.args.x.now c.args.a c.new.result (c.requires.closed c.args.a c.requires.a)
