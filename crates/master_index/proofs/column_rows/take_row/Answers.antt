use Rattle.master_index.proofs.KeyedRowFacts.{key_found}
use Rattle.master_index.proofs.column_rows.take_row.Goals as goal

pub returns-in-Some-clause-left : goal.returns-in-Some-clause-left
returns-in-Some-clause-left g c = c.take_at.ensures.left c.args.key.now (key_found c.args.map.now.entries c.args.key.now c.in-Some.place c.in-Some.ensures.index)
